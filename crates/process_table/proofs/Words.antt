-- The words of an internal state, one after another.
use Rattle.std.proofs.Common.{◌≡◌, ℕ, ◌+◌, ◌<◌, ◌≤◌, ◌||◌, Bool, true, false, List, [], ◌∷◌, ◌++◌, length, take, drop, get_or, if◌then◌else◌, refl, sym, ◌∙◌, ap, arith}
use Rattle.std.specs.Prelude.{nat_eq}
use Rattle.std.specs.List.{list_any, starts_with}
use Rattle.std.proofs.lemmas.List.{take_all, take_more, drop_all, drop_more, drop-drop}
use Rattle.process_table.specs.Signals.{has_signal, in_front, is_signal, separator, state_words, words_behind}
use Rattle.process_table.specs.Inner.Words.{behind, words_left}

-- one byte more in front
front-more : (front : List ℕ) (c : ℕ) (words : List (List ℕ)) → behind front (in_front c words) ≡ behind (front ++ c ∷ []) words
front-more [] c words = refl
front-more (d ∷ front) c words = ap (in_front d) (front-more front c words)

-- in front of a word that is empty
front-empty : (front : List ℕ) (words : List (List ℕ)) → behind front ([] ∷ words) ≡ front ∷ words
front-empty [] words = refl
front-empty (c ∷ front) words = ap (in_front c) (front-empty front words)

module _ (state : List ℕ) (i : ℕ) where
  -- the word goes on, since no separator begins here
  pub words-step : i < length state → state_words state ≡ behind (take i state) (state_words (drop i state)) → starts_with nat_eq (drop i state) separator ≡ false
      → state_words state ≡ behind (take (i + 1) state) (state_words (drop (i + 1) state))
  words-step inside so_far none =
      let c = get_or state i 0 in
      let rest = drop (i + 1) state in
      let here : drop i state ≡ c ∷ rest = drop_more state i 0 inside in
      so_far ∙ ap (λ l. behind (take i state) (state_words l)) here
      ∙ ap (λ b. behind (take i state) (if b then [] ∷ words_behind 2 rest else in_front c (state_words rest))) (ap (λ l. starts_with nat_eq l separator) (sym here) ∙ none)
      ∙ front-more (take i state) c (state_words rest)
      ∙ ap (λ l. behind l (state_words rest)) (sym (take_more state i 0 inside))

  -- the word ends, since one begins here
  pub words-found : i < length state → state_words state ≡ behind (take i state) (state_words (drop i state)) → starts_with nat_eq (drop i state) separator ≡ true
      → state_words state ≡ take i state ∷ words_left (drop i state)
  words-found inside so_far is =
      let c = get_or state i 0 in
      let rest = drop (i + 1) state in
      let here : drop i state ≡ c ∷ rest = drop_more state i 0 inside in
      so_far ∙ ap (λ l. behind (take i state) (state_words l)) here
      ∙ ap (λ b. behind (take i state) (if b then [] ∷ words_behind 2 rest else in_front c (state_words rest))) (ap (λ l. starts_with nat_eq l separator) (sym here) ∙ is)
      ∙ front-empty (take i state) (words_behind 2 rest)
      ∙ ap (λ l. take i state ∷ words_left l) (sym here)

  -- the word ends where no byte is left
  pub words-end : length state ≤ i → state_words state ≡ behind (take i state) (state_words (drop i state)) → state_words state ≡ take i state ∷ words_left (drop i state)
  words-end all so_far =
      so_far ∙ ap (λ l. behind (take i state) (state_words l)) (drop_all i state all) ∙ front-empty (take i state) []
      ∙ ap (λ l. take i state ∷ words_left l) (sym (drop_all i state all))

-- ---- of the words of a state, the first and the others

-- the bytes of a separator are passed
passed-two : (rest : List ℕ) → words_behind 2 rest ≡ state_words (drop 2 rest)
passed-two [] = refl
passed-two (c ∷ []) = refl
passed-two (c ∷ d ∷ rest) = refl

or-false : (b : Bool) → (b || false) ≡ b
or-false true = refl
or-false false = refl

module _ (rest : List ℕ) (size : ℕ) (words : state_words rest ≡ take size rest ∷ words_left (drop size rest)) where
  pub signal-first : is_signal (take size rest) ≡ true → has_signal rest ≡ true
  signal-first is = ap (list_any is_signal) words ∙ cc (is)

  pub signal-later : size < length rest → is_signal (take size rest) ≡ false → has_signal rest ≡ has_signal (drop (size + 3) rest)
  signal-later inside other =
      let c = get_or rest size 0 in
      let left = drop (size + 1) rest in
      let here : drop size rest ≡ c ∷ left = drop_more rest size 0 inside in
      ap (list_any is_signal) (words ∙ ap (λ l. take size rest ∷ words_left l) here)
      ∙ ap (λ b. b || list_any is_signal (words_behind 2 left)) other
      ∙ ap (list_any is_signal) (passed-two left ∙ ap state_words (drop-drop 2 (size + 1) rest ∙ ap (λ n. drop n rest) three))
    where
      three : size + 1 + 2 ≡ size + 3
      three = omega arith

  pub signal-last : length rest ≤ size → has_signal rest ≡ is_signal rest
  signal-last all =
      ap (list_any is_signal) (words ∙ (λ i. take_all size rest all i ∷ words_left (drop_all size rest all i))) ∙ or-false (is_signal rest)
