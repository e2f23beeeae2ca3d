-- Which texts are those of references.
use Rattle.std.proofs.Common.{◌≡◌, ℕ, zero, suc, ◌+◌, ◌<◌, ◌==◌, Bool, true, false, cond, List, [], ◌∷◌, ◌++◌, length, take, drop, None, Some, refl, sym, ◌∙◌, ap, append_assoc, take-append-drop, arith}
use Rattle.std.specs.Prelude.{◌&&◌, bytes_eq, codes, nat_eq}
use Rattle.std.specs.Char.{is_ascii_digit}
use Rattle.std.specs.Int.{w32, from_be_bytes}
use Rattle.std.specs.List.{list_all, prefix_len, starts_with}
use Rattle.std.specs.Option.{option_map_or}
use Rattle.std.proofs.lemmas.Bool.{false≢true}
use Rattle.std.proofs.lemmas.List.Folds.{length-prefix_len, prefix_len-append}
use Rattle.std.proofs.Math.Seq.{drop-append_seam}
use Rattle.dump_io.specs.Laws.Texts.{bytes_eq-refl, bytes_eq-same}
use Rattle.etf_terms.specs.Text.{dotted}
use Rattle.wait_requests.specs.References.{behind_digits, has_words, tail_of, words_backwards, AreTexts, IsTextOf}

-- ---- digits

all-digits : (xs : List ℕ) → list_all is_ascii_digit (take (prefix_len is_ascii_digit xs) xs) ≡ true
all-digits [] = refl
all-digits (x ∷ xs) = by (is_ascii_digit x) refl (all-digits xs)
  where
    by : (b : Bool) → is_ascii_digit x ≡ b → list_all is_ascii_digit (take (prefix_len is_ascii_digit xs) xs) ≡ true
        → list_all is_ascii_digit (take (cond b (1 + prefix_len is_ascii_digit xs) 0) (x ∷ xs)) ≡ true
    by true e rest =
        let more : 1 + prefix_len is_ascii_digit xs ≡ suc (prefix_len is_ascii_digit xs) = omega arith in
        ap (λ n. list_all is_ascii_digit (take n (x ∷ xs))) more ∙ ap (λ b. b && list_all is_ascii_digit (take (prefix_len is_ascii_digit xs) xs)) e ∙ rest
    by false e rest = refl

counted : (xs : List ℕ) → list_all is_ascii_digit xs ≡ true → prefix_len is_ascii_digit xs ≡ length xs
counted [] all = refl
counted (x ∷ xs) all = by (is_ascii_digit x) (counted xs) all
  where
    by : (b : Bool) → (list_all is_ascii_digit xs ≡ true → prefix_len is_ascii_digit xs ≡ length xs) → (b && list_all is_ascii_digit xs) ≡ true
        → cond b (1 + prefix_len is_ascii_digit xs) 0 ≡ length (x ∷ xs)
    by true others rest = let same = others rest in omega (arith, same)
    by false others none = absurd (false≢true none)

-- ---- no digit stands behind the first number

not-digits : (words more : List ℕ) → prefix_len is_ascii_digit more ≡ 0 → prefix_len is_ascii_digit (words_backwards words ++ more) ≡ 0
not-digits [] more none = none
not-digits (a ∷ []) more none = none
not-digits (a ∷ b ∷ []) more none = none
not-digits (a ∷ b ∷ c ∷ []) more none = none
not-digits (a ∷ b ∷ c ∷ d ∷ words) more none =
    let word = dotted (from_be_bytes w32 (a ∷ b ∷ c ∷ d ∷ [])) in
    ap (prefix_len is_ascii_digit) (append_assoc (words_backwards words) word more) ∙ not-digits words (word ++ more) refl

number-ends : (first words : List ℕ) → list_all is_ascii_digit first ≡ true → prefix_len is_ascii_digit (first ++ tail_of words) ≡ length first
number-ends first words all =
    let same = counted first all in
    let none : prefix_len is_ascii_digit (tail_of words) ≡ 0 = not-digits words (codes ">") refl in
    prefix_len-append is_ascii_digit first (tail_of words) ∙ by (prefix_len is_ascii_digit first == length first) same none
  where
    by : (b : Bool) → prefix_len is_ascii_digit first ≡ length first → prefix_len is_ascii_digit (tail_of words) ≡ 0
        → cond b (length first + prefix_len is_ascii_digit (tail_of words)) (prefix_len is_ascii_digit first) ≡ length first
    by true same none = omega (arith, none)
    by false same none = same

-- ---- what is computed, and what is a text

begins : (text : List ℕ) → starts_with nat_eq text (codes "#Ref<") ≡ true → text ≡ codes "#Ref<" ++ drop 5 text
begins text is = sym (take-append-drop 5 text) ∙ ap (λ l. l ++ drop 5 text) (sym (bytes_eq-same (codes "#Ref<") (take 5 text) is))

computed : (words text : List ℕ) → has_words words text ≡ true → IsTextOf words text
computed words text is = opened (starts_with nat_eq text (codes "#Ref<")) refl is
  where
    rest : List ℕ
    rest = drop 5 text

    digits : ℕ
    digits = prefix_len is_ascii_digit rest

    cut : starts_with nat_eq text (codes "#Ref<") ≡ true → (b : Bool) → (digits == 0) ≡ b → option_map_or (bytes_eq (tail_of words)) (cond b None (Some (drop digits rest))) false ≡ true → IsTextOf words text
    cut starts true e same = absurd (false≢true same)
    cut starts false e same = record {
      first = take digits rest;
      some = above digits e (length-prefix_len is_ascii_digit rest);
      digits = all-digits rest;
      spelled =
          begins text starts
          ∙ ap (λ l. codes "#Ref<" ++ l) (sym (take-append-drop digits rest) ∙ ap (λ l. take digits rest ++ l) (sym (bytes_eq-same (tail_of words) (drop digits rest) same)));
    }
      where
        above : (n : ℕ) → (n == 0) ≡ false → length (take digits rest) ≡ n → 0 < length (take digits rest)
        above zero e count = absurd (false≢true (sym e))
        above (suc n) e count = omega (arith, count)

    opened : (b : Bool) → starts_with nat_eq text (codes "#Ref<") ≡ b → option_map_or (bytes_eq (tail_of words)) (cond b (behind_digits rest) None) false ≡ true → IsTextOf words text
    opened true e same = cut e (digits == 0) refl same
    opened false e same = absurd (false≢true same)

spelled : (words text : List ℕ) → IsTextOf words text → has_words words text ≡ true
spelled words text is =
    let ends = number-ends is.first words is.digits in
    ap (has_words words) is.spelled
    ∙ ap (λ n. option_map_or (bytes_eq (tail_of words)) (cond (n == 0) None (Some (drop n (is.first ++ tail_of words)))) false) ends
    ∙ ap (λ b. option_map_or (bytes_eq (tail_of words)) (cond b None (Some (drop (length is.first) (is.first ++ tail_of words)))) false) (nonzero (length is.first) is.some)
    ∙ ap (bytes_eq (tail_of words)) (drop-append_seam is.first (tail_of words))
    ∙ bytes_eq-refl (tail_of words)
  where
    nonzero : (n : ℕ) → 0 < n → (n == 0) ≡ false
    nonzero n above = grind arith

pub are-texts : AreTexts
are-texts = λ words text. (computed words text, spelled words text)
