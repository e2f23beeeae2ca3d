-- The words of a reference from the last to the first.
use Rattle.std.proofs.Common.{append_assoc, ◌≡◌, ℕ, zero, suc, ◌+◌, ◌<◌, ◌≤◌, List, [], ◌∷◌, ◌++◌, get_or, length, drop, refl, ◌∙◌, ap, arith}
use Rattle.wait_requests.specs.References.{words_backwards}

-- a word before the others is written behind them
abbrev pub word_at : List ℕ → ℕ → List ℕ
word_at words at = get_or words at 0 ∷ get_or words (suc at) 0 ∷ get_or words (suc (suc at)) 0 ∷ get_or words (suc (suc (suc at))) 0 ∷ []

pub word-more : (words : List ℕ) (at : ℕ) → at + 4 ≤ length words → words_backwards (drop (suc (suc (suc (suc at)))) words) ++ words_backwards (word_at words at) ≡ words_backwards (drop at words)
word-more [] at inside = absurd (omega (arith, inside))
word-more (a ∷ []) zero inside = absurd (omega (arith, inside))
word-more (a ∷ b ∷ []) zero inside = absurd (omega (arith, inside))
word-more (a ∷ b ∷ c ∷ []) zero inside = absurd (omega (arith, inside))
word-more (a ∷ b ∷ c ∷ d ∷ words) zero inside = refl
word-more (a ∷ words) (suc at) inside = word-more words at (omega (arith, inside))

-- the same for places that are counted otherwise
pub word-pushed : (words front all : List ℕ) (at past one two three : ℕ) → past ≡ suc (suc (suc (suc at))) → one ≡ suc at → two ≡ suc (suc at) → three ≡ suc (suc (suc at)) → at + 4 ≤ length words
    → all ≡ front ++ words_backwards (drop past words)
    → all ++ words_backwards (get_or words at 0 ∷ get_or words one 0 ∷ get_or words two 0 ∷ get_or words three 0 ∷ []) ≡ front ++ words_backwards (drop at words)
word-pushed words front all at past one two three is_past is_one is_two is_three inside are =
    ap (λ n. all ++ words_backwards (get_or words at 0 ∷ get_or words n 0 ∷ get_or words two 0 ∷ get_or words three 0 ∷ [])) is_one
    ∙ ap (λ n. all ++ words_backwards (get_or words at 0 ∷ get_or words (suc at) 0 ∷ get_or words n 0 ∷ get_or words three 0 ∷ [])) is_two
    ∙ ap (λ n. all ++ words_backwards (get_or words at 0 ∷ get_or words (suc at) 0 ∷ get_or words (suc (suc at)) 0 ∷ get_or words n 0 ∷ [])) is_three
    ∙ ap (λ l. l ++ words_backwards (word_at words at)) (are ∙ ap (λ n. front ++ words_backwards (drop n words)) is_past)
    ∙ append_assoc front (words_backwards (drop (suc (suc (suc (suc at)))) words)) (words_backwards (word_at words at))
    ∙ ap (λ l. front ++ l) (word-more words at inside)

-- fewer than four bytes are no word
few : (words : List ℕ) → length words < 4 → words_backwards words ≡ []
few [] short = refl
few (a ∷ []) short = refl
few (a ∷ b ∷ []) short = refl
few (a ∷ b ∷ c ∷ []) short = refl
few (a ∷ b ∷ c ∷ d ∷ words) short = absurd (omega (arith, short))

pub none-behind : (words : List ℕ) (n : ℕ) → length words < n + 4 → words_backwards (drop n words) ≡ []
none-behind words zero short = few words (omega (arith, short))
none-behind [] (suc n) short = refl
none-behind (a ∷ words) (suc n) short = none-behind words n (omega (arith, short))
