-- The words of a reference, one by one.
use Rattle.std.proofs.Common.{◌≡◌, ℕ, suc, ◌<◌, nat_le, true, cond, List, [], ◌∷◌, ◌++◌, length, Ok, Err, refl, sym, ap, ◌∙◌, arith}
use Rattle.std.specs.Int.{w32, from_be_bytes}
use Rattle.etf_terms.specs.Text.{dotted, words_text}
use Rattle.etf_terms.specs.Inner.Parts.{◌>>=◌, run_of, number4_of}
use Rattle.etf_terms.proofs.Joins.{same-ok, not-err}

enough : (n : ℕ) → nat_le 4 (suc (suc (suc (suc n)))) ≡ true
enough n = grind arith

full : (a b c d : ℕ) (bytes : List ℕ) → number4_of (a ∷ b ∷ c ∷ d ∷ bytes) ≡ Ok (from_be_bytes w32 (a ∷ b ∷ c ∷ d ∷ []), bytes)
unfolding number4_of run_of
full a b c d bytes =
    ap (λ t. cond t (Ok (a ∷ b ∷ c ∷ d ∷ [], bytes)) (Err 0) >>= λ four. Ok (from_be_bytes w32 four.0, four.1)) (enough (length bytes))

pub word-first : (bytes : List ℕ) (n : ℕ) (behind : List ℕ) → number4_of bytes ≡ Ok (n, behind) → words_text bytes ≡ dotted n ++ words_text behind
unfolding number4_of run_of
word-first (a ∷ b ∷ c ∷ d ∷ bytes) n behind e =
    let same = same-ok (from_be_bytes w32 (a ∷ b ∷ c ∷ d ∷ [])) n bytes behind (sym (full a b c d bytes) ∙ e) in
    ap (λ x. dotted x ++ words_text bytes) same.0 ∙ ap (λ l. dotted n ++ words_text l) same.1
word-first bytes n behind e = absurd (not-err (n, behind) 0 (sym e))

pub word-shorter : (bytes : List ℕ) (n : ℕ) (behind : List ℕ) → number4_of bytes ≡ Ok (n, behind) → length behind < length bytes
unfolding number4_of run_of
word-shorter (a ∷ b ∷ c ∷ d ∷ bytes) n behind e =
    let same = same-ok (from_be_bytes w32 (a ∷ b ∷ c ∷ d ∷ [])) n bytes behind (sym (full a b c d bytes) ∙ e) in
    omega (arith, ap length same.1)
word-shorter bytes n behind e = absurd (not-err (n, behind) 0 (sym e))

pub word-none : (bytes : List ℕ) (left : ℕ) → number4_of bytes ≡ Err left → words_text bytes ≡ []
word-none (a ∷ b ∷ c ∷ d ∷ bytes) left e = absurd (not-err (from_be_bytes w32 (a ∷ b ∷ c ∷ d ∷ []), bytes) left (sym (full a b c d bytes) ∙ e))
word-none bytes left e = refl
