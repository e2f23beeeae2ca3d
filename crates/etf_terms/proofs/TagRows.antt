-- What stands behind each tag is read as its row lays it out.
use Rattle.std.proofs.Common.{◌≡◌, ℕ, ◌-◌, ◌<◌, ◌≤◌, false, cond, List, [], ◌∷◌, length, get_or, take, drop, take_all, Result, Ok, Err, refl, sym, ap, ◌∙◌, subst, arith}
use Rattle.std.specs.Borrow.{Bor}
use Rattle.etf_terms.specs.Heads.{Head, Nil}
use Rattle.etf_terms.specs.Table.{is_tag, row}
use Rattle.etf_terms.specs.Inner.Walks.{Off, reading}
use Rattle.etf_terms.specs.Inner.Parts.{Parsed, parsed, Gives, head, head_of}
use Rattle.etf_terms.specs.declared.heads.HeadRead.{HeadRead}

row-106 : (bytes : List ℕ) → head_of (106 ∷ bytes) ≡ Ok (Nil, bytes)
unfolding head_of is_tag row
row-106 bytes = refl

-- ---- bytes that are read by their first one

-- the bytes behind the first one
abbrev pub behind : List ℕ → List ℕ
behind bytes = take (length bytes - 1) (drop 1 bytes)

first : (bytes : List ℕ) (tag : ℕ) → 1 ≤ length bytes → get_or bytes 0 0 ≡ tag → bytes ≡ tag ∷ behind bytes
first [] tag some is = absurd (omega (arith, some))
first (b ∷ bytes) tag some is =
    let count : length (b ∷ bytes) - 1 ≡ length bytes = omega arith in
    ap (λ t. t ∷ bytes) is ∙ ap (λ l. tag ∷ l) (sym (ap (λ n. take n bytes) count ∙ take_all (length bytes) bytes (omega arith)))

-- a head and the bytes behind it, without where they lie in memory
abbrev pub shown_head : HeadRead × Bor (List ℕ) → Head × List ℕ
shown_head read = (head read.0, read.1.now)

-- what was read behind a tag is the head at the front
pub Gives-row : (bytes : List ℕ) (tag : ℕ) (result : Result (HeadRead × Bor (List ℕ)) ℕ) (read : Parsed Head) → 1 ≤ length bytes → get_or bytes 0 0 ≡ tag
    → head_of (tag ∷ behind bytes) ≡ read → Gives shown_head result read → Gives shown_head result (head_of bytes)
Gives-row bytes tag result read some is row gives = subst (Gives shown_head result) (sym row ∙ ap head_of (sym (first bytes tag some is))) gives

-- the empty list
pub nil_row : (bytes : List ℕ) → 1 ≤ length bytes → get_or bytes 0 0 ≡ 106 → head_of bytes ≡ Ok (Nil, behind bytes)
nil_row bytes some is = ap head_of (first bytes 106 some is) ∙ row-106 (behind bytes)

-- no bytes begin none
pub empty : (bytes : List ℕ) → length bytes < 1 → head_of bytes ≡ Err 0
unfolding head_of
empty [] none = refl
empty (b ∷ bytes) none = absurd (omega (arith, none))

-- no other byte begins a head
pub no-row : (bytes : List ℕ) → 1 ≤ length bytes → is_tag (get_or bytes 0 0) ≡ false → head_of bytes ≡ Err (length bytes)
unfolding head_of
no-row [] some other = absurd (omega (arith, some))
no-row (tag ∷ bytes) some other = ap (λ t. parsed (cond t (reading (row tag) bytes) (Off (tag ∷ bytes)))) other
