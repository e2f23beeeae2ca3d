-- One turn of the loop: a head is read, and its terms are wanted too.
use Rattle.std.proofs.Common.{◌≡◌, ℕ, zero, suc, ◌+◌, ◌-◌, ◌<◌, ◌≤◌, Bool, true, false, cond, List, [], ◌∷◌, length, Ok, Err, refl, sym, ap, ◌∙◌, subst, arith}
use Rattle.etf_terms.specs.Heads.{Head, kids}
use Rattle.etf_terms.specs.Layouts.{Layout, end, byte}
use Rattle.etf_terms.specs.Table.{is_tag, row, head_layout}
use Rattle.etf_terms.specs.Inner.Parts.{parsed, head_of}
use Rattle.etf_terms.specs.Inner.Walks.{Reading, Got, Off, reading}
use Rattle.etf_terms.specs.Walks.{Lost, walk_terms}
use Rattle.etf_terms.proofs.Readings.{walk-first, walk-reading, walk_on}
use Rattle.etf_terms.proofs.Joins.{head-is, same-ok}

-- what is behind a reading is no longer than the bytes
behind : Reading → List ℕ → Type 0
behind (Got h rest) bytes = length rest ≤ length bytes
behind (Off rest) bytes = Unit {0}

behind-more : (r : Reading) (b : ℕ) (bytes : List ℕ) → behind r bytes → behind r (b ∷ bytes)
unfolding behind
behind-more (Got h rest) b bytes p = omega (arith, p)
behind-more (Off rest) b bytes p = tt

behind-cond : (t : Bool) (r : Reading) (left bytes : List ℕ) → behind r bytes → behind (cond t r (Off left)) bytes
unfolding behind
behind-cond true r left bytes p = p
behind-cond false r left bytes p = tt

reading-behind : (l : Layout) (bytes : List ℕ) → behind (reading l bytes) bytes
unfolding behind
reading-behind (end h) bytes = omega arith
reading-behind (byte test next) [] = tt
reading-behind (byte test next) (b ∷ bytes) =
    behind-cond (test b) (reading (next b) bytes) (b ∷ bytes) (b ∷ bytes) (behind-more (reading (next b) bytes) b bytes (reading-behind (next b) bytes))

-- what is behind a head is shorter
shorter : Reading → List ℕ → Type 0
shorter (Got h rest) bytes = length rest < length bytes
shorter (Off rest) bytes = Unit {0}

shorter-more : (r : Reading) (b : ℕ) (bytes : List ℕ) → behind r bytes → shorter r (b ∷ bytes)
unfolding behind shorter
shorter-more (Got h rest) b bytes p = omega (arith, p)
shorter-more (Off rest) b bytes p = tt

shorter-cond : (t : Bool) (r : Reading) (left bytes : List ℕ) → shorter r bytes → shorter (cond t r (Off left)) bytes
unfolding shorter
shorter-cond true r left bytes p = p
shorter-cond false r left bytes p = tt

head-shorter : (bytes : List ℕ) → shorter (reading head_layout bytes) bytes
unfolding shorter
head-shorter [] = tt
head-shorter (b ∷ bytes) =
    shorter-cond (is_tag b) (reading (row b) bytes) (b ∷ bytes) (b ∷ bytes) (shorter-more (reading (row b) bytes) b bytes (reading-behind (row b) bytes))

parsed-got : (r : Reading) (h : Head) (rest : List ℕ) → parsed r ≡ Ok (h, rest) → r ≡ Got h rest
parsed-got (Got g left) h rest e = let same = same-ok g h left rest e in cc
parsed-got (Off left) h rest e = cc

parsed-off : (r : Reading) (left : ℕ) → parsed r ≡ Err left → (rest : List ℕ) × (r ≡ Off rest) × (length rest ≡ left)
parsed-off (Got g rest) left e = cc
parsed-off (Off rest) left e = (rest, refl, cc)

pub head-is_shorter : (bytes : List ℕ) (h : Head) (rest : List ℕ) → head_of bytes ≡ Ok (h, rest) → length rest < length bytes
unfolding shorter
head-is_shorter bytes h rest e =
    subst (λ r. shorter r bytes) (parsed-got (reading head_layout bytes) h rest (head-is bytes ∙ e)) (head-shorter bytes)

-- a head was read
pub turn : (pending : ℕ) (bytes : List ℕ) (h : Head) (rest : List ℕ) → 0 < pending → head_of bytes ≡ Ok (h, rest)
    → walk_terms (pending - 1 + kids h) rest ≡ walk_terms pending bytes
turn zero bytes h rest some e = absurd (omega (arith, some))
turn (suc n) bytes h rest some e =
    let sum : suc n - 1 + kids h ≡ kids h + n = omega arith in
    ap (λ k. walk_terms k rest) sum
    ∙ sym (walk-first n bytes ∙ walk-reading head_layout n bytes ∙ ap (walk_on n) (parsed-got (reading head_layout bytes) h rest (head-is bytes ∙ e)))

-- no head was read
pub turn-off : (pending : ℕ) (bytes : List ℕ) (left : ℕ) → 0 < pending → head_of bytes ≡ Err left
    → (rest : List ℕ) × (walk_terms pending bytes ≡ Lost rest) × (length rest ≡ left)
turn-off zero bytes left some e = absurd (omega (arith, some))
turn-off (suc n) bytes left some e =
    let off = parsed-off (reading head_layout bytes) left (head-is bytes ∙ e) in
    (off.0, walk-first n bytes ∙ walk-reading head_layout n bytes ∙ ap (walk_on n) off.1, off.2)
