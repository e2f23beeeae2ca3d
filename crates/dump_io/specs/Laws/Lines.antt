-- How many lines there are and how long, and that the raw lines are the only list that satisfies the rule of lines.
use Rattle.std.proofs.Common.{◌≡◌, ℕ, suc, ◌+◌, ◌-◌, ◌<◌, ◌≤◌, ◌==◌, Bool, true, false, List, [], ◌∷◌, ◌++◌, length, take, if◌then◌else◌, refl, sym, ◌∙◌, ap, subst, append-nil, arith, ⊎_elim}
use Rattle.std.specs.Prelude.{◌≢◌, nat_eq, slice_index, All}
use Rattle.std.specs.List.{concat, ends_with}
use Rattle.std.proofs.lemmas.Bool.{ne_eqb}
use Rattle.std.proofs.lemmas.Bool.Decides.{eqb_tells}
use Rattle.std.proofs.lemmas.List.{length-take}
use Rattle.std.proofs.lemmas.List.Elements.{All-nil, All-cons, All-head, All-tail}
use Rattle.dump_io.specs.Lines.{lf, cr, lines_after, lines_from, raw_lines, text_of, HasLfLast, IsEnded, AreLines}

-- a line's text is no longer than the line
length-chosen : (raw : List ℕ) (a b : Bool) → length (if a then take (length raw - 2) raw else (if b then take (length raw - 1) raw else raw)) ≤ length raw
length-chosen raw true b = omega (arith, length-take (length raw - 2) raw)
length-chosen raw false true = omega (arith, length-take (length raw - 1) raw)
length-chosen raw false false = omega arith

pub length-text_of : (raw : List ℕ) → length (text_of raw) ≤ length raw
length-text_of raw = length-chosen raw (ends_with nat_eq raw (cr ∷ lf ∷ [])) (ends_with nat_eq raw (lf ∷ []))

-- there are no more lines than bytes
length-lines_after : (c : ℕ) (lines : List (List ℕ)) → length (lines_after c lines) ≤ suc (length lines)
length-lines_after c [] = omega arith
length-lines_after c (line ∷ lines) = omega arith

pub length-raw_lines : (bytes : List ℕ) → length (raw_lines bytes) ≤ length bytes
length-raw_lines [] = omega arith
length-raw_lines (c ∷ bytes) =
    let rest = length-raw_lines bytes in
    elim (c == lf) as (λ b. length (if b then (c ∷ []) ∷ raw_lines bytes else lines_after c (raw_lines bytes)) ≤ suc (length bytes)) [
      | true ↦ omega (arith, rest)
      | false ↦ omega (arith, rest, length-lines_after c (raw_lines bytes))
    ]

-- there are as many lines with their offsets as lines
pub length-lines_from : (at : ℕ) (lines : List (List ℕ)) → length (lines_from at lines) ≡ length lines
length-lines_from at [] = refl
length-lines_from at (line ∷ lines) = ap suc (length-lines_from (at + length line) lines)

-- all but the last of a list with at least two elements
pub front-cons : {X : Type 0} (x y : X) (xs : List X) → take (length (x ∷ y ∷ xs) - 1) (x ∷ y ∷ xs) ≡ x ∷ take (length (y ∷ xs) - 1) (y ∷ xs)
front-cons x y xs = grind arith

-- the last of a list with at least two elements
last-cons : (c d : ℕ) (line : List ℕ) → slice_index (c ∷ d ∷ line) (length (c ∷ d ∷ line) - 1) ≡ slice_index (d ∷ line) (length (d ∷ line) - 1)
last-cons c d line = grind arith

-- the end of at least two bytes is that of all but the first
pub IsEnded-tail : (c d : ℕ) (bytes : List ℕ) → IsEnded (c ∷ d ∷ bytes) → IsEnded (d ∷ bytes)
IsEnded-tail c d bytes ended = sym (last-cons c d bytes) ∙ ended

-- LF stands only last in a longer line exactly when its first byte isn't LF and LF stands only last in the rest
HasLfLast-head : (c d : ℕ) (line : List ℕ) → HasLfLast (c ∷ d ∷ line) → c ≢ lf
HasLfLast-head c d line h = All-head (λ b. b ≢ lf) c _ (subst (λ l. All (λ b. b ≢ lf) l) (front-cons c d line) h)

HasLfLast-tail : (c d : ℕ) (line : List ℕ) → HasLfLast (c ∷ d ∷ line) → HasLfLast (d ∷ line)
HasLfLast-tail c d line h = All-tail (λ b. b ≢ lf) c _ (subst (λ l. All (λ b. b ≢ lf) l) (front-cons c d line) h)

HasLfLast-cons : (c d : ℕ) (line : List ℕ) → c ≢ lf → HasLfLast (d ∷ line) → HasLfLast (c ∷ d ∷ line)
HasLfLast-cons c d line n h = subst (λ l. All (λ b. b ≢ lf) l) (sym (front-cons c d line)) (All-cons (λ b. b ≢ lf) c _ n h)

-- a byte other than LF goes to the front of the first line
pub raw_lines-inner : (c : ℕ) (bytes : List ℕ) → c ≢ lf → raw_lines (c ∷ bytes) ≡ lines_after c (raw_lines bytes)
raw_lines-inner c bytes n = ap (λ b. if b then (c ∷ []) ∷ raw_lines bytes else lines_after c (raw_lines bytes)) (ne_eqb c lf n)

pub raw_lines-lf : (c : ℕ) (bytes : List ℕ) → c ≡ lf → raw_lines (c ∷ bytes) ≡ (c ∷ []) ∷ raw_lines bytes
raw_lines-lf c bytes e = ap (λ b. if b == lf then (c ∷ []) ∷ raw_lines bytes else lines_after c (raw_lines bytes)) e

-- a line with its LF is the first of the lines
pub raw_lines-ended : (line more : List ℕ) → 0 < length line → HasLfLast line → IsEnded line → raw_lines (line ++ more) ≡ line ∷ raw_lines more
raw_lines-ended [] more some inner ended = absurd (omega arith)
raw_lines-ended (c ∷ []) more some inner ended = raw_lines-lf c more ended
raw_lines-ended (c ∷ d ∷ line) more some inner ended = grind (arith, raw_lines-ended (d ∷ line) more (omega arith) (HasLfLast-tail c d line inner) (IsEnded-tail c d line ended), raw_lines-inner, HasLfLast-head, HasLfLast-tail, last-cons)

-- a line is the one line of its bytes
pub raw_lines-one : (line : List ℕ) → 0 < length line → HasLfLast line → raw_lines line ≡ line ∷ []
raw_lines-one [] some inner = absurd (omega arith)
raw_lines-one (c ∷ []) some inner = elim (c == lf) as (λ b. (if b then (c ∷ []) ∷ [] else (c ∷ []) ∷ []) ≡ (c ∷ []) ∷ []) [ true ↦ refl | false ↦ refl ]
raw_lines-one (c ∷ d ∷ line) some inner = grind (arith, raw_lines-one (d ∷ line) (omega arith) (HasLfLast-tail c d line inner), raw_lines-inner, HasLfLast-head, HasLfLast-tail)

-- lines that satisfy the rule are the raw lines
only : (lines : List (List ℕ)) → All (λ line. 0 < length line) lines → All HasLfLast lines → All IsEnded (take (length lines - 1) lines)
    → lines ≡ raw_lines (concat lines)
only [] some inner ended = refl
only (line ∷ []) some inner ended =
    cc (raw_lines-one line (All-head (λ l. 0 < length l) line [] some) (All-head HasLfLast line [] inner), append-nil line)
only (line ∷ next ∷ lines) some inner ended =
    let rest = next ∷ lines in
    let fronts = take (length rest - 1) rest in
    let front = subst (λ l. All IsEnded l) (front-cons line next lines) ended in
    cc (only (next ∷ lines) (All-tail (λ l. 0 < length l) line rest some) (All-tail HasLfLast line rest inner) (All-tail IsEnded line fronts front), raw_lines-ended line (concat rest) (All-head (λ l. 0 < length l) line rest some) (All-head HasLfLast line rest inner) (All-head IsEnded line fronts front))

-- lines that satisfy the rule are the raw lines of the bytes that they are together
pub AreLines-only : (bytes : List ℕ) (lines : List (List ℕ)) → AreLines bytes lines → lines ≡ raw_lines bytes
AreLines-only bytes lines are = only lines are.some are.lf_last are.ended ∙ ap raw_lines are.together

-- the rule holds with one more line in front, and with one more byte at the front of the first line
AreLines-line : (bytes : List ℕ) (lines : List (List ℕ)) → AreLines bytes lines → AreLines (lf ∷ bytes) ((lf ∷ []) ∷ lines)
AreLines-line bytes lines are = grind arith

AreLines-byte : (c : ℕ) (bytes : List ℕ) (lines : List (List ℕ)) → c ≢ lf → AreLines bytes lines → AreLines (c ∷ bytes) (lines_after c lines)
AreLines-byte c bytes [] n are = grind arith
AreLines-byte c bytes ([] ∷ lines) n are = absurd (omega (arith, All-head (λ l. 0 < length l) [] lines are.some))
AreLines-byte c bytes ((d ∷ line) ∷ []) n are = grind (arith, All-cons, All-nil, HasLfLast-cons, All-head)
AreLines-byte c bytes ((d ∷ line) ∷ next ∷ lines) n are =
    let front = subst (λ l. All IsEnded l) (front-cons (d ∷ line) next lines) are.ended in
    record {
      together = ap (λ l. c ∷ l) are.together;
      some = All-cons (λ l. 0 < length l) (c ∷ d ∷ line) (next ∷ lines) (omega arith) (All-tail (λ l. 0 < length l) (d ∷ line) (next ∷ lines) are.some);
      lf_last = All-cons HasLfLast (c ∷ d ∷ line) (next ∷ lines)
          (HasLfLast-cons c d line n (All-head HasLfLast (d ∷ line) (next ∷ lines) are.lf_last))
          (All-tail HasLfLast (d ∷ line) (next ∷ lines) are.lf_last);
      ended = subst (λ l. All IsEnded l) (sym (front-cons (c ∷ d ∷ line) next lines))
          (All-cons IsEnded (c ∷ d ∷ line) _ (last-cons c d line ∙ All-head IsEnded (d ∷ line) _ front) (All-tail IsEnded (d ∷ line) _ front));
    }

-- the raw lines satisfy the rule
pub AreLines-raw : (bytes : List ℕ) → AreLines bytes (raw_lines bytes)
AreLines-raw [] = record { together = refl; some = All-nil (λ l. 0 < length l); lf_last = All-nil HasLfLast; ended = All-nil IsEnded }
AreLines-raw (c ∷ bytes) =
    ⊎_elim
    (λ same. subst (λ l. AreLines (c ∷ bytes) l) (sym (raw_lines-lf c bytes same.1))
    (subst (λ b. AreLines (b ∷ bytes) ((b ∷ []) ∷ raw_lines bytes)) (sym same.1) (AreLines-line bytes (raw_lines bytes) (AreLines-raw bytes))))
    (λ other. subst (λ l. AreLines (c ∷ bytes) l) (sym (raw_lines-inner c bytes other.1)) (AreLines-byte c bytes (raw_lines bytes) other.1 (AreLines-raw bytes)))
    (eqb_tells c lf)
