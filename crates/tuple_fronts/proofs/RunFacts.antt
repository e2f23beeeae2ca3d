-- Which cells a run of lines leaves, and what is known of the others.
use Rattle.std.proofs.Common.{◌≡◌, ◌⊎◌, inl, inr, ℕ, zero, suc, ◌+◌, ◌-◌, ◌<◌, ◌≤◌, ◌==◌, Bool, true, false, if◌then◌else◌, List, [], ◌∷◌, ◌++◌, length, drop, Option, None, Some, refl, sym, ◌∙◌, ap, ap₂, subst, append_assoc, append-nil, arith, length-append, length-drop}
use Rattle.std.specs.Prelude.{All, slice_index}
use Rattle.std.specs.List.{concat}
use Rattle.std.proofs.lemmas.Bool.{cases_lt, lt-ltb, le-ltb, ne_eqb, false≢true, true≢false}
use Rattle.std.proofs.lemmas.List.{drop-drop}
use Rattle.std.proofs.lemmas.List.Elements.{All-head, All-tail}
use Rattle.binary_payloads.specs.declared.enc.Enc.{Enc}
use Rattle.body_lines.specs.Lines.{lines_at}
use Rattle.dump_io.specs.Lines.{Line, lf, lines_after, lines_from, raw_lines}
use Rattle.dump_io.specs.Laws.Lines.{AreLines-raw}
use Rattle.body_lines.specs.Laws.{raws-behind}
use Rattle.heap_skeleton.specs.Skeletons.{SkeletonMap}
use Rattle.term_forms.specs.Elements.{Element}
use Rattle.tuple_fronts.specs.declared.kept.Kept.{Kept}
use Rattle.tuple_fronts.specs.Inner.Hearing.{HasCells, KeepsNext, known_elements, known_line, known_of, left_behind, left_line, line_of, is_listed}
use Rattle.tuple_fronts.specs.Inner.Kept.{Keeps}
use Rattle.tuple_fronts.proofs.KeptFacts.{Keeps-none, Keeps-then}

-- ---- lines of bytes from a place on

-- the lines from a place within the first on
raws-within : (bytes raw : List ℕ) (raws : List (List ℕ)) (place : ℕ) → raw_lines bytes ≡ raw ∷ raws → place < length raw → raw_lines (drop place bytes) ≡ drop place raw ∷ raws
raws-within [] raw raws place is inside = let no : [] ≡ raw ∷ raws = is in cc
raws-within (c ∷ bytes) raw raws zero is inside = is
raws-within (c ∷ bytes) raw raws (suc place) is inside = by (raw_lines bytes) refl (raws-within bytes) (c == lf) is
  where
    by : (later : List (List ℕ)) → raw_lines bytes ≡ later
        → ((line : List ℕ) (lines : List (List ℕ)) (k : ℕ) → raw_lines bytes ≡ line ∷ lines → k < length line → raw_lines (drop k bytes) ≡ drop k line ∷ lines)
        → (b : Bool) → (if b then (c ∷ []) ∷ raw_lines bytes else lines_after c (raw_lines bytes)) ≡ raw ∷ raws → raw_lines (drop place bytes) ≡ drop (suc place) raw ∷ raws
    by later at rest true same =
        let first : c ∷ [] ≡ raw = cc in
        let one = ap length first in
        absurd (omega (arith, one, inside))
    by [] at rest false same =
        let now : (c ∷ []) ∷ [] ≡ raw ∷ raws = ap (lines_after c) (sym at) ∙ same in
        let first : c ∷ [] ≡ raw = cc in
        let one = ap length first in
        absurd (omega (arith, one, inside))
    by (line ∷ lines) at rest false same =
        let now : (c ∷ line) ∷ lines ≡ raw ∷ raws = ap (lines_after c) (sym at) ∙ same in
        let first : c ∷ line ≡ raw = cc in
        let left : lines ≡ raws = cc in
        let more = ap length first in
        rest line lines place at (omega (arith, more, inside)) ∙ ap₂ (λ r l. drop (suc place) r ∷ l) first left

-- bytes without lines are none
raws-none : (bytes : List ℕ) → raw_lines bytes ≡ [] → length bytes ≡ 0
raws-none bytes is = ap length (sym (AreLines-raw bytes).together) ∙ ap (λ l. length (concat l)) is

-- the first line has bytes, and they are among those that have it
raws-first : (bytes raw : List ℕ) (raws : List (List ℕ)) → raw_lines bytes ≡ raw ∷ raws → (0 < length raw) × (length raw ≤ length bytes)
raws-first bytes raw raws is =
    let lines = AreLines-raw bytes in
    let some = All-head (λ l. 0 < length l) raw raws (subst (λ l. All (λ line. 0 < length line) l) is lines.some) in
    let all : length bytes ≡ length (raw ++ concat raws) = ap length (sym lines.together) ∙ ap (λ l. length (concat l)) is in
    (some, omega (arith, all, length-append raw (concat raws)))

-- ---- a step over the lines of a rest

pub taken-line : (s : SkeletonMap) (enc : Enc) (line : ℕ) (raw : List ℕ) (cell : ℕ) (cells : List ℕ) → line_of s cell < line + length raw
    → (left_line s (record { at = line; raw = raw }) (cell ∷ cells) ≡ cells)
    × (known_line s enc (record { at = line; raw = raw }) (cell ∷ cells) ≡ known_elements enc (is_listed s cell) (drop (line_of s cell - line) raw) ∷ [])
taken-line s enc line raw cell cells before =
    let is = lt-ltb (line_of s cell) (line + length raw) before in
    (ap (λ b. if b then cells else cell ∷ cells) is, ap (λ b. if b then known_elements enc (is_listed s cell) (drop (line_of s cell - line) raw) ∷ [] else []) is)

pub left-line : (s : SkeletonMap) (enc : Enc) (line : ℕ) (raw : List ℕ) (cell : ℕ) (cells : List ℕ) → line + length raw ≤ line_of s cell
    → (left_line s (record { at = line; raw = raw }) (cell ∷ cells) ≡ cell ∷ cells) × (known_line s enc (record { at = line; raw = raw }) (cell ∷ cells) ≡ [])
left-line s enc line raw cell cells behind =
    let is = le-ltb (line_of s cell) (line + length raw) behind in
    (ap (λ b. if b then cells else cell ∷ cells) is, ap (λ b. if b then known_elements enc (is_listed s cell) (drop (line_of s cell - line) raw) ∷ [] else []) is)

-- the line of the first cell begins within the rest
pub step-taken : (s : SkeletonMap) (enc : Enc) (raws : List (List ℕ)) (rest : List ℕ) (line cell : ℕ) (cells : List ℕ) (raw : List ℕ) (size : ℕ) → raw_lines rest ≡ raws
    → line_of s cell - line < length rest → raw_lines (drop (line_of s cell - line) rest) ≡ raw ∷ raw_lines (drop size rest) → size ≡ line_of s cell - line + length raw
    → (left_behind s (lines_from line raws) (cell ∷ cells) ≡ left_behind s (lines_at (line + size) (drop size rest)) cells)
    × (known_of s enc (lines_from line raws) (cell ∷ cells) ≡ known_elements enc (is_listed s cell) raw ∷ known_of s enc (lines_at (line + size) (drop size rest)) cells)
step-taken s enc [] rest line cell cells raw size is inside first size_is = absurd (let none = raws-none rest is in omega (arith, none, inside))
step-taken s enc (r ∷ rs) rest line cell cells raw size is inside first size_is =
    by (step-taken s enc rs (drop (length r) rest) (line + length r) cell cells raw (size - length r)) (cases_lt (line_of s cell) (line + length r))
  where
    by : (raw_lines (drop (length r) rest) ≡ rs
        → line_of s cell - (line + length r) < length (drop (length r) rest)
        → raw_lines (drop (line_of s cell - (line + length r)) (drop (length r) rest)) ≡ raw ∷ raw_lines (drop (size - length r) (drop (length r) rest))
        → size - length r ≡ line_of s cell - (line + length r) + length raw
        → (left_behind s (lines_from (line + length r) rs) (cell ∷ cells) ≡ left_behind s (lines_at (line + length r + (size - length r)) (drop (size - length r) (drop (length r) rest))) cells)
        × (known_of s enc (lines_from (line + length r) rs) (cell ∷ cells)
        ≡ known_elements enc (is_listed s cell) raw ∷ known_of s enc (lines_at (line + length r + (size - length r)) (drop (size - length r) (drop (length r) rest))) cells))
        → (line_of s cell < line + length r) ⊎ (line + length r ≤ line_of s cell)
        → (left_behind s (lines_from line (r ∷ rs)) (cell ∷ cells) ≡ left_behind s (lines_at (line + size) (drop size rest)) cells)
        × (known_of s enc (lines_from line (r ∷ rs)) (cell ∷ cells) ≡ known_elements enc (is_listed s cell) raw ∷ known_of s enc (lines_at (line + size) (drop size rest)) cells)
    by later (inl before) =
        let some = (raws-first rest r rs is).0 in
        let within : line_of s cell - line < length r = omega (arith, before, some) in
        let here : drop (line_of s cell - line) r ∷ rs ≡ raw ∷ raw_lines (drop size rest) = sym (raws-within rest r rs (line_of s cell - line) is within) ∙ first in
        let raw_is : drop (line_of s cell - line) r ≡ raw = cc in
        let rs_are : rs ≡ raw_lines (drop size rest) = cc in
        let count = length-drop (line_of s cell - line) r in
        let raw_count = ap length raw_is in
        let place : line + length r ≡ line + size = omega (arith, count, raw_count, size_is, within) in
        let lines : lines_from (line + length r) rs ≡ lines_at (line + size) (drop size rest) = ap₂ lines_from place rs_are in
        let took = taken-line s enc line r cell cells before in (
          ap (left_behind s (lines_from (line + length r) rs)) took.0 ∙ ap (λ l. left_behind s l cells) lines,
          ap₂ (λ k l. k ++ known_of s enc (lines_from (line + length r) rs) l) took.1 took.0
              ∙ ap₂ (λ r l. known_elements enc (is_listed s cell) r ∷ known_of s enc l cells) raw_is lines,
        )
    by later (inr behind) =
        let left = left-line s enc line r cell cells behind in
        let sizes = raws-first rest r rs is in
        let count = length-drop (length r) rest in
        let near : length r + (line_of s cell - (line + length r)) ≡ line_of s cell - line = omega (arith, behind) in
        let far : length r + (size - length r) ≡ size = omega (arith, behind, size_is) in
        let ends : line + length r + (size - length r) ≡ line + size = omega (arith, behind, size_is) in
        let rest_is : drop (size - length r) (drop (length r) rest) ≡ drop size rest = drop-drop (size - length r) (length r) rest ∙ ap (λ n. drop n rest) far in
        let here : raw_lines (drop (line_of s cell - (line + length r)) (drop (length r) rest)) ≡ raw ∷ raw_lines (drop (size - length r) (drop (length r) rest)) =
        ap raw_lines (drop-drop (line_of s cell - (line + length r)) (length r) rest ∙ ap (λ n. drop n rest) near) ∙ first ∙ ap (λ l. raw ∷ raw_lines l) (sym rest_is) in
        let more = later (raws-behind rest r rs is) (omega (arith, count, sizes.1, behind, inside)) here (omega (arith, size_is, behind)) in
        let lines : lines_at (line + length r + (size - length r)) (drop (size - length r) (drop (length r) rest)) ≡ lines_at (line + size) (drop size rest) = ap₂ lines_at ends rest_is in (
          ap (left_behind s (lines_from (line + length r) rs)) left.0 ∙ more.0 ∙ ap (λ l. left_behind s l cells) lines,
          ap₂ (λ k l. k ++ known_of s enc (lines_from (line + length r) rs) l) left.1 left.0 ∙ more.1
              ∙ ap (λ l. known_elements enc (is_listed s cell) raw ∷ known_of s enc l cells) lines,
        )

-- it begins behind the rest
pub step-left : (s : SkeletonMap) (enc : Enc) (raws : List (List ℕ)) (rest : List ℕ) (line cell : ℕ) (cells : List ℕ) → raw_lines rest ≡ raws → length rest ≤ line_of s cell - line
    → (left_behind s (lines_from line raws) (cell ∷ cells) ≡ cell ∷ cells) × (known_of s enc (lines_from line raws) (cell ∷ cells) ≡ [])
step-left s enc [] rest line cell cells is behind = (refl, refl)
step-left s enc (r ∷ rs) rest line cell cells is behind =
    let sizes = raws-first rest r rs is in
    let past : line + length r ≤ line_of s cell = omega (arith, sizes.0, sizes.1, behind) in
    let left = left-line s enc line r cell cells past in
    let count = length-drop (length r) rest in
    let more = step-left s enc rs (drop (length r) rest) (line + length r) cell cells (raws-behind rest r rs is) (omega (arith, count, sizes.1, behind, past)) in (
      ap (left_behind s (lines_from (line + length r) rs)) left.0 ∙ more.0,
      ap₂ (λ k l. k ++ known_of s enc (lines_from (line + length r) rs) l) left.1 left.0 ∙ more.1,
    )

-- ---- no cells, and lines behind others

pub left-none : (s : SkeletonMap) (enc : Enc) (lines : List Line) → (left_behind s lines [] ≡ []) × (known_of s enc lines [] ≡ [])
left-none s enc [] = (refl, refl)
left-none s enc (line ∷ lines) = left-none s enc lines

pub left-append : (s : SkeletonMap) (xs ys : List Line) (cells : List ℕ) → left_behind s (xs ++ ys) cells ≡ left_behind s ys (left_behind s xs cells)
left-append s [] ys cells = refl
left-append s (x ∷ xs) ys cells = left-append s xs ys (left_line s x cells)

pub known-append : (s : SkeletonMap) (enc : Enc) (xs ys : List Line) (cells : List ℕ)
    → known_of s enc (xs ++ ys) cells ≡ known_of s enc xs cells ++ known_of s enc ys (left_behind s xs cells)
known-append s enc [] ys cells = refl
known-append s enc (x ∷ xs) ys cells =
    ap (λ l. known_line s enc x cells ++ l) (known-append s enc xs ys (left_line s x cells))
    ∙ sym (append_assoc (known_line s enc x cells) (known_of s enc xs (left_line s x cells)) (known_of s enc ys (left_behind s xs (left_line s x cells))))

-- cells are the first and the others, or none
pub cells-first : (cells : List ℕ) → false ≡ (length cells == 0) → cells ≡ slice_index cells 0 ∷ drop 1 cells
cells-first [] is = absurd (false≢true is)
cells-first (cell ∷ cells) is = refl

pub cells-none : (cells : List ℕ) → true ≡ (length cells == 0) → cells ≡ []
cells-none [] is = refl
cells-none (cell ∷ cells) is = absurd (true≢false (is ∙ ne_eqb (suc (length cells)) 0 (λ same. omega (arith, same))))

-- ---- the loop over a run

-- the fronts of the cells before these were kept, whose lines are in front of a rest of a run, which begins at an offset
pub record HasTaken (s : SkeletonMap) (enc : Enc) (old new : Kept) (at : ℕ) (run : List ℕ) (cells : List ℕ) (line : ℕ) (rest : List ℕ) (left : List ℕ) : Type 0 where
  pub knowns : List (Option (List Element))
  pub left_is : left_behind s (lines_at at run) cells ≡ left_behind s (lines_at line rest) left
  pub known_is : known_of s enc (lines_at at run) cells ≡ knowns ++ known_of s enc (lines_at line rest) left
  pub keeps : Keeps old new knowns
  pub place : line + length rest ≡ at + length run
  pub cells_are : HasCells s left

pub taken-none : (s : SkeletonMap) (enc : Enc) (a : Kept) (at : ℕ) (run cells : List ℕ) → HasCells s cells → HasTaken s enc a a at run cells at run cells
taken-none s enc a at run cells are = record { knowns = []; left_is = refl; known_is = refl; keeps = Keeps-none a; place = refl; cells_are = are }

pub taken-more : (s : SkeletonMap) (enc : Enc) (old mid new : Kept) (at : ℕ) (run cells : List ℕ) (line : ℕ) (rest : List ℕ) (cell : ℕ) (left : List ℕ) (size next : ℕ) (behind : List ℕ)
    → HasTaken s enc old mid at run cells line rest (cell ∷ left) → KeepsNext s enc cell line rest mid new (Some size) → next ≡ line + size → behind ≡ drop size rest
    → HasTaken s enc old new at run cells next behind left
taken-more s enc old mid new at run cells line rest cell left size next behind so_far (raw, first, size_is, some, within, keeps) next_is behind_is =
    let step = step-taken s enc (raw_lines rest) rest line cell left raw size refl (omega (arith, size_is, some, within)) first size_is in
    let lines : lines_at (line + size) (drop size rest) ≡ lines_at next behind = ap₂ lines_at (sym next_is) (sym behind_is) in
    let count = length-drop size rest in
    let known = known_elements enc (is_listed s cell) raw in
    record {
      knowns = so_far.knowns ++ known ∷ [];
      left_is = so_far.left_is ∙ step.0 ∙ ap (λ l. left_behind s l left) lines;
      known_is =
          so_far.known_is ∙ ap (λ l. so_far.knowns ++ l) (step.1 ∙ ap (λ l. known ∷ known_of s enc l left) lines)
          ∙ sym (append_assoc so_far.knowns (known ∷ []) (known_of s enc (lines_at next behind) left));
      keeps = Keeps-then old mid new so_far.knowns (known ∷ []) so_far.keeps keeps;
      place = omega (arith, so_far.place, next_is, ap length behind_is, count, within);
      cells_are = All-tail (λ n. n < length s.addresses) cell left so_far.cells_are;
    }

-- no cells are left
pub record IsTaken (s : SkeletonMap) (enc : Enc) (old new : Kept) (at : ℕ) (run : List ℕ) (cells left : List ℕ) : Type 0 where
  pub left_is : left ≡ left_behind s (lines_at at run) cells
  pub keeps : Keeps old new (known_of s enc (lines_at at run) cells)

pub taken-all : (s : SkeletonMap) (enc : Enc) (old new : Kept) (at : ℕ) (run cells : List ℕ) (line : ℕ) (rest left : List ℕ) → left ≡ [] → HasTaken s enc old new at run cells line rest left
    → IsTaken s enc old new at run cells left
taken-all s enc old new at run cells line rest left none so_far =
    let empty = left-none s enc (lines_at line rest) in
    record {
      left_is = none ∙ sym (so_far.left_is ∙ ap (left_behind s (lines_at line rest)) none ∙ empty.0);
      keeps =
          subst (Keeps old new) (sym (so_far.known_is ∙ ap (λ l. so_far.knowns ++ known_of s enc (lines_at line rest) l) none ∙ ap (λ l. so_far.knowns ++ l) empty.1 ∙ append-nil so_far.knowns))
          so_far.keeps;
    }

-- the line of the next begins behind the rest
pub taken-stop : (s : SkeletonMap) (enc : Enc) (old mid new : Kept) (at : ℕ) (run cells : List ℕ) (line : ℕ) (rest : List ℕ) (cell : ℕ) (left : List ℕ)
    → HasTaken s enc old mid at run cells line rest (cell ∷ left) → KeepsNext s enc cell line rest mid new None → IsTaken s enc old new at run cells (cell ∷ left)
taken-stop s enc old mid new at run cells line rest cell left so_far stop =
    let step = step-left s enc (raw_lines rest) rest line cell left refl stop.1 in
    record {
      left_is = sym (so_far.left_is ∙ step.0);
      keeps =
          subst (λ k. Keeps old k (known_of s enc (lines_at at run) cells)) (sym stop.0)
          (subst (Keeps old mid) (sym (so_far.known_is ∙ ap (λ l. so_far.knowns ++ l) step.1 ∙ append-nil so_far.knowns)) so_far.keeps);
    }
