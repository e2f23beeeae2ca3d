-- Of the lines with one address the first is kept.
use Rattle.std.proofs.Common.{◌≡◌, ℕ, zero, suc, ◌+◌, ◌<◌, ◌≤◌, ◌==◌, ◌||◌, Bool, true, false, not, cond, List, [], ◌∷◌, ◌++◌, length, take, drop, map, get_or, refl, sym, ◌∙◌, ap, subst, arith, append_assoc, length-append}
use Rattle.std.specs.List.{flat_map, list_any}
use Rattle.std.proofs.Math.Bool.{not-not}
use Rattle.std.proofs.Math.Seq.{take-append_seam, drop-append_seam, take-length}
use Rattle.std.proofs.lemmas.List.{get_or-map, length-map, take-map, take_more, length-take, append-nil}
use Rattle.heap_graph.specs.declared.elements.Elements.{Elements}
use Rattle.heap_graph.specs.declared.held.CellPart.{CellPart}
use Rattle.heap_graph.specs.declared.held.Held.{Held}
use Rattle.heap_graph.specs.Held.{HeapLine, addresses_of, first_lines, kept_references, line_at, line_leads, no_line, parts_of, Gains, IsHeld}
use Rattle.heap_graph.specs.declared.settling.Settled.{Settled}
use Rattle.heap_graph.specs.Keeping.{AreKept, HoldsLines}
use Rattle.cell_records.specs.Firsts.{AreFirsts}
use Rattle.cell_records.specs.Order.{address_in, is_first, AreAllFirst}
use Rattle.heap_graph.specs.Laws.Gains.{IsHeld-then}
use Rattle.heap_graph.specs.Laws.Elements.{alike-same}
use Rattle.heap_graph.specs.Laws.Laid.{lines-count, split-at}

-- ---- the first of the lines

-- the address of a heap line's cell
abbrev pub line_address : HeapLine → ℕ
line_address line = line.cell.address

-- whether a cell with this line's address was seen before
abbrev pub is_seen : List ℕ → HeapLine → Bool
is_seen seen line = list_any (λ address. address == line.cell.address) seen

cond-append : (b : Bool) (xs ys : List HeapLine) (x : HeapLine) → cond b (xs ++ ys) (x ∷ (xs ++ ys)) ≡ cond b xs (x ∷ xs) ++ ys
cond-append true xs ys x = refl
cond-append false xs ys x = refl

first_lines-push : (seen : List ℕ) (lines : List HeapLine) (line : HeapLine)
    → first_lines seen (lines ++ line ∷ []) ≡ first_lines seen lines ++ cond (is_seen (seen ++ map line_address lines) line) [] (line ∷ [])
first_lines-push seen [] line = ap (λ l. cond (is_seen l line) [] (line ∷ [])) (sym (append-nil seen))
first_lines-push seen (other ∷ lines) line =
    let later = first_lines-push (seen ++ other.cell.address ∷ []) lines line in
    let tail = cond (is_seen (seen ++ map line_address (other ∷ lines)) line) [] (line ∷ []) in
    let same : first_lines (seen ++ other.cell.address ∷ []) (lines ++ line ∷ []) ≡ first_lines (seen ++ other.cell.address ∷ []) lines ++ tail =
    later ∙ ap (λ l. first_lines (seen ++ other.cell.address ∷ []) lines ++ cond (is_seen l line) [] (line ∷ [])) (append_assoc seen (other.cell.address ∷ []) (map line_address lines)) in
    ap (λ l. cond (is_seen seen other) l (other ∷ l)) same
    ∙ cond-append (is_seen seen other) (first_lines (seen ++ other.cell.address ∷ []) lines) tail other

pub parts-addresses : (e : Elements) (first : ℕ) (lines : List HeapLine) → addresses_of (parts_of e first lines) ≡ map line_address lines
parts-addresses e first [] = refl
parts-addresses e first (line ∷ lines) = ap (λ l. line.cell.address ∷ l) (parts-addresses e (first + length (line_leads line)) lines)

-- the addresses of what is held
pub held-addresses : (lines : List HeapLine) (held : Held) → IsHeld lines held → addresses_of held.parts.items ≡ map line_address lines
held-addresses lines held is = ap addresses_of is.parts ∙ parts-addresses held.elements 0 lines

held-count : (held : Held) → length (addresses_of held.parts.items) ≡ length held.parts.items
held-count held = length-map held.parts.items (λ (p : CellPart). p.address)

seen-first : (lines : List HeapLine) (i : ℕ) → i < length lines → is_seen (map line_address (take i lines)) (line_at lines i) ≡ not (is_first (map line_address lines) i)
seen-first lines i inside =
    let xs = map line_address lines in
    ap (list_any (λ a. a == line_address (line_at lines i))) (sym (take-map line_address i lines))
    ∙ ap (λ b. list_any (λ a. a == b) (take i xs)) (sym (get_or-map line_address lines i no_line 0 inside))
    ∙ sym (not-not (list_any (λ a. a == address_in xs i) (take i xs)))

cond-not : (b : Bool) (line : HeapLine) → cond (not b) [] (line ∷ []) ≡ cond b (line ∷ []) []
cond-not true line = refl
cond-not false line = refl

-- one more line, which is kept where it is the first with its address
pub first_lines-more : (lines : List HeapLine) (i : ℕ) → i < length lines
    → first_lines [] (take (i + 1) lines) ≡ first_lines [] (take i lines) ++ cond (is_first (map line_address lines) i) (line_at lines i ∷ []) []
first_lines-more lines i inside =
    let line = line_at lines i in
    ap (first_lines []) (take_more lines i no_line inside) ∙ first_lines-push [] (take i lines) line
    ∙ ap (λ b. first_lines [] (take i lines) ++ cond b [] (line ∷ [])) (seen-first lines i inside)
    ∙ ap (λ l. first_lines [] (take i lines) ++ l) (cond-not (is_first (map line_address lines) i) line)

all-first : (lines : List HeapLine) (i : ℕ) → ((n : ℕ) → n < length lines → is_first (map line_address lines) n ≡ true) → i ≤ length lines → first_lines [] (take i lines) ≡ take i lines
all-first lines zero each inside = refl
all-first lines (suc i) each inside =
    let next : suc i ≡ i + 1 = omega arith in
    let line = line_at lines i in
    ap (λ n. first_lines [] (take n lines)) next ∙ first_lines-more lines i (omega (arith, inside))
    ∙ ap (λ b. first_lines [] (take i lines) ++ cond b (line ∷ []) []) (each i (omega (arith, inside)))
    ∙ ap (λ l. l ++ line ∷ []) (all-first lines i each (omega (arith, inside)))
    ∙ sym (take_more lines i no_line (omega (arith, inside))) ∙ ap (λ n. take n lines) (sym next)

-- where each is the first with its address all are kept as they are
pub all-kept : (held : Held) (own : ℕ) → own ≤ length held.parts.items → AreAllFirst (addresses_of held.parts.items) → AreKept held own (record { held = held; own = own })
all-kept held own few all = record {
  held_is = λ lines is. subst (λ l. IsHeld l held) (sym (whole lines is)) is;
  alike = alike-same held.elements;
  own_is = λ lines is. sym (
      ap length (all-first lines own (each lines is) (omega (arith, few, lines-count lines held is)))
      ∙ (let n = length-take own lines in omega (arith, n, few, lines-count lines held is)));
}
  where
    each : (lines : List HeapLine) → IsHeld lines held → (n : ℕ) → n < length lines → is_first (map line_address lines) n ≡ true
    each lines is n inside = ap (λ l. is_first l n) (sym (held-addresses lines held is)) ∙ all.each n (omega (arith, inside, lines-count lines held is, held-count held))

    whole : (lines : List HeapLine) → IsHeld lines held → first_lines [] lines ≡ lines
    whole lines is = ap (first_lines []) (sym (take-length lines)) ∙ all-first lines (length lines) (each lines is) (omega arith) ∙ take-length lines

-- ---- those that are kept have different addresses

or-right : (b c : Bool) → (b || c) ≡ false → c ≡ false
or-right true c none = absurd (Rattle.std.proofs.lemmas.Bool.true≢false none)
or-right false c none = none

or-fewer : (b c d : Bool) → (c ≡ false → d ≡ false) → (b || c) ≡ false → (b || d) ≡ false
or-fewer true c d fewer none = none
or-fewer false c d fewer none = fewer none

-- where none passes none does of fewer
any-fewer : (p : ℕ → Bool) (xs ys : List ℕ) (y : ℕ) → list_any p ((xs ++ y ∷ []) ++ ys) ≡ false → list_any p (xs ++ ys) ≡ false
any-fewer p [] ys y none = or-right (p y) (list_any p ys) none
any-fewer p (x ∷ xs) ys y none = or-fewer (p x) (list_any p ((xs ++ y ∷ []) ++ ys)) (list_any p (xs ++ ys)) (any-fewer p xs ys y) none

-- the address of the line with number n is none of those seen, and isn't that of a line before it
abbrev IsNew : List ℕ → List HeapLine → ℕ → Type 0
IsNew seen lines n = is_seen (seen ++ map line_address (take n lines)) (line_at lines n) ≡ false

new-unless : (seen : List ℕ) (line : HeapLine) (later : List HeapLine) (b : Bool) → is_seen seen line ≡ b → ((k : ℕ) → k < length later → IsNew (seen ++ line.cell.address ∷ []) later k)
    → (n : ℕ) → n < length (cond b later (line ∷ later)) → IsNew seen (cond b later (line ∷ later)) n
new-unless seen line later true is each n inside =
    any-fewer (λ address. address == (line_at later n).cell.address) seen (map line_address (take n later)) line.cell.address (each n inside)
new-unless seen line later false is each zero inside = ap (λ l. is_seen l line) (append-nil seen) ∙ is
new-unless seen line later false is each (suc n) inside =
    ap (λ l. is_seen l (line_at later n)) (sym (append_assoc seen (line.cell.address ∷ []) (map line_address (take n later)))) ∙ each n (omega (arith, inside))

each-new : (seen : List ℕ) (lines : List HeapLine) (n : ℕ) → n < length (first_lines seen lines) → IsNew seen (first_lines seen lines) n
each-new seen [] n inside = absurd (omega (arith, inside))
each-new seen (line ∷ lines) n inside =
    let seen' = seen ++ line.cell.address ∷ [] in
    new-unless seen line (first_lines seen' lines) (is_seen seen line) refl (each-new seen' lines) n inside

pub kept-distinct : (held : Held) (kept : Settled) (own : ℕ) → HoldsLines held → AreKept held own kept → AreAllFirst (addresses_of kept.held.parts.items)
kept-distinct held kept own holds are = record {
  each = λ n inside.
      let within : n < length lines = omega (arith, inside, lines-count lines kept.held is, held-count kept.held) in
      ap (λ l. is_first l n) (held-addresses lines kept.held is) ∙ sym (not-not (is_first (map line_address lines) n)) ∙ ap not (sym (seen-first lines n within) ∙ each-new [] holds.lines n within);
}
  where
    lines : List HeapLine
    lines = first_lines [] holds.lines

    is : IsHeld lines kept.held
    is = are.held_is holds.lines holds.held_is

-- ---- how many are kept

cond-fewer : (b : Bool) (some all : List HeapLine) (x : HeapLine) → length some ≤ length all → length (cond b some (x ∷ some)) ≤ length (cond b all (x ∷ all))
cond-fewer true some all x fewer = fewer
cond-fewer false some all x fewer = omega (arith, fewer)

fewer-first : (seen : List ℕ) (lines : List HeapLine) (n : ℕ) → length (first_lines seen (take n lines)) ≤ length (first_lines seen lines)
fewer-first seen lines zero = omega arith
fewer-first seen [] (suc n) = omega arith
fewer-first seen (line ∷ lines) (suc n) =
    let seen' = seen ++ line.cell.address ∷ [] in
    cond-fewer (is_seen seen line) (first_lines seen' (take n lines)) (first_lines seen' lines) line (fewer-first seen' lines n)

-- the process's own lines are among those that are kept
pub own-kept : (held : Held) (kept : Settled) (own : ℕ) → HoldsLines held → AreKept held own kept → kept.own ≤ length kept.held.parts.items
own-kept held kept own holds are =
    let lines = holds.lines in
    let fewer = fewer-first [] lines own in
    let count = lines-count (first_lines [] lines) kept.held (are.held_is lines holds.held_is) in
    omega (arith, fewer, count, are.own_is lines holds.held_is)

-- ---- one more line

kept-unless : (lines : List HeapLine) (held old new : Held) (i : ℕ) (b : Bool) → i < length lines → is_first (map line_address lines) i ≡ b → Gains old new (cond b (line_at lines i ∷ []) [])
    → IsHeld (first_lines [] (take i lines)) old → IsHeld (first_lines [] (take (i + 1) lines)) new
kept-unless lines held old new i b inside first gains so_far =
    subst (λ l. IsHeld l new) (sym (first_lines-more lines i inside ∙ ap (λ c. first_lines [] (take i lines) ++ cond c (line_at lines i ∷ []) []) first))
    (IsHeld-then old new (first_lines [] (take i lines)) (cond b (line_at lines i ∷ []) []) so_far gains)

pub kept-next : (held old new : Held) (firsts : List Bool) (i : ℕ) (b : Bool) → AreFirsts (addresses_of held.parts.items) firsts → i < length held.parts.items → get_or firsts i false ≡ b
    → (lines : List HeapLine) → IsHeld lines held → Gains old new (cond b (line_at lines i ∷ []) [])
    → IsHeld (first_lines [] (take i lines)) old → IsHeld (first_lines [] (take (i + 1) lines)) new
kept-next held old new firsts i b are place read lines is gains so_far =
    kept-unless lines held old new i b (omega (arith, place, lines-count lines held is)) (ap (λ l. is_first l i) (sym (held-addresses lines held is)) ∙ sym (are.each i (omega (arith, place, held-count held))) ∙ read) gains so_far

-- ---- the addresses that are left

pub left-split : (held : Held) (lines : List HeapLine) (i : ℕ) (left : List ℕ) → IsHeld lines held → i < length held.parts.items → left ≡ flat_map (kept_references held.elements) (drop i lines)
    → left ≡ kept_references held.elements (line_at lines i) ++ flat_map (kept_references held.elements) (drop (i + 1) lines)
left-split held lines i left is place left_is = left_is ∙ split-at (kept_references held.elements) lines i (omega (arith, place, lines-count lines held is))

pub left-parts : (xs ys left : List ℕ) (n : ℕ) → left ≡ xs ++ ys → n ≡ length xs → (take n left ≡ xs) × (drop n left ≡ ys)
left-parts xs ys left n is count = (
  ap (λ m. take m left) count ∙ ap (take (length xs)) is ∙ take-append_seam xs ys,
  ap (λ m. drop m left) count ∙ ap (drop (length xs)) is ∙ drop-append_seam xs ys,
)

pub left-within : (held : Held) (lines : List HeapLine) (i n : ℕ) (left : List ℕ) → IsHeld lines held → i < length held.parts.items → left ≡ flat_map (kept_references held.elements) (drop i lines)
    → n ≡ length (kept_references held.elements (line_at lines i)) → n ≤ length left
left-within held lines i n left is place left_is size =
    let f = kept_references held.elements in
    let all = ap length (left-split held lines i left is place left_is) ∙ length-append (f (line_at lines i)) (flat_map f (drop (i + 1) lines)) in
    omega (arith, size, all)
