-- Where the elements of each line stand among those of all.
use Rattle.std.proofs.Common.{◌≡◌, ℕ, zero, suc, ◌+◌, ◌-◌, ◌<◌, ◌≤◌, List, [], ◌∷◌, ◌++◌, length, get_or, take, drop, map, Option, refl, sym, ◌∙◌, ap, ap₂, subst, arith, add-one, drop-cons, length-append}
use Rattle.std.specs.Prelude.{slice_range, Result, Ok, Err, OnOk}
use Rattle.std.specs.List.{flat_map}
use Rattle.std.proofs.lemmas.List.{append-nil, length-map, take-append-drop, take_more}
use Rattle.std.proofs.lemmas.List.Concat.{flat_map-append}
use Rattle.std.proofs.Math.Seq.{drop-append_seam, take-append_seam}
use Rattle.cell_records.specs.declared.cells.Kind.{Kind}
use Rattle.heap_graph.specs.declared.elements.Elements.{Elements}
use Rattle.heap_graph.specs.declared.elements.Elements.TheVariants as kept
use Rattle.heap_graph.specs.declared.held.CellPart.{CellPart}
use Rattle.heap_graph.specs.declared.held.Held.{Held}
use Rattle.heap_graph.specs.Elements.{Found, count, references_for, Appends, AreIn, IsAlike, Keeps}
use Rattle.heap_graph.specs.Held.{HeapLine, kept_references, line_at, line_kind, line_leads, no_line, parts_of, place_of, size_of, start_at, Gains, GainsElements, IsHeld}
use Rattle.heap_graph.specs.Keeping.{HoldsLines, IsSpanAt}
use Rattle.heap_graph.specs.Laws.Elements.{AreInLines-one, held-size, line-range, references-line}
use Rattle.heap_graph.specs.Laws.Gains.{length-parts, Gains-part}

-- what each line has, one behind the other, in three parts
pub split-at : {X : Type 0} (f : HeapLine → List X) (lines : List HeapLine) (i : ℕ) → i < length lines → flat_map f (drop i lines) ≡ f (line_at lines i) ++ flat_map f (drop (i + 1) lines)
split-at f lines i inside = ap (flat_map f) (drop-cons lines i no_line inside ∙ ap (λ n. line_at lines i ∷ drop n lines) (sym (add-one i)))

front-back : {X : Type 0} (f : HeapLine → List X) (lines : List HeapLine) (i : ℕ) → flat_map f lines ≡ flat_map f (take i lines) ++ flat_map f (drop i lines)
front-back f lines i = ap (flat_map f) (sym (take-append-drop i lines)) ∙ flat_map-append f (take i lines) (drop i lines)

pub front-more : {X : Type 0} (f : HeapLine → List X) (lines : List HeapLine) (i : ℕ) → i < length lines → length (flat_map f (take (i + 1) lines)) ≡ length (flat_map f (take i lines)) + length (f (line_at lines i))
front-more f lines i inside =
    ap (λ l. length (flat_map f l)) (take_more lines i no_line inside)
    ∙ ap length (flat_map-append f (take i lines) (line_at lines i ∷ []) ∙ ap (λ l. flat_map f (take i lines) ++ l) (append-nil (f (line_at lines i))))
    ∙ length-append (flat_map f (take i lines)) (f (line_at lines i))

pub range-middle : {X : Type 0} (xs ys zs : List X) (n : ℕ) → n ≡ length xs + length ys → slice_range (xs ++ (ys ++ zs)) (length xs) n ≡ ys
range-middle xs ys zs n is =
    let count : n - length xs ≡ length ys = omega (arith, is) in
    ap (λ m. take m (drop (length xs) (xs ++ (ys ++ zs)))) count ∙ ap (take (length ys)) (drop-append_seam xs (ys ++ zs)) ∙ take-append_seam ys zs

-- the elements of a line are where it says
pub range-at : {X : Type 0} (f : HeapLine → List X) (lines : List HeapLine) (i : ℕ) → i < length lines
    → slice_range (flat_map f lines) (length (flat_map f (take i lines))) (length (flat_map f (take (i + 1) lines))) ≡ f (line_at lines i)
range-at f lines i inside =
    ap (λ l. slice_range l (length (flat_map f (take i lines))) (length (flat_map f (take (i + 1) lines))))
    (front-back f lines i ∙ ap (λ l. flat_map f (take i lines) ++ l) (split-at f lines i inside))
    ∙ range-middle (flat_map f (take i lines)) (f (line_at lines i)) (flat_map f (drop (i + 1) lines)) (length (flat_map f (take (i + 1) lines))) (front-more f lines i inside)

pub front-few : {X : Type 0} (f : HeapLine → List X) (lines : List HeapLine) (i : ℕ) → length (flat_map f (take i lines)) ≤ length (flat_map f lines)
front-few f lines i = let n = ap length (front-back f lines i) ∙ length-append (flat_map f (take i lines)) (flat_map f (drop i lines)) in omega (arith, n)

-- ---- where the elements of a part begin

pub start-parts : (e : Elements) (first : ℕ) (lines : List HeapLine) (i total : ℕ) → i ≤ length lines → total ≡ first + length (flat_map line_leads lines)
    → start_at (parts_of e first lines) i total ≡ first + length (flat_map line_leads (take i lines))
start-parts e first [] zero total inside is = is
start-parts e first [] (suc i) total inside is = absurd (omega (arith, inside))
start-parts e first (line ∷ lines) zero total inside is = let same : first ≡ first + 0 = omega arith in same
start-parts e first (line ∷ lines) (suc i) total inside is =
    let all = length-append (line_leads line) (flat_map line_leads lines) in
    let some = length-append (line_leads line) (flat_map line_leads (take i lines)) in
    start-parts e (first + length (line_leads line)) lines i total (omega (arith, inside)) (omega (arith, is, all)) ∙ omega (arith, some)

pub start-held : (lines : List HeapLine) (held : Held) (i total : ℕ) → IsHeld lines held → i ≤ length lines → total ≡ count held.elements
    → start_at held.parts.items i total ≡ length (flat_map line_leads (take i lines))
start-held lines held i total is inside total_is =
    ap (λ l. start_at l i total) is.parts
    ∙ start-parts held.elements 0 lines i total inside (total_is ∙ held-size lines held.elements is.elements ∙ (let same : length (flat_map line_leads lines) ≡ 0 + length (flat_map line_leads lines) = omega arith in same))
    ∙ (let same : 0 + length (flat_map line_leads (take i lines)) ≡ length (flat_map line_leads (take i lines)) = omega arith in same)

pub lines-count : (lines : List HeapLine) (held : Held) → IsHeld lines held → length held.parts.items ≡ length lines
lines-count lines held is = ap length is.parts ∙ length-parts held.elements 0 lines

-- ---- what is held of the line with number i

pub span-held : (held : Held) (i from upto total : ℕ) → HoldsLines held → i < length held.parts.items → total ≡ count held.elements → from ≡ start_at held.parts.items i total
    → upto ≡ start_at held.parts.items (i + 1) total → IsSpanAt held i (from, upto)
span-held held i from upto total holds place total_is from_is upto_is =
    let lines = holds.lines in
    let is = holds.held_is in
    let inside = within lines is in
    let more = front-more line_leads lines i inside in
    let few = front-few line_leads lines (i + 1) in
    let there = starts lines is in
    record {
      ordered = omega (arith, there.0, there.1, more);
      within = omega (arith, there.1, few, held-size lines held.elements is.elements);
      starts = starts;
    }
  where
    within : (lines : List HeapLine) → IsHeld lines held → i < length lines
    within lines is = omega (arith, place, lines-count lines held is)

    starts : (lines : List HeapLine) → IsHeld lines held → (from ≡ length (flat_map line_leads (take i lines))) × (upto ≡ length (flat_map line_leads (take (i + 1) lines)))
    starts lines is =
        let inside = within lines is in
        (from_is ∙ start-held lines held i total is (omega (arith, inside)) total_is, upto_is ∙ start-held lines held (i + 1) total is (omega (arith, inside)) total_is)

-- the elements of the line with number i
pub span-elements : (lines : List HeapLine) (held : Held) (i : ℕ) (span : ℕ × ℕ) → (is : IsHeld lines held) → i < length held.parts.items → IsSpanAt held i span
    → AreIn (line_at lines i).from (line_at lines i).text (line_at lines i).cell.form (slice_range is.elements.fs span.0 span.1)
span-elements lines held i span is place spans =
    let inside : i < length lines = omega (arith, place, lines-count lines held is) in
    let there = spans.starts lines is in
    subst (AreIn (line_at lines i).from (line_at lines i).text (line_at lines i).cell.form) (sym (ap₂ (slice_range is.elements.fs) there.0 there.1)) (line-range lines is.elements.fs i inside is.elements.are)

pub part-fields : (e : Elements) (first : ℕ) (lines : List HeapLine) (i : ℕ) (d : CellPart) → i < length lines
    → ((get_or (parts_of e first lines) i d).address ≡ (line_at lines i).cell.address) × ((get_or (parts_of e first lines) i d).at ≡ place_of e (line_at lines i))
    × ((get_or (parts_of e first lines) i d).size ≡ size_of e (line_at lines i))
part-fields e first [] i d inside = absurd (omega (arith, inside))
part-fields e first (line ∷ lines) zero d inside = (refl, refl, refl)
part-fields e first (line ∷ lines) (suc i) d inside = part-fields e (first + length (line_leads line)) lines i d (omega (arith, inside))

-- what is held beside the same
place-alike : (a b : Elements) (line : HeapLine) → IsAlike a b → (place_of a line ≡ place_of b line) × (size_of a line ≡ size_of b line)
place-alike (kept.Leads a) (kept.Leads b) line alike = (refl, refl)
place-alike (kept.Slots a) (kept.Slots b) line alike = (refl, refl)
place-alike (kept.Leads a) (kept.Slots b) line alike = absurd alike
place-alike (kept.Slots a) (kept.Leads b) line alike = absurd alike

pub kind-at : (lines : List HeapLine) (i : ℕ) (d : Option Kind) → i < length lines → get_or (map line_kind lines) i d ≡ line_kind (line_at lines i)
kind-at [] i d inside = absurd (omega (arith, inside))
kind-at (line ∷ lines) zero d inside = refl
kind-at (line ∷ lines) (suc i) d inside = kind-at lines i d (omega (arith, inside))

pub kinds-count : (lines : List HeapLine) (held : Held) → IsHeld lines held → length held.kinds.items ≡ length held.parts.items
kinds-count lines held is = ap length is.kinds ∙ length-map lines line_kind ∙ sym (lines-count lines held is)

-- a line is kept behind others, whose elements were appended before
pub keeps-line : {E : Type 0} (r : Result (Unit {0}) E) (held old new : Held) (mid : Elements) (i first : ℕ) (part d : CellPart) (kind k : Option Kind) (references : List ℕ) (span : ℕ × ℕ)
    → i < length held.parts.items → IsSpanAt held i span → IsAlike held.elements old.elements → part ≡ get_or held.parts.items i d → kind ≡ get_or held.kinds.items i k → first ≡ count old.elements
    → ((fs : List Found) → Keeps held.elements fs → references ≡ references_for held.elements (slice_range fs span.0 span.1) → Appends old.elements mid (slice_range fs span.0 span.1))
    → OnOk r (new.parts.items ≡ old.parts.items ++ (record { address = part.address; at = part.at; first = first; size = part.size }) ∷ [])
    → OnOk r (new.kinds.items ≡ old.kinds.items ++ kind ∷ []) → OnOk r (new.elements ≡ mid)
    → OnOk r ((lines : List HeapLine) → IsHeld lines held → references ≡ kept_references held.elements (line_at lines i) → Gains old new (line_at lines i ∷ []))
keeps-line (Err e) held old new mid i first part d kind k references span place spans alike part_is kind_is first_is appended parts kinds elements = tt
keeps-line (Ok u) held old new mid i first part d kind k references span place spans alike part_is kind_is first_is appended parts kinds elements =
    λ lines is refs.
    let inside : i < length lines = omega (arith, place, lines-count lines held is) in
    let line = line_at lines i in
    let fields = part-fields held.elements 0 lines i d inside in
    let there = part_is ∙ ap (λ l. get_or l i d) is.parts in
    let same = place-alike held.elements old.elements line alike in
    let address : part.address ≡ line.cell.address = ap (λ (p : CellPart). p.address) there ∙ fields.0 in
    let at : part.at ≡ place_of old.elements line = ap (λ (p : CellPart). p.at) there ∙ fields.1 ∙ same.0 in
    let size : part.size ≡ size_of old.elements line = ap (λ (p : CellPart). p.size) there ∙ fields.2 ∙ same.1 in
    let fs = is.elements.fs in
    let own = slice_range fs span.0 span.1 in
    let are = span-elements lines held i span is place spans in
    let one = appended fs is.elements.keeps (refs ∙ sym (references-line held.elements line own are)) in
    Gains-part old new line (record { address = part.address; at = part.at; first = first; size = part.size }) kind
    (subst (λ (e : Elements). GainsElements old.elements e (line ∷ [])) (sym elements) (record { fs = own; are = AreInLines-one line own are; appended = one }))
    (cc (address, at, size, first_is))
    (kind_is ∙ ap (λ l. get_or l i k) is.kinds ∙ kind-at lines i k inside) parts kinds
