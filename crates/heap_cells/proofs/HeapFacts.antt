-- The whole of a heap.
use Rattle.std.proofs.Common.{◌≡◌, ℕ, zero, suc, ◌+◌, ◌-◌, ◌<◌, ◌≤◌, ◌==◌, ◌||◌, Bool, true, false, cond, List, [], ◌∷◌, ◌++◌, length, take, drop, map, get_or, Option, None, Some, All, refl, sym, ◌∙◌, ap, ap₂, subst, arith, length-append, length-drop}
use Rattle.dump_io.specs.Limits.{usual}
use Rattle.dump_io.specs.Laws.Lists.{position-map}
use Rattle.std.specs.Global.{Vec}
use Rattle.std.specs.Prelude.{◌↔◌, nat_eq, slice_get, slice_range}
use Rattle.std.specs.Option.{option_map, option_map_or}
use Rattle.std.specs.List.{flat_map, list_any, IsDistinct, AllByRecursion}
use Rattle.std.proofs.lemmas.Bool.{true≢false, false_from_ne_true, eqb-true, eq-eqb}
use Rattle.std.proofs.lemmas.List.{get_or-drop, get_or-map, get_or-take, length-map, length-take, map-append, take-append-drop}
use Rattle.std.proofs.lemmas.List.Elements.{All-nil}
use Rattle.std.proofs.lemmas.List.Folds.{list_any-append}
use Rattle.std.proofs.lemmas.List.Sums.{sum_by-cons}
use Rattle.std.proofs.lemmas.Option.{slice_get-get_or, slice_get-map}
use Rattle.std.proofs.Math.Bool.{or-true}
use Rattle.std.proofs.Math.Seq.{take-append_seam}
use Rattle.binary_payloads.specs.declared.enc.Enc.{Enc}
use Rattle.cell_records.specs.declared.cells.Kind.{Kind}
use Rattle.cell_records.specs.declared.cells.Slot.{Slot}
use Rattle.cell_records.specs.declared.cells.Slot.TheVariants as slot
use Rattle.cell_records.specs.Order.{number_with, AreAllFirst, AreRanked, IsOrder}
use Rattle.cell_records.specs.Resolving.{settled}
use Rattle.term_forms.specs.Elements.{Element, IsFront, Nil, Ref}
use Rattle.term_forms.specs.Forms.{HeapForm, SubBin}
use Rattle.term_forms.specs.Places.{Placed, StandsAt}
use Rattle.term_forms.specs.Reading.{front, whole_of}
use Rattle.term_forms.specs.ReadingForms.{form_of}
use Rattle.heap_cells.specs.declared.texts.Texts.{Texts}
use Rattle.heap_cells.specs.Cells.{Cell, addresses, cell_weight, cells_of, elements_in, first_cells, kind_of, line_cells, weight_of}
use Rattle.heap_cells.specs.contracts.heap.Heap.{the_invariant, the_view}
use Rattle.heap_cells.specs.declared.heap.Heap.TheInside.{Inside}
use Rattle.heap_cells.specs.HeapMap.{HeapMap, elements_at, form_at, number_at}
use Rattle.heap_cells.specs.Targets.{target, target_at, slot_target}
use Rattle.heap_cells.specs.Laws.Cells.{first_cells-append}
use Rattle.heap_cells.specs.Inner.Gathering.{cells_in, AllStandIn, HoldsTexts, StandsIn}
use Rattle.heap_cells.specs.Inner.Parts.{IsPart}
use Rattle.heap_cells.specs.Inner.Records.{cell_in, cells_at, is_sub, row_end, IsHeap, Spells}
use Rattle.heap_cells.specs.Inner.Settling.{IsSettledIn}
use Rattle.heap_cells.specs.Inner.Spellings.{IsSpelling}
use Rattle.heap_cells.specs.Inner.Texts.{text_of, seam_of, weight_in}
use Rattle.heap_cells.proofs.GatheringFacts.{slice-slice}
use Rattle.heap_cells.proofs.RecordFacts.{IsKidOf}
use Rattle.heap_cells.proofs.SpelledFacts.{IsRead}
use Rattle.heap_graph.specs.declared.elements.Elements.{Elements}
use Rattle.heap_graph.specs.declared.elements.Elements.TheVariants as kept
use Rattle.heap_graph.specs.declared.held.CellPart.{CellPart}
use Rattle.heap_graph.specs.declared.held.Held.{Held}
use Rattle.heap_graph.specs.declared.settling.Ordered.{Ordered}
use Rattle.heap_graph.specs.Elements.{Found, found_at, found_in, slot_for, slots_of, AreIn, IsOfSlots, Keeps, KeepsThem}
use Rattle.heap_graph.specs.Elements as read
use Rattle.heap_graph.specs.Held.{HeapLine, addresses_of, first_lines, line_at, line_kind, line_leads, parts_of, place_of, size_of, start_at, IsSmall}
use Rattle.heap_graph.specs.Keeping.{AreKept}
use Rattle.heap_graph.specs.Leads.{lead_of}
use Rattle.heap_graph.specs.Laws.Elements.{alike-slots, line-range, lines-size, range-map}
use Rattle.heap_graph.specs.Laws.Gains.{length-parts}
use Rattle.heap_graph.specs.Laws.Laid.{front-few, front-more, kind-at, part-fields, start-parts}

abbrev is_seen : List ℕ → Cell → Bool
is_seen seen cell = list_any (λ address. address == cell.address) seen

-- ---- the first cells

weight-unless : (b : Bool) (cell : Cell) (later : List Cell) (most : ℕ) → weight_of later ≤ most → weight_of (cond b later (cell ∷ later)) ≤ cell_weight cell + most
weight-unless true cell later most few = omega (arith, few)
weight-unless false cell later most few = omega (arith, few, sum_by-cons cell_weight cell later)

pub weight-first : (seen : List ℕ) (cells : List Cell) → weight_of (first_cells seen cells) ≤ weight_of cells
weight-first seen [] = omega arith
weight-first seen (cell ∷ cells) =
    let later = first_cells (seen ++ cell.address ∷ []) cells in
    let few = weight-unless (is_seen seen cell) cell later (weight_of cells) (weight-first (seen ++ cell.address ∷ []) cells) in
    omega (arith, few, sum_by-cons cell_weight cell cells)

pub first-few : (cells : List Cell) (own : ℕ) → length (first_cells [] (take own cells)) ≤ length (first_cells [] cells)
first-few cells own =
    let whole = ap (first_cells []) (sym (take-append-drop own cells)) ∙ first_cells-append [] (take own cells) (drop own cells) in
    omega (arith, ap length whole, length-append (first_cells [] (take own cells)) (first_cells (addresses (take own cells)) (drop own cells)))

-- an address that was seen is none of theirs
abbrev IsApart : ℕ → List Cell → Type 0
IsApart address cells = AllByRecursion (λ a. nat_eq address a ≡ false) (addresses cells)

apart-unless : (address : ℕ) (seen : List ℕ) (cell : Cell) (later : List Cell) (b : Bool) → list_any (λ s. s == address) seen ≡ true → is_seen seen cell ≡ b → IsApart address later
    → IsApart address (cond b later (cell ∷ later))
apart-unless address seen cell later true is found rest = rest
apart-unless address seen cell later false is fails rest =
    (false_from_ne_true _ (λ same. true≢false (sym is ∙ ap (λ a. list_any (λ s. s == a) seen) (eqb-true address cell.address same) ∙ fails)), rest)

apart : (address : ℕ) (seen : List ℕ) (cells : List Cell) → list_any (λ s. s == address) seen ≡ true → IsApart address (first_cells seen cells)
apart address seen [] is = tt
apart address seen (cell ∷ cells) is =
    let more : list_any (λ s. s == address) (seen ++ cell.address ∷ []) ≡ true =
    list_any-append (λ s. s == address) seen (cell.address ∷ []) ∙ ap (λ b. b || list_any (λ s. s == address) (cell.address ∷ [])) is in
    apart-unless address seen cell (first_cells (seen ++ cell.address ∷ []) cells) (is_seen seen cell) is refl (apart address (seen ++ cell.address ∷ []) cells more)

distinct-unless : (cell : Cell) (later : List Cell) (b : Bool) → IsApart cell.address later → IsDistinct nat_eq (addresses later)
    → IsDistinct nat_eq (addresses (cond b later (cell ∷ later)))
unfolding IsDistinct
distinct-unless cell later true other rest = rest
distinct-unless cell later false other rest = (other, rest)

seen-last : (seen : List ℕ) (address : ℕ) → list_any (λ s. s == address) (seen ++ address ∷ []) ≡ true
seen-last seen address =
    list_any-append (λ s. s == address) seen (address ∷ [])
    ∙ ap (λ b. list_any (λ s. s == address) seen || (b || false)) (eq-eqb address address refl)
    ∙ or-true (list_any (λ s. s == address) seen)

pub first-distinct : (seen : List ℕ) (cells : List Cell) → IsDistinct nat_eq (addresses (first_cells seen cells))
unfolding IsDistinct
first-distinct seen [] = tt
first-distinct seen (cell ∷ cells) =
    let more = seen ++ cell.address ∷ [] in
    distinct-unless cell (first_cells more cells) (is_seen seen cell) (apart cell.address more cells (seen-last seen cell.address)) (first-distinct more cells)

-- ---- the first of heap lines

cells-cond : (b : Bool) (line : HeapLine) (lines : List HeapLine) (cells : List Cell) → cells_in lines ≡ cells → cells_in (cond b lines (line ∷ lines)) ≡ cond b cells (line.cell ∷ cells)
cells-cond true line lines cells is = is
cells-cond false line lines cells is = ap (λ l. line.cell ∷ l) is

first-are-cells : (seen : List ℕ) (lines : List HeapLine) → cells_in (first_lines seen lines) ≡ first_cells seen (cells_in lines)
first-are-cells seen [] = refl
first-are-cells seen (line ∷ lines) =
    let more = seen ++ line.cell.address ∷ [] in
    cells-cond (is_seen seen line.cell) line (first_lines more lines) (first_cells more (cells_in lines)) (first-are-cells more lines)

cond-stand : (text : List ℕ) (seam : ℕ) (enc : Enc) (b : Bool) (line : HeapLine) (lines : List HeapLine) → StandsIn text seam enc line → AllStandIn text seam enc lines
    → AllStandIn text seam enc (cond b lines (line ∷ lines))
cond-stand text seam enc true line lines one all = all
cond-stand text seam enc false line lines one all = (one, all)

first-stand : (text : List ℕ) (seam : ℕ) (enc : Enc) (seen : List ℕ) (lines : List HeapLine) → AllStandIn text seam enc lines → AllStandIn text seam enc (first_lines seen lines)
first-stand text seam enc seen [] all = tt
first-stand text seam enc seen (line ∷ lines) all =
    let more = seen ++ line.cell.address ∷ [] in
    cond-stand text seam enc (is_seen seen line.cell) line (first_lines more lines) all.0 (first-stand text seam enc more lines all.1)

-- the process's own cells are among all
pub own-few : (texts : Texts) (held : Held) (own : ℕ) → HoldsTexts texts held own → own ≤ length held.parts.items
own-few texts held own both =
    let holds = both.holds in
    let parts = ap length holds.held_is.parts ∙ length-parts held.elements 0 holds.lines in
    omega (arith, both.own_is, parts, length-map holds.lines (λ (l : HeapLine). l.cell), ap length holds.cells_are, length-append {A = Cell})

-- what is kept of both bodies
pub settled-in : (texts : Texts) (held : Held) (own : ℕ) (ordered : Ordered) → HoldsTexts texts held own → AreKept held own ordered.settled → weight_in texts ≤ usual.dense → IsSmall ordered.settled.held
    → AreRanked (addresses_of ordered.settled.held.parts.items) ordered.ranks → AreAllFirst (addresses_of ordered.settled.held.parts.items) → IsSettledIn texts ordered
settled-in texts held own ordered both kept weight small ranked distinct =
    let holds = both.holds in
    let heap = line_cells texts.enc texts.heap.items in
    let literals = line_cells texts.enc texts.literals.items in
    let front : length (first_lines [] (take own holds.lines)) ≡ length (first_cells [] (take own (cells_in holds.lines))) =
    sym (length-map (first_lines [] (take own holds.lines)) (λ (l : HeapLine). l.cell)) ∙ ap length (first-are-cells [] (take own holds.lines))
    ∙ ap (λ l. length (first_cells [] l)) (sym (Rattle.std.proofs.lemmas.List.take-map (λ (l : HeapLine). l.cell) own holds.lines)) in
    record {
      holds = record {
        lines = first_lines [] holds.lines;
        held_is = kept.held_is holds.lines holds.held_is;
        slots = alike-slots held.elements ordered.settled.held.elements kept.alike holds.slots;
        stand = first-stand (text_of texts) (seam_of texts) texts.enc [] holds.lines holds.stand;
        cells_are = first-are-cells [] holds.lines ∙ ap (first_cells []) holds.cells_are;
      };
      own_is =
          kept.own_is holds.lines holds.held_is ∙ front ∙ ap (λ l. length (first_cells [] (take own l))) holds.cells_are
          ∙ ap (λ n. length (first_cells [] (take n (heap ++ literals)))) both.own_is ∙ ap (λ l. length (first_cells [] l)) (take-append_seam heap literals);
      weight = weight;
      small = small;
      ranked = ranked;
      distinct = distinct;
    }

-- ---- the cells of parts

slots-place : (e : Elements) (line : HeapLine) → IsOfSlots e → (place_of e line ≡ line.from) × (size_of e line ≡ length line.text)
slots-place (kept.Slots slots) line of_slots = (refl, refl)
slots-place (kept.Leads leads) line of_slots = absurd of_slots

cell-line : (text : List ℕ) (seam : ℕ) (enc : Enc) (line : HeapLine) (at size : ℕ) → at ≡ line.from → size ≡ length line.text → StandsIn text seam enc line
    → (let made : Cell = record { address = line.cell.address; form = form_of enc (slice_range text at (at + size)) } in made) ≡ line.cell
cell-line text seam enc line at size at_is size_is stands =
    let made : Option HeapForm → Cell = λ f. record { address = line.cell.address; form = f } in
    ap made (ap₂ (λ a n. form_of enc (slice_range text a (a + n))) at_is size_is ∙ ap (form_of enc) stands.stands ∙ sym stands.form)

pub cells-lines : (text : List ℕ) (seam : ℕ) (enc : Enc) (e : Elements) (first : ℕ) (lines : List HeapLine) → IsOfSlots e → AllStandIn text seam enc lines
    → cells_at text enc (parts_of e first lines) ≡ cells_in lines
cells-lines text seam enc e first [] of_slots all = refl
cells-lines text seam enc e first (line ∷ lines) of_slots all =
    let there = slots-place e line of_slots in
    ap₂ (λ c cs. c ∷ cs) (cell-line text seam enc line (place_of e line) (size_of e line) there.0 there.1 all.0)
    (cells-lines text seam enc e (first + length (line_leads line)) lines of_slots all.1)

stands-at : (text : List ℕ) (seam : ℕ) (enc : Enc) (lines : List HeapLine) (i : ℕ) → i < length lines → AllStandIn text seam enc lines → StandsIn text seam enc (line_at lines i)
stands-at text seam enc [] i inside all = absurd (omega (arith, inside))
stands-at text seam enc (line ∷ lines) zero inside all = all.0
stands-at text seam enc (line ∷ lines) (suc i) inside all = stands-at text seam enc lines i (omega (arith, inside)) all.1

line-form : (lines : List HeapLine) (i : ℕ) → i < length lines → form_at (cells_in lines) i ≡ (line_at lines i).cell.form
line-form [] i inside = absurd (omega (arith, inside))
line-form (line ∷ lines) zero inside = refl
line-form (line ∷ lines) (suc i) inside = line-form lines i (omega (arith, inside))

-- ---- elements and their slots

-- the front of a text is the longest prefix that spells an element
abbrev pub IsLongest : Type 0
IsLongest = (text : List ℕ) (e : Element) (n : ℕ) → (front text ≡ Some (e, n)) ↔ IsFront text e n

pub spelled-there : (text : List ℕ) (p : Placed) → IsLongest → IsRead → StandsAt text p → IsSpelling text p
spelled-there text p longest read stands =
    let is : IsFront (drop p.at text) p.element p.len = (longest (drop p.at text) p.element p.len).0 stands.read in
    let before = stands.within in
    let within = is.within in
    let count : p.at + p.len - p.at ≡ p.len = omega arith in
    record {
      within = omega (arith, before, within, length-drop p.at text);
      spells = ap (λ n. whole_of (take n (drop p.at text))) count ∙ (read (take p.len (drop p.at text)) p.element).1 is.spells;
    }

found-target : (address : ℕ) (found : Option ℕ) → slot_target (option_map_or (λ n. slot.Cell (record { 0 = n })) found (slot.Gone address)) ≡ target_at address found
found-target address None = refl
found-target address (Some n) = refl

settled-target : (xs : List ℕ) (cells : List Cell) (e : Element) (at len : ℕ) → ((address : ℕ) → number_with xs address ≡ number_at cells address)
    → slot_target (settled xs (slot_for (lead_of e) at len)) ≡ target cells e
settled-target xs cells (Ref address) at len same = found-target address (number_with xs address) ∙ ap (target_at address) (same address)
settled-target xs cells e at len same = refl

found-spells : (text : List ℕ) (seam address : ℕ) (found : Option ℕ) (e : Element) → Spells text seam (option_map_or (λ n. slot.Cell (record { 0 = n })) found (slot.Gone address)) e
found-spells text seam address None e = tt
found-spells text seam address (Some n) e = tt

settled-spells : (text : List ℕ) (seam : ℕ) (xs : List ℕ) (e : Element) (at len : ℕ) → IsPart seam (length text) at (at + len) → whole_of (slice_range text at (at + len)) ≡ Some e
    → Spells text seam (settled xs (slot_for (lead_of e) at len)) e
settled-spells text seam xs (Ref address) at len part is = found-spells text seam address (number_with xs address) (Ref address)
settled-spells text seam xs e at len part is = (part, is)

-- what is spelled in a part of the text is spelled in the text
placed-spells : (text : List ℕ) (seam : ℕ) (enc : Enc) (xs : List ℕ) (line : HeapLine) (p : Placed) → StandsIn text seam enc line → IsSpelling line.text p
    → Spells text seam (settled xs (slot_for (lead_of p.element) (line.from + p.at) p.len)) p.element
placed-spells text seam enc xs line p stands is =
    let from = line.from in
    let n = length line.text in
    let within = is.within in
    let part = stands.part in
    let end : from + p.at + p.len ≡ from + (p.at + p.len) = omega arith in
    let same : slice_range text (from + p.at) (from + p.at + p.len) ≡ slice_range line.text p.at (p.at + p.len) =
    ap (slice_range text (from + p.at)) end ∙ sym (slice-slice text from n p.at (p.at + p.len) (omega arith) within) ∙ ap (λ l. slice_range l p.at (p.at + p.len)) stands.stands in
    settled-spells text seam xs p.element (from + p.at) p.len
    (record {
      ordered = omega arith;
      within = omega (arith, within, part.within);
      one_body = λ before. let one = part.one_body (omega (arith, before)) in omega (arith, within, one);
    })
    (ap whole_of same ∙ is.spells)

-- the slot of an element that was read
abbrev slot_at : List ℕ → ℕ → Placed → Slot
slot_at xs from p = settled xs (slot_for (lead_of p.element) (from + p.at) p.len)

map-three : (xs : List ℕ) (from : ℕ) (ps : List Placed) → map (settled xs) (slots_of (map (found_at from) ps)) ≡ map (slot_at xs from) ps
map-three xs from [] = refl
map-three xs from (p ∷ ps) = ap (λ l. slot_at xs from p ∷ l) (map-three xs from ps)

-- the slots of a cell, those of these elements
pub record IsRow (xs : List ℕ) (line : HeapLine) (es : List Element) (row : List Slot) : Type 0 where
  pub ps : List Placed
  pub stand : All (StandsAt line.text) ps
  pub elements : read.elements_at ps ≡ es
  pub slots : row ≡ map (slot_at xs line.from) ps

row-targets : (xs : List ℕ) (cells : List Cell) (from : ℕ) (ps : List Placed) → ((address : ℕ) → number_with xs address ≡ number_at cells address)
    → map slot_target (map (slot_at xs from) ps) ≡ map (target cells) (read.elements_at ps)
row-targets xs cells from [] same = refl
row-targets xs cells from (p ∷ ps) same = ap₂ (λ t ts. t ∷ ts) (settled-target xs cells p.element (from + p.at) p.len same) (row-targets xs cells from ps same)

no-range : (ss : List Slot) (from : ℕ) → slice_range ss from from ≡ []
no-range ss from = let none : from - from ≡ 0 = omega arith in ap (λ n. take n (drop from ss)) none

-- the slots behind those of the cells before, as far as the kind says
row-plain : (xs : List ℕ) (line : HeapLine) (form : Option HeapForm) (slots own : List Slot) (fs : List Found) (ps : List Placed) (from upto : ℕ) → own ≡ map (settled xs) (slots_of fs)
    → slice_range slots from upto ≡ own → All (StandsAt line.text) ps → read.elements_at ps ≡ elements_in form → fs ≡ map (found_at line.from) ps → IsRow xs line (elements_in form) (slice_range slots from upto)
row-plain xs line form slots own fs ps from upto own_is range stand elements found = record {
  ps = ps;
  stand = stand;
  elements = elements;
  slots = range ∙ own_is ∙ ap (λ l. map (settled xs) (slots_of l)) found ∙ map-three xs line.from ps;
}

kind-row : (xs : List ℕ) (line : HeapLine) (form : Option HeapForm) (slots own : List Slot) (fs : List Found) (from upto : ℕ) → AreIn line.from line.text form fs → own ≡ map (settled xs) (slots_of fs)
    → slice_range slots from upto ≡ own → IsRow xs line (elements_in form) (slice_range slots from (row_end (option_map kind_of form) from upto))
kind-row xs line (Some (SubBin address offset size)) slots own fs from upto a own_is range =
    record { ps = []; stand = All-nil (StandsAt line.text); elements = refl; slots = no-range slots from }
kind-row xs line form slots own fs from upto a own_is range = row-plain xs line form slots own fs a.ps from upto own_is range a.stand a.elements a.found

-- ---- a heap, by the numbers of its cells

count-few : (cells : List Cell) → length cells ≤ weight_of cells
count-few [] = omega arith
count-few (cell ∷ cells) = let few = count-few cells in omega (arith, few, sum_by-cons cell_weight cell cells)

-- the elements of a cell are among those of all
elements-few : (cells : List Cell) (i : ℕ) → length (elements_at cells i) ≤ weight_of cells
elements-few [] zero = omega arith
elements-few [] (suc i) = omega arith
elements-few (cell ∷ cells) zero = omega (arith, sum_by-cons cell_weight cell cells)
elements-few (cell ∷ cells) (suc i) = let few = elements-few cells i in omega (arith, few, sum_by-cons cell_weight cell cells)

module _ (h : Inside) (found : HeapMap) (is : the_invariant h) (view : the_view h ≡ found) where
  abbrev text : List ℕ
  text = text_of h.texts

  abbrev seam : ℕ
  seam = seam_of h.texts

  abbrev enc : Enc
  enc = h.texts.enc

  abbrev parts : List CellPart
  parts = h.parts.items

  abbrev kinds : List (Option Kind)
  kinds = h.kinds.items

  abbrev slots : List Slot
  slots = h.slots.items

  abbrev cells : List Cell
  cells = found.cells

  are : cells_at text enc parts ≡ cells
  are = ap (λ (m : HeapMap). m.cells) view

  lines-are : cells ≡ cells_in is.lines
  lines-are = sym are ∙ ap (cells_at text enc) is.parts_are ∙ cells-lines text seam enc is.beside 0 is.lines is.of_slots is.stand

  pub count-parts : length parts ≡ length cells
  count-parts = sym (length-map parts (cell_in text enc)) ∙ ap length are

  pub count-lines : length is.lines ≡ length cells
  count-lines = sym (length-map is.lines (λ (l : HeapLine). l.cell)) ∙ ap length (sym lines-are)

  pub count-kinds : length kinds ≡ length cells
  count-kinds = ap length is.kinds_are ∙ length-map is.lines line_kind ∙ count-lines

  pub weight-are : weight_of cells ≤ usual.dense
  weight-are = subst (λ l. weight_of l ≤ usual.dense) (sym lines-are) is.weight

  pub cells-few : length cells ≤ usual.dense
  cells-few = omega (arith, count-few cells, weight-are)

  pub distinct-are : IsDistinct nat_eq (addresses cells)
  distinct-are = subst (λ l. IsDistinct nat_eq (addresses l)) (sym lines-are) is.distinct

  pub number-of : (address : ℕ) → number_with (addresses_of parts) address ≡ number_at cells address
  number-of address =
      position-map (λ a. a == address) (λ (p : CellPart). p.address) parts
      ∙ sym (position-map (λ cell. cell.address == address) (cell_in text enc) parts) ∙ ap (λ l. number_at l address) are

  module _ (i : ℕ) (inside : i < length cells) where
    within : i < length is.lines
    within = omega (arith, inside, count-lines)

    form-is : form_at cells i ≡ (line_at is.lines i).cell.form
    form-is = ap (λ l. form_at l i) lines-are ∙ line-form is.lines i within

    pub kind-of : (k : Option Kind) → k ≡ get_or kinds i k → k ≡ option_map kind_of (form_at cells i)
    kind-of k read_is = read_is ∙ ap (λ l. get_or l i k) is.kinds_are ∙ kind-at is.lines i k within ∙ ap (option_map kind_of) (sym form-is)

    -- the text of its form
    pub part-of : (p : CellPart) → p ≡ get_or parts i p → IsPart seam (length text) p.at (p.at + p.size) × (form_of enc (slice_range text p.at (p.at + p.size)) ≡ form_at cells i)
    part-of p read_is =
        let line = line_at is.lines i in
        let fields = part-fields is.beside 0 is.lines i p within in
        let there = slots-place is.beside line is.of_slots in
        let same = read_is ∙ ap (λ l. get_or l i p) is.parts_are in
        let at : p.at ≡ line.from = ap (λ (q : CellPart). q.at) same ∙ fields.1 ∙ there.0 in
        let size : p.size ≡ length line.text = ap (λ (q : CellPart). q.size) same ∙ fields.2 ∙ there.1 in
        let stands = stands-at text seam enc is.lines i within is.stand in (
          subst (λ a. IsPart seam (length text) a (a + p.size)) (sym at) (subst (λ n. IsPart seam (length text) line.from (line.from + n)) (sym size) stands.part),
          ap₂ (λ a n. form_of enc (slice_range text a (a + n))) at size ∙ ap (form_of enc) stands.stands ∙ sym stands.form ∙ sym form-is,
        )

    -- its slots
    module _ (k : Option Kind) (from upto : ℕ) (kind_is : k ≡ get_or kinds i k) (from_is : from ≡ start_at parts i (length slots)) (upto_is : upto ≡ row_end k from (start_at parts (i + 1) (length slots))) where
      total : length slots ≡ 0 + length (flat_map line_leads is.lines)
      total =
          ap length is.slots_are ∙ length-map (slots_of is.fs) (settled (addresses_of parts)) ∙ length-map is.fs (λ (f : Found). slot_for f.lead f.at f.len)
          ∙ lines-size is.lines is.fs is.elements ∙ omega arith

      start : (j : ℕ) → j ≤ length is.lines → start_at parts j (length slots) ≡ length (flat_map line_leads (take j is.lines))
      start j few = ap (λ l. start_at l j (length slots)) is.parts_are ∙ start-parts is.beside 0 is.lines j (length slots) few total ∙ omega arith

      abbrev end : ℕ
      end = start_at parts (i + 1) (length slots)

      end-is : end ≡ length (flat_map line_leads (take (i + 1) is.lines))
      end-is = start (i + 1) (omega (arith, within))

      begin-is : from ≡ length (flat_map line_leads (take i is.lines))
      begin-is = from_is ∙ start i (omega (arith, within))

      more : from ≤ end
      more = let n = front-more line_leads is.lines i within in omega (arith, n, end-is, begin-is)

      most : end ≤ length slots
      most = let n = front-few line_leads is.lines (i + 1) in omega (arith, n, end-is, total)

      ends : (o : Option Kind) → from ≤ row_end o from end × row_end o from end ≤ length slots
      ends o = of (is_sub o)
        where
          of : (b : Bool) → from ≤ cond b from end × cond b from end ≤ length slots
          of true = (omega arith, omega (arith, more, most))
          of false = (more, most)

      pub row-bounds : (from ≤ upto) × (upto ≤ length slots)
      row-bounds = let bounds = ends k in (omega (arith, upto_is, bounds.0), omega (arith, upto_is, bounds.1))

      abbrev xs : List ℕ
      xs = addresses_of parts

      pub row-is : IsRow xs (line_at is.lines i) (elements_at cells i) (slice_range slots from upto)
      row-is =
          let line = line_at is.lines i in
          let m = length (flat_map line_leads (take i is.lines)) in
          let n = length (flat_map line_leads (take (i + 1) is.lines)) in
          let fs = slice_range is.fs m n in
          let kind : k ≡ line_kind line = kind_is ∙ ap (λ l. get_or l i k) is.kinds_are ∙ kind-at is.lines i k within in
          let range : slice_range slots from end ≡ map (settled xs) (slots_of fs) =
          ap₂ (slice_range slots) begin-is end-is ∙ ap (λ l. slice_range l m n) is.slots_are ∙ range-map (settled xs) (slots_of is.fs) m n
          ∙ ap (map (settled xs)) (range-map (λ (f : Found). slot_for f.lead f.at f.len) is.fs m n) in
          subst (λ es. IsRow xs line es (slice_range slots from upto)) (ap elements_in (sym form-is))
          (subst (λ u. IsRow xs line (elements_in line.cell.form) (slice_range slots from u)) (ap (λ o. row_end o from end) (sym kind) ∙ sym upto_is)
          (kind-row xs line line.cell.form slots (map (settled xs) (slots_of fs)) fs from end (line-range is.lines is.fs i within is.elements) refl range))

      pub row-target : map slot_target (slice_range slots from upto) ≡ map (target cells) (elements_at cells i)
      row-target =
          let row = row-is in
          ap (map slot_target) row.slots ∙ row-targets xs cells (line_at is.lines i).from row.ps number-of ∙ ap (map (target cells)) row.elements

      -- one of them
      pub row-kid : IsLongest → IsRead → (n : ℕ) (d : Slot) → n < length (elements_at cells i) → IsKidOf text seam cells i n (get_or (slice_range slots from upto) n d)
      row-kid longest spelled n d place =
          let row = row-is in
          let line = line_at is.lines i in
          let none : Placed = record { at = 0; len = 0; element = Nil } in
          let count : length row.ps ≡ length (elements_at cells i) = sym (length-map row.ps (λ (p : Placed). p.element)) ∙ ap length row.elements in
          let there : n < length row.ps = omega (arith, place, count) in
          let p = get_or row.ps n none in
          let slot_is : get_or (slice_range slots from upto) n d ≡ slot_at xs line.from p = ap (λ l. get_or l n d) row.slots ∙ get_or-map (slot_at xs line.from) row.ps n none d there in
          let stands = stands-at text seam enc is.lines i within is.stand in
          subst (IsKidOf text seam cells i n) (sym slot_is) (record {
            element = p.element;
            stands = ap (λ l. slice_get l n) (sym row.elements) ∙ slice_get-map (λ (q : Placed). q.element) row.ps n ∙ ap (option_map (λ (q : Placed). q.element)) (slice_get-get_or row.ps n none there);
            spells = placed-spells text seam enc xs line p stands (spelled-there line.text p longest spelled (row.stand n none there));
            target_is = settled-target xs cells p.element (line.from + p.at) p.len number-of;
          })

      row-size : length (slice_range slots from upto) ≡ length (elements_at cells i)
      row-size = sym (length-map (slice_range slots from upto) slot_target) ∙ ap length row-target ∙ length-map (elements_at cells i) (target cells)

      pub row-few : length (slice_range slots from upto) ≤ usual.dense
      row-few = omega (arith, row-size, elements-few cells i, weight-are)

      row-before : (n : ℕ) → n < length (elements_at cells i) → n < upto - from
      row-before n place = omega (arith, place, row-size, length-take (upto - from) (drop from slots))

      pub row-inside : (n : ℕ) → n < length (elements_at cells i) → from + n < length slots
      row-inside n place = omega (arith, row-before n place, row-bounds.1)

      pub row-slot : IsLongest → IsRead → (n : ℕ) (s : Slot) → n < length (elements_at cells i) → s ≡ get_or slots (from + n) s → IsKidOf text seam cells i n s
      row-slot longest spelled n s place read_is =
          let there : get_or (slice_range slots from upto) n s ≡ s =
          get_or-take (upto - from) (drop from slots) n s (row-before n place) ∙ get_or-drop from slots n s ∙ sym read_is in
          subst (IsKidOf text seam cells i n) there (row-kid longest spelled n s place)

-- ---- the heap that is made

pub made-heap : (texts : Texts) (ordered : Ordered) (slots resolved : List Slot) (order : List ℕ) → length texts.heap.items ≤ usual.section → length texts.literals.items ≤ usual.section
    → IsSettledIn texts ordered → ((fs : List Found) → Keeps ordered.settled.held.elements fs → slots ≡ slots_of fs) → resolved ≡ map (settled (addresses_of ordered.settled.held.parts.items)) slots → IsOrder (addresses_of ordered.settled.held.parts.items) order
    → IsHeap (text_of texts) (seam_of texts) texts.enc ordered.settled.held.parts.items ordered.settled.held.kinds.items resolved order ordered.settled.own
made-heap texts ordered slots resolved order heap literals settled kept resolved_is ordered_is =
    let held = ordered.settled.held in
    let holds = settled.holds in
    let all = line_cells texts.enc texts.heap.items ++ line_cells texts.enc texts.literals.items in
    let fs = holds.held_is.elements.fs in
    record {
      lines = holds.lines;
      fs = fs;
      beside = held.elements;
      of_slots = holds.slots;
      parts_are = holds.held_is.parts;
      kinds_are = holds.held_is.kinds;
      elements = holds.held_is.elements.are;
      slots_are = resolved_is ∙ ap (map (Rattle.cell_records.specs.Resolving.settled (addresses_of held.parts.items))) (kept fs holds.held_is.elements.keeps);
      stand = holds.stand;
      heap_size = heap;
      size = omega (arith, literals, length-append texts.heap.items texts.literals.items);
      own_few =
          let few = ap length (first_cells-append [] (line_cells texts.enc texts.heap.items) (line_cells texts.enc texts.literals.items)) in
          omega (arith, settled.own_is, few, length-append {A = Cell}, length-map holds.lines (λ (l : HeapLine). l.cell), ap length holds.cells_are);
      weight = let weigh = ap weight_of holds.cells_are in let first = weight-first [] all in omega (arith, weigh, first, settled.weight);
      distinct = subst (λ l. IsDistinct nat_eq (addresses l)) (sym holds.cells_are) (first-distinct [] all);
      order_is = ordered_is;
    }

pub slots-kept : (e : Elements) (slots : Vec Slot) (fs : List Found) → e ≡ kept.Slots slots → Keeps e fs → slots.items ≡ slots_of fs
slots-kept e kept_slots fs is keeps = subst (λ (x : Elements). KeepsThem x fs) is keeps.are

pub made-cells : (texts : Texts) (ordered : Ordered) → IsSettledIn texts ordered
    → cells_at (text_of texts) texts.enc ordered.settled.held.parts.items ≡ cells_of texts.enc texts.heap.items texts.literals.items
made-cells texts ordered settled =
    let holds = settled.holds in
    ap (cells_at (text_of texts) texts.enc) holds.held_is.parts
    ∙ cells-lines (text_of texts) (seam_of texts) texts.enc ordered.settled.held.elements 0 holds.lines holds.slots holds.stand ∙ holds.cells_are
