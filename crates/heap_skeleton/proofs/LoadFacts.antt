-- The skeleton of the heap lines of two sections.
use Rattle.std.proofs.Common.{◌≡◌, ℕ, ◌+◌, ◌-◌, ◌≤◌, ◌==◌, Bool, true, false, cond, List, [], ◌∷◌, ◌++◌, length, take, map, Option, None, Some, refl, sym, ◌∙◌, ap, ap₂, arith, length-append}
use Rattle.std.specs.List.{cons_option, filter_map, list_any}
use Rattle.std.specs.Option.{option_map}
use Rattle.std.proofs.lemmas.List.{length-map, map-append}
use Rattle.std.proofs.Math.Seq.{take-append_seam}
use Rattle.binary_payloads.specs.declared.enc.Enc.{Enc}
use Rattle.dump_io.specs.Dumps.{Now}
use Rattle.dump_io.specs.Lines.{lines_from, raw_lines, text_of}
use Rattle.dump_sections.specs.Bodies.{body_in, body_start}
use Rattle.dump_sections.specs.Index.{Contents}
use Rattle.dump_sections.specs.Sections.{Section}
use Rattle.field_lines.specs.Lines.{text_line}
use Rattle.heap_cells.specs.Cells.{Cell, addresses, cell_of, first_cells, kind_of, line_cells, spelled_cell}
use Rattle.heap_cells.specs.Loading.{enc_of}
use Rattle.heap_cells.specs.Places.{placed_line, placed_lines}
use Rattle.term_forms.specs.Words.{led_of}
use Rattle.heap_graph.specs.declared.held.Held.{Held}
use Rattle.cell_graphs.specs.Graphs.{graph_of}
use Rattle.heap_skeleton.specs.Inner.Hearing.{HoldsSections, section_lines}
use Rattle.heap_graph.specs.Held.{HeapLine, first_lines, heap_line_with, heap_lines}
use Rattle.heap_skeleton.specs.Inner.Shown.{skeleton_with}
use Rattle.heap_skeleton.specs.Skeletons.{SkeletonMap, first_places, skeleton_in}
use Rattle.heap_graph.specs.Words.{words_in}
use Rattle.heap_graph.specs.Laws.Laid.{lines-count}
use Rattle.heap_skeleton.proofs.ShownFacts.{cells_in, map-two, shown-equal}

-- ---- the cells of lines, and where these begin

abbrev place_of : HeapLine → ℕ × ℕ
place_of line = (line.cell.address, line.at)

abbrev line_with : Enc → ℕ → List ℕ → ℕ × List ℕ → HeapLine
line_with enc at text led = heap_line_with enc at (at + (length text - length led.1)) led

cell-of-line : (enc : Enc) (at : ℕ) (text : List ℕ) (o : Option (ℕ × List ℕ)) (lines : List HeapLine) (cells : List Cell) → cells_in lines ≡ cells
    → cells_in (cons_option (option_map (line_with enc at text) o) lines) ≡ cons_option (option_map (spelled_cell enc) o) cells
cell-of-line enc at text None lines cells is = is
cell-of-line enc at text (Some led) lines cells is = ap (λ l. spelled_cell enc led ∷ l) is

cells-raw : (enc : Enc) (at from : ℕ) (raws : List (List ℕ)) → cells_in (heap_lines enc (lines_from at raws)) ≡ filter_map (cell_of enc) (map text_line (lines_from from raws))
cells-raw enc at from [] = refl
cells-raw enc at from (raw ∷ raws) =
    cell-of-line enc at (text_of raw) (led_of (text_of raw)) (heap_lines enc (lines_from (at + length raw) raws)) (filter_map (cell_of enc) (map text_line (lines_from (from + length raw) raws)))
    (cells-raw enc (at + length raw) (from + length raw) raws)

place-of-line : (enc : Enc) (at : ℕ) (text : List ℕ) (o : Option (ℕ × List ℕ)) (lines : List HeapLine) (places : List (ℕ × ℕ)) → map place_of lines ≡ places
    → map place_of (cons_option (option_map (line_with enc at text) o) lines) ≡ cons_option (option_map (λ (led : ℕ × List ℕ). (led.0, at)) o) places
place-of-line enc at text None lines places is = is
place-of-line enc at text (Some led) lines places is = ap (λ l. (led.0, at) ∷ l) is

places-raw : (enc : Enc) (base at : ℕ) (raws : List (List ℕ)) → map place_of (heap_lines enc (lines_from (base + at) raws)) ≡ filter_map (placed_line base) (map text_line (lines_from at raws))
places-raw enc base at [] = refl
places-raw enc base at (raw ∷ raws) =
    let next : base + at + length raw ≡ base + (at + length raw) = omega arith in
    place-of-line enc (base + at) (text_of raw) (led_of (text_of raw)) (heap_lines enc (lines_from (base + at + length raw) raws)) (filter_map (placed_line base) (map text_line (lines_from (at + length raw) raws)))
    (ap (λ n. map place_of (heap_lines enc (lines_from n raws))) next ∙ places-raw enc base (at + length raw) raws)

pub section-cells : (enc : Enc) (dump : List ℕ) (found : Option Section) → cells_in (section_lines enc dump found) ≡ line_cells enc (body_in dump found)
section-cells enc dump found = cells-raw enc (body_start found) 0 (raw_lines (body_in dump found))

pub section-places : (enc : Enc) (dump : List ℕ) (found : Option Section) → map place_of (section_lines enc dump found) ≡ placed_lines (body_start found) (body_in dump found)
section-places enc dump found =
    let base = body_start found in
    let start : base ≡ base + 0 = omega arith in
    ap (λ n. map place_of (heap_lines enc (lines_from n (raw_lines (body_in dump found))))) start ∙ places-raw enc base 0 (raw_lines (body_in dump found))

-- ---- the first lines

cells-cond : (b : Bool) (line : HeapLine) (lines : List HeapLine) (cells : List Cell) → cells_in lines ≡ cells → cells_in (cond b lines (line ∷ lines)) ≡ cond b cells (line.cell ∷ cells)
cells-cond true line lines cells is = is
cells-cond false line lines cells is = ap (λ l. line.cell ∷ l) is

first-are-cells : (seen : List ℕ) (lines : List HeapLine) → cells_in (first_lines seen lines) ≡ first_cells seen (cells_in lines)
first-are-cells seen [] = refl
first-are-cells seen (line ∷ lines) =
    cells-cond (list_any (λ address. address == line.cell.address) seen) line (first_lines (seen ++ line.cell.address ∷ []) lines) (first_cells (seen ++ line.cell.address ∷ []) (cells_in lines))
    (first-are-cells (seen ++ line.cell.address ∷ []) lines)

lines-cond : (b : Bool) (line : HeapLine) (lines : List HeapLine) (places : List ℕ) → map (λ (l : HeapLine). l.at) lines ≡ places → map (λ (l : HeapLine). l.at) (cond b lines (line ∷ lines)) ≡ cond b places (line.at ∷ places)
lines-cond true line lines places is = is
lines-cond false line lines places is = ap (λ l. line.at ∷ l) is

first-are-places : (seen : List ℕ) (lines : List HeapLine) → map (λ (l : HeapLine). l.at) (first_lines seen lines) ≡ first_places seen (map place_of lines)
first-are-places seen [] = refl
first-are-places seen (line ∷ lines) =
    lines-cond (list_any (λ address. address == line.cell.address) seen) line (first_lines (seen ++ line.cell.address ∷ []) lines) (first_places (seen ++ line.cell.address ∷ []) (map place_of lines))
    (first-are-places (seen ++ line.cell.address ∷ []) lines)

-- ---- the skeleton

abbrev shown_cells : ℕ → List Cell → List ℕ → SkeletonMap
shown_cells own cells lines = record {
  own = own;
  addresses = addresses cells;
  lines = lines;
  kinds = map (λ (c : Cell). option_map kind_of c.form) cells;
  words = map (λ (c : Cell). words_in c.form) cells;
  leads = graph_of cells;
}

with-cells : (own : ℕ) (lines : List HeapLine) → skeleton_with own lines ≡ shown_cells own (cells_in lines) (map (λ (l : HeapLine). l.at) lines)
with-cells own lines =
    let cell = λ (l : HeapLine). l.cell in
    shown-equal own _ _ _ _ _ _ _ _ _ _ (sym (map-two (λ (c : Cell). c.address) cell lines)) refl (sym (map-two (λ (c : Cell). option_map kind_of c.form) cell lines))
    (sym (map-two (λ (c : Cell). words_in c.form) cell lines)) refl

pub skeleton-sections : (enc : Enc) (dump : List ℕ) (index : Contents) (heap literals : Option Section) (own first : ℕ) (hs ls : List HeapLine) → enc ≡ enc_of index.version → hs ≡ section_lines enc dump heap
    → ls ≡ section_lines enc dump literals → first ≡ length hs → own ≡ length (first_lines [] (take first (hs ++ ls))) → skeleton_with own (first_lines [] (hs ++ ls)) ≡ skeleton_in dump index heap literals
skeleton-sections enc dump index heap literals own first hs ls enc_is heap_are literals_are first_is own_is =
    let all : cells_in (hs ++ ls) ≡ line_cells enc (body_in dump heap) ++ line_cells enc (body_in dump literals) =
    map-append (λ (l : HeapLine). l.cell) hs ls ∙ ap₂ (λ a b. a ++ b) (ap cells_in heap_are ∙ section-cells enc dump heap) (ap cells_in literals_are ∙ section-cells enc dump literals) in
    let places : map place_of (hs ++ ls) ≡ placed_lines (body_start heap) (body_in dump heap) ++ placed_lines (body_start literals) (body_in dump literals) =
    map-append place_of hs ls ∙ ap₂ (λ a b. a ++ b) (ap (map place_of) heap_are ∙ section-places enc dump heap) (ap (map place_of) literals_are ∙ section-places enc dump literals) in
    let count : own ≡ length (first_cells [] (line_cells enc (body_in dump heap))) =
    own_is ∙ ap (λ n. length (first_lines [] (take n (hs ++ ls)))) first_is ∙ ap (λ l. length (first_lines [] l)) (take-append_seam hs ls)
    ∙ sym (length-map (first_lines [] hs) (λ (l : HeapLine). l.cell)) ∙ ap length (first-are-cells [] hs ∙ ap (first_cells []) (ap cells_in heap_are ∙ section-cells enc dump heap)) in
    with-cells own (first_lines [] (hs ++ ls))
    ∙ ap₂ (shown_cells own) (first-are-cells [] (hs ++ ls) ∙ ap (first_cells []) all) (first-are-places [] (hs ++ ls) ∙ ap (first_places []) places)
    ∙ ap (λ n. shown_cells n (first_cells [] (line_cells enc (body_in dump heap) ++ line_cells enc (body_in dump literals)))
    (first_places [] (placed_lines (body_start heap) (body_in dump heap) ++ placed_lines (body_start literals) (body_in dump literals)))) count
    ∙ ap (λ e. shown_cells (length (first_cells [] (line_cells e (body_in dump heap)))) (first_cells [] (line_cells e (body_in dump heap) ++ line_cells e (body_in dump literals)))
    (first_places [] (placed_lines (body_start heap) (body_in dump heap) ++ placed_lines (body_start literals) (body_in dump literals)))) enc_is

-- the process's own lines are among all
pub own-few : (enc : Enc) (now : Now) (heap literals : Option Section) (held : Held) (own : ℕ) → HoldsSections enc now heap literals held own → own ≤ length held.parts.items
own-few enc now heap literals held own holds =
    let count = lines-count (holds.heap_lines ++ holds.literal_lines) held holds.held_is in
    let size = length-append holds.heap_lines holds.literal_lines in
    omega (arith, count, size, holds.own_is)
