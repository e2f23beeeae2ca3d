-- Heap lines that are appended.
use Rattle.std.proofs.Common.{◌≡◌, ℕ, suc, ◌+◌, ◌-◌, List, [], ◌∷◌, ◌++◌, length, map, Option, None, Some, refl, sym, ◌∙◌, ap, ap₂, subst, arith, length-append, append_assoc}
use Rattle.std.specs.List.{cons_option, flat_map}
use Rattle.std.specs.Option.{option_map}
use Rattle.std.proofs.lemmas.List.{append-nil, map-append}
use Rattle.std.proofs.lemmas.List.Elements.{filter_map-append}
use Rattle.binary_payloads.specs.declared.enc.Enc.{Enc}
use Rattle.body_lines.specs.Lines.{lines_at}
use Rattle.cell_records.specs.declared.cells.Kind.{Kind}
use Rattle.dump_io.specs.Lines.{Line, lines_from, raw_lines, text_of}
use Rattle.term_forms.specs.ReadingForms.{form_of}
use Rattle.term_forms.specs.Words.{led_of}
use Rattle.heap_graph.specs.declared.elements.Elements.{Elements}
use Rattle.heap_graph.specs.declared.elements.Elements.TheVariants as kept
use Rattle.heap_graph.specs.declared.forms.Read.{Read}
use Rattle.heap_graph.specs.declared.held.CellPart.{CellPart}
use Rattle.heap_graph.specs.declared.held.Held.{Held}
use Rattle.heap_graph.specs.Held.{HeapLine, chosen, heap_line_of, heap_line_with, heap_lines, line_kind, line_leads, parts_of, place_of, size_of, Gains, GainsElements, IsHeld}
use Rattle.heap_graph.specs.Elements.{count, IsAlike, PushesForm}
use Rattle.heap_graph.specs.Reading.{read_of}
use Rattle.heap_graph.specs.Words.{words_in}
use Rattle.heap_graph.specs.Laws.Elements.{AreInLines-one, GainsElements-none, GainsElements-then, HoldsElements-then, alike-parts, appended-alike, gained-count, held-size}

pub length-parts : (e : Elements) (first : ℕ) (lines : List HeapLine) → length (parts_of e first lines) ≡ length lines
length-parts e first [] = refl
length-parts e first (line ∷ lines) = ap suc (length-parts e (first + length (line_leads line)) lines)

parts-append : (e : Elements) (first : ℕ) (xs ys : List HeapLine) → parts_of e first (xs ++ ys) ≡ parts_of e first xs ++ parts_of e (first + length (flat_map line_leads xs)) ys
parts-append e first [] ys = let same : first + 0 ≡ first = omega arith in ap (λ n. parts_of e n ys) (sym same)
parts-append e first (x ∷ xs) ys =
    let size = length-append (line_leads x) (flat_map line_leads xs) in
    let same : first + length (line_leads x) + length (flat_map line_leads xs) ≡ first + length (line_leads x ++ flat_map line_leads xs) = omega (arith, size) in
    ap (λ l. parts_of e first (x ∷ []) ++ l) (parts-append e (first + length (line_leads x)) xs ys ∙ ap (λ n. parts_of e (first + length (line_leads x)) xs ++ parts_of e n ys) same)

pub Gains-none : (a : Held) → Gains a a []
Gains-none a = record { parts = sym (append-nil a.parts.items); kinds = sym (append-nil a.kinds.items); elements = GainsElements-none a.elements }

pub Gains-then : (a b c : Held) (xs ys : List HeapLine) → Gains a b xs → Gains b c ys → Gains a c (xs ++ ys)
Gains-then a b c xs ys one other =
    let start = count a.elements in
    let alike = appended-alike a.elements b.elements one.elements.fs one.elements.appended in
    let total : count b.elements ≡ start + length (flat_map line_leads xs) = gained-count a.elements b.elements xs one.elements in
    record {
      parts =
          other.parts ∙ ap₂ (λ l m. l ++ m) one.parts (sym (alike-parts a.elements b.elements (count b.elements) ys alike))
          ∙ append_assoc a.parts.items (parts_of a.elements start xs) (parts_of a.elements (count b.elements) ys)
          ∙ ap (λ l. a.parts.items ++ l) (ap (λ n. parts_of a.elements start xs ++ parts_of a.elements n ys) total ∙ sym (parts-append a.elements start xs ys));
      kinds =
          other.kinds ∙ ap (λ l. l ++ map line_kind ys) one.kinds ∙ append_assoc a.kinds.items (map line_kind xs) (map line_kind ys)
          ∙ ap (λ l. a.kinds.items ++ l) (sym (map-append line_kind xs ys));
      elements = GainsElements-then a.elements b.elements c.elements xs ys one.elements other.elements;
    }

-- what is held, and what was appended to it
pub IsHeld-then : (old new : Held) (xs ys : List HeapLine) → IsHeld xs old → Gains old new ys → IsHeld (xs ++ ys) new
IsHeld-then old new xs ys held gains = record {
  parts =
      gains.parts ∙ ap (λ l. l ++ parts_of old.elements (count old.elements) ys) held.parts
      ∙ ap (λ n. parts_of old.elements 0 xs ++ parts_of old.elements n ys)
      (held-size xs old.elements held.elements ∙ (let same : length (flat_map line_leads xs) ≡ 0 + length (flat_map line_leads xs) = omega arith in same))
      ∙ sym (parts-append old.elements 0 xs ys)
      ∙ alike-parts old.elements new.elements 0 (xs ++ ys) (appended-alike old.elements new.elements gains.elements.fs gains.elements.appended);
  kinds = gains.kinds ∙ ap (λ l. l ++ map line_kind ys) held.kinds ∙ sym (map-append line_kind xs ys);
  elements = HoldsElements-then old.elements new.elements xs ys held.elements gains.elements;
}

-- ---- one more line

-- the heap line of an address and the text behind it, in a line of a text before which so many bytes stand
abbrev line_with : Enc → ℕ → List ℕ → ℕ × List ℕ → HeapLine
line_with enc at text led = heap_line_with enc at (at + (length text - length led.1)) led

one-line : (enc : Enc) (at : ℕ) (raw : List ℕ) (led : ℕ × List ℕ) → led_of (text_of raw) ≡ Some led → heap_lines enc (lines_from at (raw ∷ [])) ≡ line_with enc at (text_of raw) led ∷ []
one-line enc at raw led is = ap (λ o. cons_option (option_map (line_with enc at (text_of raw)) o) []) is

no-line : (enc : Enc) (at : ℕ) (raw : List ℕ) → led_of (text_of raw) ≡ None → heap_lines enc (lines_from at (raw ∷ [])) ≡ []
no-line enc at raw is = ap (λ o. cons_option (option_map (line_with enc at (text_of raw)) o) []) is

pub Gains-no-line : (a : Held) (enc : Enc) (at : ℕ) (raw : List ℕ) → led_of (text_of raw) ≡ None → Gains a a (heap_lines enc (lines_from at (raw ∷ [])))
Gains-no-line a enc at raw is = subst (Gains a a) (sym (no-line enc at raw is)) (Gains-none a)

pub Gains-line : (old new : Held) (enc : Enc) (at from : ℕ) (raw text : List ℕ) (led : ℕ × List ℕ) → led_of (text_of raw) ≡ Some led → text ≡ text_of raw → from ≡ at + (length text - length led.1)
    → Gains old new (heap_line_with enc at from led ∷ []) → Gains old new (heap_lines enc (lines_from at (raw ∷ [])))
Gains-line old new enc at from raw text led is text_is from_is gains =
    let place : from ≡ at + (length (text_of raw) - length led.1) = from_is ∙ ap (λ t. at + (length t - length led.1)) text_is in
    subst (Gains old new) (ap (λ n. heap_line_with enc at n led ∷ []) place ∙ sym (one-line enc at raw led is)) gains

-- a cell behind its elements
pub Gains-part : (old new : Held) (line : HeapLine) (part : CellPart) (kind : Option Kind) → GainsElements old.elements new.elements (line ∷ [])
    → part ≡ record { address = line.cell.address; at = place_of old.elements line; first = count old.elements; size = size_of old.elements line } → kind ≡ line_kind line
    → new.parts.items ≡ old.parts.items ++ part ∷ [] → new.kinds.items ≡ old.kinds.items ++ kind ∷ [] → Gains old new (line ∷ [])
Gains-part old new line part kind elements part_is kind_is parts kinds = record {
  parts = parts ∙ ap (λ p. old.parts.items ++ p ∷ []) part_is;
  kinds = kinds ∙ ap (λ k. old.kinds.items ++ k ∷ []) kind_is;
  elements = elements;
}

-- where a cell is found, and its size
chosen-parts : (a b : Elements) (line : HeapLine) (words len : ℕ) → IsAlike a b → words ≡ words_in line.cell.form → len ≡ length line.text
    → chosen b (line.at, words) (line.from, len) ≡ (place_of a line, size_of a line)
chosen-parts (kept.Leads a) (kept.Leads b) line words len alike words_are len_is = ap (λ w. (line.at, w)) words_are
chosen-parts (kept.Slots a) (kept.Slots b) line words len alike words_are len_is = ap (λ n. (line.from, n)) len_is
chosen-parts (kept.Leads a) (kept.Slots b) line words len alike words_are len_is = absurd alike
chosen-parts (kept.Slots a) (kept.Leads b) line words len alike words_are len_is = absurd alike

pub Gains-cell : (old new : Held) (mid : Elements) (enc : Enc) (at from : ℕ) (led : ℕ × List ℕ) (first len size : ℕ) (pair : ℕ × ℕ) (read : Read)
    → PushesForm from led.1 old.elements mid (form_of enc led.1) → read ≡ read_of (form_of enc led.1) → first ≡ count old.elements → len ≡ length led.1
    → pair ≡ chosen mid (at, read.words) (from, len) → size ≡ pair.1
    → new.parts.items ≡ old.parts.items ++ (record { address = led.0; at = pair.0; first = first; size = size }) ∷ [] → new.kinds.items ≡ old.kinds.items ++ read.kind ∷ [] → new.elements ≡ mid
    → Gains old new (heap_line_with enc at from led ∷ [])
Gains-cell old new mid enc at from led first len size pair read pushed read_is first_is len_is pair_is size_is parts kinds elements =
    let line = heap_line_with enc at from led in
    let alike = appended-alike old.elements mid pushed.fs pushed.appended in
    let both = pair_is ∙ chosen-parts old.elements mid line read.words len alike (ap (λ (r : Read). r.words) read_is) len_is in
    Gains-part old new line (record { address = led.0; at = pair.0; first = first; size = size }) read.kind
    (subst (λ (e : Elements). GainsElements old.elements e (line ∷ [])) (sym elements) (record { fs = pushed.fs; are = AreInLines-one line pushed.fs pushed.are; appended = pushed.appended }))
    (ap (λ n. record { address = led.0; at = pair.0; first = first; size = n }) size_is ∙ ap₂ (λ f (p : ℕ × ℕ). record { address = led.0; at = p.0; first = f; size = p.1 }) first_is both)
    (ap (λ (r : Read). r.kind) read_is) parts kinds

-- ---- the lines of a run

-- the heap lines in front of a rest of a run were appended, which begins at an offset
pub record TookFront (enc : Enc) (old new : Held) (at : ℕ) (run : List ℕ) (line : ℕ) (rest : List ℕ) : Type 0 where
  pub heard : List Line
  pub parts : lines_at at run ≡ heard ++ lines_at line rest
  pub place : line + length rest ≡ at + length run
  pub gains : Gains old new (heap_lines enc heard)

pub TookFront-none : (enc : Enc) (a : Held) (at : ℕ) (run : List ℕ) → TookFront enc a a at run at run
TookFront-none enc a at run = record { heard = []; parts = refl; place = refl; gains = Gains-none a }

pub TookFront-more : (enc : Enc) (a b c : Held) (at : ℕ) (run : List ℕ) (line : ℕ) (rest raw behind : List ℕ) (next : ℕ) → raw_lines rest ≡ raw ∷ raw_lines behind → next ≡ line + length raw
    → length rest ≡ length raw + length behind → TookFront enc a b at run line rest → Gains b c (heap_lines enc (lines_from line (raw ∷ []))) → TookFront enc a c at run next behind
TookFront-more enc a b c at run line rest raw behind next first next_is sizes so_far one =
    let lines = lines_from line (raw ∷ []) in
    record {
      heard = so_far.heard ++ lines;
      parts =
          so_far.parts ∙ ap (λ l. so_far.heard ++ lines_from line l) first ∙ ap (λ n. so_far.heard ++ (lines ++ lines_at n behind)) (sym next_is)
          ∙ sym (append_assoc so_far.heard lines (lines_at next behind));
      place = omega (arith, so_far.place, next_is, sizes);
      gains = subst (Gains a c) (sym (filter_map-append (heap_line_of enc) so_far.heard lines)) (Gains-then a b c (heap_lines enc so_far.heard) (heap_lines enc lines) so_far.gains one);
    }

pub TookFront-all : (enc : Enc) (a b : Held) (at : ℕ) (run : List ℕ) (line : ℕ) → TookFront enc a b at run line [] → Gains a b (heap_lines enc (lines_at at run))
TookFront-all enc a b at run line so_far = subst (λ l. Gains a b (heap_lines enc l)) (sym (so_far.parts ∙ append-nil so_far.heard)) so_far.gains
