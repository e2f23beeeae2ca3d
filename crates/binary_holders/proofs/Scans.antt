-- A heap is counted line by line, and piece by piece.
use Rattle.std.proofs.Common.{◌≡◌, ℕ, ◌+◌, ◌≤◌, List, [], ◌∷◌, ◌++◌, length, Option, None, Some, refl, sym, ◌∙◌, ap, arith, append_assoc, append-nil}
use Rattle.std.specs.Prelude.{map}
use Rattle.std.specs.List.{filter_map, cons_option}
use Rattle.std.specs.Option.{option_to_list, option_map, option_and_then}
use Rattle.std.proofs.lemmas.List.Elements.{filter_map-append}
use Rattle.dump_io.specs.Laws.Lines.{length-raw_lines}
use Rattle.dump_io.specs.Lines.{raw_lines, lines_from, text_of}
use Rattle.field_lines.specs.Lines.{text_line}
use Rattle.heap_cells.specs.Cells.{Cell, cell_of, spelled_cell}
use Rattle.binary_payloads.specs.declared.enc.Enc.{Enc}
use Rattle.term_forms.specs.ReadingForms.{form_of}
use Rattle.term_forms.specs.Words.{led_of}
use Rattle.binary_holders.specs.declared.targets.Binary.{Binary}
use Rattle.binary_holders.specs.declared.counts.Counts.{Counts}
use Rattle.binary_holders.specs.declared.texts.Reference.{Reference}
use Rattle.binary_holders.specs.HeapReferences.{referred, references}
use Rattle.binary_holders.specs.Inner.Lines.{line_reference, line_references}
use Rattle.binary_holders.specs.Inner.Counting.{Adds}
use Rattle.binary_holders.proofs.LineFacts.{one-more}
use Rattle.binary_holders.proofs.CountFacts.{Adds-then}

-- ---- line by line

-- of some bytes all was counted but what the last of them refer to
pub record AddedSome (enc : Enc) (binaries : List Binary) (old new : Counts) (bytes rest : List ℕ) : Type 0 where
  pub added : List Reference
  pub adds : Adds binaries old new added
  pub whole : line_references enc bytes ≡ added ++ line_references enc rest

pub some-more : (enc : Enc) (binaries : List Binary) (old mid new : Counts) (bytes rest behind : List ℕ) (more : List Reference) → AddedSome enc binaries old mid bytes rest
    → line_references enc rest ≡ more ++ line_references enc behind → Adds binaries mid new more → AddedSome enc binaries old new bytes behind
some-more enc binaries old mid new bytes rest behind more some next one = record {
  added = some.added ++ more;
  adds = Adds-then binaries old mid new some.added more some.adds one;
  whole = some.whole ∙ ap (λ l. some.added ++ l) next ∙ sym (append_assoc some.added more (line_references enc behind));
}

-- ---- the lines of a body

reference-spelled : (enc : Enc) (o : Option (ℕ × List ℕ)) → (cell : Option Cell) → cell ≡ option_map (spelled_cell enc) o → (xs : List Reference)
    → filter_map (λ (c : Cell). referred c.address c.form) (option_to_list cell) ++ xs ≡ option_to_list (option_and_then (λ (led : ℕ × List ℕ). referred led.0 (form_of enc led.1)) o) ++ xs
reference-spelled enc None cell is xs = ap (λ c. filter_map (λ (c : Cell). referred c.address c.form) (option_to_list c) ++ xs) is
reference-spelled enc (Some led) cell is xs =
    ap (λ c. filter_map (λ (c : Cell). referred c.address c.form) (option_to_list c) ++ xs) is
    ∙ ap (λ l. l ++ xs) (one-more (λ (c : Cell). referred c.address c.form) (spelled_cell enc led) [] ∙ append-nil (option_to_list (referred led.0 (form_of enc led.1))))

lines-same : (enc : Enc) (at : ℕ) (raws : List (List ℕ))
    → filter_map (λ (cell : Cell). referred cell.address cell.form) (filter_map (cell_of enc) (map text_line (lines_from at raws))) ≡ filter_map (line_reference enc) raws
lines-same enc at [] = refl
lines-same enc at (raw ∷ raws) =
    let rest = map text_line (lines_from (at + length raw) raws) in
    let line = text_line (record { at = at; raw = raw }) in
    ap (filter_map (λ (cell : Cell). referred cell.address cell.form)) (one-more (cell_of enc) line rest)
    ∙ filter_map-append (λ (cell : Cell). referred cell.address cell.form) (option_to_list (cell_of enc line)) (filter_map (cell_of enc) rest)
    ∙ reference-spelled enc (led_of (text_of raw)) (cell_of enc line) refl (filter_map (λ (cell : Cell). referred cell.address cell.form) (filter_map (cell_of enc) rest))
    ∙ ap (λ l. option_to_list (line_reference enc raw) ++ l) (lines-same enc (at + length raw) raws)
    ∙ sym (one-more (line_reference enc) raw raws)

pub references-of-lines : (enc : Enc) (body : List ℕ) → references enc body ≡ line_references enc body
references-of-lines enc body = lines-same enc 0 (raw_lines body)

-- a body refers to no more binaries than it has bytes
few-kept : (h : List ℕ → Option Reference) (lines : List (List ℕ)) → length (filter_map h lines) ≤ length lines
few-kept h [] = omega arith
few-kept h (line ∷ lines) =
    elim (h line) as (λ o. length (cons_option o (filter_map h lines)) ≤ length (line ∷ lines))
    [ None ↦ omega (arith, few-kept h lines) | Some n ↦ omega (arith, few-kept h lines) ]

pub few-references : (enc : Enc) (body : List ℕ) → length (references enc body) ≤ length body
few-references enc body = omega (arith, ap length (references-of-lines enc body), few-kept (line_reference enc) (raw_lines body), length-raw_lines body)
