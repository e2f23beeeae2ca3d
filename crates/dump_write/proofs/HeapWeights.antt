-- The heap lines and elements of a body are no more than half of its bytes.
use Rattle.std.proofs.Common.{◌≡◌, ℕ, ◌+◌, ◌-◌, ◌*◌, ◌≤◌, List, [], ◌∷◌, length, map, drop, Option, None, Some, refl, subst, arith, length-append, length-take, length-drop}
use Rattle.std.specs.Prelude.{◌↔◌}
use Rattle.std.specs.List.{concat, cons_option, filter_map, sum_by}
use Rattle.std.specs.Option.{option_map}
use Rattle.std.proofs.lemmas.List.Sums.{sum_by-cons, sum_by-append}
use Rattle.dump_io.specs.Laws.Lines.{length-text_of, AreLines-raw}
use Rattle.dump_io.specs.Lines.{raw_lines, lines_from}
use Rattle.field_lines.specs.Lines.{TextLine, text_line, text_lines}
use Rattle.heap_cells.specs.Cells.{Cell, spelled_cell, cell_of, line_cells, elements_in, cell_weight, weight_of, weight}
use Rattle.dump_sections.specs.Bodies.{body_in}
use Rattle.dump_sections.specs.Sections.{Section}
use Rattle.binary_payloads.specs.declared.enc.Enc.{Enc}
use Rattle.binary_payloads.specs.declared.enc.Enc.TheVariants.{Hex, Base64}
use Rattle.term_forms.specs.Forms.{HeapForm, IsForm}
use Rattle.term_forms.specs.ReadingForms.{form_of}
use Rattle.term_forms.specs.Words.{led_of, IsLed}
use Rattle.dump_write.proofs.Weights.{led_bytes, form_bytes}

texts-le : (at : ℕ) (raws : List (List ℕ)) → sum_by (λ (l : TextLine). length l.text) (map text_line (lines_from at raws)) ≤ length (concat raws)
texts-le at [] = omega arith
texts-le at (raw ∷ raws) =
    omega (
      arith,
      sum_by-cons (λ (l : TextLine). length l.text) (text_line (record { at = at; raw = raw })) (map text_line (lines_from (at + length raw) raws)),
      length-text_of raw,
      texts-le (at + length raw) raws,
      length-append raw (concat raws),
    )

body_texts-le : (body : List ℕ) → sum_by (λ (l : TextLine). length l.text) (text_lines body) ≤ length body
body_texts-le body = subst (λ l. sum_by (λ (t : TextLine). length t.text) (text_lines body) ≤ length l) (AreLines-raw body).together (texts-le 0 (raw_lines body))

part-le : (dump : List ℕ) (section : Option Section) → length (body_in dump section) ≤ length dump
part-le dump None = omega arith
part-le dump (Some section) = omega (arith, length-take (section.end - section.body) (drop section.body dump), length-drop section.body dump)

-- what holds of both encodings holds of each
pub for_both : (P : Enc → Type 0) → P Hex → P Base64 → (enc : Enc) → P enc
for_both P hex base64 Hex = hex
for_both P hex base64 Base64 = base64

module _ (led_is : (text : List ℕ) (n : ℕ) (rest : List ℕ) → (led_of text ≡ Some (n, rest)) ↔ IsLed text n rest)
    (form_is : (enc : Enc) (text : List ℕ) (f : HeapForm) → (form_of enc text ≡ Some f) ↔ IsForm enc text f) where
  elements_bytes : (enc : Enc) (text : List ℕ) (found : Option HeapForm) → form_of enc text ≡ found → 2 * length (elements_in found) ≤ length text
  elements_bytes enc text None is = omega arith
  elements_bytes enc text (Some f) is = form_bytes enc text f ((form_is enc text f).0 is)

  -- one line in front of others
  line_bytes : (enc : Enc) (text : List ℕ) (led : Option (ℕ × List ℕ)) (cells : List Cell) (bytes : ℕ) → led_of text ≡ led → 2 * weight_of cells ≤ bytes
      → 2 * weight_of (cons_option (option_map (spelled_cell enc) led) cells) ≤ length text + bytes
  line_bytes enc text None cells bytes is rest = omega (arith, rest)
  line_bytes enc text (Some led) cells bytes is rest =
      omega (
        arith,
        rest,
        sum_by-cons cell_weight (spelled_cell enc led) cells,
        led_bytes text led.0 led.1 ((led_is text led.0 led.1).0 is),
        elements_bytes enc led.1 (form_of enc led.1) refl,
      )

  lines_bytes : (enc : Enc) (lines : List TextLine) → 2 * weight_of (filter_map (cell_of enc) lines) ≤ sum_by (λ (l : TextLine). length l.text) lines
  lines_bytes enc [] = omega arith
  lines_bytes enc (line ∷ lines) =
      omega (
        arith,
        sum_by-cons (λ (l : TextLine). length l.text) line lines,
        line_bytes enc line.text (led_of line.text) (filter_map (cell_of enc) lines) (sum_by (λ (l : TextLine). length l.text) lines) refl (lines_bytes enc lines),
      )

  body_bytes : (enc : Enc) (body : List ℕ) → 2 * weight_of (line_cells enc body) ≤ length body
  body_bytes enc body = omega (arith, lines_bytes enc (text_lines body), body_texts-le body)

  -- two parts of a dump have no more heap lines and elements than the dump has bytes
  pub weight-le : (enc : Enc) (dump : List ℕ) (heap literals : Option Section) → weight enc (body_in dump heap) (body_in dump literals) ≤ length dump
  weight-le enc dump heap literals =
      omega (
        arith,
        sum_by-append cell_weight (line_cells enc (body_in dump heap)) (line_cells enc (body_in dump literals)),
        body_bytes enc (body_in dump heap),
        body_bytes enc (body_in dump literals),
        part-le dump heap,
        part-le dump literals,
      )
