-- Laws of the definitions, each with its proof, for the proofs of callers.
use Rattle.std.proofs.Common.{◌≡◌, ℕ, ◌+◌, ◌<◌, ◌≤◌, ◌==◌, ◌&&◌, true, false, nat_lt, List, [], ◌∷◌, length, None, Some, if◌then◌else◌, sym, ◌∙◌, ap, true≢false, lt-ltb, eq-eqb, arith}
use Rattle.std.specs.Prelude.{slice_index, unwrap_or}
use Rattle.std.specs.List.{position_or_len}
use Rattle.std.specs.Str.{bytes_eq}
use Rattle.std.proofs.lemmas.Bool.{and_parts, and_from, eqb-true, false_from_ne_true}
use Rattle.std.proofs.lemmas.List.{length-drop, length-map, length-take-le}
use Rattle.std.proofs.lemmas.List.Sums.{passes_at_first}
use Rattle.std.proofs.lemmas.Slice.Eq.{bytes_eq-Decides}
use Rattle.dump_io.specs.Colons.{colon, is_colon, has_colon, after_colon}
use Rattle.dump_io.specs.Lines.{raw_lines, lines_from}
use Rattle.dump_io.specs.Laws.Colons.{colon-within}
use Rattle.dump_io.specs.Laws.Lines.{length-lines_from, length-raw_lines}
use Rattle.field_lines.specs.Fields.{Field, field_of, space_byte, without_space, key_of, value_of, has_key}
use Rattle.field_lines.specs.Lines.{TextLine, text_line, text_lines}

-- a body has no more lines than bytes
pub length-text_lines : (body : List ℕ) → length (text_lines body) ≤ length body
length-text_lines body = omega (arith, length-map (lines_from 0 (raw_lines body)) text_line, length-lines_from 0 (raw_lines body), length-raw_lines body)

-- the value of a field that was found
pub field_of-value : (text : List ℕ) (field : Field) → Some field ≡ field_of text → field.value ≡ value_of text
field_of-value text field =
    elim (has_colon text) as (λ b. Some field ≡ (if b then Some (record { key = key_of text; value = value_of text }) else None) → field.value ≡ value_of text) [
      | true ↦ λ e. ap (λ o. (unwrap_or o field).value) e
      | false ↦ λ e. absurd (cc e)
    ]

-- a text is no longer without one leading space
pub length-without_space : (bytes : List ℕ) → length (without_space bytes) ≤ length bytes
length-without_space [] = omega arith
length-without_space (c ∷ bytes) =
    elim (c == space_byte) as (λ b. length (if b then bytes else c ∷ bytes) ≤ length (c ∷ bytes)) [
      | true ↦ omega arith
      | false ↦ omega arith
    ]

-- a value is no longer than its line
pub length-value : (text : List ℕ) → length (value_of text) ≤ length text
length-value text = omega (arith, length-without_space (after_colon text), length-drop (position_or_len is_colon text + 1) text)

-- a field's first colon stands after its key
colon-behind : (key : List ℕ) (line : TextLine) → has_key key line ≡ true → (length key < length line.text) × (slice_index line.text (length key) ≡ colon)
colon-behind key line has =
    let text = line.text in
    let n = position_or_len is_colon text in
    let parts = and_parts (has_colon text) (bytes_eq (key_of text) key) has in
    let inside : n < length text = colon-within text parts.0 in
    let same : key_of text ≡ key = (bytes_eq-Decides (key_of text) key).0 parts.1 in
    let count : length key ≡ n = ap length (sym same) ∙ length-take-le n text (omega (arith, inside)) in
    (omega (arith, count, inside), ap (slice_index text) count ∙ eqb-true _ _ (passes_at_first is_colon text 0 inside))

-- where no colon stands there, the line has another key
pub no_colon-there : (key : List ℕ) (line : TextLine) → (nat_lt (length key) (length line.text) && (slice_index line.text (length key) == colon)) ≡ false
    → has_key key line ≡ false
no_colon-there key line none =
    false_from_ne_true (has_key key line) (λ has.
    let there = colon-behind key line has in
    true≢false (sym (and_from _ _ (lt-ltb _ _ there.0) (eq-eqb _ _ there.1)) ∙ none))
