-- How many bytes a header's tag and id have.
use Rattle.std.proofs.Common.{◌≡◌, ℕ, ◌+◌, ◌≤◌, Bool, true, false, List, length, None, Some, refl, ap, arith, if◌then◌else◌}
use Rattle.std.specs.List.{position_or_len}
use Rattle.std.proofs.lemmas.List.{length-take, length-drop}
use Rattle.std.proofs.lemmas.Option.{same_Some}
use Rattle.dump_io.specs.Colons.{is_colon, has_colon, after_colon}
use Rattle.dump_io.specs.Laws.Colons.{colon-within}
use Rattle.dump_sections.specs.Sections.{header_name, tag_of, id_of}

-- the text has an equals sign, the tag, a colon and the id
pub id-within : (text id : List ℕ) → id_of text ≡ Some id → length (tag_of text) + length id + 2 ≤ length text
id-within text id is = by (has_colon (header_name text)) refl is
  where
    by : (b : Bool) → has_colon (header_name text) ≡ b → (if b then Some (after_colon (header_name text)) else None) ≡ Some id → length (tag_of text) + length id + 2 ≤ length text
    by false e is = cc
    by true e is =
        let name = header_name text in
        let k = position_or_len is_colon name in
        omega (
          arith,
          colon-within name e,
          length-take k name,
          length-drop (k + 1) name,
          length-drop 1 text,
          ap length (same_Some (after_colon name) id is),
        )
