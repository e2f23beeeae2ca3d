use Rattle.std.proofs.Common.{◌≡◌, length, Some, sym, ◌∙◌, ap, arith}
use Rattle.std.specs.Option.{option_copied}
use Rattle.dump_sections.specs.Sections.{id_of}
use Rattle.section_rows.proofs.Colons.{id-within}
use Rattle.section_rows.proofs.columns.id.Goals as goal

pub returns-clause-room : goal.returns-clause-room
returns-clause-room c =
    let s = c.args.section.now in
    let lent = c.requires in
    let id : id_of s.text.now ≡ Some c.in_ok-text.text.now = sym lent.id ∙ ap option_copied c.in_ok-text.was in
    let all = id-within s.text.now c.in_ok-text.text.now id in
    let tag = ap length lent.tag in (
      record { line = omega arith; near_line = omega arith; text = omega arith; near_text = omega (arith, all, tag, lent.line, lent.short) },
      record {
        at = omega (arith, lent.begins, lent.ends, lent.bounded);
        value_at = omega (arith, all, tag, lent.line, lent.ends, lent.bounded);
        text = omega (arith, all, lent.line, lent.short);
      },
    )
