use Rattle.std.proofs.Common.{None, Some, ap, sym, ◌∙◌, length, arith, if◌then◌else◌}
use Rattle.field_lines.specs.Shown.{shown_line}
use Rattle.field_lines.specs.Laws.{field_of-value, length-value, no_colon-there}
use Rattle.section_rows.specs.Inner.Passing.{kept_in}
use Rattle.section_rows.proofs.columns.field_in.Goals as goal

pub returns-then-not-may_have_key-clause-value : goal.returns-then-not-may_have_key-clause-value
returns-then-not-may_have_key-clause-value c =
    let line = shown_line c.args.line.now in
    let missed = no_colon-there c.args.key.now line (sym c.may_have_key.ensures ∙ c.if-not-may_have_key.true) in
    sym (ap (λ b. if b then Some (kept_in c.args.section.now.body line) else None) missed)

pub overflow_sub-from : goal.overflow_sub-from
overflow_sub-from c =
    let text = c.args.line.now.text.now in
    let value = field_of-value text (record { key = c.in_ok-name.name.now; value = c.in_ok-name.value.now }) c.in_ok-name.ensures in
    omega (arith, ap length value, length-value text)

pub returns-clause-room : goal.returns-clause-room
returns-clause-room c =
    let text = c.args.line.now.text.now in
    let lent = c.requires.lent in
    let value = field_of-value text (record { key = c.in_ok-name.name.now; value = c.in_ok-name.value.now }) c.in_ok-name.ensures in
    let short = length-value text in
    let same = ap length value in (
      record {
        line = omega (arith, lent.begins);
        near_line = omega (arith, lent.short, c.requires.small);
        text = omega (arith, lent.begins);
        near_text = omega (arith, lent.short, c.requires.small, short, same);
      },
      record {
        at = omega (arith, c.requires.inside, lent.bounded);
        value_at = omega (arith, c.requires.inside, lent.bounded, short, same);
        text = omega (arith, c.requires.small, short, same);
      },
    )
