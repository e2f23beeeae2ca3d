use Rattle.std.proofs.Common.{None, Some, if◌then◌else◌, ap, sym, ◌∙◌, length, arith}
use Rattle.field_lines.specs.Fields.{place_of}
use Rattle.field_lines.specs.Shown.{shown_line}
use Rattle.field_lines.specs.Laws.{field_of-value, length-value, no_colon-there}
use Rattle.field_lines.proofs.reading.place.Goals as goal

pub returns-then-not-may_have_key : goal.returns-then-not-may_have_key
returns-then-not-may_have_key c =
    let line = shown_line c.args.line.now in
    let missed = no_colon-there c.args.key.now line (sym c.may_have_key.ensures ∙ c.if-not-may_have_key.true) in
    sym (ap (λ b. if b then Some (place_of line) else None) missed)

pub overflow_sub-result : goal.overflow_sub-result
overflow_sub-result c =
    let text = c.args.line.now.text.now in
    let value = field_of-value text (record { key = c.in_ok-name.name.now; value = c.in_ok-name.value.now }) c.in_ok-name.ensures in
    omega (arith, ap length value, length-value text)
