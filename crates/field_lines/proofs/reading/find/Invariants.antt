use Rattle.std.proofs.Common.{◌≡◌}
use Rattle.std.specs.Prelude.{All, find}
use Rattle.field_lines.specs.Lines.{IsPart}
use Rattle.field_lines.specs.Fields.{find_line, has_key}
use Rattle.field_lines.proofs.reading.find.Given as goal

abbrev pub invariant-loop-line : goal.invariant-loop-line
invariant-loop-line l =
    (goal.iterator-loop-line).can_next l.line-iterator
    × (goal.iterator-loop-line).is_finite l.line-iterator
    × (find_line l.body l.key ≡ find (has_key l.key) l.line-iterator)
    × All (IsPart l.body) l.line-iterator
