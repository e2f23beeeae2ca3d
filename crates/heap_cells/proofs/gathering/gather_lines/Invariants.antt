use Rattle.std.proofs.Common.{◌≡◌, ◌+◌, ◌*◌, ◌≤◌, length}
use Rattle.dump_io.specs.Limits.{usual}
use Rattle.std.specs.Prelude.{All}
use Rattle.field_lines.specs.Lines.{IsPart}
use Rattle.heap_cells.specs.Cells.{line_cells}
use Rattle.heap_cells.proofs.GatheringFacts.{GathersFront}
use Rattle.heap_cells.proofs.gathering.gather_lines.Given as goal
use Rattle.heap_graph.specs.Held.{IsSmall}

abbrev pub invariant-loop-line : goal.invariant-loop-line
invariant-loop-line l =
    record {
      parts : All (IsPart l.body) l.line-iterator;
      limit : l.g.dense ≡ l.fn.g.dense;
      weight : l.g.weight + length l.line-iterator * usual.section ≤ l.fn.g.weight + length l.body * usual.section;
      small : IsSmall l.g.held;
      gathers : GathersFront l.texts l.fn.g l.g (line_cells l.texts.enc l.body) l.line-iterator;
    }
