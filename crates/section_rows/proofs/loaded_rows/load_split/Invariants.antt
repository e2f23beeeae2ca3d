use Rattle.std.proofs.Common.{length, map, take}
use Rattle.dump_io.specs.Dumps.{ReadsAtMost}
use Rattle.dump_sections.specs.Loading.{sections_at, bodies_length}
use Rattle.section_rows.specs.Shown.{shown_column}
use Rattle.section_rows.specs.Inner.Gains.{HoldsSplit, IsSplit}
use Rattle.section_rows.proofs.loaded_rows.load_split.Given as goal

-- the rows of the sections so far were loaded and split
abbrev pub invariant-loop-i : goal.invariant-loop-i
invariant-loop-i g l =
    let sections = sections_at l.index (take l.i-index l.sections) in
    record {
      reads : ReadsAtMost (g.D.Dumps.state l.initial.dumps) (g.D.Dumps.state l.dumps) (bodies_length sections);
      split : IsSplit l.first (length l.columns) l.split;
      rows : HoldsSplit (g.D.Dumps.state l.initial.dumps).now l.first (map shown_column l.columns) sections l.split;
    }
