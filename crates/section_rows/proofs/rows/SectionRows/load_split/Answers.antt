use Rattle.std.proofs.Common.{sym}
use Rattle.section_rows.proofs.Loaded.{All-within}
use Rattle.section_rows.proofs.rows.SectionRows.load_split.Goals as goal

pub load_split-requires-clause-small : goal.load_split-requires-clause-small
load_split-requires-clause-small g c = All-within c.args.index.now c.args.limits.now.section c.args.sections.now (sym c.in_default.ensures)
