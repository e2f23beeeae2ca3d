use Rattle.std.proofs.Common.{sym}
use Rattle.section_rows.proofs.Loaded.{All-within}
use Rattle.section_rows.proofs.rows.SectionRows.load.Goals as goal

pub load_rows-requires-clause-small : goal.load_rows-requires-clause-small
load_rows-requires-clause-small g c = All-within c.args.index.now c.args.limits.now.section c.args.sections.now (sym c.in_default.ensures)
