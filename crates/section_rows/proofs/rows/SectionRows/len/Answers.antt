use Rattle.std.proofs.Common.{subst}
use Rattle.section_rows.specs.Rows.{AreEven, AreBoundedCells}
use Rattle.section_rows.proofs.Heads.{rows_in-even, rows_in-bounded}
use Rattle.section_rows.proofs.rows.SectionRows.len.Goals as goal

pub returns-clause-even : goal.returns-clause-even
returns-clause-even c = subst AreEven c.self.view_is (rows_in-even c.self.inside.store c.self.invariant)

pub returns-clause-bounded : goal.returns-clause-bounded
returns-clause-bounded c = subst AreBoundedCells c.self.view_is (rows_in-bounded c.self.inside.store c.self.invariant)
