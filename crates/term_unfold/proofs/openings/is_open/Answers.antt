use Rattle.std.proofs.Common.{sym, ◌∙◌, subst}
use Rattle.heap_cells.specs.Targets.{number}
use Rattle.term_unfold.specs.Inner.Entries.{numbers_of, IsLine}
use Rattle.term_unfold.proofs.Opens.{on-path}
use Rattle.term_unfold.proofs.openings.is_open.Goals as goal

pub returns-clause-on : goal.returns-clause-on
returns-clause-on c =
    let heap = c.args.heap.now.cells in
    let entries = c.args.path.now.entries in
    c.contains.ensures.on
    ∙ sym (on-path heap (number c.args.ix) entries c.requires.serves.bounded.distinct c.requires.cell (subst (λ n. IsLine n (numbers_of entries)) c.requires.serves.size c.contains.ensures.line))
