use Rattle.std.proofs.Common.{false, ap}
use Rattle.term_forms.specs.Seen.{element}
use Rattle.term_unfold.specs.Inner.Entries.{Entered, path_of}
use Rattle.term_unfold.specs.Rules.{Term}
use Rattle.term_unfold.proofs.Visited.{visits-opened, opened-inside}
use Rattle.term_unfold.proofs.judging.visit_root.Goals as goal

pub returns-clause-visits : goal.returns-clause-visits
returns-clause-visits c =
    let heap = c.args.heap.now.cells in
    visits-opened heap c.args.path.now.entries c.enter.new.path.entries (Term (element c.args.root.now)) c.open_root-opened.result false c.requires.few c.open_root-opened.ensures.found_is
    (ap (λ (p : Entered). p.entries) c.enter.ensures)

pub returns-clause-inside : goal.returns-clause-inside
returns-clause-inside c =
    let heap = c.args.heap.now.cells in
    opened-inside heap (path_of heap c.args.path.now.entries) (Term (element c.args.root.now)) c.open_root-opened.result c.open_root-opened.ensures.found_is
