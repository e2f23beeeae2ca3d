use Rattle.std.proofs.Common.{refl, Err}
use Rattle.dump_io.specs.Laws.Puts.{Puts-stopped, Puts-then}
use Rattle.dump_questions.specs.Laws.Reading.{Tells-put, Tells-stopped}
use Rattle.heap_commands.proofs.peek.PeekRootsReport.put.Goals as goal

pub returns-in_err-put_shown_roots : goal.returns-in_err-put_shown_roots
returns-in_err-put_shown_roots g c =
    Tells-stopped 0 c.from_residual-in_err-put_shown_roots.result c.from_residual-in_err-put_shown_roots.ensures.1
    (Puts-stopped {T = Unit {0}} {E = Unit {0}} {r = Err tt} _ refl (rw c.in_ok-walker.ensures at c.in_err-put_shown_roots.ensures.puts))

pub returns-in_err-put_cuts : goal.returns-in_err-put_cuts
returns-in_err-put_cuts g c =
    Tells-stopped 0 c.from_residual-in_err-put_cuts.result c.from_residual-in_err-put_cuts.ensures.1
    (Puts-then (rw c.in_ok-walker.ensures at c.in_ok-put_shown_roots.ensures.puts) c.in_err-put_cuts.ensures)

pub returns : goal.returns
returns g c = Tells-put (Puts-then (rw c.in_ok-walker.ensures at c.in_ok-put_shown_roots.ensures.puts) c.in_ok-put_cuts.ensures)
