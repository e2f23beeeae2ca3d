use Rattle.dump_questions.specs.Laws.Reading.{Tells-kept, Tells-put, Tells-stopped}
use Rattle.heap_commands.proofs.roots.RootsReport.put.Goals as goal

pub new-requires : goal.new-requires
new-requires g c = c.requires.fits.1

pub put_roots-requires-clause-budget : goal.put_roots-requires-clause-budget
put_roots-requires-clause-budget g c = c.requires.asked

pub returns-in_err-walker : goal.returns-in_err-walker
returns-in_err-walker g c = Tells-kept _ _ _ c.from_residual.result c.from_residual.ensures.1

pub returns-in_err-put_roots : goal.returns-in_err-put_roots
returns-in_err-put_roots g c =
    Tells-stopped 0 c.from_residual-in_err-put_roots.result c.from_residual-in_err-put_roots.ensures.1
    (rw (c.in_ok-walker.ensures, c.as_slice.ensures.value) at c.in_err-put_roots.ensures.puts)

pub returns : goal.returns
returns g c = Tells-put (rw (c.in_ok-walker.ensures, c.as_slice.ensures.value) at c.in_ok-put_roots.ensures.puts)
