use Rattle.std.proofs.Common.{◌∙◌, ap, length, subst, sym, All}
use Rattle.dump_audit.specs.Fitting.{Fits}
use Rattle.dump_audit.specs.Flight.{in_flight, settled}
use Rattle.table_commands.proofs.audit.put_settled.Goals as goal

pub put_lines-requires-clause-fits : goal.put_lines-requires-clause-fits
put_lines-requires-clause-fits g c =
    let processes = c.args.loaded.now.procs.processes in
    subst (All (Fits processes)) (sym c.as_slice-settled.ensures.value) (c.in_ok-parted.ensures.fits processes c.requires.fits)

pub returns : goal.returns
returns g c =
    let found = c.args.found.now in
    let marks = c.as_slice.ensures.value in
    let told = c.as_slice-settled.ensures.value ∙ c.in_ok-parted.ensures.settled ∙ ap (λ m. settled m found) marks in
    let others = ap length (c.as_slice-2.ensures.value ∙ c.in_ok-parted.ensures.in_flight ∙ ap (λ m. in_flight m found) marks) in
    rw (told, others) at c.put_lines.ensures
