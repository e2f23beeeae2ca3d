use Rattle.std.proofs.Common.{All, not, sym, ◌∙◌, ap, subst, arith}
use Rattle.std.proofs.lemmas.List.{take_all}
use Rattle.std.proofs.lemmas.List.Elements.{All-filter}
use Rattle.dump_audit.specs.Fitting.{Fits}
use Rattle.dump_audit.specs.Flight.{is_in_flight, settled}
use Rattle.dump_audit.proofs.flight.part.Goals as goal

pub returns-clause-fits : goal.returns-clause-fits
returns-clause-fits c = λ processes fits.
    let marks = c.args.signalled.now in
    let found = c.args.findings.now in
    subst (All (Fits processes)) (sym (c.loop-finding.invariant.settled ∙ ap (settled marks) (take_all c.loop-finding.finding-index found (omega arith)))) (All-filter (λ finding. not (is_in_flight marks finding)) (Fits processes) found fits)
