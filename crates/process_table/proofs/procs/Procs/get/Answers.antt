use Rattle.std.proofs.Common.{IfSome, position, length, ◌<◌, ◌∙◌, ap, subst, sym}
use Rattle.std.specs.Str.{bytes_eq}
use Rattle.process_table.specs.Processes.{Process, ProcessTable}
use Rattle.process_table.specs.Inner.Finding.{has_pid}
use Rattle.process_table.proofs.Joining.{place_of_pid, count_of}
use Rattle.process_table.proofs.procs.Procs.get.Goals as goal

-- what is found among the places is found among the processes
pub returns-in-Some-clause-place : goal.returns-in-Some-clause-place
returns-in-Some-clause-place c =
    sym c.in-Some.ensures.number ∙ ap (position (has_pid c.args.pid.now)) c.as_slice-places.ensures.value
    ∙ place_of_pid c.args.pid.now c.self.inside.places.items c.self.inside.fields.rows c.self.invariant.rows
    ∙ ap (λ (t : ProcessTable). position (λ (p : Process). bytes_eq c.args.pid.now p.pid) t.processes) c.self.view_is

pub returns-in-None-clause-place : goal.returns-in-None-clause-place
returns-in-None-clause-place c =
    c.number_of.ensures.number ∙ ap (position (has_pid c.args.pid.now)) c.as_slice-places.ensures.value
    ∙ place_of_pid c.args.pid.now c.self.inside.places.items c.self.inside.fields.rows c.self.invariant.rows
    ∙ ap (λ (t : ProcessTable). position (λ (p : Process). bytes_eq c.args.pid.now p.pid) t.processes) c.self.view_is

pub returns-in-Some-clause-within : goal.returns-in-Some-clause-within
returns-in-Some-clause-within c =
    subst (λ n. c.in-Some.i < n)
    (ap length c.as_slice-places.ensures.value
    ∙ sym (count_of c.self.inside.places.items c.self.inside.fields.rows c.self.invariant.rows) ∙ ap (λ (t : ProcessTable). length t.processes) c.self.view_is)
    c.in-Some.ensures.within

pub returns-in-None-clause-within : goal.returns-in-None-clause-within
returns-in-None-clause-within c =
    subst (λ n. IfSome c.number_of.result (λ i. i < n))
    (ap length c.as_slice-places.ensures.value
    ∙ sym (count_of c.self.inside.places.items c.self.inside.fields.rows c.self.invariant.rows) ∙ ap (λ (t : ProcessTable). length t.processes) c.self.view_is)
    c.number_of.ensures.within
