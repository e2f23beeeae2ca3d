use Rattle.std.proofs.Common.{sym, ◌∙◌, ap}
use Rattle.process_table.specs.Processes.{process_at}
use Rattle.wait_requests.specs.Inner.Memories.{noted, process_with}
use Rattle.wait_requests.proofs.MemoryFacts.{is-memory, process-found}
use Rattle.wait_requests.proofs.memories.Memories.of.Goals as goal

pub returns-in_default : goal.returns-in_default
returns-in_default c = λ index are.
    let processes = c.args.procs.now.processes in
    absurd (process-found processes c.args.p c.requires (ap (process_with processes) (sym c.pid.ensures) ∙ sym c.get.ensures.place ∙ c.in_default.is))

pub returns : goal.returns
returns c = λ index are.
    let processes = c.args.procs.now.processes in
    is-memory index processes c.args.self.now (record { stack = c.noted.result; heap = c.noted-2.result }) (process_at processes c.args.p).pid c.in-Some.process are
    (ap (process_with processes) (sym c.pid.ensures) ∙ sym c.get.ensures.place ∙ c.in-Some.is)
    (c.noted.ensures ∙ ap (λ places. noted places c.in-Some.process) c.deref.ensures.value)
    (c.noted-2.ensures ∙ ap (λ places. noted places c.in-Some.process) c.deref-2.ensures.value)
