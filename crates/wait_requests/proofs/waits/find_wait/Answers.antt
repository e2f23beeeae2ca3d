use Rattle.std.proofs.Common.{◌≡◌, List, ℕ, Option, length, sym, ◌∙◌, ap, ap₂, subst, arith}
use Rattle.std.specs.Option.{option_copied}
use denote.Ref.{Bor}
use Rattle.dump_io.specs.Dumps.{IfTold, ReadsAtMost}
use Rattle.process_table.specs.Processes.{process_at}
use Rattle.wait_requests.specs.Waits.{asked_first, held_by, requests_of}
use Rattle.wait_requests.specs.Inner.Memories.{held_at}
use Rattle.wait_requests.proofs.HeldFacts.{if-ok}
use Rattle.wait_requests.proofs.MemoryFacts.{held-there, size-there}
use Rattle.wait_requests.proofs.WaitFacts.{asks-none, links-at, reads-memory}
use Rattle.wait_requests.proofs.waits.find_wait.Goals as goal

pub returns-then-len-eq0-clause-target : goal.returns-then-len-eq0-clause-target
returns-then-len-eq0-clause-target g c = λ dump is.
    let process = process_at c.args.procs.now.processes c.args.p in
    let asked = c.in_ok-asked.ensures ∙ links-at c.args.graph.now c.args.procs.now.processes c.args.p c.requires.graph c.requires.process in
    sym (asks-none (requests_of process) (held_by dump c.args.index.now process.pid) (ap length (sym asked) ∙ sym c.len.ensures ∙ c.if-len-eq0.true))

pub returns-clause-reads : goal.returns-clause-reads
returns-clause-reads g c =
    let d = g.D.Dumps in
    let index = c.args.index.now in
    let process = process_at c.args.procs.now.processes c.args.p in
    let asked = c.in_ok-asked.ensures ∙ links-at c.args.graph.now c.args.procs.now.processes c.args.p c.requires.graph c.requires.process in
    let many : length c.in_ok-asked.asked ≡ length (requests_of process) = ap length asked in
    subst (ReadsAtMost (d.state c.args.dumps.now) (d.state c.find_target.new.dumps))
    (size-there index process.pid c.of-memory.result (c.of-memory.ensures index c.requires.memories) ∙ sym (reads-memory index process (omega (arith, c.if-len-eq0.false, c.len.ensures, many))))
    c.find_target.ensures.reads

pub returns-clause-target : goal.returns-clause-target
returns-clause-target g c =
    let now = (g.D.Dumps.state c.args.dumps.now).now in
    let index = c.args.index.now in
    let process = process_at c.args.procs.now.processes c.args.p in
    let asked = c.in_ok-asked.ensures ∙ links-at c.args.graph.now c.args.procs.now.processes c.args.p c.requires.graph c.requires.process in
    if-ok (λ (target : Option (Bor (List ℕ))). IfTold now (λ dump. option_copied target ≡ asked_first (held_at dump index c.of-memory.result) c.in_ok-asked.asked))
    (λ (target : Option (Bor (List ℕ))). IfTold now (λ dump. option_copied target ≡ asked_first (held_by dump index process.pid) (requests_of process)))
    (λ target says dump is.
    says dump is ∙ ap₂ asked_first (held-there index process.pid c.of-memory.result (c.of-memory.ensures index c.requires.memories) dump) asked)
    c.find_target.result c.find_target.ensures.target
