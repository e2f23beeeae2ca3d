use Rattle.std.proofs.Common.{◌≡◌, ℕ, List, Some, sym, ◌∙◌, ap}
use Rattle.std.specs.Prelude.{slice_get}
use Rattle.process_table.specs.Processes.{process_at}
use Rattle.dump_triage.specs.Triage.{process_state_text, state_texts}
use Rattle.dump_triage.specs.Inner.States.{counted}
use Rattle.dump_triage.proofs.StateFacts.{left-here, left-more, state-there}
use Rattle.dump_triage.proofs.states.take_count.Goals as goal

pub returns-clause-count : goal.returns-clause-count
returns-clause-count c =
    let processes = c.args.procs.now.processes in
    let p = c.args.p in
    c.remove.ensures.value
    ∙ ap (counted c.args.counts.now) c.state_at.ensures
    ∙ left-here c.args.counts.now (state_texts processes) p (process_state_text (process_at processes p)) (state-there processes p c.requires.place) c.requires.left

pub returns-clause-left : goal.returns-clause-left
returns-clause-left c =
    let texts = state_texts c.args.procs.now.processes in
    let text = c.state_at.result.now in
    let there : slice_get texts c.args.p ≡ Some text = state-there c.args.procs.now.processes c.args.p c.requires.place ∙ ap (λ (t : List ℕ). Some t) (sym c.state_at.ensures) in
    left-more texts c.args.p text c.args.counts.now c.remove.new.self there c.requires.left c.remove.ensures.updates
