use Rattle.std.proofs.Common.{◌≡◌, ℕ, List, Some, sym, ◌∙◌, ap}
use Rattle.std.specs.Prelude.{slice_get}
use Rattle.dump_triage.specs.Triage.{state_texts}
use Rattle.dump_triage.proofs.StateFacts.{counted-more, state-there}
use Rattle.dump_triage.proofs.states.count_state.Goals as goal

pub returns : goal.returns
returns c =
    let texts = state_texts c.args.procs.now.processes in
    let text = c.state_at-text.result.now in
    let there : slice_get texts c.args.p ≡ Some text =
    state-there c.args.procs.now.processes c.args.p c.requires.place ∙ ap (λ (t : List ℕ). Some t) (sym c.state_at-text.ensures) in
    counted-more texts c.args.p text c.args.counts.now c.insert.new.self c.count_in-before.result there c.requires.before c.count_in-before.ensures
    c.in_ok-insert.ensures.updates
