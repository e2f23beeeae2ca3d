use Rattle.std.proofs.Common.{◌≤◌, length, take, sym, ◌∙◌, ap, arith}
use Rattle.std.proofs.lemmas.List.{take_all}
use Rattle.process_table.specs.Shown.{shown_process}
use Rattle.dump_trial.specs.Trial.{process_tally, tally_of}
use Rattle.dump_trial.specs.Inner.Tallies.{plus}
use Rattle.dump_trial.proofs.Sums.{tally-more}
use Rattle.dump_trial.proofs.bad_roots.count_processes.Goals as goal

pub loop-p-preserved : goal.loop-p-preserved
loop-p-preserved c =
    let all = c.loop-p.invariant in
    let one = c.in_ok-one.ensures in
    let process = shown_process c.at.result in (
      one.held ∙ all.0,
      c.plus-all.ensures
          ∙ ap (λ t. plus t c.in_ok-one.one) all.1
          ∙ ap (plus (tally_of c.args.held.now (take c.loop-p.p c.args.procs.now.processes))) (one.tally ∙ ap (λ bytes. process_tally bytes process.pid) all.0)
          ∙ sym (tally-more c.args.held.now c.args.procs.now.processes c.loop-p.p process c.at.ensures),
      rw c.plus-all.ensures (record { roots = omega (arith, all.2.roots, one.few.roots); bad = omega (arith, all.2.bad, one.few.bad) }),
    )

pub returns-clause-tally : goal.returns-clause-tally
returns-clause-tally c =
    let processes = c.args.procs.now.processes in
    let over : length processes ≤ c.loop-p.p = omega arith in
    c.loop-p.invariant.1 ∙ ap (tally_of c.args.held.now) (take_all c.loop-p.p processes over)
