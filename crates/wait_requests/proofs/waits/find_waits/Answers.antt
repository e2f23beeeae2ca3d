use Rattle.std.proofs.Common.{◌≡◌, ◌+◌, ◌<◌, [], ◌∷◌, ◌++◌, get_or, length, take, sym, ◌∙◌, ap, subst, arith}
use Rattle.std.specs.Option.{option_copied}
use Rattle.std.proofs.lemmas.List.{length-append, map_more}
use Rattle.std.proofs.lemmas.Option.{unwrap_or-slice_get}
use Rattle.dump_io.specs.Dumps.{ReadsAtMost}
use Rattle.dump_io.specs.Laws.Reads.{ReadsAtMost-both, ReadsAtMost-then}
use Rattle.process_table.specs.Processes.{nobody, process_at}
use Rattle.wait_requests.specs.Waits.{target_of, targets_of}
use Rattle.wait_requests.proofs.WaitFacts.{waits-more, waits-upto}
use Rattle.wait_requests.proofs.waits.find_waits.Goals as goal

pub loop-p-preserved : goal.loop-p-preserved
loop-p-preserved g c =
    let d = g.D.Dumps in
    let before = c.loop-p.invariant in
    let one = c.in_ok-target.ensures in
    let target = c.in_ok-target.target in
    let processes = c.args.procs.now.processes in
    let p = c.loop-p.p in
    let inside : p < length processes = omega (arith, c.loop-p-test.true) in
    let here : process_at processes p ≡ get_or processes p nobody = unwrap_or-slice_get processes p nobody in
    record {
      room = omega (arith, before.room, c.find_wait.auto.lines);
      reads = subst (ReadsAtMost (d.state c.args.dumps.now) (d.state c.find_wait.new.dumps)) (sym (waits-more c.args.index.now processes p inside)) (ReadsAtMost-then before.reads one.reads);
      count = ap length c.in_ok-push.ensures ∙ length-append c.loop-p.targets (option_copied target ∷ []) ∙ ap (λ n. n + 1) before.count;
      targets = λ dump is.
          let target_in = target_of dump c.args.index.now in
          c.in_ok-push.ensures
          ∙ ap (λ l. l ++ option_copied target ∷ []) (before.targets dump is)
          ∙ ap (λ t. targets_of dump c.args.index.now (take p processes) ++ t ∷ []) (one.target dump (before.reads.same_now ∙ is) ∙ ap target_in here)
          ∙ sym (map_more target_in processes p nobody inside);
    }

pub returns-in_err-target-clause-reads : goal.returns-in_err-target-clause-reads
returns-in_err-target-clause-reads g c =
    ReadsAtMost-both c.loop-p.invariant.reads c.in_err-target.ensures.reads (waits-upto c.args.index.now c.args.procs.now.processes c.loop-p.p (omega (arith, c.loop-p-test.true)))

pub returns-in_err-push-clause-reads : goal.returns-in_err-push-clause-reads
returns-in_err-push-clause-reads g c =
    ReadsAtMost-both c.loop-p.invariant.reads c.in_ok-target.ensures.reads (waits-upto c.args.index.now c.args.procs.now.processes c.loop-p.p (omega (arith, c.loop-p-test.true)))
