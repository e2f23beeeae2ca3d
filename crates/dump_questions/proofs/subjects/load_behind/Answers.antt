use Rattle.std.proofs.Common.{sym, ◌∙◌, rules}
use Rattle.std.proofs.lemmas.Result.{err_from_is_err_and}
use Rattle.dump_questions.specs.Laws.Heaps.{HoldsHeap-loaded, IsClear-judged, IsHeapless-heap, IsHeapless-judged, IsHeapless-large, IsSome-fault}
use Rattle.dump_questions.proofs.subjects.load_behind.Goals as goal

pub returns-in_err-find_process : goal.returns-in_err-find_process
returns-in_err-find_process g c = λ before is.
    let p = err_from_is_err_and c.from_residual.result c.from_residual.ensures.1 in
    let d = g.D.Dumps in
    record {
      reads = search rules;
      unread = search rules;
      heap = rw (p.1, p.2) (IsHeapless-judged c.args.pid.now before _ _ (d.state c.args.dumps.now) (d.state c.args.dumps.now) _ c.in_err-find_process.ensures.judges);
    }

pub returns-in-Some : goal.returns-in-Some
returns-in-Some g c = λ before is.
    let d = g.D.Dumps in
    record {
      reads = search rules;
      unread = search rules;
      heap = rw c.from.ensures (IsHeapless-large c.args.pid.now before c.args.at.now.limits.now c.args.at.now.index.now
          (d.state c.args.dumps.now) (d.state c.args.dumps.now) c.in-Some.large c.in_ok-find_process.ensures.judges (sym c.in-Some.is ∙ is));
    }

pub returns-in_err-load : goal.returns-in_err-load
returns-in_err-load g c = λ before is.
    let p = err_from_is_err_and c.from_residual-in_err-load.result c.from_residual-in_err-load.ensures.1 in
    let at = c.args.at.now in
    let clear = IsClear-judged c.args.pid.now before at.limits.now at.index.now c.in_ok-find_process.ensures.judges (sym c.in_default.is ∙ is) in
    let read = c.in_err-load.ensures in
    let d = g.D.Dumps in
    record {
      reads = read.loads.reads;
      unread = λ some. read.loads.unread (IsSome-fault _ _ _ _ clear some);
      heap = rw (p.1, p.2) (IsHeapless-heap _ _ _ _ clear (d.state c.args.dumps.now) (d.state c.load.new.dumps) _ read.loads.fault read.too_large read.answer);
    }

pub returns : goal.returns
returns g c = λ before is.
    let at = c.args.at.now in
    let clear = IsClear-judged c.args.pid.now before at.limits.now at.index.now c.in_ok-find_process.ensures.judges (sym c.in_default.is ∙ is) in
    let read = c.in_ok-load.ensures in
    record {
      reads = read.loads.reads;
      unread = λ some. read.loads.unread (IsSome-fault _ _ _ _ clear some);
      heap = HoldsHeap-loaded _ _ _ _ clear _ _ read.loads.allowed read.answer;
    }
