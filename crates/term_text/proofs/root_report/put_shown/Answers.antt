use Rattle.std.proofs.Common.{◌∙◌}
use Rattle.dump_io.specs.Laws.Puts.{HasPut-more, Puts-broken}
use Rattle.term_text.specs.Roots.{answer_over, root_line}
use Rattle.term_text.proofs.root_report.put_shown.Goals as goal

pub loop-i-preserved : goal.loop-i-preserved
loop-i-preserved g c =
    let line = root_line (answer_over c.args.walker.now c.args.budget c.args.marked) c.args.base in (
      c.in_ok-put_root.ensures.same ∙ c.loop-i.invariant.0,
      HasPut-more line c.args.roots.now.shown c.loop-i.i _ c.root.ensures c.loop-i.invariant.1 (rw c.loop-i.invariant.0 at c.in_ok-put_root.ensures.puts),
    )

pub returns-in_err-put_root-clause-puts : goal.returns-in_err-put_root-clause-puts
returns-in_err-put_root-clause-puts g c =
    let line = root_line (answer_over c.args.walker.now c.args.budget c.args.marked) c.args.base in
    Puts-broken line c.args.roots.now.shown c.loop-i.i _ c.root.ensures c.loop-i.invariant.1 c.from_residual.ensures.0 (rw c.loop-i.invariant.0 at c.in_err-put_root.ensures.puts)
