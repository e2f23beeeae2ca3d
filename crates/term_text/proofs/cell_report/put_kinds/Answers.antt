use Rattle.std.proofs.Common.{take, None}
use Rattle.std.proofs.lemmas.Option.{slice_get-get_or}
use Rattle.dump_io.specs.Laws.Puts.{HasPut-more, Puts-broken}
use Rattle.term_text.specs.Cells.{all_kinds, kind_line}
use Rattle.term_text.proofs.cell_report.put_kinds.Goals as goal

pub loop-kind-preserved : goal.loop-kind-preserved
loop-kind-preserved g c =
    let heap = c.args.heap.now in
    HasPut-more (kind_line (take heap.own heap.cells)) all_kinds c.loop-kind.kind-index _
    (slice_get-get_or all_kinds c.loop-kind.kind-index None c.loop-kind-test.true) c.loop-kind.invariant c.in_ok-put_kind.ensures

pub returns-in_err-put_kind : goal.returns-in_err-put_kind
returns-in_err-put_kind g c =
    let heap = c.args.heap.now in
    Puts-broken (kind_line (take heap.own heap.cells)) all_kinds c.loop-kind.kind-index _
    (slice_get-get_or all_kinds c.loop-kind.kind-index None c.loop-kind-test.true) c.loop-kind.invariant c.from_residual.ensures.0 c.in_err-put_kind.ensures
