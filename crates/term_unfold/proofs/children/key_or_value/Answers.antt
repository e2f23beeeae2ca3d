use Rattle.std.proofs.Common.{arith}
use Rattle.dump_io.specs.Limits.{usual}
use Rattle.heap_cells.specs.HeapMap.{elements_at}
use Rattle.heap_cells.specs.Targets.{number}
use Rattle.term_unfold.proofs.ChildFacts.{key-none, value-none, key-child, value-child}
use Rattle.term_unfold.proofs.children.key_or_value.Goals as goal

pub returns-in_err-key : goal.returns-in_err-key
returns-in_err-key c =
    key-none c.args.heap.now.cells (elements_at c.args.heap.now.cells (number c.args.keys)) (elements_at c.args.heap.now.cells (number c.args.ix)) c.args.place usual.dense c.term_at.result _
    (c.in_err-key.was) c.term_at.ensures c.from_residual.ensures

pub returns-in_err-value : goal.returns-in_err-value
returns-in_err-value c =
    value-none c.args.heap.now.cells (elements_at c.args.heap.now.cells (number c.args.keys)) (elements_at c.args.heap.now.cells (number c.args.ix)) c.args.place usual.dense c.term_at-2.result _
    (c.in_err-value.was) c.term_at-2.ensures c.from_residual-in_err-value.ensures

pub returns-then-place-eq0 : goal.returns-then-place-eq0
returns-then-place-eq0 c =
    key-child c.args.heap.now.cells (elements_at c.args.heap.now.cells (number c.args.keys)) (elements_at c.args.heap.now.cells (number c.args.ix)) c.args.place c.in_ok-key.key c.in_ok-value.value
    (c.in_ok-key.ensures) (c.in_ok-value.ensures) c.if-place-eq0.true

pub returns-else-place-eq0 : goal.returns-else-place-eq0
returns-else-place-eq0 c =
    value-child c.args.heap.now.cells (elements_at c.args.heap.now.cells (number c.args.keys)) (elements_at c.args.heap.now.cells (number c.args.ix)) c.args.place c.in_ok-key.key c.in_ok-value.value
    (c.in_ok-key.ensures) (c.in_ok-value.ensures) (omega (arith, c.if-place-eq0.false))
