use Rattle.std.proofs.Common.{length, ◌∙◌, ap}
use Rattle.std.specs.Prelude.{slice_range}
use Rattle.heap_graph.specs.Held.{line_at}
use Rattle.heap_graph.specs.Laws.Elements.{references-line}
use Rattle.heap_graph.specs.Laws.Laid.{span-elements}
use Rattle.heap_graph.proofs.keeping.addresses_at.Goals as goal

pub returns : goal.returns
returns c = λ lines is.
    let held = c.args.held.now in
    let span = c.span_at-from.result in
    let are = span-elements lines held c.args.i span is c.requires.place c.span_at-from.ensures in
    c.addresses_between.ensures is.elements.fs is.elements.keeps
    ∙ ap length (references-line held.elements (line_at lines c.args.i) (slice_range is.elements.fs span.0 span.1) are)
