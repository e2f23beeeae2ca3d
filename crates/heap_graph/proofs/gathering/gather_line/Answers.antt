use Rattle.std.proofs.Common.{arith, sym, ◌∙◌, ap}
use Rattle.term_forms.specs.Words.{led_of}
use Rattle.heap_graph.specs.Laws.Gains.{Gains-line, Gains-no-line}
use Rattle.heap_graph.proofs.gathering.gather_line.Goals as goal

pub returns-in_default-clause-gains : goal.returns-in_default-clause-gains
returns-in_default-clause-gains c =
    Gains-no-line c.args.held.now c.args.enc c.args.at c.args.raw.now (ap led_of (sym c.line_text-line.ensures) ∙ sym c.in_default.ensures.exact)

pub returns-clause-gains : goal.returns-clause-gains
returns-clause-gains c =
    let text = c.in-Some.text.now in
    Gains-line c.args.held.now c.gather_cell.new.held c.args.enc c.args.at _ c.args.raw.now c.line_text-line.result.now (c.in-Some.address, text)
    (ap led_of (sym c.line_text-line.ensures) ∙ sym c.in-Some.ensures.exact) c.line_text-line.ensures (omega arith) c.in_ok-gather_cell.ensures.gains
