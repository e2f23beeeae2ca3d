use Rattle.std.proofs.Common.{◌≡◌, false, sym, ◌∙◌, ap}
use Rattle.std.specs.Option.{option_map, is_some}
use Rattle.term_forms.specs.ReadingForms.{form_of}
use Rattle.heap_graph.specs.Cells.{kind_of}
use Rattle.heap_graph.specs.declared.forms.Read.{Read}
use Rattle.heap_graph.proofs.ReadFacts.{nothing-stays}
use Rattle.heap_graph.proofs.forms.push_form.Goals as goal

pub returns-clause-pushed : goal.returns-clause-pushed
returns-clause-pushed c =
    let form = form_of c.args.enc c.args.text.now in
    let old = c.args.elements.now in
    let read = c.in_ok-read.ensures.pushed in
    let kind = ap (λ (r : Read). r.kind) c.in_ok-read.ensures.read in
    let none : is_some (option_map kind_of form) ≡ false = sym (ap is_some kind) ∙ sym c.is_some.ensures ∙ c.if-is_some.false in
    nothing-stays c.args.«from» c.args.text.now form old c.truncate.new.self none (c.truncate.ensures old read.fs read.appended c.len-len.ensures c.address_count-addresses.ensures)
