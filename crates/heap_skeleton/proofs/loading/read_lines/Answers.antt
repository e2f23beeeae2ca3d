use Rattle.std.proofs.Common.{◌∙◌, sym, ap, subst}
use Rattle.dump_sections.specs.Bodies.{section_in}
use Rattle.heap_cells.specs.Loading.{enc_of}
use Rattle.heap_skeleton.specs.declared.heap_sink.HeapSink.{HeapSink}
use Rattle.heap_skeleton.specs.Inner.Hearing.{HoldsSections}
use Rattle.heap_graph.specs.Elements.{IsOfLeads}
use Rattle.heap_graph.specs.Laws.Elements.{appended-leads}
use Rattle.heap_skeleton.proofs.HearFacts.{sections-hold}
use Rattle.heap_skeleton.proofs.loading.read_lines.Goals as goal

pub returns-clause-holds : goal.returns-clause-holds
returns-clause-holds g c =
    let d = g.D.Dumps in
    let index = c.args.index.now in
    let heap = section_in index c.args.heap in
    let literals = section_in index c.args.literals in
    let now = (d.state c.args.dumps.now).now in
    let first : HeapSink = record { held = c.new.result; enc = c.enc_of.result } in
    let mid = c.hear_section.new.sink in
    subst (λ e. HoldsSections e now heap literals c.hear_section-2.new.sink.held c.len-own.result) (c.enc_of.ensures ∙ ap enc_of c.version.ensures)
    (sections-hold first mid c.hear_section-2.new.sink now (d.state c.hear_section.new.dumps).now heap literals c.len-own.result c.new.ensures.held
    c.in_ok-hear_section.ensures.reads.same_now c.in_ok-hear_section.ensures.hears c.in_ok-hear_section-2.ensures.hears (c.len-own.ensures ∙ mid.held.parts.ok.0))

pub returns-clause-leads : goal.returns-clause-leads
returns-clause-leads g c =
    let first = c.new.result.elements in
    let mid = c.hear_section.new.sink.held.elements in
    let one = c.in_ok-hear_section.ensures.hears.gains.elements in
    let other = c.in_ok-hear_section-2.ensures.hears.gains.elements in
    appended-leads mid c.hear_section-2.new.sink.held.elements other.fs other.appended
    (appended-leads first mid one.fs one.appended (subst IsOfLeads (sym c.new.ensures.elements) c.leads.ensures.leads))
