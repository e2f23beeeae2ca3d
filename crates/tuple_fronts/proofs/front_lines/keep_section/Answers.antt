use Rattle.std.proofs.Common.{refl, ◌∙◌, ap, subst}
use Rattle.dump_sections.specs.Bodies.{section_in}
use Rattle.heap_cells.specs.Loading.{enc_of}
use Rattle.tuple_fronts.specs.declared.front_sink.FrontSink.{FrontSink}
use Rattle.tuple_fronts.specs.Inner.Hearing.{KeepsSection}
use Rattle.tuple_fronts.proofs.HearFacts.{section-keeps}
use Rattle.tuple_fronts.proofs.front_lines.keep_section.Goals as goal

pub returns-clause-keeps : goal.returns-clause-keeps
returns-clause-keeps g c =
    let now = (g.D.Dumps.state c.args.dumps.now).now in
    let found = section_in c.args.index.now c.args.place in
    let cells = c.args.cells.now in
    let s = c.args.skeleton.now in
    let first : FrontSink = record { skeleton = c.args.skeleton; cells = c.args.cells; enc = c.enc_of.result; kept = c.args.kept } in
    subst (λ e. KeepsSection s e now found cells c.args.kept c.keep_none.new.kept) (c.enc_of.ensures ∙ ap enc_of c.version.ensures)
    (section-keeps first c.hear_section.new.sink c.keep_none.new.kept now found cells refl c.in_ok-hear_section.ensures.hears c.in_ok-keep_none.ensures)
