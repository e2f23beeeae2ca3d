use Rattle.std.proofs.Common.{refl, subst, take}
use Rattle.dump_sections.specs.Bodies.{section_in}
use Rattle.heap_cells.specs.Loading.{enc_of}
use Rattle.tuple_fronts.specs.Inner.Hearing.{IsSplitAt}
use Rattle.tuple_fronts.proofs.HearFacts.{sections-keep, sections-same}
use Rattle.tuple_fronts.proofs.front_lines.keep_fronts.Goals as goal

pub returns-clause-keeps : goal.returns-clause-keeps
returns-clause-keeps g c =
    let d = g.D.Dumps in
    let index = c.args.index.now in
    let enc = enc_of index.version in
    let now = (d.state c.args.dumps.now).now in
    let heap = section_in index c.args.heap in
    let literals = section_in index c.args.literals in
    let s = c.args.skeleton.now in
    let cells = c.args.cells.now in
    let count = c.own_count-count.result in
    let split = subst (λ own. IsSplitAt own cells count) c.own.ensures.value c.own_count-count.ensures.split in
    let last = c.in_ok-kept-2.kept in
    sections-same c.args.most s enc now heap literals cells last c.shrink.new.self c.shrink.ensures.texts c.shrink.ensures.ends c.shrink.ensures.lasts c.shrink.ensures.most
    (sections-keep c.args.most s enc now (d.state c.keep_section.new.dumps).now heap literals cells (take count cells) c.cells_behind-others.result.now count c.new-none.result c.in_ok-kept.kept last split refl
    c.cells_behind-others.ensures c.in_ok-kept.ensures.reads.same_now c.new-none.ensures.most c.new-none.ensures.kept c.in_ok-kept.ensures.keeps c.in_ok-kept-2.ensures.keeps)
