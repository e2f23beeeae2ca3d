use Rattle.std.proofs.Common.{sym, ◌∙◌, ap₂, map}
use Rattle.dump_sections.specs.Bodies.{section_in}
use Rattle.heap_cells.specs.Loading.{enc_of}
use Rattle.heap_skeleton.specs.Skeletons.{heap_in, skeleton_in}
use Rattle.tuple_fronts.specs.Fronts.{first_of}
use Rattle.tuple_fronts.proofs.LoadFacts.{kept-count, kept-fronts, kept-sound}
use Rattle.tuple_fronts.proofs.fronts.TupleFronts.load_first.Goals as goal

pub invariant_of-result : goal.invariant_of-result
invariant_of-result g c =
    let index = c.args.index.now in
    kept-sound c.args.most c.args.skeleton.now (enc_of index.version) (g.D.Dumps.state c.args.dumps.now).now (section_in index c.first-heap.result) (section_in index c.first_tag-literals.result) c.args.cells.now
    c.in_ok-kept.kept c.in_ok-kept.ensures.keeps

pub returns-clause-count : goal.returns-clause-count
returns-clause-count g c =
    let index = c.args.index.now in
    kept-count c.args.most c.args.skeleton.now (enc_of index.version) (g.D.Dumps.state c.args.dumps.now).now (section_in index c.first-heap.result) (section_in index c.first_tag-literals.result) c.args.cells.now
    c.in_ok-kept.kept c.in_ok-kept.ensures.keeps

pub returns-clause-fronts : goal.returns-clause-fronts
returns-clause-fronts g c = λ dump is.
    let index = c.args.index.now in
    let cells = c.args.cells.now in
    let heap = c.first-heap.ensures.section in
    let literals = c.first_tag-literals.ensures.section in
    kept-fronts c.args.most c.args.skeleton.now (g.D.Dumps.state c.args.dumps.now).now dump index (section_in index c.first-heap.result) (section_in index c.first_tag-literals.result) cells c.in_ok-kept.kept is
    (c.requires.skeleton dump is ∙ sym (ap₂ (skeleton_in dump index) heap literals)) c.requires.ascending c.requires.cells c.in_ok-kept.ensures.keeps
    ∙ ap₂ (λ h l. map (first_of c.args.most (heap_in dump index h l).cells) cells) heap literals
