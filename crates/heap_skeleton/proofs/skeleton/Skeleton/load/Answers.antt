use Rattle.std.proofs.Common.{◌++◌, [], refl, ◌∙◌, ap₂}
use Rattle.dump_sections.specs.Bodies.{section_in}
use Rattle.heap_cells.specs.Loading.{enc_of}
use Rattle.heap_graph.specs.Held.{first_lines}
use Rattle.heap_skeleton.specs.Skeletons.{skeleton_in}
use Rattle.heap_graph.specs.Laws.Elements.{alike-leads}
use Rattle.heap_skeleton.proofs.LoadFacts.{own-few, skeleton-sections}
use Rattle.heap_skeleton.proofs.skeleton.Skeleton.load.Goals as goal

pub settle-requires-clause-own : goal.settle-requires-clause-own
settle-requires-clause-own g c = own-few _ _ _ _ c.in_ok-held.held c.in_ok-held.own c.in_ok-held.ensures.holds

pub skeleton_of-requires-clause-holds : goal.skeleton_of-requires-clause-holds
skeleton_of-requires-clause-holds g c =
    let holds = c.in_ok-held.ensures.holds in
    let all = holds.heap_lines ++ holds.literal_lines in
    record { lines = first_lines [] all; held_is = c.in_ok-settle.ensures.kept.held_is all holds.held_is }

pub skeleton_of-requires-clause-leads : goal.skeleton_of-requires-clause-leads
skeleton_of-requires-clause-leads g c =
    alike-leads c.in_ok-held.held.elements c.in_ok-settle.field-0.settled.held.elements c.in_ok-settle.ensures.kept.alike c.in_ok-held.ensures.leads

pub returns-clause-skeleton : goal.returns-clause-skeleton
returns-clause-skeleton g c = λ dump is.
    let index = c.args.index.now in
    let holds = c.in_ok-held.ensures.holds in
    let kept = c.in_ok-settle.ensures.kept in
    let hs = holds.heap_lines in
    let ls = holds.literal_lines in
    c.in_ok-skeleton_of.ensures.lines (first_lines [] (hs ++ ls)) (kept.held_is (hs ++ ls) holds.held_is)
    ∙ skeleton-sections (enc_of index.version) dump index (section_in index c.first-heap.result) (section_in index c.first_tag-literals.result) c.in_ok-settle.field-0.settled.own c.in_ok-held.own hs ls
    refl (holds.heap_are dump is) (holds.literals_are dump is) holds.own_is (kept.own_is (hs ++ ls) holds.held_is)
    ∙ ap₂ (skeleton_in dump index) c.first-heap.ensures.section c.first_tag-literals.ensures.section
