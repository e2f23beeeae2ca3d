use Rattle.std.proofs.Common.{ℕ, List, ◌∙◌, length, map, sym, ap, ap₂, subst}
use Rattle.std.specs.List.{flat_map}
use Rattle.dump_sections.specs.Index.{sections_in}
use Rattle.heap_skeleton.specs.Skeletons.{SkeletonMap}
use Rattle.part_keys.specs.KeyPlaces.{AreKeysWithin}
use Rattle.part_keys.specs.Keys.{place_shape}
use Rattle.part_keys.specs.PartShapes.{AreShapedWithin, part_shape}
use Rattle.tuple_fronts.specs.Fronts.{cells_for}
use Rattle.heap_levels.specs.Inner.Plain.{LevelMap, all_keys, levels_finished, levels_with}
use Rattle.heap_levels.specs.Inner.Reading.{level_keys, roots_in, shown_found}
use Rattle.heap_levels.proofs.FinishFacts.{levels-are}
use Rattle.heap_levels.proofs.KeyFacts.{keys-shown, keys-within}
use Rattle.heap_levels.proofs.all_levels.Levels.load.Goals as goal

pub read_shapes-requires-clause-keys : goal.read_shapes-requires-clause-keys
read_shapes-requires-clause-keys g c =
    let size = length c.in_ok-skeleton.skeleton.leads in
    subst (AreKeysWithin size) (sym (c.deref-2.ensures.value ∙ c.in_ok-keys.ensures ∙ ap (flat_map level_keys) c.deref.ensures.value))
    (keys-within size c.in_ok-found.found.below.levels.items c.in_ok-found.ensures.within.keys)

pub read_shapes-requires-clause-parts : goal.read_shapes-requires-clause-parts
read_shapes-requires-clause-parts g c = subst (AreShapedWithin (length c.in_ok-skeleton.skeleton.leads)) (sym c.deref-3.ensures.value) c.in_ok-found.ensures.within.last.shaped

pub levels_finished-requires : goal.levels_finished-requires
levels_finished-requires g c = c.in_ok-texts.ensures.parts_count ∙ ap length c.deref-3.ensures.value ∙ c.in_ok-found.ensures.within.last.count

pub returns-clause-levels : goal.returns-clause-levels
returns-clause-levels g c = λ bytes is.
    let skeleton = c.in_ok-skeleton.ensures in
    let index = c.args.index.now in
    let pid = c.args.pid.now in
    let cells = cells_for bytes index pid in
    let told = skeleton.reads.same_now ∙ is in
    let later = c.in_ok-kinds.ensures.reads.same_now ∙ told in
    let roots = λ (addresses : List ℕ). roots_in addresses bytes (sections_in index) pid in
    let found_is = c.in_ok-found.ensures.levels (roots c.in_ok-skeleton.skeleton.addresses) (c.in_ok-kinds.ensures.kinds bytes told)
    ∙ ap (λ (heap : SkeletonMap). levels_with c.args.most heap (roots heap.addresses)) (skeleton.skeleton bytes is) in
    let keys_are = c.deref-2.ensures.value ∙ c.in_ok-keys.ensures ∙ ap (flat_map level_keys) c.deref.ensures.value ∙ keys-shown c.in_ok-found.found.below.levels.items in
    c.in_ok-levels.ensures
    ∙ ap₂ (levels_finished c.args.most (shown_found c.in_ok-found.found)) (c.in_ok-texts.ensures.labels bytes later ∙ ap (map (place_shape cells)) keys_are)
    (c.in_ok-texts.ensures.shapes bytes later ∙ ap (map (part_shape cells)) c.deref-3.ensures.value)
    ∙ ap (λ (found : LevelMap). levels_finished c.args.most found (map (place_shape cells) (all_keys found.below)) (map (part_shape cells) found.last.shaped)) found_is
    ∙ levels-are c.args.most bytes index pid
