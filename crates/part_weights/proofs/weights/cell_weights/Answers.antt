use Rattle.std.proofs.Common.{◌≡◌, ◌<◌, length, map, take, Some, sym, ◌∙◌, ap, subst}
use Rattle.std.specs.Prelude.{All}
use Rattle.cell_parts.specs.Elements.{cell_elements}
use Rattle.tuple_fronts.specs.Fronts.{cells_for}
use Rattle.part_keys.specs.Keys.{key_label, place_shape}
use Rattle.part_weights.specs.Weights.{first_parts, keyed, weighing}
use Rattle.part_weights.specs.Held.{sorted_parts}
use Rattle.part_weights.specs.Held.{held_place}
use Rattle.part_weights.proofs.KeyedFacts.{keyed-kept, texts-are}
use Rattle.part_weights.proofs.ShareFacts.{shares-count}
use Rattle.part_weights.proofs.weights.cell_weights.Goals as goal

pub held_keys-requires-clause-held : goal.held_keys-requires-clause-held
held_keys-requires-clause-held g c =
    let count : length c.deref.result.now ≡ length c.in_ok-parts.parts.parts =
    ap length c.deref.ensures.value ∙ shares-count c.args.skeleton c.in_ok-parts.parts.parts c.in_ok-alone.field-0 c.in_ok-alone.ensures in
    subst (All (λ h. h.part < length c.in_ok-parts.parts.parts)) (sym c.deref-2.ensures.value) (subst (λ n. All (λ h. h.part < n) c.in_ok-held.held.items) count c.in_ok-held.ensures.within)

pub invariant_of-result : goal.invariant_of-result
invariant_of-result g c =
    let count : length c.deref.result.now ≡ length c.in_ok-parts.parts.parts =
    ap length c.deref.ensures.value ∙ shares-count c.args.skeleton c.in_ok-parts.parts.parts c.in_ok-alone.field-0 c.in_ok-alone.ensures in record {
      over = c.in_ok-parts.ensures.over;
      within = subst (λ n. All (λ h. h.part < n) c.in_ok-held.held.items) count c.in_ok-held.ensures.within;
    }

pub returns-clause-weights : goal.returns-clause-weights
returns-clause-weights g c = λ dump is.
    let heap = c.args.skeleton in
    let parts = c.in_ok-parts.parts in
    let shares = c.in_ok-alone.field-0 in
    let held = c.in_ok-held.held.items in
    let cells = cells_for dump c.args.index.now c.args.pid.now in
    let elements = cell_elements heap.kinds heap.leads c.args.cell in
    let count : length c.deref.result.now ≡ length parts.parts = ap length c.deref.ensures.value ∙ shares-count heap parts.parts shares c.in_ok-alone.ensures in
    let alone : length parts.parts ≡ length shares.alone.items = sym (shares-count heap parts.parts shares c.in_ok-alone.ensures) in
    let held_is = c.in_ok-held.ensures.value ∙ ap (λ l. take c.args.most (sorted_parts l)) c.deref.ensures.value in
    let texts = c.in_ok-labels.ensures.shapes dump is
    ∙ ap (map (place_shape cells)) (c.deref-3.ensures.value ∙ c.in_ok-keys.ensures.keys)
    ∙ texts-are dump c.args.index.now c.args.pid.now heap parts.parts c.args.cell c.deref-2.result.now (c.requires.skeleton dump is)
    ∙ ap (map (λ h. key_label cells (held_place c.args.cell parts.parts h))) c.deref-2.ensures.value in
    keyed-kept cells c.args.cell heap parts shares held c.in_ok-labels.labels (Some c.in_ok-within.within) c.args.most elements c.in_ok-parts.ensures.parts c.in_ok-alone.ensures alone held_is
    (subst (λ n. All (λ h. h.part < n) held) count c.in_ok-held.ensures.within) texts
    ∙ ap (λ w. first_parts c.args.most (weighing heap (Some w) (keyed cells c.args.cell elements))) c.in_ok-within.ensures
