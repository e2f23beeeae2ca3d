use Rattle.std.proofs.Common.{◌≡◌, ℕ, ◌<◌, length, take, ◌∙◌, sym, ap, subst}
use Rattle.std.specs.Prelude.{All}
use Rattle.part_weights.specs.Held.{rows_at, sorted_parts}
use Rattle.heap_levels.specs.Levels.{Level}
use Rattle.heap_levels.specs.Inner.Plain.{keys_of}
use Rattle.heap_levels.proofs.LevelFacts.{alone-kept, keyed-kept, keys-kept, level-kept, shares-count}
use Rattle.heap_levels.proofs.levels.weigh_level.Goals as goal

pub rows_at-requires-clause-held : goal.rows_at-requires-clause-held
rows_at-requires-clause-held c =
    let parts = c.args.parts.now.parts in
    let count : length c.deref.result.now ≡ length parts =
    ap length c.deref.ensures.value ∙ shares-count c.args.skeleton.now parts c.in_ok-alone.field-0 c.in_ok-alone.ensures in
    subst (All (λ h. h.part < length parts)) (sym c.deref-2.ensures.value) (subst (λ n. All (λ h. h.part < n) c.in_ok-held.held.items) count c.in_ok-held.ensures.within)

pub keys_of-requires-clause-held : goal.keys_of-requires-clause-held
keys_of-requires-clause-held c =
    let parts = c.args.parts.now.parts in
    let count : length c.deref.result.now ≡ length parts =
    ap length c.deref.ensures.value ∙ shares-count c.args.skeleton.now parts c.in_ok-alone.field-0 c.in_ok-alone.ensures in
    subst (All (λ h. h.part < length parts)) (sym c.deref-3.ensures.value) (subst (λ n. All (λ h. h.part < n) c.in_ok-held.held.items) count c.in_ok-held.ensures.within)

pub parts_of_level-requires-clause-count : goal.parts_of_level-requires-clause-count
parts_of_level-requires-clause-count c = ap length c.deref-4.ensures.value ∙ shares-count c.args.skeleton.now c.args.parts.now.parts c.in_ok-alone.field-0 c.in_ok-alone.ensures

pub returns-clause-keys : goal.returns-clause-keys
returns-clause-keys c = c.in_ok-keys.ensures.within

pub returns-clause-parts : goal.returns-clause-parts
returns-clause-parts c = c.in_ok-parts.ensures.within

pub returns-clause-level : goal.returns-clause-level
returns-clause-level c = λ elements made.
    let heap = c.args.skeleton.now in
    let subject = c.args.subject in
    let most = c.args.most in
    let parts = c.args.parts.now in
    let shares = c.in_ok-alone.field-0 in
    let held = c.in_ok-held.held.items in
    let held_is = c.in_ok-held.ensures.value ∙ ap (λ l. take most (sorted_parts l)) c.deref.ensures.value in
    let made_level : (n : ℕ) → Level = λ n. record { subject = subject; rows = c.in_ok-rows.rows; shared = shares.shared; reached = shares.reached; parts = n } in record {
      level = keyed-kept most heap subject elements (made_level c.len.result) c.in_ok-keys.keys.items
          (ap made_level c.len.ensures
          ∙ level-kept heap subject parts shares held c.in_ok-rows.rows most elements made c.in_ok-alone.ensures held_is (c.in_ok-rows.ensures ∙ ap (rows_at heap parts.parts) c.deref-2.ensures.value))
          (c.in_ok-keys.ensures.keys ∙ ap (keys_of heap subject parts.parts) c.deref-3.ensures.value ∙ keys-kept heap subject parts shares held most elements made c.in_ok-alone.ensures held_is);
      parts = c.in_ok-parts.ensures.parts elements made (c.deref-4.ensures.value ∙ alone-kept heap parts.parts shares c.in_ok-alone.ensures);
    }
