use Rattle.std.proofs.Common.{◌≤◌, length, map, sym, ◌∙◌, ap, subst, arith}
use Rattle.std.proofs.lemmas.List.{take_all}
use Rattle.std.proofs.lemmas.List.Elements.{All-push}
use Rattle.part_keys.specs.KeyPlaces.{AreKeysWithin, IsKeyWithin, key_place}
use Rattle.part_weights.specs.Held.{held_place}
use Rattle.part_weights.proofs.KeyedFacts.{held-within, map-next}
use Rattle.part_weights.proofs.weights.held_keys.Goals as goal

pub held_key-requires-clause-part : goal.held_key-requires-clause-part
held_key-requires-clause-part c =
    held-within (length c.args.parts.now.parts) c.args.held.now c.loop-i.i c.held_at-h.result c.requires.held c.held_at-h.ensures

pub loop-i-preserved : goal.loop-i-preserved
loop-i-preserved c =
    let s = c.args.skeleton.now in
    record {
      keys = map-next (λ h. key_place s (held_place c.args.cell c.args.parts.now.parts h)) c.args.held.now c.loop-i.i c.held_at-h.result c.loop-i.keys.items c.push.new.self.items c.held_key.result
          c.held_at-h.ensures c.loop-i.invariant.keys c.in_ok-push.ensures.items c.held_key.ensures.key;
      within = subst (AreKeysWithin (length s.leads)) (sym c.in_ok-push.ensures.items)
          (All-push (IsKeyWithin (length s.leads)) c.loop-i.keys.items c.held_key.result c.loop-i.invariant.within c.held_key.ensures.within);
    }

pub returns-clause-keys : goal.returns-clause-keys
returns-clause-keys c =
    let held = c.args.held.now in
    let all : length held ≤ c.loop-i.i = omega (arith, c.loop-i-test.false) in
    c.loop-i.invariant.keys ∙ ap (map (λ h. key_place c.args.skeleton.now (held_place c.args.cell c.args.parts.now.parts h))) (take_all c.loop-i.i held all)
