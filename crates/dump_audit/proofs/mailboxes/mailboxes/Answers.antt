use Rattle.std.proofs.Common.{◌≡◌, ℕ, List, [], ◌∷◌, ◌++◌, map, take, sym, ◌∙◌, ap, subst}
use Rattle.std.specs.Prelude.{All, Some, position}
use Rattle.std.proofs.lemmas.List.{map-append}
use Rattle.std.proofs.lemmas.List.Elements.{All-append, All-cons, All-nil}
use Rattle.dump_sections.specs.Index.{sections_in}
use Rattle.dump_sections.specs.Lookups.{is_named}
use Rattle.dump_audit.specs.Mailboxes.{mailbox_place}
use Rattle.dump_sections.specs.Bodies.{IsPlaceIn}
use Rattle.dump_audit.proofs.mailboxes.mailboxes.Goals as goal
use Rattle.dump_io.specs.Laws.Lists.{take-at}

abbrev pid : List ℕ × ℕ → List ℕ
pid p = p.0

pub loop-p-preserved : goal.loop-p-preserved
loop-p-preserved c =
    let index = c.args.index.now in
    let place_of = mailbox_place (sections_in index) in
    let found = c.args.found.now.places in
    let before = take c.loop-p.p found in
    let p : List ℕ × ℕ = (c.at-section.result.0.now, c.at-section.result.1) in
    let firsts = c.in_ok-firsts.firsts in
    let place : c.get-place.result ≡ place_of p.0 =
    c.get-place.ensures.place
    ∙ ap (λ tag. position (λ s. is_named tag (Some p.0) s.text) (sections_in firsts.index)) (c.in_ok-firsts.ensures.tag ∙ c.as_slice.ensures)
    ∙ ap (λ i. mailbox_place (sections_in i) p.0) c.in_ok-firsts.ensures.index in
    record {
      places = c.in_ok-push.ensures.items
          ∙ ap (λ l. l ++ c.get-place.result ∷ []) c.loop-p.invariant.places
          ∙ ap (λ o. map place_of (map pid before) ++ o ∷ []) place
          ∙ sym (map-append place_of (map pid before) (p.0 ∷ []))
          ∙ ap (map place_of) (sym (map-append pid before (p ∷ [])))
          ∙ ap (λ l. map place_of (map pid l)) (sym (take-at found c.loop-p.p p c.at-section.ensures));
      within = subst (All (IsPlaceIn index)) (sym c.in_ok-push.ensures.items)
          (All-append (IsPlaceIn index) c.loop-p.places.items (c.get-place.result ∷ []) c.loop-p.invariant.within
          (All-cons (IsPlaceIn index) c.get-place.result [] (subst (λ i. IsPlaceIn i c.get-place.result) c.in_ok-firsts.ensures.index c.get-place.ensures.within)
          (All-nil (IsPlaceIn index))));
    }
