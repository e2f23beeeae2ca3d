use Rattle.std.proofs.Common.{◌<◌, [], ◌∷◌, length, All, None, sym, ◌∙◌, ap, subst}
use Rattle.std.proofs.lemmas.List.Elements.{All-append, All-cons, All-nil}
use Rattle.dump_sections.specs.Loading.{sections_at}
use Rattle.dump_sections.specs.Bodies.{IsPlaceIn}
use Rattle.dump_audit.proofs.MailPlaces.{present-passed, present-taken}
use Rattle.dump_audit.proofs.mailboxes.present.Goals as goal
use Rattle.dump_audit.proofs.mailboxes.present.Goals.{in-Some+in_ok-push, in_default}

pub loop-place-preserved : goal.loop-place-preserved
loop-place-preserved c =
    let index = c.args.index.now in
    let places = c.args.places.now in
    let n = c.loop-place.place-index in
    elim c.match-place.branch [
      | in-Some+in_ok-push w ↦ rw w.present-is (record {
        sections = ap (λ l. sections_at index l) w.in_ok-push.ensures.items
            ∙ present-taken index places n c.loop-place-test.true c.loop-place.present.items w.in-Some.i w.in-Some.is c.loop-place.invariant.sections;
        within = subst (All (λ i. i < length index.headers)) (sym w.in_ok-push.ensures.items)
            (All-append (λ i. i < length index.headers) c.loop-place.present.items (w.in-Some.i ∷ []) c.loop-place.invariant.within
            (All-cons (λ i. i < length index.headers) w.in-Some.i [] (subst (IsPlaceIn index) w.in-Some.is (c.requires n None c.loop-place-test.true)) (All-nil (λ i. i < length index.headers))));
      })
      | in_default w ↦ rw w.present-is (record {
        sections = present-passed index places n c.loop-place-test.true c.loop-place.present.items w.in_default.is c.loop-place.invariant.sections;
        within = c.loop-place.invariant.within;
      })
    ]
