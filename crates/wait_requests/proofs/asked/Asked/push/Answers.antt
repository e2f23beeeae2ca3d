use Rattle.std.proofs.Common.{List, [], ◌∷◌, ◌++◌, length, map, sym, ◌∙◌, ap, subst}
use Rattle.std.proofs.lemmas.List.{length-map, map-append}
use Rattle.link_graph.specs.Seen.{shown_request}
use Rattle.link_graph.specs.declared.requests.Request.{Request as LentRequest}
use Rattle.wait_requests.specs.Inner.Asking.{IsNoted}
use Rattle.wait_requests.proofs.AskedFacts.{tree-more}
use Rattle.wait_requests.proofs.asked.Asked.push.Goals as goal

pub invariant_of-self-2 : goal.invariant_of-self-2
invariant_of-self-2 c =
    let requests = c.self.inside.requests.items in
    tree-more c.self.inside.places c.note_place.new.places (map shown_request requests) (map shown_request c.push_reserved.new.self.items) (shown_request c.args.request)
    c.self.invariant
    (subst (IsNoted c.self.inside.places c.note_place.new.places c.args.request.reference.now) (c.len.ensures ∙ c.reserve.new.self.ok.0 ∙ ap length c.reserve.ensures.items ∙ sym (length-map requests shown_request)) c.in_ok-note_place.ensures.noted)
    (ap (map shown_request) (c.push_reserved.ensures.items ∙ ap (λ (l : List LentRequest). l ++ c.args.request ∷ []) c.reserve.ensures.items) ∙ map-append shown_request requests (c.args.request ∷ []))
