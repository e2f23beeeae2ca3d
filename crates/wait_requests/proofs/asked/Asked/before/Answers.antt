use Rattle.std.proofs.Common.{sym, ◌∙◌, ap}
use Rattle.std.proofs.lemmas.List.{length-map}
use Rattle.link_graph.specs.Seen.{shown_request}
use Rattle.wait_requests.specs.References.{tail_of}
use Rattle.wait_requests.specs.Inner.Asking.{before_words, place_in}
use Rattle.wait_requests.proofs.AskedFacts.{found-place, no-place}
use Rattle.wait_requests.proofs.asked.Asked.before.Goals as goal

pub returns-in-Some : goal.returns-in-Some
returns-in-Some c =
    found-place c.self.inside.places _ (tail_of c.args.words.now) c.in-Some.place.now c.self.invariant
    (ap (place_in c.self.inside.places) (sym c.in_ok-write_tail.ensures ∙ sym c.as_slice.ensures.value) ∙ sym c.in-Some.ensures.value)
    ∙ ap (λ requests. before_words requests c.args.words.now) c.self.view_is

pub returns-in-None : goal.returns-in-None
returns-in-None c =
    c.len.ensures ∙ c.self.inside.requests.ok.0 ∙ sym (length-map c.self.inside.requests.items shown_request)
    ∙ no-place c.self.inside.places _ (tail_of c.args.words.now) c.self.invariant
    (ap (place_in c.self.inside.places) (sym c.in_ok-write_tail.ensures ∙ sym c.as_slice.ensures.value) ∙ sym c.in-None.ensures.value)
    ∙ ap (λ requests. before_words requests c.args.words.now) c.self.view_is
