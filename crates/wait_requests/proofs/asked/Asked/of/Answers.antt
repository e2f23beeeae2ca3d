use Rattle.std.proofs.Common.{[], ◌∷◌, ◌++◌, take, sym, ◌∙◌, ap, append-nil}
use Rattle.std.specs.List.{filter_map}
use Rattle.std.specs.Option.{option_to_list, option_map}
use Rattle.link_graph.specs.Lists.{links_at}
use Rattle.link_graph.specs.Requests.{request_in}
use Rattle.link_graph.specs.Seen.{shown_entry, shown_request}
use Rattle.wait_requests.proofs.AskedFacts.{requests-more}
use Rattle.wait_requests.proofs.asked.Asked.of.Goals as goal
use Rattle.wait_requests.proofs.asked.Asked.of.Goals.{in-Some+in_ok-push, in_default}

pub loop-n-preserved : goal.loop-n-preserved
loop-n-preserved c =
    let entries = (links_at c.args.graph.now c.args.p).entries in
    let more = requests-more entries c.loop-n.n (shown_entry c.entry.result) c.entry.ensures in
    elim c.match-request_in.branch [
      | in-Some+in_ok-push w ↦
          w.asked-is ∙ w.in_ok-push.ensures ∙ ap (λ l. l ++ shown_request w.in-Some.request ∷ []) c.loop-n.invariant
          ∙ ap (λ o. filter_map request_in (take c.loop-n.n entries) ++ option_to_list o) (sym (ap (option_map shown_request) w.in-Some.is) ∙ c.request_in.ensures) ∙ sym more
      | in_default w ↦
          w.asked-is ∙ c.loop-n.invariant ∙ sym (append-nil (filter_map request_in (take c.loop-n.n entries)))
          ∙ ap (λ o. filter_map request_in (take c.loop-n.n entries) ++ option_to_list o) (sym (ap (option_map shown_request) w.in_default.is) ∙ c.request_in.ensures) ∙ sym more
    ]
