use Rattle.std.proofs.Common.{◌≡◌, [], ◌++◌, map, sym, ◌∙◌, ap, append-nil}
use Rattle.std.specs.List.{cons_option}
use Rattle.wait_requests.specs.Held.{awaited_behind, slot_in}
use Rattle.wait_requests.specs.declared.slot_sink.SlotSink.{SlotSink}
use Rattle.root_views.specs.Seen.{root}
use Rattle.wait_requests.specs.Inner.Hearing.{keyed}
use Rattle.wait_requests.proofs.SlotFacts.{slots-heard}
use Rattle.wait_requests.proofs.slot_sink.SlotSinkEachRoot.root.Goals as goal
use Rattle.wait_requests.proofs.slot_sink.SlotSinkEachRoot.root.Goals.{in-Some+in_ok-push, in_default}

pub returns-clause-hears : goal.returns-clause-hears
returns-clause-hears c =
    slots-heard c.args.self.now (record { awaited = c.awaited_behind-self.result; slots = c.match-slot_in.self.slots }) (root c.args.found.now) awaited slots
  where
    awaited : c.awaited_behind-self.result ≡ awaited_behind c.args.self.now.awaited (root c.args.found.now).content
    awaited = c.awaited_behind-self.ensures ∙ elim c.match-slot_in.branch [
      | in-Some+in_ok-push w ↦ ap (λ (s : SlotSink). awaited_behind s.awaited (root c.args.found.now).content) w.self-is
      | in_default w ↦ ap (λ (s : SlotSink). awaited_behind s.awaited (root c.args.found.now).content) w.self-is
    ]

    slots : c.match-slot_in.self.slots.items ≡ c.args.self.now.slots.items ++ map keyed (cons_option (slot_in c.args.self.now.awaited (root c.args.found.now).content) [])
    slots = elim c.match-slot_in.branch [
      | in-Some+in_ok-push w ↦ ap (λ (s : SlotSink). s.slots.items) w.self-is ∙ w.in_ok-push.ensures.items
          ∙ ap (λ o. c.args.self.now.slots.items ++ map keyed (cons_option o [])) (sym w.in-Some.is ∙ c.slot_in.ensures)
      | in_default w ↦ ap (λ (s : SlotSink). s.slots.items) w.self-is ∙ sym (append-nil c.args.self.now.slots.items)
          ∙ ap (λ o. c.args.self.now.slots.items ++ map keyed (cons_option o [])) (sym w.in_default.is ∙ c.slot_in.ensures)
    ]
