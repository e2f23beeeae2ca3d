use Rattle.std.proofs.Common.{◌≡◌, [], sym, ◌∙◌, ap, map, subst, if◌then◌else◌}
use Rattle.std.specs.Prelude.{IfOk}
use Rattle.dump_sections.specs.Index.{sections_in}
use Rattle.dump_audit.specs.Mailboxes.{mailbox_place, mailbox_places}
use Rattle.dump_audit.proofs.Loads.{pids-found}
use Rattle.dump_audit.proofs.bodies.find_mailboxes.Goals as goal

pub returns-clause-places : goal.returns-clause-places
returns-clause-places c =
    let sections = sections_in c.args.index.now in
    subst (λ l. IfOk c.mailboxes.result (λ places. places.items ≡ l))
    (ap (map (mailbox_place sections)) (pids-found c.args.found.now sections c.requires) ∙ ap (λ b. if b then mailbox_places sections else []) (sym c.if-not-full.false))
    c.mailboxes.ensures.places
