use Rattle.std.proofs.Common.{◌≡◌, map, take, All}
use Rattle.dump_sections.specs.Index.{sections_in}
use Rattle.dump_audit.specs.Mailboxes.{mailbox_place}
use Rattle.dump_sections.specs.Bodies.{IsPlaceIn}
use Rattle.dump_audit.proofs.mailboxes.mailboxes.Given as goal

-- the places of the processes so far
abbrev pub invariant-loop-p : goal.invariant-loop-p
invariant-loop-p l =
    record {
      places : l.places.items ≡ map (mailbox_place (sections_in l.index)) (map (λ p. p.0) (take l.p l.found.places));
      within : All (IsPlaceIn l.index) l.places.items;
    }
