use Rattle.std.proofs.Common.{◌≡◌, ◌<◌, length, take, All}
use Rattle.dump_sections.specs.Index.{sections_in}
use Rattle.dump_sections.specs.Loading.{sections_at}
use Rattle.dump_audit.specs.Mailboxes.{mailboxes_at}
use Rattle.dump_audit.proofs.mailboxes.present.Given as goal

-- those so far that are there were taken
abbrev pub invariant-loop-place : goal.invariant-loop-place
invariant-loop-place l =
    record {
      sections : sections_at l.index l.present.items ≡ mailboxes_at (sections_in l.index) (take l.place-index l.places);
      within : All (λ i. i < length l.index.headers) l.present.items;
    }
