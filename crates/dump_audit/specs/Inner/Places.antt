-- Where the bodies of an audit are.
use Rattle.std.specs.Prelude.{◌≡◌, ◌<◌, Bool, List, [], ◌++◌, length, All, if◌then◌else◌}
use Rattle.dump_sections.specs.Index.{Contents, sections_in}
use Rattle.dump_sections.specs.Sections.{Section}
use Rattle.dump_sections.specs.Loading.{sections_at}
use Rattle.process_table.specs.Records.{proc_places, record_sections}
use Rattle.dump_audit.specs.Mailboxes.{mailbox_places, mailboxes_at}
use Rattle.dump_sections.specs.Bodies.{IsPlaceIn}
use Rattle.dump_audit.specs.declared.bodies.BodyPlaces.{BodyPlaces}

-- the sections whose bodies an audit loads: those of the processes, and the mailboxes that were found
abbrev pub sections_found : Contents → BodyPlaces → List Section
sections_found index places = record_sections (sections_in index) ++ mailboxes_at (sections_in index) places.mailboxes.items

-- the bodies of an audit, from the index: the processes, in a
-- full audit their mailboxes, and those mailboxes that are there
pub record AreBodyPlaces (full : Bool) (index : Contents) (places : BodyPlaces) : Type 0 where
  pub found : places.found ≡ proc_places (sections_in index)
  pub mailboxes : places.mailboxes.items ≡ (if full then mailbox_places (sections_in index) else [])
  pub within : All (IsPlaceIn index) places.mailboxes.items
  pub present : sections_at index places.present.items ≡ mailboxes_at (sections_in index) places.mailboxes.items
  pub there : All (λ i. i < length index.headers) places.present.items
