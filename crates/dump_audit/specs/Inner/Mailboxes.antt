-- The mailboxes of processes.
use Rattle.std.specs.Prelude.{ℕ, List, ◌≤◌, Option, IfSome}
use Rattle.dump_sections.specs.Bodies.{body_length, section_at}
use Rattle.dump_sections.specs.Index.{Contents, sections_in}
use Rattle.dump_sections.specs.Loading.{bodies_length}
use Rattle.dump_audit.specs.Mailboxes.{mailboxes_at}

-- the body of the mailbox, if there is one, isn't longer than the limit
abbrev pub IsSmall : Contents → ℕ → Option ℕ → Type 0
IsSmall index limit place = IfSome place (λ i. body_length (section_at index i) ≤ limit)

-- how many bytes the mailboxes at these places have together
abbrev pub mails_length : Contents → List (Option ℕ) → ℕ
mails_length index places = bodies_length (mailboxes_at (sections_in index) places)
