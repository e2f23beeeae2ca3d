-- What a question to a dump means: what it reports, which bodies it loads
-- for that, why it is refused, and how much it takes.
use Rattle.std.specs.Prelude.{ℕ, Bool, false, List, [], ◌∷◌, codes, Option, None, Some, is_some, if◌then◌else◌}
use Rattle.std.specs.Option.{option_to_list}
use Rattle.dump_io.specs.Limits.{Numbers}
use Rattle.dump_sections.specs.Bodies.{at_place, body_in, body_start}
use Rattle.dump_sections.specs.Loading.{bodies_length}
use Rattle.dump_sections.specs.Lookups.{first_named, first_tagged}
use Rattle.dump_sections.specs.Sections.{Section, sections}
use Rattle.dump_audit.specs.declared.finding.Finding.{Finding}
use Rattle.report_text.specs.declared.refusals.Refusal.{Refusal}
use Rattle.report_text.specs.declared.refusals.Refusal.TheVariants.{NoProcess}

-- ---- sections of a dump

-- the first of these sections
abbrev pub first_section : List Section → Section
first_section sections = at_place sections 0

-- the first section of the process with this pid, if there is one
abbrev pub process_section : List ℕ → List Section → Option Section
process_section pid sections = first_named (codes "proc") pid sections

-- the first section on memory, if there is one
abbrev pub memory_section : List Section → Option Section
memory_section sections = first_tagged (codes "memory") sections

-- no section is that of the process
abbrev pub no_process : List ℕ → List Section → Option Refusal
no_process pid sections = if is_some (process_section pid sections) then None else Some (NoProcess pid)

-- ---- what is seen of a section

-- the body of a section, and its offset in the file
pub record Part : Type 0 where
  pub base : ℕ
  pub bytes : List ℕ

-- the part of a dump that is found among its sections; a missing section counts as empty
abbrev pub part_in : (List Section → Option Section) → List ℕ → Part
part_in find bytes = let found = find (sections bytes) in record { base = body_start found; bytes = body_in bytes found }

-- ---- what a question means

-- what a question to a dump means
pub record Meaning : Type 1 where
  -- what it shows of a dump
  pub What : Type 0
  -- what it shows of the dump with these bytes
  pub what : List ℕ → What
  -- how that is reported
  pub show : What → List ℕ
  -- what is found in that, if the question is for findings: it ends with 3 if there is one
  pub found : Option (What → List Finding)
  -- why it is refused for the sections of the dump, before a body is read: what it asks for isn't there
  pub refused_unread : List Section → Option Refusal
  -- the bodies that it loads, in the order in which they are judged and read
  pub bodies : List Section → List Section
  -- why it is refused for what was read of them
  pub refused_read : Numbers → List ℕ → Option Refusal
  -- the most bytes that it takes from the device after the pass over the dump
  pub takes : Numbers → List ℕ → ℕ
  -- whether its report is written while the dump is read
  pub streams : Bool

-- ---- kinds of questions

-- no body
abbrev pub no_body : List Section → List Section
no_body sections = []

-- the body of the first section
abbrev pub first_body : List Section → List Section
first_body sections = first_section sections ∷ []

-- the body of the first section on memory, if there is one
abbrev pub memory_body : List Section → List Section
memory_body sections = option_to_list (memory_section sections)

-- a question that loads these bodies alone, and is refused only if one is too large
abbrev pub of_bodies : {A : Type 0} → (List Section → List Section) → (List ℕ → A) → (A → List ℕ) → Meaning
of_bodies {A} bodies what show = record {
  What = A;
  what = what;
  show = show;
  found = None;
  refused_unread = λ ss. None;
  bodies = bodies;
  refused_read = λ limits bytes. None;
  takes = λ limits bytes. bodies_length (bodies (sections bytes));
  streams = false;
}

-- a question that may load the body of one section, and shows it
abbrev pub of_section : (List Section → Option Section) → (Part → List ℕ) → Meaning
of_section find show = of_bodies (λ ss. option_to_list (find ss)) (part_in find) show

-- a question that shows the body of a section, and is also refused if that section isn't there
abbrev pub of_subject : (List Section → Option Section) → Refusal → (Part → List ℕ) → Meaning
of_subject find why show = record (of_section find show) { refused_unread = λ ss. if is_some (find ss) then None else Some why }
