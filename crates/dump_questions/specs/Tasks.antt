-- What a command does on the bytes of a dump: what it reports, why it is refused, and how much
-- it takes. A command without a file reports on no bytes, and isn't refused.
use Rattle.std.specs.Prelude.{ℕ, ◌+◌, Bool, false, List, [], ◌∷◌, length, Option, None, Some, is_some, if◌then◌else◌}
use Rattle.std.specs.Option.{option_map, option_map_or, option_or}
use Rattle.dump_io.specs.Limits.{Numbers}
use Rattle.dump_audit.specs.declared.finding.Finding.{Finding}
use Rattle.dump_sections.specs.Loading.{large_fault}
use Rattle.dump_sections.specs.declared.bodies.LargeSection.{LargeSection}
use Rattle.dump_sections.specs.Sections.{Section, sections}
use Rattle.section_index.specs.Opening.{open_fault}
use Rattle.report_text.specs.declared.refusals.Refusal.{Refusal}
use Rattle.report_text.specs.declared.refusals.Refusal.TheVariants.{Open, SectionTooLarge}
use Rattle.dump_questions.specs.Meaning.{Meaning}

-- what a command does
pub record Task : Type 0 where
  -- the name of the file that it opens, if it opens one
  pub file : Option (List ℕ)
  -- its report on the bytes of its file
  pub report : List ℕ → List ℕ
  -- the status of its report: 3 if there are findings in it, and otherwise 0
  pub status : List ℕ → ℕ
  -- whether it looks for findings
  pub finds : Bool
  -- why it is refused on these bytes under these limits, or `None`: the first cause that holds
  pub refusal : List ℕ → Numbers → Option Refusal
  -- the most bytes that it takes from the device: those of the dump and, unless it is refused
  -- before it reads a body, those that it takes after the pass over the dump
  pub allowance : List ℕ → Numbers → ℕ
  -- whether its report is written while the dump is read
  pub streams : Bool

-- ---- a question to a dump

-- the status of a report with these findings
abbrev pub status_of : List Finding → ℕ
status_of [] = 0
status_of (finding ∷ findings) = 3

-- the status of the report on what was seen: 3 if there are findings in it, and otherwise 0
abbrev pub status_for : (means : Meaning) → means.What → ℕ
status_for means seen = option_map_or (λ find. status_of (find seen)) means.found 0

-- the refusal of a section that is too large
abbrev pub large_refusal : LargeSection → Refusal
large_refusal large = SectionTooLarge large.at large.len

-- the refusal of the first of these bodies that has more bytes than the limit
abbrev pub too_large : ℕ → List Section → Option Refusal
too_large limit sections = option_map large_refusal (large_fault limit sections)

-- why a question is refused for the sections of a dump, before a body
-- is read: what it asks for isn't there, or a body that it loads is too large
abbrev pub refusal_listed : Meaning → List Section → Numbers → Option Refusal
refusal_listed means sections limits = option_or (means.refused_unread sections) (too_large limits.section (means.bodies sections))

-- why a question to these bytes is refused before a body is read: they
-- aren't accepted as a dump, or it is refused for their sections
abbrev pub refusal_unread : Meaning → List ℕ → Numbers → Option Refusal
refusal_unread means bytes limits = option_or (option_map Open (open_fault bytes limits)) (refusal_listed means (sections bytes) limits)

-- a question to the dump in the file with this name
abbrev pub question : List ℕ → Meaning → Task
question name means = record {
  file = Some name;
  report = λ bytes. means.show (means.what bytes);
  status = λ bytes. status_for means (means.what bytes);
  finds = is_some means.found;
  refusal = λ bytes limits. option_or (refusal_unread means bytes limits) (means.refused_read limits bytes);
  allowance = λ bytes limits. length bytes + (if is_some (refusal_unread means bytes limits) then 0 else means.takes limits bytes);
  streams = means.streams;
}

-- ---- a command without a file

-- a command without a file that reports this
abbrev pub alone : List ℕ → Task
alone text = record {
  file = None;
  report = λ bytes. text;
  status = λ bytes. 0;
  finds = false;
  refusal = λ bytes limits. None;
  allowance = λ bytes limits. 0;
  streams = false;
}
