-- What a run of `redact` leaves.
use Rattle.dump_redact.specs.declared.faults.RedactFault.TheVariants as faults
use Rattle.std.proofs.Common.{◌∙◌, ◌≡◌, ap, arith, inl, inr, refl, subst, sym, Err, List, None, Ok, Option, Result, Some, ℕ}
use Rattle.std.specs.Prelude.{IfErr, IsErrOf, IsSome, OnOk}
use Rattle.std.specs.Option.{option_map, option_or}
use Rattle.dump_io.specs.Dumps.{told, DeviceState, ReadsAtMost}
use Rattle.dump_io.specs.Limits.{Numbers}
use Rattle.dump_io.specs.Sinks.{GainedFront, IsKept, SinkState, WritesAll}
use Rattle.dump_sections.specs.Bodies.{body_length}
use Rattle.dump_sections.specs.Index.{sections_in, Contents}
use Rattle.dump_sections.specs.Sections.{Section}
use Rattle.dump_redact.specs.Redacted.{redacted}
use Rattle.dump_redact.specs.Refusals.{heap_sections, large_heap, IsRedactCauseOf}
use Rattle.dump_sections.specs.Loading.{first_large, large_section}
use Rattle.dump_redact.specs.declared.faults.RedactFault.{RedactFault}
use Rattle.report_text.specs.declared.refusals.Refusal.{Refusal}
use Rattle.report_text.specs.declared.refusals.Refusal.TheVariants.{SectionTooLarge}
use Rattle.dump_questions.specs.Tasks.{large_refusal, question}
use Rattle.dump_questions.specs.Run.{HasStopped, IsDumpOf, IsLeftOf}
use Rattle.dump_questions.specs.Reading.{HasOpened, Takes}
use Rattle.dump_questions.specs.Runs.{Leaves, Runs}
use Rattle.stream_commands.specs.Inner.Stops.{redact_end}
use Rattle.dump_questions.specs.Laws.Runs.{through, IsThrough}
use Rattle.stream_commands.specs.Rows.{redact_row}

-- the refusal of the first heap that is too large, as that of the command
abbrev as_refusal : Option Section → Option Refusal
as_refusal large = option_map large_refusal (option_map large_section large)

-- the refusal of that heap, as the fault of the call
abbrev as_fault : Option Section → Option RedactFault
as_fault large = option_map (λ s. faults.SectionTooLarge s.at (body_length s)) large

-- where the command is refused, the call is
is-fault : (large : Option Section) → IsSome (as_refusal large) → IsSome (as_fault large)
is-fault None some = some
is-fault (Some s) some = refl

-- where the call isn't refused, the command isn't
no-refusal : (large : Option Section) → as_fault large ≡ None → as_refusal large ≡ None
no-refusal None none = refl
no-refusal (Some s) none = absurd (let no : ⊥ = cc none in no)

-- the call and the command are refused for the same heap
same-refusal : (large : Option Section) (at len : ℕ) → as_fault large ≡ Some (faults.SectionTooLarge at len) → as_refusal large ≡ Some (SectionTooLarge at len)
same-refusal None at len is = absurd (let no : ⊥ = cc is in no)
same-refusal (Some s) at len is = let place : s.at ≡ at = cc is in let size : body_length s ≡ len = cc is in ap (λ n. Some (SectionTooLarge n (body_length s))) place ∙ ap (λ n. Some (SectionTooLarge at n)) size

-- a dump that was opened and redacted, with what the call says of reads and of a heap that is too large
module _ (a b c : DeviceState) (file : List ℕ) (limits : Numbers) (index : Contents) (out out' : SinkState)
    (opened : HasOpened file limits a b index) (reads : ReadsAtMost b c index.size)
    (unread : IsSome (large_heap limits.section (sections_in index)) → ReadsAtMost b c 0) (unwritten : IsSome (large_heap limits.section (sections_in index)) → IsKept out out') where
  abbrev large : Option Section
  large = first_large limits.section (heap_sections (sections_in index))

  takes : Takes redact_row limits index b c
  takes =
      record {
        bytes = index.size;
        reads = reads;
        few = λ all indexed. omega (arith, indexed.of.size);
        unread = λ some. unread (is-fault large some);
      }

  known : IsThrough redact_row file limits index b.now a c
  known = through redact_row file limits index opened takes

  -- the command is refused for that heap alone
  refused : (bytes : List ℕ) → IsDumpOf a c (question file redact_row) bytes → (question file redact_row).refusal bytes limits ≡ as_refusal large
  refused bytes dump = (known.told bytes dump).1 ∙ by large
    where
      by : (o : Option Section) → option_or (as_refusal o) None ≡ as_refusal o
      by None = refl
      by (Some s) = refl

  -- what the command has left where the call failed
  left : (bytes : List ℕ) → IsDumpOf a c (question file redact_row) bytes → GainedFront out out' (redacted bytes) → IsLeftOf (question file redact_row) bytes ((question file redact_row).refusal bytes limits) out out'
  left bytes dump front = subst (λ r. IsLeftOf (question file redact_row) bytes r out out') (sym (refused bytes dump)) (by large refl)
    where
      by : (o : Option Section) → large ≡ o → IsLeftOf (question file redact_row) bytes (as_refusal o) out out'
      by None e = inr front
      by (Some s) e = unwritten (subst (λ o. IsSome (as_fault o)) (sym e) refl)

  -- where no heap is too large, the command isn't refused
  accepted : (bytes : List ℕ) → IsDumpOf a c (question file redact_row) bytes → as_fault large ≡ None → (question file redact_row).refusal bytes limits ≡ None
  accepted bytes dump none = refused bytes dump ∙ no-refusal large none

  stopped : ((bytes : List ℕ) → b.now ≡ told bytes → GainedFront out out' (redacted bytes)) → HasStopped (question file redact_row) limits a c out out'
  stopped front =
      record { absent = λ gone. absurd (known.there gone); told = λ bytes dump. left bytes dump (front bytes (known.told bytes dump).0.opened) }

  pub Runs-redact : (result : Result (Unit {0}) RedactFault) → ((bytes : List ℕ) → b.now ≡ told bytes → WritesAll out.written out'.written (redacted bytes) result)
      → IfErr result (IsRedactCauseOf (large_heap limits.section (sections_in index)) b c out out')
      → OnOk result (large_heap limits.section (sections_in index) ≡ None)
      → ((fault : RedactFault) → large_heap limits.section (sections_in index) ≡ Some fault → IsErrOf result fault)
      → Runs (question file redact_row) limits a c out out' (redact_end result)
  Runs-redact result writes cause none too_large =
      record { left = by result writes cause none too_large; gone = λ gone. absurd (known.there gone); same_files = known.same_files; later = known.later; taken = known.taken }
    where
      small : (o : Option Section) → large ≡ o → ((fault : RedactFault) → as_fault large ≡ Some fault → IsErrOf {T = Unit {0}} (Err faults.Write) fault) → as_fault large ≡ None
      small None e first = ap as_fault e
      small (Some s) e first = absurd (let no : ⊥ = cc (first (faults.SectionTooLarge s.at (body_length s)) (ap as_fault e)) in no)

      by : (result : Result (Unit {0}) RedactFault) → ((bytes : List ℕ) → b.now ≡ told bytes → WritesAll out.written out'.written (redacted bytes) result)
          → IfErr result (IsRedactCauseOf (as_fault large) b c out out') → OnOk result (as_fault large ≡ None) → ((fault : RedactFault) → as_fault large ≡ Some fault → IsErrOf result fault)
          → Leaves (question file redact_row) limits a c out out' (redact_end result)
      by (Ok done) writes cause none first =
          record {
            there = known.there;
            ends = inl refl;
            told = λ bytes dump. record { accepted = accepted bytes dump none; ends = refl; written = (writes bytes (known.told bytes dump).0.opened).whole };
          }
      by (Err (faults.SectionTooLarge at len)) writes cause none first = (
        record { proper = tt; there = known.there; told = λ bytes dump. refused bytes dump ∙ same-refusal large at len cause },
        unwritten (subst IsSome (sym cause) refl),
      )
      by (Err faults.Read) writes cause none first = (inl (omega (arith, cause.1, opened.later)), stopped (λ bytes told_is. (writes bytes told_is).front))
      by (Err faults.Write) writes cause none first =
          record {
            there = known.there;
            failed = cause.1;
            told = λ bytes dump. (accepted bytes dump (small large refl first), (writes bytes (known.told bytes dump).0.opened).front);
          }
      by (Err faults.Memory) writes cause none first = stopped (λ bytes told_is. (writes bytes told_is).front)
