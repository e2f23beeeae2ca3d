-- What the run of a command leaves, by what was opened, read and written, and how the run ends.
use Rattle.std.proofs.Common.{◌≡◌, ◌⊎◌, ◌≤◌, ℕ, List, [], Option, None, Some, Result, Ok, Err, MatchResult, if◌then◌else◌, refl, sym, ◌∙◌, ap, subst, inl, inr, arith}
use Rattle.std.specs.Prelude.{◌∷◌, Bool, true, false, IsSome, IsSomeAnd, IsTrue, MatchOption, is_some, IfErr}
use Rattle.std.specs.Option.{option_map, option_map_or, option_or}
use Rattle.dump_io.specs.Counts.{plus_capped}
use Rattle.dump_io.specs.Dumps.{Files, Now, told, IsAbsent, DeviceState, DeviceFailed, ReadsAtMost, closed}
use Rattle.dump_io.specs.Limits.{Numbers}
use Rattle.dump_io.specs.Sinks.{SinkState, GainsFront, IsKept, Puts, grown, SinkFailed, Gained}
use Rattle.dump_sections.specs.Index.{Contents, sections_in}
use Rattle.section_index.specs.Answers.{IsFileOf, IsHeld}
use Rattle.dump_sections.specs.Sections.{sections}
use Rattle.report_text.specs.declared.refusals.Refusal.{Refusal}
use Rattle.dump_audit.specs.declared.finding.Finding.{Finding}
use Rattle.report_text.specs.declared.refusals.Refusal.TheVariants.{Open}
use Rattle.report_text.specs.Refusals.{refusal_line}
use Rattle.dump_questions.specs.Meaning.{Meaning}
use Rattle.dump_questions.specs.Tasks.{Task, question, refusal_listed, refusal_unread, status_for, status_of}
use Rattle.dump_questions.specs.Run.{EndsTold, IsDumpOf, IsLeft, IsLeftBy, IsLeftOf, IsMissing, TakesAtMost, Ends, IsFrontOf, IsRunOf, Reports}
use Rattle.dump_questions.specs.Runs.{RunsAlone, EndsWith, Leaves, Runs, IsDone, IsRefusedFor}
use Rattle.dump_questions.specs.Reading.{HasOpened, IsIndexed, IsUnopened, IsUnopenedFor, HasRead, IsHalted, StopsFor, Takes, Tells, TellsOf, refusal_over}
use Rattle.dump_questions.specs.declared.stop.Stop.{Stop}
use Rattle.dump_questions.specs.declared.stop.Stop.TheVariants.{Refused, NotRead, NotWritten, NoMemory}
use Rattle.dump_questions.specs.Stops.{EndsAs, IsProper}

-- a command that wrote nothing left nothing
pub IsLeft-kept : (task : Task) (limits : Numbers) (before after : DeviceState) (out out' : SinkState) → IsKept out out' → IsLeft task limits before after out out'
IsLeft-kept task limits before after out out' kept = by task.streams
  where
    of : (why : Option Refusal) (bytes : List ℕ) → IsLeftOf task bytes why out out'
    of None bytes = inl kept
    of (Some why) bytes = kept

    by : (streams : Bool) → IsLeftBy streams task limits before after out out'
    by false = kept
    by true = record { absent = λ gone. kept; told = λ bytes dump. of (task.refusal bytes limits) bytes }

-- ---- a dump that wasn't opened

-- a question whose dump wasn't opened
pub Runs-unopened : (means : Meaning) (name : List ℕ) (limits : Numbers) (before after : DeviceState) (out out' : SinkState) (stop : Stop)
    → IsUnopened name limits before after stop → IsKept out out' → Runs (question name means) limits before after out out' (Err stop)
Runs-unopened means name limits before after out out' stop un kept =
    record { left = left stop un.cause; gone = un.gone; same_files = un.same_files; later = un.later; taken = λ bytes dump. omega (arith, un.taken bytes dump) }
  where
    left : (stop : Stop) → IsUnopenedFor name limits before after stop → Leaves (question name means) limits before after out out' (Err stop)
    left (Refused why) cause = (
      record {
        proper = cause.proper;
        there = cause.there;
        told = λ bytes dump.
            let is = cause.told bytes dump in
            ap (λ o. option_or (option_or (option_map Open o) (refusal_listed means (sections bytes) limits)) (means.refused_read limits bytes)) is.1
            ∙ ap Some (sym is.2);
      },
      kept,
    )
    left NotRead cause = (cause, IsLeft-kept (question name means) limits before after out out' kept)
    left NotWritten cause = absurd cause
    left NoMemory cause = IsLeft-kept (question name means) limits before after out out' kept

-- ---- a dump that was opened and then read

stays : (told_files : Option Files) (before now : Now) (name bytes : List ℕ) → now ≡ before
    → IsHeld told_files name bytes ⊎ (now ≡ told bytes) → IsHeld told_files name bytes ⊎ (before ≡ told bytes)
stays told_files before now name bytes same (inl is) = inl is
stays told_files before now name bytes same (inr is) = inr (sym same ∙ is)

-- what is known of a dump that was opened and read, whatever came of the reading
pub record IsThrough (means : Meaning) (name : List ℕ) (limits : Numbers) (index : Contents) (now : Now) (before after : DeviceState) : Type 0 where
  pub there : IsAbsent before.files name → ⊥
  pub told : (bytes : List ℕ) → IsFileOf before after name bytes
      → IsIndexed bytes limits index now × ((question name means).refusal bytes limits ≡ refusal_over means index bytes limits)
  pub same_files : after.files ≡ before.files
  pub later : before.faults ≤ after.faults
  pub taken : TakesAtMost (question name means) limits before after

taken-few : (listed : Option Refusal) (before after : DeviceState) (count most : ℕ) → ReadsAtMost before after count → count ≤ most → (IsSome listed → ReadsAtMost before after 0)
    → after.taken ≤ plus_capped before.taken (if is_some listed then 0 else most)
taken-few None before after count most reads few unread = omega (arith, reads.taken_most, few)
taken-few (Some why) before after count most reads few unread = (unread refl).taken_most

-- what is refused before the bodies, by the index
unread-indexed : (means : Meaning) (bytes : List ℕ) (limits : Numbers) (index : Contents) (now : Now) → IsIndexed bytes limits index now
    → refusal_unread means bytes limits ≡ refusal_listed means (sections_in index) limits
unread-indexed means bytes limits index now all =
    ap (λ o. option_or (option_map Open o) (refusal_listed means (sections bytes) limits)) all.accepted
    ∙ ap (λ i. refusal_listed means (sections_in i) limits) (sym all.is)

-- a dump that was opened, of which a question took what it may take
pub through : {a b c : DeviceState} (means : Meaning) (name : List ℕ) (limits : Numbers) (index : Contents)
    → HasOpened name limits a b index → Takes means limits index b c → IsThrough means name limits index b.now a c
through {a} {b} {c} means name limits index opened takes =
    let file : (bytes : List ℕ) → IsFileOf a c name bytes → IsFileOf a b name bytes =
    λ bytes dump. stays a.files b.now c.now name bytes takes.reads.same_now dump in
    record {
      there = opened.there;
      told = λ bytes dump.
          let all = opened.told bytes (file bytes dump) in
          (all, ap (λ o. option_or o (means.refused_read limits bytes)) (unread-indexed means bytes limits index b.now all));
      same_files = takes.reads.same_files ∙ opened.same_files;
      later = omega (arith, takes.reads.later, opened.later);
      taken = λ bytes dump.
          let all = opened.told bytes (file bytes dump) in
          omega (
            arith,
            opened.taken bytes (file bytes dump),
            taken-few _ b c takes.bytes (means.takes limits bytes) takes.reads (takes.few bytes all) takes.unread,
            ap (λ r. if is_some r then 0 else means.takes limits bytes) (unread-indexed means bytes limits index b.now all),
          );
    }

-- a question that stopped while it read
pub Runs-halted : {a b c : DeviceState} {out out' : SinkState} (means : Meaning) (name : List ℕ) (limits : Numbers) (index : Contents) (stop : Stop)
    → HasOpened name limits a b index → IsHalted means limits index b c stop → IsKept out out' → Runs (question name means) limits a c out out' (Err stop)
Runs-halted {a} {b} {c} {out} {out'} means name limits index stop opened halted kept =
    record { left = left stop halted.cause; gone = λ gone. absurd (known.there gone); same_files = known.same_files; later = known.later; taken = known.taken }
  where
    known : IsThrough means name limits index b.now a c
    known = through means name limits index opened halted.takes

    left : (stop : Stop) → StopsFor b c (λ why. (bytes : List ℕ) → IsIndexed bytes limits index b.now → refusal_over means index bytes limits ≡ Some why) stop
        → Leaves (question name means) limits a c out out' (Err stop)
    left (Refused why) cause = (
      record {
        proper = cause.0;
        there = known.there;
        told = λ bytes dump. let all = known.told bytes dump in all.1 ∙ cause.1 bytes all.0;
      },
      kept,
    )
    left NotRead cause = (inl (omega (arith, cause, opened.later)), IsLeft-kept (question name means) limits a c out out' kept)
    left NotWritten cause = absurd cause
    left NoMemory cause = IsLeft-kept (question name means) limits a c out out' kept

-- ---- a report

-- a command isn't refused, this text is its report, and this its status
record IsReady (task : Task) (limits : Numbers) (before after : DeviceState) (text : List ℕ) (status : ℕ) : Type 0 where
  pub there : IsMissing before task → ⊥
  pub ends : EndsWith task status
  pub told : (bytes : List ℕ) → IsDumpOf before after task bytes → (task.refusal bytes limits ≡ None) × (text ≡ task.report bytes) × (status ≡ task.status bytes)
  pub same_files : after.files ≡ before.files
  pub later : before.faults ≤ after.faults
  pub taken : TakesAtMost task limits before after

-- a command that has its report, and wrote it or not
told-is : (task : Task) (limits : Numbers) (before after : DeviceState) (out out' : SinkState) (text : List ℕ) (status : ℕ) (ended : Result ℕ Stop)
    → IsReady task limits before after text status → Tells out out' text status ended → Runs task limits before after out out' ended
told-is task limits before after out out' text status ended ready tells =
    record { left = left ended tells; gone = λ gone. absurd (ready.there gone); same_files = ready.same_files; later = ready.later; taken = ready.taken }
  where
    left : (ended : Result ℕ Stop) → Tells out out' text status ended → Leaves task limits before after out out' ended
    left (Ok result) tells =
        record {
          there = ready.there;
          ends = rw tells.0 ready.ends;
          told = λ bytes dump.
              let right = ready.told bytes dump in
              record { accepted = right.0; ends = tells.0 ∙ right.2; written = tells.1 ∙ ap (grown out.written) right.1 };
        }
    left (Err (Refused why)) tells = absurd tells
    left (Err NotRead) tells = absurd tells
    left (Err NotWritten) tells =
        record {
          there = ready.there;
          failed = tells.1;
          told = λ bytes dump. let right = ready.told bytes dump in (right.0, subst (GainsFront out.written out'.written) right.1 tells.0);
        }
    left (Err NoMemory) tells = IsLeft-kept task limits before after out out' tells

-- the status of a report is 0, or 3 if its question is for findings
ends-for : {A : Type 0} (found : Option (A → List Finding)) (seen : A) → let status = option_map_or (λ find. status_of (find seen)) found 0 in (status ≡ 0) ⊎ ((status ≡ 3) × IsTrue (is_some found))
ends-for None seen = inl refl
ends-for (Some find) seen = by (find seen)
  where
    by : (findings : List Finding) → (status_of findings ≡ 0) ⊎ ((status_of findings ≡ 3) × IsTrue true)
    by [] = inl refl
    by (finding ∷ findings) = inr (refl, refl)

-- a question that has read all, and wrote its report or not
pub Runs-told : {a b c : DeviceState} {out out' : SinkState} (means : Meaning) (name : List ℕ) (limits : Numbers) (index : Contents) (seen : means.What) (ended : Result ℕ Stop)
    → HasOpened name limits a b index → HasRead means limits index b c seen → TellsOf means seen out out' ended → Runs (question name means) limits a c out out' ended
Runs-told {a} {b} {c} {out} {out'} means name limits index seen ended opened read tells =
    let known = through means name limits index opened read.takes in
    told-is (question name means) limits a c out out' (means.show seen) (status_for means seen) ended
    (record {
      there = known.there;
      ends = ends-for means.found seen;
      told = λ bytes dump.
          let all = known.told bytes dump in
          let right = read.told bytes all.0 in (all.1 ∙ right.0, ap means.show right.1, ap (status_for means) right.1);
      same_files = known.same_files;
      later = known.later;
      taken = known.taken;
    })
    tells

-- a command that opens no file: it is neither refused nor unread, and reports of no bytes
pub RunsAlone-told : (task : Task) (out out' : SinkState) (text : List ℕ) (ended : Result ℕ Stop) → task.file ≡ None
    → ((limits : Numbers) (bytes : List ℕ) → (task.refusal bytes limits ≡ None) × (text ≡ task.report bytes) × (0 ≡ task.status bytes))
    → Tells out out' text 0 ended → RunsAlone task out out' ended
RunsAlone-told task out out' text ended none right tells limits device small =
    told-is task limits device device out out' text 0 ended
    (record {
      there = λ gone. subst (λ f. IsSomeAnd f (IsAbsent device.files)) none gone;
      ends = inl refl;
      told = λ bytes dump. right limits bytes;
      same_files = refl;
      later = omega arith;
      taken = λ bytes dump. omega (arith, small);
    })
    tells

-- the line that a run tells was written, or a front of it
pub EndsTold-put : {E : Type 0} (status result : ℕ) (line : List ℕ) (before after : SinkState) (written : Result (Unit {0}) E)
    → MatchResult written (λ _. result ≡ status) (λ _. result ≡ 5) → Puts before after line written → EndsTold status line result before after
EndsTold-put status result line before after (Ok value) is puts = inl (is, puts.writes.whole)
EndsTold-put status result line before after (Err fault) is puts = inr (is, puts.writes.front, puts.failed)

-- ---- how a run ends, by what its command left

-- the whole report was written
reported : (task : Task) (limits : Numbers) (status : ℕ) (before after : DeviceState) (out out' err err' : SinkState) → EndsWith task status → IsDone task limits before after out out' status → IsKept err err'
    → Ends task limits status before after out out' err err'
reported task limits status before after out out' err err' (inl zero_is) all kept =
    inl (zero_is, subst (λ n. Reports task limits n before after out out' err err') zero_is (record { told = all.told; err_kept = kept }))
reported task limits status before after out out' err err' (inr three) all kept =
    inr (inr (inl (three.0, subst (λ n. Reports task limits n before after out out' err err') three.0 (record { told = all.told; err_kept = kept }), three.1)))

-- the line of a refusal was written, or a front of it
refused : (task : Task) (limits : Numbers) (status : ℕ) (before after : DeviceState) (out out' err err' : SinkState) (why : Refusal) → IsRefusedFor task limits before after why → IsKept out out'
    → EndsTold 2 (refusal_line why) status err err' → Ends task limits status before after out out' err err'
refused task limits status before after out out' err err' why cause kept (inl line) =
    inr (inl (
      line.0,
      record {
        told = λ bytes dump. subst (λ r. IsSomeAnd r (λ w. Gained err err' (refusal_line w))) (sym (cause.told bytes dump)) line.1;
        out_kept = kept;
      },
    ))
refused task limits status before after out out' err err' why cause kept (inr cut) =
    inr (inr (inr (inr (inl (
      cut.0,
      record {
        failed = inr cut.2;
        told = λ bytes dump. subst (λ w. IsFrontOf task bytes w out out' err err') (sym (cause.told bytes dump)) (cut.1, cut.2, kept);
      },
    )))))

-- what a command left and how its run ended are a run of the command
pub IsRunOf-ended : (task : Task) (limits : Numbers) (status : ℕ) (before after : DeviceState) (out out' err err' : SinkState) (ended : Result ℕ Stop) → Runs task limits before after out out' ended
    → EndsAs ended status err err' → IsRunOf task limits status before after out out' err err'
IsRunOf-ended task limits status before after out out' err err' ended runs ends =
    record { ends = left ended runs.left ends; missing = λ gone. (unread ended runs.left ends gone, runs.gone gone); same_files = runs.same_files; later = runs.later; taken = runs.taken }
  where
    left : (ended : Result ℕ Stop) → Leaves task limits before after out out' ended → EndsAs ended status err err' → Ends task limits status before after out out' err err'
    left (Ok n) all ends =
        subst (λ m. Ends task limits m before after out out' err err') (sym ends.0) (reported task limits n before after out out' err err' all.ends all ends.1)
    left (Err (Refused why)) all ends = refused task limits status before after out out' err err' why all.0 all.1 ends
    left (Err NotRead) all ends = inr (inr (inr (inl (ends.0, all.0, all.1, ends.1))))
    left (Err NotWritten) all ends =
        inr (inr (inr (inr (inl (
          ends.0,
          record {
            failed = inl all.failed;
            told = λ bytes dump.
                let front = all.told bytes dump in
                subst (λ why. IsFrontOf task bytes why out out' err err') (sym front.0) (front.1, all.failed, ends.1);
          },
        )))))
    left (Err NoMemory) all ends = inr (inr (inr (inr (inr (ends.0, all, ends.1)))))

    unread : (ended : Result ℕ Stop) → Leaves task limits before after out out' ended → EndsAs ended status err err' → IsMissing before task → (status ≡ 4) ⊎ (status ≡ 6)
    unread (Ok n) all ends gone = absurd (all.there gone)
    unread (Err (Refused why)) all ends gone = absurd (all.0.there gone)
    unread (Err NotRead) all ends gone = inl ends.0
    unread (Err NotWritten) all ends gone = absurd (all.there gone)
    unread (Err NoMemory) all ends gone = inr ends.0

-- a file whose bytes are told is there
held-there : (told_files : Option Files) (name bytes : List ℕ) → IsHeld told_files name bytes → IsAbsent told_files name → ⊥
held-there None name bytes is gone = gone
held-there (Some files) name bytes is gone = let no : ⊥ = cc (sym gone ∙ is) in no

-- where the device didn't fail, a dump whose bytes are told was read
there : (before after : DeviceState) (name : Option (List ℕ)) (bytes : List ℕ) → MatchOption name (bytes ≡ []) (λ n. IsFileOf before after n bytes)
    → (IsSomeAnd name (IsAbsent before.files) → after.now ≡ closed) → (DeviceFailed before after → ⊥) → IsSomeAnd name (λ n. DeviceFailed before after ⊎ IsAbsent before.files n) → ⊥
there before after None bytes input shut well unread = unread
there before after (Some name) bytes input shut well (inl failed) = well failed
there before after (Some name) bytes (inl held) shut well (inr gone) = held-there before.files name bytes held gone
there before after (Some name) bytes (inr opened) shut well (inr gone) = let no : ⊥ = cc (sym (shut gone) ∙ opened) in no

-- where nothing is refused and nothing failed, the whole report was written, or memory was lacking
pub IsRunOf-complete : (task : Task) (limits : Numbers) (status : ℕ) (before after : DeviceState) (out out' err err' : SinkState) → IsRunOf task limits status before after out out' err err'
    → (bytes : List ℕ) → IsDumpOf before after task bytes → task.refusal bytes limits ≡ None
    → (DeviceFailed before after → ⊥) → (SinkFailed out out' → ⊥) → (SinkFailed err err' → ⊥) → (status ≡ task.status bytes) ⊎ (status ≡ 6)
IsRunOf-complete task limits status before after out out' err err' run bytes dump accepted device_well out_well err_well = by run.ends
  where
    by : Ends task limits status before after out out' err err' → (status ≡ task.status bytes) ⊎ (status ≡ 6)
    by (inl row) = inl (row.0 ∙ (row.1.told bytes dump).ends)
    by (inr (inl row)) =
        absurd (let no : IsSomeAnd None (λ (why : Refusal). Gained err err' (refusal_line why)) =
        subst (λ r. IsSomeAnd r (λ why. Gained err err' (refusal_line why))) accepted (row.1.told bytes dump) in no)
    by (inr (inr (inl row))) = inl (row.0 ∙ (row.1.told bytes dump).ends)
    by (inr (inr (inr (inl row)))) = absurd (there before after (task.file) bytes dump (λ gone. (run.missing gone).1.closed) device_well row.1)
    by (inr (inr (inr (inr (inl row))))) = absurd (elim row.1.failed [ inl rose ↦ out_well rose | inr rose ↦ err_well rose ])
    by (inr (inr (inr (inr (inr row))))) = inr row.0

-- a refusal that is handed on has a line
pub IsProper-ended : (task : Task) (limits : Numbers) (before after : DeviceState) (out out' : SinkState) (ended : Result ℕ Stop) → Runs task limits before after out out' ended → IfErr ended IsProper
IsProper-ended task limits before after out out' (Err (Refused why)) runs = runs.left.0.proper
IsProper-ended task limits before after out out' ended runs = tt
