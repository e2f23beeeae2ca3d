-- What a question reads of the dump that is open, by the clauses of what its run calls.
use Rattle.dump_io.specs.declared.faults.ReadFault.TheVariants as read_faults
use Rattle.dump_sections.specs.declared.bodies.BodyFault.TheVariants as body_faults
use Rattle.std.proofs.Common.{◌≡◌, ℕ, ◌≤◌, List, Option, None, Some, Result, Ok, Err, refl, sym, ◌∙◌, ap, subst, arith}
use Rattle.std.specs.Prelude.{IfOk, IsErrAnd, MatchResult, is_some}
use Rattle.std.specs.Option.{option_map, option_or, option_to_list}
use Rattle.std.proofs.lemmas.Result.{IfOk-weaker}
use Rattle.dump_io.specs.Dumps.{DeviceState, told, ReadsAtMost}
use Rattle.dump_io.specs.Faults.{IsReadCauseOf}
use Rattle.dump_io.specs.declared.faults.ReadFault.{ReadFault}
use Rattle.dump_io.specs.Laws.Options.{is_some-map}
use Rattle.dump_io.specs.Laws.Reads.{ReadsAtMost-none}
use Rattle.dump_io.specs.Limits.{Numbers}
use Rattle.dump_sections.specs.Bodies.{body_in, IsBodyIn, body_start}
use Rattle.dump_sections.specs.Index.{Contents, index_of, sections_in, IsBuiltOver}
use Rattle.dump_sections.specs.Sections.{Section, sections}
use Rattle.dump_sections.specs.declared.bodies.BodyFault.{BodyFault}
use Rattle.dump_sections.specs.Loading.{bodies_length, large_fault, AreRefused, LoadsBodies}
use Rattle.report_text.specs.declared.refusals.Refusal.{Refusal}
use Rattle.report_text.specs.declared.refusals.Refusal.TheVariants.{SectionTooLarge}
use Rattle.dump_io.specs.Sinks.{SinkState, Puts}
use Rattle.dump_questions.specs.Meaning.{Meaning, Part, of_bodies, of_section}
use Rattle.dump_questions.specs.Tasks.{large_refusal, refusal_listed, too_large}
use Rattle.dump_questions.specs.Reading.{IsIndexed, HasRead, IsHalted, ReadsFor, StopsFor, Takes, Tells}
use Rattle.dump_questions.specs.Stops.{or_stop, stop_of_body, stop_of_reading, Judges}
use Rattle.dump_questions.specs.declared.stop.Stop.{Stop}
use Rattle.dump_questions.specs.declared.stop.Stop.TheVariants.{Refused, NotRead, NotWritten, NoMemory}
use Rattle.dump_questions.specs.Bodies.{IsBodyFound, shown_body}
use Rattle.dump_questions.specs.declared.subjects.Body.{Body}

-- ---- why a question is stopped while it reads

module _ (before after : DeviceState) (P : Refusal → Type 0) where
  -- what stops a question for a cause with a property stops it for one with a property that follows
  pub StopsFor-too : (Q : Refusal → Type 0) (stop : Stop) → StopsFor before after P stop → ((why : Refusal) → P why → Q why) → StopsFor before after Q stop
  StopsFor-too Q (Refused why) cause follows = (cause.0, follows why cause.1)
  StopsFor-too Q stop cause follows = cause

  -- a cause that was found stops a question
  pub StopsFor-judged : (T : Type 0) (cause : Option Refusal) (stop : Stop) → Judges {T = T} cause (Err stop) → ((why : Refusal) → cause ≡ Some why → P why) → StopsFor before after P stop
  StopsFor-judged T cause (Refused why) judged follows = (judged.0, follows why judged.1)
  StopsFor-judged T cause NotRead judged follows = absurd judged
  StopsFor-judged T cause NotWritten judged follows = absurd judged
  StopsFor-judged T cause NoMemory judged follows = tt

  -- a call that didn't load bodies stops a question
  pub StopsFor-bodies : (ss : List Section) (limit : ℕ) (fault : BodyFault) → AreRefused ss limit before after fault
      → ((why : Refusal) → too_large limit ss ≡ Some why → P why) → StopsFor before after P (stop_of_body fault)
  StopsFor-bodies ss limit body_faults.Read cause follows = cause.1
  StopsFor-bodies ss limit body_faults.Memory cause follows = tt
  StopsFor-bodies ss limit (body_faults.SectionTooLarge at len) cause follows = (tt, follows (SectionTooLarge at len) (ap (option_map large_refusal) cause))

  -- a call that only reads, and failed, stops a question
  pub StopsFor-reading : (fault : ReadFault) → IsReadCauseOf before after fault → StopsFor before after P (stop_of_reading fault)
  StopsFor-reading read_faults.Read cause = cause.1
  StopsFor-reading read_faults.Memory cause = tt

-- what holds of the error that a `?` returns holds of the result
pub ReadsFor-halted : {V E : Type 0} (P : V → Type 0) (Q : E → Type 0) (result : Result V E) (stop : E)
    → IsErrAnd result (λ e. e ≡ stop) → Q stop → MatchResult result P Q
ReadsFor-halted P Q (Ok loaded) stop is halted = absurd is
ReadsFor-halted P Q (Err e) stop is halted = subst Q (sym is) halted

-- ---- what is taken

-- a call that leaves the device as it is reads nothing
pub ReadsAtMost-same : {D : Type 0} (state : D → DeviceState) (b c : D) (count : ℕ)
    → ReadsAtMost (state b) (state c) count → c ≡ b → ReadsAtMost (state b) (state c) 0
ReadsAtMost-same state b c count reads same =
    subst (λ x. ReadsAtMost (state b) (state x) 0) (sym same) (ReadsAtMost-none 0 (omega (arith, reads.taken_least, reads.taken_most)))

-- ---- a question by what was read for it

module _ (means : Meaning) (limits : Numbers) (index : Contents) (before after : DeviceState) where
  -- a question for which nothing was read takes nothing
  pub Takes-none : ReadsAtMost before after 0 → Takes means limits index before after
  Takes-none none = record { bytes = 0; reads = none; few = λ bytes all. omega arith; unread = λ some. none }

  -- memory was lacking before anything was read
  pub IsHalted-memory : ReadsAtMost before after 0 → IsHalted means limits index before after NoMemory
  IsHalted-memory none = record { takes = Takes-none none; cause = tt }

  -- a question that isn't refused before its bodies takes what was read for it
  pub Takes-listed : (count : ℕ) → refusal_listed means (sections_in index) limits ≡ None → ReadsAtMost before after count
      → ((bytes : List ℕ) → IsIndexed bytes limits index before.now → count ≤ means.takes limits bytes) → Takes means limits index before after
  Takes-listed count none reads few =
      record { bytes = count; reads = reads; few = few; unread = λ some. absurd (let no : ⊥ = cc (sym (ap is_some none) ∙ some) in no) }

  -- what a question asks for isn't there
  pub IsHalted-subject : (T : Type 0) (stop : Stop) → ReadsAtMost before after 0 → Judges {T = T} (means.refused_unread (sections_in index)) (Err stop)
      → IsHalted means limits index before after stop
  IsHalted-subject T stop none judged =
      record {
        takes = Takes-none none;
        cause = StopsFor-judged before after _ T (means.refused_unread (sections_in index)) stop judged
            (λ why is bytes all. ap (λ o. option_or (option_or o (too_large limits.section (means.bodies (sections_in index)))) (means.refused_read limits bytes)) is);
      }

  -- a question is refused for what its bodies hold
  pub IsHalted-held : (T : Type 0) (cause : Option Refusal) (stop : Stop) → Takes means limits index before after
      → refusal_listed means (sections_in index) limits ≡ None
      → ((bytes : List ℕ) → IsIndexed bytes limits index before.now → means.refused_read limits bytes ≡ cause)
      → Judges {T = T} cause (Err stop) → IsHalted means limits index before after stop
  IsHalted-held T cause stop takes listed held judged =
      record {
        takes = takes;
        cause = StopsFor-judged before after _ T cause stop judged
            (λ why is bytes all. ap (λ o. option_or o (means.refused_read limits bytes)) listed ∙ held bytes all ∙ is);
      }

  -- a call that refuses nothing failed behind others
  pub IsHalted-later : {last : DeviceState} {count : ℕ} (stop : Stop) → Takes means limits index before after → ReadsAtMost before last count
      → StopsFor last after (λ why. ⊥) stop → IsHalted means limits index before after stop
  IsHalted-later (Refused why) takes reads cause = absurd cause.1
  IsHalted-later NotRead takes reads cause = record { takes = takes; cause = omega (arith, reads.later, cause) }
  IsHalted-later NotWritten takes reads cause = absurd cause
  IsHalted-later NoMemory takes reads cause = record { takes = takes; cause = tt }

  -- the only call that reads failed, and refuses nothing
  pub IsHalted-reading : (fault : ReadFault) → Takes means limits index before after → IsReadCauseOf before after fault
      → IsHalted means limits index before after (stop_of_reading fault)
  IsHalted-reading fault takes cause = record { takes = takes; cause = StopsFor-reading before after _ fault cause }

  -- all was read for a question, and nothing is refused
  pub HasRead-listed : (seen : means.What) → Takes means limits index before after → refusal_listed means (sections_in index) limits ≡ None
      → ((bytes : List ℕ) → IsIndexed bytes limits index before.now → (means.refused_read limits bytes ≡ None) × (seen ≡ means.what bytes))
      → HasRead means limits index before after seen
  HasRead-listed seen takes listed shows =
      record {
        takes = takes;
        told = λ bytes all. (ap (λ o. option_or o (means.refused_read limits bytes)) listed ∙ (shows bytes all).0, (shows bytes all).1);
      }

-- ---- a question that loads its bodies

-- what a question asks for is there, and it takes its bodies at least
pub record IsOfBodies (means : Meaning) (limits : Numbers) (index : Contents) : Type 0 where
  pub there : means.refused_unread (sections_in index) ≡ None
  pub few : (bytes : List ℕ) → bodies_length (means.bodies (sections bytes)) ≤ means.takes limits bytes

-- so it is with a question that takes these bodies alone
pub alone : {A : Type 0} {bodies : List Section → List Section} {what : List ℕ → A} {show : A → List ℕ} (limits : Numbers) (index : Contents)
    → IsOfBodies (of_bodies bodies what show) limits index
alone limits index = record { there = refl; few = λ bytes. omega arith }

module _ (means : Meaning) (limits : Numbers) (index : Contents) (of : IsOfBodies means limits index) where
  -- it is refused unread exactly for a body that is too large
  listed-bodies : refusal_listed means (sections_in index) limits ≡ too_large limits.section (means.bodies (sections_in index))
  listed-bodies = ap (λ o. option_or o (too_large limits.section (means.bodies (sections_in index)))) of.there

  -- so it isn't where none of its bodies is too large
  pub none-large : large_fault limits.section (means.bodies (sections_in index)) ≡ None → refusal_listed means (sections_in index) limits ≡ None
  none-large small = listed-bodies ∙ ap (option_map large_refusal) small

  module _ {D T : Type 0} (state : D → DeviceState) (b c : D) where
    -- a load of its bodies takes no more than the question may
    pub takes-bodies : (loaded : Result T BodyFault) → LoadsBodies state (means.bodies (sections_in index)) limits.section b c loaded
        → Takes means limits index (state b) (state c)
    takes-bodies loaded loads =
        record {
          bytes = bodies_length (means.bodies (sections_in index));
          reads = loads.reads;
          few = λ bytes all. rw all.is (of.few bytes);
          unread = λ some. ReadsAtMost-same state b c _ loads.reads
              (loads.unread (sym (ap is_some listed-bodies ∙ is_some-map large_refusal (large_fault limits.section (means.bodies (sections_in index)))) ∙ some));
        }

    -- its bodies weren't loaded
    pub IsHalted-bodies : (fault : BodyFault) → LoadsBodies {T = T} state (means.bodies (sections_in index)) limits.section b c (Err fault)
        → IsHalted means limits index (state b) (state c) (stop_of_body fault)
    IsHalted-bodies fault loads =
        record {
          takes = takes-bodies (Err fault) loads;
          cause = StopsFor-bodies (state b) (state c) _ (means.bodies (sections_in index)) limits.section fault loads.fault
              (λ why is bytes all. ap (λ o. option_or o (means.refused_read limits bytes)) (listed-bodies ∙ is));
        }

    -- its bodies were loaded, nothing that they hold is refused, and this was seen in them; or they weren't loaded
    pub ReadsFor-bodies : ((bytes : List ℕ) → means.refused_read limits bytes ≡ None) → (seen : T → means.What) (loaded : Result T BodyFault)
        → LoadsBodies state (means.bodies (sections_in index)) limits.section b c loaded
        → IfOk loaded (λ t. (bytes : List ℕ) → IsIndexed bytes limits index (state b).now → seen t ≡ means.what bytes)
        → ReadsFor means limits index (state b) (state c) seen (or_stop loaded)
    ReadsFor-bodies held seen (Ok t) loads right =
        record {
          takes = takes-bodies (Ok t) loads;
          told = λ bytes all. (ap (λ o. option_or o (means.refused_read limits bytes)) (none-large loads.allowed) ∙ held bytes, right bytes all);
        }
    ReadsFor-bodies held seen (Err fault) loads right = IsHalted-bodies fault loads

    -- so it is if the load says what was seen of the bytes of a dump, where these are told
    pub ReadsFor-whole : ((bytes : List ℕ) → means.refused_read limits bytes ≡ None) → (seen : T → means.What) (loaded : Result T BodyFault)
        → LoadsBodies state (means.bodies (sections_in index)) limits.section b c loaded
        → IfOk loaded (λ t. (bytes : List ℕ) → (state b).now ≡ told bytes → seen t ≡ means.what bytes)
        → ReadsFor means limits index (state b) (state c) seen (or_stop loaded)
    ReadsFor-whole held seen loaded loads is =
        ReadsFor-bodies held seen loaded loads (IfOk-weaker loaded _ _ (λ t is. λ bytes all. is bytes all.opened) is)

-- ---- a question that reads on by what its bodies hold

-- its bodies were loaded, and this is what they hold of the dump
module _ {R : Type 0} (means : Meaning) (limits : Numbers) (index : Contents) (of : IsOfBodies means limits index) (old new : DeviceState)
    (small : large_fault limits.section (means.bodies (sections_in index)) ≡ None) (held : R) (held_in : List ℕ → R)
    (is : (bytes : List ℕ) → IsIndexed bytes limits index old.now → held ≡ held_in bytes) where
  -- what is told over the index and what they hold is told of the dump
  pub told-on : {X : Type 0} (tell : Contents → R → X) (bytes : List ℕ) → IsIndexed bytes limits index old.now
      → tell index held ≡ tell (index_of bytes) (held_in bytes)
  told-on tell bytes all = ap (λ i. tell i held) all.is ∙ ap (tell (index_of bytes)) (is bytes all)

  -- no more was read than may be by what they hold
  pub Takes-on : (most : Contents → R → ℕ) (count : ℕ) → ((bytes : List ℕ) → most (index_of bytes) (held_in bytes) ≤ means.takes limits bytes)
      → ReadsAtMost old new count → count ≤ most index held → Takes means limits index old new
  Takes-on most count few reads within =
      Takes-listed means limits index old new count (none-large means limits index of small) reads
      (λ bytes all. omega (arith, within, told-on most bytes all, few bytes))

  -- what was seen is told over the index and what they hold
  pub HasRead-on : (seen : means.What) → Takes means limits index old new → ((bytes : List ℕ) → means.refused_read limits bytes ≡ None)
      → ((bytes : List ℕ) → IsIndexed bytes limits index old.now → seen ≡ means.what bytes) → HasRead means limits index old new seen
  HasRead-on seen takes none shows =
      HasRead-listed means limits index old new seen takes (none-large means limits index of small) (λ bytes all. (none bytes, shows bytes all))

-- the call that reads on failed
pub IsHalted-on : (means : Meaning) (limits : Numbers) (index : Contents) {old last new : DeviceState} {count : ℕ} (fault : ReadFault)
    → Takes means limits index old new → ReadsAtMost old last count → IsReadCauseOf last new fault
    → IsHalted means limits index old new (stop_of_reading fault)
IsHalted-on means limits index {old} {last} {new} fault takes reads cause =
    IsHalted-later means limits index old new (stop_of_reading fault) takes reads (StopsFor-reading last new (λ why. ⊥) fault cause)

-- ---- a question that loads the body of one section

module _ (means : Meaning) (limits : Numbers) (index : Contents) (of : IsOfBodies means limits index) {D : Type 0} (state : D → DeviceState) (b c : D)
    (found : Option Section) (is : means.bodies (sections_in index) ≡ option_to_list found) where
  -- the body was read, and this was seen in it, or it wasn't read
  pub ReadsFor-found : ((bytes : List ℕ) → means.refused_read limits bytes ≡ None) → (seen : Body → means.What) (loaded : Result Body BodyFault)
      → LoadsBodies state (option_to_list found) limits.section b c loaded → IfOk loaded (IsBodyFound (state b).now found)
      → ((body : Body) (bytes : List ℕ) → IsIndexed bytes limits index (state b).now → body.base ≡ body_start found
      → body.bytes.items ≡ body_in bytes found → seen body ≡ means.what bytes)
      → ReadsFor means limits index (state b) (state c) seen (or_stop loaded)
  ReadsFor-found held seen loaded loads read right =
      ReadsFor-bodies means limits index of state b c held seen loaded (subst (λ ss. LoadsBodies state ss limits.section b c loaded) (sym is) loads)
      (IfOk-weaker loaded _ _ (λ body read. λ bytes all. right body bytes all read.base (subst (λ n. IsBodyIn n found body.bytes.items) all.opened read.held)) read)

-- the body of a section is what a question shows
pub ReadsFor-part : (absent : List Section → Option Refusal) (pick : List Section → Option Section) (show : Part → List ℕ) (limits : Numbers)
    (index : Contents) {D : Type 0} (state : D → DeviceState) (b c : D) (found : Option Section) (loaded : Result Body BodyFault) → absent (sections_in index) ≡ None → found ≡ pick (sections_in index)
    → LoadsBodies state (option_to_list found) limits.section b c loaded → IfOk loaded (IsBodyFound (state b).now found)
    → ReadsFor (record (of_section pick show) { refused_unread = absent }) limits index (state b) (state c) shown_body (or_stop loaded)
ReadsFor-part absent pick show limits index state b c found loaded there here loads read =
    ReadsFor-found (record (of_section pick show) { refused_unread = absent }) limits index (record { there = there; few = λ _. omega arith }) state b c found (ap option_to_list (sym here)) (λ _. refl) shown_body loaded loads read
    (λ body bytes all base items. rw (base, items) (ap (λ f. part_of f bytes) here ∙ ap (λ i. part_of (pick (sections_in i)) bytes) all.is))
  where
    part_of : Option Section → List ℕ → Part
    part_of f bytes = record { base = body_start f; bytes = body_in bytes f }

-- ---- what is open

-- what is open behind a call that reads is what was open before it
pub over-still : {a b : DeviceState} {count : ℕ} (index : Contents) → ReadsAtMost a b count → IsBuiltOver a.now index → IsBuiltOver b.now index
over-still index reads over = subst (λ n. IsBuiltOver n index) (sym reads.same_now) over

-- ---- a report

-- the text of a report was written
pub Tells-put : {T E : Type 0} {a b : SinkState} {text : List ℕ} {x : T} → Puts {E = E} a b text (Ok x) → Tells a b text 0 (Ok 0)
Tells-put puts = (refl, puts.writes.whole)

-- the writing of a report broke off
pub Tells-stopped : {T E : Type 0} {a b : SinkState} {text : List ℕ} {e : E} (status : ℕ) (result : Result ℕ Stop)
    → IsErrAnd result (λ stop. stop ≡ NotWritten) → Puts {T = T} a b text (Err e) → Tells a b text status result
Tells-stopped status (Ok value) is puts = absurd is
Tells-stopped {a = a} {b = b} {text = text} status (Err stop) is puts =
    subst (λ s. Tells a b text status (Err s)) (sym is) (puts.writes.front, puts.failed)

-- memory was lacking before anything of a report was written
pub Tells-kept : (a : SinkState) (text : List ℕ) (status : ℕ) (result : Result ℕ Stop) → IsErrAnd result (λ stop. stop ≡ NoMemory) → Tells a a text status result
Tells-kept a text status (Ok value) is = absurd is
Tells-kept a text status (Err stop) is = subst (λ s. Tells a a text status (Err s)) (sym is) refl
