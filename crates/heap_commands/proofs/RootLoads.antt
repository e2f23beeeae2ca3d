-- What the questions over the roots of a process have read.
use Rattle.dump_sections.specs.declared.bodies.BodyFault.TheVariants as body_faults
use Rattle.std.proofs.Common.{◌∙◌, ◌≡◌, [], ap, arith, refl, sym, Err, List, None, Ok, Option, Result, Some, ℕ}
use Rattle.std.specs.Prelude.{is_some, unwrap_or, IfOk, IsSome, MatchResult}
use Rattle.std.specs.Global.{Vec}
use Rattle.dump_sections.specs.Bodies.{body_in, body_start}
use Rattle.dump_sections.specs.Index.{index_of, sections_in, Contents}
use Rattle.dump_sections.specs.Sections.{Section}
use Rattle.heap_cells.specs.HeapMap.{HeapMap}
use Rattle.heap_cells.specs.Loading.{heap_bodies}
use Rattle.dump_sections.specs.Loading.{bodies_length, large_fault, AreRefused}
use Rattle.dump_sections.specs.declared.bodies.LargeSection.{LargeSection}
use Rattle.dump_io.specs.Dumps.{told, DeviceState, ReadsAtMost}
use Rattle.dump_io.specs.Limits.{Numbers}
use Rattle.dump_sections.specs.declared.bodies.BodyFault.{BodyFault}
use Rattle.term_unfold.specs.DumpWalks.{walk_of}
use Rattle.term_unfold.specs.Walks.{Walk}
use Rattle.root_views.specs.declared.kinds.RootKind.{RootKind}
use Rattle.root_views.specs.Sections.{root_bodies, root_section}
use Rattle.dump_questions.specs.Meaning.{no_body, part_in, Part}
use Rattle.heap_commands.specs.Rows.{cells_row, ext_row, Rooted}
use Rattle.dump_questions.specs.Heaps.{never}
use Rattle.heap_commands.specs.Terms.{external_at, no_external, root_terms}
use Rattle.dump_questions.specs.Stops.{stop_of_body, Judges}
use Rattle.dump_questions.specs.Reading.{heap_listed, HoldsHeap, IsHeapless, ReadsFor, StopsFor, Takes}
use Rattle.dump_questions.specs.declared.stop.Stop.{Stop}
use Rattle.heap_commands.specs.Inner.Loads.{roots_at, terms_loaded, ArePlaces, AreUnread, HoldsRoots}
use Rattle.dump_questions.specs.Bodies.{shown_body}
use Rattle.dump_questions.specs.Laws.Heaps.{HasRead-heap, IsHalted-heap, IsHalted-refused, Takes-heap}
use Rattle.dump_questions.specs.declared.subjects.Body.{Body}
use Rattle.heap_commands.specs.declared.reach.RootPlaces.{RootPlaces}
use Rattle.heap_commands.specs.declared.reach.RootBodies.{RootBodies}

module _ (before after : DeviceState) where
  -- bodies weren't read of which none is too large
  pub StopsFor-last : (large : Option LargeSection) (fault : BodyFault) → large ≡ None → AreUnread large before after fault → StopsFor before after (λ why. ⊥) (stop_of_body fault)
  StopsFor-last large body_faults.Read small cause = cause.1
  StopsFor-last large body_faults.Memory small cause = tt
  StopsFor-last large (body_faults.SectionTooLarge at len) small cause = absurd (let no : ⊥ = cc (ap is_some small, cause) in no)

  pub AreUnread-refused : (ss : List Section) (limit : ℕ) (fault : BodyFault) → AreRefused ss limit before after fault → AreUnread (large_fault limit ss) before after fault
  AreUnread-refused ss limit body_faults.Read cause = (refl, cause.1)
  AreUnread-refused ss limit body_faults.Memory cause = tt
  AreUnread-refused ss limit (body_faults.SectionTooLarge at len) cause = ap is_some cause

-- the sections at the places are those with the roots of the process
pub roots-at : (pid : List ℕ) (index : Contents) (places : RootPlaces) → ArePlaces pid index places → roots_at index places ≡ root_bodies pid (sections_in index)
roots-at pid index places of = rw (of.stack, of.dict, of.mail) refl

-- the terms among the roots that were read are those of the dump
pub terms-told : (pid bytes : List ℕ) (index : Contents) (places : RootPlaces) (loaded : RootBodies) → index ≡ index_of bytes → ArePlaces pid index places
    → HoldsRoots index (told bytes) places loaded → terms_loaded loaded ≡ root_terms pid bytes
terms-told pid bytes index places loaded is of held = rw (held.stack, held.dict, held.mail, of.stack, of.dict, of.mail, is) refl

abbrev rooted : Walk → Part → Rooted
rooted walk part = record { walk = walk; part = part }

-- the body with the roots of one kind, and what a walker goes over, are those of the dump
pub roots-told : (kind : RootKind) (pid bytes : List ℕ) (index : Contents) (walk : Walk) (body : Body) → index ≡ index_of bytes → walk ≡ walk_of pid bytes
    → body.base ≡ body_start (root_section kind pid (sections_in index)) → body.bytes.items ≡ body_in bytes (root_section kind pid (sections_in index))
    → rooted walk (shown_body body) ≡ rooted (walk_of pid bytes) (part_in (root_section kind pid) bytes)
roots-told kind pid bytes index walk body is walked base held = rw (walked, base, held, is) refl

-- ---- the questions that end with the heap

-- the heap was loaded for `cells`, or wasn't
pub reads-cells : (pid : List ℕ) (limits : Numbers) (index : Contents) (old new : DeviceState) (result : Result HeapMap Stop)
    → ReadsAtMost old new (bodies_length (heap_bodies pid (sections_in index)))
    → (IsSome (heap_listed pid [] limits (sections_in index)) → ReadsAtMost old new 0)
    → MatchResult result (HoldsHeap pid [] limits index old.now) (IsHeapless pid [] limits index old new)
    → ReadsFor (cells_row pid) limits index old new (λ heap. heap) result
reads-cells pid limits index old new (Ok heap) reads unread holds =
    HasRead-heap pid no_body never _ _ (λ limits bytes. 0) limits index old new heap holds heap
    (Takes-heap pid no_body never _ _ (λ limits bytes. 0) limits index old new heap holds _ 0 reads (omega arith) (λ bytes all. omega arith))
    refl (λ bytes all. holds.is bytes all)
reads-cells pid limits index old new (Err stop) reads unread cause =
    IsHalted-heap pid no_body never _ _ (λ limits bytes. 0) limits index old new stop reads unread cause

-- the bytes of the external term at an address, if it is one
abbrev external_bytes : ℕ → HeapMap → List ℕ
external_bytes addr heap = unwrap_or (external_at addr heap) []

-- the heap was loaded for `ext`, which is refused if the term isn't there
pub reads-ext : (pid : List ℕ) (addr : ℕ) (limits : Numbers) (index : Contents) (old new : DeviceState) (heap : HeapMap) (result : Result (Vec ℕ) Stop)
    → ReadsAtMost old new (bodies_length (heap_bodies pid (sections_in index))) → HoldsHeap pid [] limits index old.now heap
    → Judges (no_external addr heap) result → IfOk result (λ payload. external_at addr heap ≡ Some payload.items)
    → ReadsFor (ext_row pid addr) limits index old new (λ payload. payload.items) result
reads-ext pid addr limits index old new heap result reads holds judged found = by result judged found
  where
    takes : Takes (ext_row pid addr) limits index old new
    takes = Takes-heap pid no_body (no_external addr) _ _ (λ limits bytes. 0) limits index old new heap holds _ 0 reads (omega arith) (λ bytes all. omega arith)

    by : (result : Result (Vec ℕ) Stop) → Judges (no_external addr heap) result → IfOk result (λ payload. external_at addr heap ≡ Some payload.items)
        → ReadsFor (ext_row pid addr) limits index old new (λ payload. payload.items) result
    by (Ok payload) judged found =
        HasRead-heap pid no_body (no_external addr) _ _ (λ limits bytes. 0) limits index old new heap holds payload.items takes judged
        (λ bytes all. ap (λ o. unwrap_or o []) (sym found) ∙ ap (external_bytes addr) (holds.is bytes all))
    by (Err stop) judged found =
        IsHalted-refused pid no_body (no_external addr) _ _ (λ limits bytes. 0) limits index old new heap holds (Vec ℕ) stop takes judged
