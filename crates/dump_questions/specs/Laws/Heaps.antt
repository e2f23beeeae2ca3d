-- What the load of a process's heap gives, and what the questions over it have read.
use Rattle.heap_cells.specs.declared.faults.HeapFault.TheVariants as heap_faults
use Rattle.binary_refs.specs.declared.faults.PreviewFault.TheVariants as preview_faults
use Rattle.std.proofs.Common.{◌≡◌, ℕ, ◌+◌, if◌then◌else◌, List, ◌++◌, Option, None, Some, Ok, Err, refl, sym, ◌∙◌, ap, arith, ◌*◌, ◌<◌, ◌≤◌, length}
use Rattle.std.specs.Prelude.{IsErrOf, IsSome, is_some}
use Rattle.std.specs.Option.{option_map, option_or}
use Rattle.std.proofs.lemmas.List.Sums.{sum_by-append}
use Rattle.std.proofs.lemmas.Bool.{lt-ltb, le-ltb}
use Rattle.dump_sections.specs.Bodies.{body_length, body_in}
use Rattle.dump_sections.specs.Index.{Contents, sections_in, index_of}
use Rattle.dump_sections.specs.Sections.{Section, sections}
use Rattle.heap_cells.specs.Cells.{weight}
use Rattle.heap_cells.specs.HeapMap.{HeapMap}
use Rattle.heap_cells.specs.Loading.{enc_of, heap_section, literals_section, bodies_fault, heap_fault_of, IsMapOf, IsHeapOf, IsHeapCauseOf, heap_bodies}
use Rattle.heap_cells.specs.declared.faults.HeapFault.{HeapFault}
use Rattle.report_text.specs.declared.refusals.Refusal.{Refusal}
use Rattle.report_text.specs.declared.refusals.Refusal.TheVariants.{SectionTooLarge, TooDense}
use Rattle.dump_sections.specs.Loading.{bodies_length, body_fault, large_fault}
use Rattle.dump_sections.specs.LoadingLaws.{large-append}
use Rattle.dump_sections.specs.declared.bodies.LargeSection.{LargeSection}
use Rattle.dump_io.specs.Laws.Options.{both-none, is_some-map, none-map}
use Rattle.dump_io.specs.Dumps.{Now, DeviceState, ReadsAtMost}
use Rattle.dump_io.specs.Limits.{Numbers}
use Rattle.binary_refs.specs.Previews.{binaries, previews_of}
use Rattle.binary_refs.specs.Loading.{IsPreviewCauseOf as IsPreviewCause}
use Rattle.binary_refs.specs.declared.entries.Entry.{Entry}
use Rattle.binary_refs.specs.declared.faults.PreviewFault.{PreviewFault}
use Rattle.term_unfold.specs.DumpWalks.{previews_in, walk_of}
use Rattle.term_unfold.specs.Walks.{new_walk}
use Rattle.heap_cells.specs.DumpHeaps.{heap_map, heap_weight}
use Rattle.dump_questions.specs.Meaning.{Meaning, no_process}
use Rattle.dump_questions.specs.Tasks.{large_refusal, refusal_listed, too_large}
use Rattle.dump_questions.specs.Heaps.{binary_count, dense_cause, of_any_size, on_heap, too_dense, walk_question}
use Rattle.dump_questions.specs.Stops.{stop_of_heap, stop_of_large, stop_of_previews, Judges}
use Rattle.dump_questions.specs.Reading.{heap_listed, HoldsHeap, IsHeapless, IsIndexed, IsHalted, HasRead, StopsFor, Takes}
use Rattle.dump_questions.specs.declared.stop.Stop.{Stop}
use Rattle.dump_questions.specs.Laws.Reading.{StopsFor-judged, StopsFor-too, Takes-listed, HasRead-listed, IsHalted-held}

-- ---- which of the bodies is too large

-- the fault of a heap one of whose sections is too large
abbrev heap_fault : LargeSection → HeapFault
heap_fault large = heap_fault_of (body_fault large)

-- of bodies in a row the first that is too large is refused
pub too_large-append : (limit : ℕ) (xs ys : List Section) → too_large limit (xs ++ ys) ≡ option_or (too_large limit xs) (too_large limit ys)
too_large-append limit xs ys = ap (option_map large_refusal) (large-append limit xs ys) ∙ by (large_fault limit xs)
  where
    by : (large : Option LargeSection) → option_map large_refusal (option_or large (large_fault limit ys)) ≡ option_or (option_map large_refusal large) (too_large limit ys)
    by None = refl
    by (Some large) = refl

module _ (limit : ℕ) (bodies : List Section) where
  -- a section of the heap that is too large is refused as any other
  heap-too-large : (at len : ℕ) → bodies_fault limit bodies ≡ Some (heap_faults.SectionTooLarge at len) → too_large limit bodies ≡ Some (SectionTooLarge at len)
  heap-too-large at len is = by (large_fault limit bodies) is
    where
      by : (large : Option LargeSection) → option_map heap_fault large ≡ Some (heap_faults.SectionTooLarge at len) → option_map large_refusal large ≡ Some (SectionTooLarge at len)
      by None is = absurd (let no : ⊥ = cc is in no)
      by (Some large) is =
          let place : large.at ≡ at = cc is in
          let size : large.len ≡ len = cc is in ap (λ n. Some (SectionTooLarge n large.len)) place ∙ ap (λ n. Some (SectionTooLarge at n)) size

  -- where the load of the heap finds none too large, none is
  heap-small : bodies_fault limit bodies ≡ None → too_large limit bodies ≡ None
  heap-small is = ap (option_map large_refusal) (none-map heap_fault _ is)

  -- where the heap is too dense, none of its sections is too large
  dense-small : (count : ℕ) → ((fault : HeapFault) → bodies_fault limit bodies ≡ Some fault → IsErrOf {T = HeapMap} (Err (heap_faults.TooDense count)) fault) → too_large limit bodies ≡ None
  dense-small count says = by (large_fault limit bodies) says
    where
      by : (large : Option LargeSection) → ((fault : HeapFault) → option_map heap_fault large ≡ Some fault → IsErrOf {T = HeapMap} (Err (heap_faults.TooDense count)) fault)
          → option_map large_refusal large ≡ None
      by None says = refl
      by (Some large) says = absurd (let no : ⊥ = cc (says (heap_faults.SectionTooLarge large.at large.len) refl) in no)

-- ---- what the bodies hold

-- over the index of a dump the heap that was loaded is that of the process
heap-told : (pid bytes : List ℕ) (index : Contents) (heap : HeapMap) → index ≡ index_of bytes → heap.enc ≡ enc_of index.version
    → IsMapOf (enc_of index.version) (body_in bytes (heap_section pid (sections_in index))) (body_in bytes (literals_section (sections_in index))) heap
    → heap ≡ heap_map pid bytes
heap-told pid bytes index heap is enc map = by (rw is at enc) (rw is at map.cells) (rw is at map.own)
  where
    by : heap.enc ≡ (heap_map pid bytes).enc → heap.cells ≡ (heap_map pid bytes).cells → heap.own ≡ (heap_map pid bytes).own → heap ≡ heap_map pid bytes
    by same_enc same_cells same_own = grind arith

-- over the index of a dump the lines and elements that were counted are those of the heap
weight-told : (pid bytes : List ℕ) (index : Contents) → index ≡ index_of bytes
    → weight (enc_of index.version) (body_in bytes (heap_section pid (sections_in index))) (body_in bytes (literals_section (sections_in index))) ≡ heap_weight pid bytes
weight-told pid bytes index is =
    ap (λ i. weight (enc_of i.version) (body_in bytes (heap_section pid (sections_in i))) (body_in bytes (literals_section (sections_in i)))) is

-- the heap with the previews of its binaries is what a walker goes over
pub walk-told : (pid bytes : List ℕ) (index : Contents) (heap : HeapMap) (previews : List Entry) → index ≡ index_of bytes → heap ≡ heap_map pid bytes
    → previews ≡ previews_of bytes index heap.enc heap.cells → new_walk heap previews ≡ walk_of pid bytes
walk-told pid bytes index heap previews is same shown =
    ap (new_walk heap) (shown ∙ ap (λ i. previews_of bytes i heap.enc heap.cells) is) ∙ ap (λ h. new_walk h (previews_in bytes h)) same

-- ---- whether the heap is too dense

-- more lines and elements than the limit are refused
dense-over : (limit count : ℕ) → limit < count → dense_cause limit count ≡ Some (TooDense count)
dense-over limit count over = ap (λ b. if b then Some (TooDense count) else None) (lt-ltb limit count over)

-- no more than the limit aren't
dense-within : (limit count : ℕ) → count ≤ limit → dense_cause limit count ≡ None
dense-within limit count within = ap (λ b. if b then Some (TooDense count) else None) (le-ltb limit count within)

-- ---- the exits of the load

-- what refuses the load of a heap is a body of its own that is too large: none of the causes before holds
pub record IsClear (pid : List ℕ) (before : List Section) (limits : Numbers) (index : Contents) : Type 0 where
  pub listed : heap_listed pid before limits (sections_in index) ≡ too_large limits.section (heap_bodies pid (sections_in index))

module _ (pid : List ℕ) (before : List Section) (limits : Numbers) (index : Contents) where
  -- the load of a heap whose process isn't there
  pub IsHeapless-judged : (old new : DeviceState) (stop : Stop) → Judges {T = ℕ} (no_process pid (sections_in index)) (Err stop) → IsHeapless pid before limits index old new stop
  IsHeapless-judged old new stop judged =
      StopsFor-judged old new _ ℕ (no_process pid (sections_in index)) stop judged
      (λ why is bytes all. ap (λ o. option_or (option_or o (too_large limits.section (before ++ heap_bodies pid (sections_in index)))) (too_dense limits.dense pid bytes)) is)

  -- where the process is there, the bodies are judged
  listed-there : no_process pid (sections_in index) ≡ None → heap_listed pid before limits (sections_in index)
      ≡ option_or (too_large limits.section before) (too_large limits.section (heap_bodies pid (sections_in index)))
  listed-there there =
      ap (λ o. option_or o (too_large limits.section (before ++ heap_bodies pid (sections_in index)))) there
      ∙ too_large-append limits.section before (heap_bodies pid (sections_in index))

  -- so they are where the first of those before the heap that is too large is known
  listed-judged : no_process pid (sections_in index) ≡ None → (large : Option LargeSection) → large ≡ large_fault limits.section before
      → heap_listed pid before limits (sections_in index) ≡ option_or (option_map large_refusal large) (too_large limits.section (heap_bodies pid (sections_in index)))
  listed-judged there large is =
      listed-there there ∙ ap (λ o. option_or (option_map large_refusal o) (too_large limits.section (heap_bodies pid (sections_in index)))) (sym is)

  -- the load of a heap before which a body is too large
  pub IsHeapless-large : (old new : DeviceState) (large : LargeSection) → no_process pid (sections_in index) ≡ None → Some large ≡ large_fault limits.section before
      → IsHeapless pid before limits index old new (stop_of_large large)
  IsHeapless-large old new large there is = (tt, λ bytes all. ap (λ o. option_or o (too_dense limits.dense pid bytes)) (listed-judged there (Some large) is))

  -- the process is there, and no body before the heap is too large
  pub IsClear-judged : no_process pid (sections_in index) ≡ None → None ≡ large_fault limits.section before → IsClear pid before limits index
  IsClear-judged there is = record { listed = listed-judged there None is }

module _ (pid : List ℕ) (before : List Section) (limits : Numbers) (index : Contents) (clear : IsClear pid before limits index) where
  -- the heap itself wasn't loaded: a body of it that is too large is told before a heap that is too dense
  pub IsHeapless-heap : (old new : DeviceState) (fault : HeapFault) → IsHeapCauseOf (bodies_fault limits.section (heap_bodies pid (sections_in index))) limits.dense old new fault
      → ((f : HeapFault) → bodies_fault limits.section (heap_bodies pid (sections_in index)) ≡ Some f → IsErrOf {T = HeapMap} (Err fault) f)
      → IsHeapOf old.now index (heap_section pid (sections_in index)) (literals_section (sections_in index)) limits.dense (Err fault)
      → IsHeapless pid before limits index old new (stop_of_heap fault)
  IsHeapless-heap old new heap_faults.Read cause first answer = cause.1
  IsHeapless-heap old new heap_faults.Memory cause first answer = tt
  IsHeapless-heap old new (heap_faults.SectionTooLarge at len) cause first answer = (
    tt,
    λ bytes all. ap (λ o. option_or o (too_dense limits.dense pid bytes)) (clear.listed ∙ heap-too-large limits.section (heap_bodies pid (sections_in index)) at len cause),
  )
  IsHeapless-heap old new (heap_faults.TooDense count) cause first answer = (
    tt,
    λ bytes all.
        let right = answer.told bytes all.opened in
        ap (λ o. option_or o (too_dense limits.dense pid bytes)) (clear.listed ∙ dense-small limits.section (heap_bodies pid (sections_in index)) count first)
        ∙ ap (dense_cause limits.dense) (sym (right.0 ∙ weight-told pid bytes index all.is)) ∙ dense-over limits.dense count right.1,
  )

  -- the heap was loaded
  pub HoldsHeap-loaded : (now : Now) (heap : HeapMap) → bodies_fault limits.section (heap_bodies pid (sections_in index)) ≡ None
      → IsHeapOf now index (heap_section pid (sections_in index)) (literals_section (sections_in index)) limits.dense (Ok heap) → HoldsHeap pid before limits index now heap
  HoldsHeap-loaded now heap loaded answer =
      record {
        listed = clear.listed ∙ heap-small limits.section (heap_bodies pid (sections_in index)) loaded;
        sparse = λ bytes all.
            ap (dense_cause limits.dense) (sym (weight-told pid bytes index all.is)) ∙ dense-within limits.dense _ (answer.told bytes all.opened).1;
        is = λ bytes all. heap-told pid bytes index heap all.is answer.enc (answer.told bytes all.opened).0;
      }

  -- where a refusal stands before the bodies, the load of the heap reads nothing
  pub IsSome-fault : IsSome (heap_listed pid before limits (sections_in index)) → IsSome (bodies_fault limits.section (heap_bodies pid (sections_in index)))
  IsSome-fault some =
      is_some-map heap_fault _ ∙ sym (is_some-map large_refusal (large_fault limits.section (heap_bodies pid (sections_in index)))) ∙ sym (ap is_some clear.listed) ∙ some

-- ---- a question on the heap

-- a cause that stands before what the heap holds, or that the heap is too dense, is the question's
cause-too : (listed dense more : Option Refusal) (why : Refusal) → option_or listed dense ≡ Some why → option_or listed (option_or dense more) ≡ Some why
cause-too None dense more why is = ap (λ o. option_or o more) is
cause-too (Some other) dense more why is = is

-- the bodies in the dump have as many bytes as those before the heap and those of the heap
pub bytes-loaded : (pid : List ℕ) (before : List Section → List Section) (index : Contents) (bytes : List ℕ) → index ≡ index_of bytes
    → bodies_length (before (sections bytes) ++ heap_bodies pid (sections bytes)) ≡ bodies_length (before (sections_in index)) + bodies_length (heap_bodies pid (sections_in index))
bytes-loaded pid before index bytes is =
    ap (λ i. bodies_length (before (sections_in i) ++ heap_bodies pid (sections_in i))) (sym is) ∙ sum_by-append body_length (before (sections_in index)) (heap_bodies pid (sections_in index))

module _ {A : Type 0} (pid : List ℕ) (before : List Section → List Section) (refuses : HeapMap → Option Refusal) (what : List ℕ → A) (show : A → List ℕ)
    (more : Numbers → List ℕ → ℕ) (limits : Numbers) (index : Contents) (old new : DeviceState) where
  abbrev means : Meaning
  means = on_heap (record { pid = pid; also = before; refuses = refuses; What = A; what = what; show = show; more = more })

  -- the heap wasn't loaded
  pub IsHalted-heap : (stop : Stop) → ReadsAtMost old new (bodies_length (heap_bodies pid (sections_in index)))
      → (IsSome (heap_listed pid (before (sections_in index)) limits (sections_in index)) → ReadsAtMost old new 0)
      → IsHeapless pid (before (sections_in index)) limits index old new stop → IsHalted means limits index old new stop
  IsHalted-heap stop reads unread cause =
      record {
        takes = record {
          bytes = bodies_length (heap_bodies pid (sections_in index));
          reads = reads;
          few = λ bytes all. omega (arith, bytes-loaded pid before index bytes all.is);
          unread = unread;
        };
        cause = StopsFor-too old new _ _ stop cause
            (λ why is bytes all. cause-too (heap_listed pid (before (sections_in index)) limits (sections_in index)) (too_dense limits.dense pid bytes) (refuses (heap_map pid bytes)) why (is bytes all));
      }

  -- the heap was loaded
  module _ (heap : HeapMap) (holds : HoldsHeap pid (before (sections_in index)) limits index old.now heap) where
    -- the heap was loaded, and so many bytes more were read
    pub Takes-heap : (count extra : ℕ) → ReadsAtMost old new count → count ≤ bodies_length (before (sections_in index)) + bodies_length (heap_bodies pid (sections_in index)) + extra
        → ((bytes : List ℕ) → IsIndexed bytes limits index old.now → extra ≤ more limits bytes) → Takes means limits index old new
    Takes-heap count extra reads few within =
        Takes-listed means limits index old new count holds.listed reads (λ bytes all. omega (arith, few, within bytes all, bytes-loaded pid before index bytes all.is))

    -- the question is refused for what the heap holds
    pub IsHalted-refused : (T : Type 0) (stop : Stop) → Takes means limits index old new → Judges {T = T} (refuses heap) (Err stop) → IsHalted means limits index old new stop
    IsHalted-refused T stop takes judged =
        IsHalted-held means limits index old new T (refuses heap) stop takes holds.listed
        (λ bytes all. ap (λ o. option_or o (refuses (heap_map pid bytes))) (holds.sparse bytes all) ∙ ap refuses (sym (holds.is bytes all))) judged

    -- the question is not refused, and this was seen
    pub HasRead-heap : (seen : A) → Takes means limits index old new → refuses heap ≡ None → ((bytes : List ℕ) → IsIndexed bytes limits index old.now → seen ≡ what bytes)
        → HasRead means limits index old new seen
    HasRead-heap seen takes right tells =
        HasRead-listed means limits index old new seen takes holds.listed
        (λ bytes all. (ap (λ o. option_or o (refuses (heap_map pid bytes))) (holds.sparse bytes all) ∙ ap refuses (sym (holds.is bytes all)) ∙ right, tells bytes all))

-- the heap was loaded, and so were the previews of its references to binaries
pub Takes-walk : {A : Type 0} (pid : List ℕ) (before : List Section → List Section) (refuses : HeapMap → Option Refusal) (what : List ℕ → A) (show : A → List ℕ) (limits : Numbers) (index : Contents)
    (old new : DeviceState) (heap : HeapMap) (holds : HoldsHeap pid (before (sections_in index)) limits index old.now heap) (count : ℕ) → ReadsAtMost old new count
    → count ≤ bodies_length (before (sections_in index)) + bodies_length (heap_bodies pid (sections_in index)) + 128 * length (binaries heap.cells)
    → Takes (on_heap (record (walk_question pid) { also = before; refuses = refuses; What = A; what = what; show = show })) limits index old new
Takes-walk pid before refuses what show limits index old new heap holds count reads few =
    Takes-heap pid before refuses what show (λ limits bytes. 128 * binary_count pid bytes) limits index old new heap holds count _ reads few
    (λ bytes all. omega (arith, ap (λ h. length (binaries h.cells)) (holds.is bytes all)))

-- ---- a question on a heap of any size

-- the process is there
module _ {A : Type 0} (pid : List ℕ) (before : List Section → List Section) (refuses : HeapMap → Option Refusal) (what : List ℕ → A) (show : A → List ℕ)
    (more : Numbers → List ℕ → ℕ) (limits : Numbers) (index : Contents) (old new : DeviceState) (there : no_process pid (sections_in index) ≡ None) where
  abbrev sized : Meaning
  sized = of_any_size (record { pid = pid; also = before; refuses = refuses; What = A; what = what; show = show; more = more })

  -- only what the heap holds refuses the question
  pub listed-any : refusal_listed sized (sections_in index) limits ≡ None
  listed-any = ap (λ o. option_or o None) there

  -- so many bytes were read for the question
  pub Takes-any : (count : ℕ) → ReadsAtMost old new count
      → ((bytes : List ℕ) → IsIndexed bytes limits index old.now
      → count ≤ bodies_length (before (sections_in index)) + bodies_length (heap_bodies pid (sections_in index)) + more limits bytes)
      → Takes sized limits index old new
  Takes-any count reads few =
      Takes-listed sized limits index old new count listed-any reads (λ bytes all. omega (arith, few bytes all, bytes-loaded pid before index bytes all.is))

-- ---- what is read behind the heap

module _ (before after : DeviceState) where
  -- the previews weren't loaded
  pub StopsFor-previews : (fault : PreviewFault) → IsPreviewCause before after fault → StopsFor before after (λ why. ⊥) (stop_of_previews fault)
  StopsFor-previews preview_faults.Read cause = cause.1
  StopsFor-previews preview_faults.Memory cause = tt

-- where the heap was loaded, no body before it is too large
pub small-before : (pid : List ℕ) (before : List Section) (limits : Numbers) (index : Contents) (now : Now) (heap : HeapMap) → HoldsHeap pid before limits index now heap
    → large_fault limits.section before ≡ None
small-before pid before limits index now heap holds =
    let bodies = heap_bodies pid (sections_in index) in
    let small = both-none (no_process pid (sections_in index)) (too_large limits.section (before ++ bodies)) holds.listed in
    none-map large_refusal (large_fault limits.section before) (both-none (too_large limits.section before) (too_large limits.section bodies) (sym (too_large-append limits.section before bodies) ∙ small.1)).0
