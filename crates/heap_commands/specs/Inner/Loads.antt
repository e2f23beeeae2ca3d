-- From what the reports are written, and what is known of it.
use Rattle.dump_questions.specs.Heaps.{address_cause, binary_count, heap_text_size}
use Rattle.heap_commands.specs.Rows.{peek_roots_row, Entered, Rooted}
use Rattle.dump_questions.specs.Meaning.{Meaning}
use Rattle.dump_questions.specs.Bodies.{shown_body}
use Rattle.std.specs.Prelude.{◌*◌, ◌++◌, ◌+◌, ◌∷◌, ◌≡◌, ◌≤◌, [], length, min, All, Bool, Contains, IsSome, List, MatchResult}
use Rattle.std.specs.Prelude.{None, Option, Result, Some, ℕ}
use Rattle.std.specs.Option.{option_to_list}
use Rattle.dump_io.specs.Limits.{Numbers}
use Rattle.dump_sections.specs.Bodies.{body_in, body_start, section_in, IsBodyIn, IsPlaceIn}
use Rattle.dump_sections.specs.Index.{sections_in, Contents}
use Rattle.dump_sections.specs.Loading.{bodies_length, IsUnloaded}
use Rattle.dump_sections.specs.Sections.{Section}
use Rattle.report_text.specs.declared.refusals.Refusal.{Refusal}
use Rattle.root_views.specs.Kinds.{roots_in}
use Rattle.root_views.specs.Sections.{root_section}
use Rattle.root_views.specs.declared.kinds.RootKind.TheVariants.{Dict, Mail, Stack}
use Rattle.term_forms.specs.Elements.{Element}
use Rattle.heap_cells.specs.DumpHeaps.{heap_map}
use Rattle.heap_cells.specs.HeapMap.{HeapMap}
use Rattle.heap_cells.specs.Loading.{heap_bodies}
use Rattle.term_unfold.specs.DumpWalks.{walk_of}
use Rattle.term_unfold.specs.Walks.{new_walk, Walk}
use Rattle.term_text.specs.Cuts.{cut_report}
use Rattle.term_text.specs.Roots.{answer_over, shown_report}
use Rattle.binary_refs.specs.Previews.{binaries, AreFor}
use Rattle.root_views.specs.declared.kinds.RootKind.{RootKind}
use Rattle.term_text.specs.Reach.{root_elements}
use Rattle.term_unfold.specs.Parts.{answer_in, has_cell}
use Rattle.heap_cells.specs.Cells.{first_cells, Cell}
use Rattle.heap_parts.specs.Wholes.{HasLines}
use Rattle.heap_parts.specs.declared.heap_lines.HeapLines.{HeapLines}
use Rattle.root_views.specs.Shown.{shown_roots, IsPlaced, SomeRoots}
use Rattle.dump_io.specs.Dumps.{told, DeviceState, IfTold, Now, ReadsAtMost}
use Rattle.dump_sections.specs.declared.bodies.BodyFault.{BodyFault}
use Rattle.dump_sections.specs.declared.bodies.BodyFault.TheVariants.{SectionTooLarge}
use Rattle.dump_sections.specs.declared.bodies.LargeSection.{LargeSection}
use Rattle.heap_commands.specs.declared.peek.HeapPart.{HeapPart}
use Rattle.heap_commands.specs.declared.peek.PeekRoots.{PeekRoots}
use Rattle.heap_commands.specs.declared.peek.RootsPart.{RootsPart}
use Rattle.heap_commands.specs.declared.roots.HeapAndRoots.{HeapAndRoots}
use Rattle.heap_commands.specs.declared.reach.RootPlaces.{RootPlaces}
use Rattle.heap_commands.specs.declared.reach.RootBodies.{RootBodies}
use Rattle.heap_commands.specs.declared.reach.ReachedHeap.{ReachedHeap}
use Rattle.dump_questions.specs.Reading.{IsIndexed, StopsFor}
use Rattle.dump_questions.specs.declared.stop.Stop.{Stop}

-- the body with the roots, and what a walker goes over from it
abbrev pub seen_roots : HeapAndRoots → Rooted
seen_roots loaded = record { walk = new_walk loaded.heap loaded.previews; part = shown_body loaded.body }

-- what a walker goes over in a part of a heap
abbrev pub walk_in : HeapPart → Walk
walk_in part = new_walk part.heap part.previews

-- what is read of a heap of any size for some terms: 16 bytes for each byte of its lines, of which there are so many at most,
-- or as many as a section's body may have, and 128 for each of so many references to binaries, of which the heap has as many
pub record ReadsPart (section size : ℕ) (has_lines : List Cell → Type 0) (before after : DeviceState) : Type 0 where
  pub count : ℕ
  pub reads : ReadsAtMost before after (16 * (min section size + 4) + 128 * count)
  pub few : (all : List Cell) → has_lines all → count ≤ length (binaries (first_cells [] all))

-- over a part of a heap these elements have the answers that they have over the whole
pub record AreAnswered (now : Now) (index : Contents) (lines : HeapLines) (nodes : ℕ) (walk : Walk) (terms : List Element) : Type 0 where
  pub each : (dump : List ℕ) → now ≡ told dump → (all : List Cell) → HasLines lines now all
      → (e : Element) → Contains terms e → (marked : Bool)
      → answer_over walk nodes marked e ≡ answer_in dump index lines.enc (first_cells [] all) e nodes marked

-- an address that isn't known, if one is asked for
abbrev pub unknown_cause : Option ℕ → (ℕ → Bool) → Option Refusal
unknown_cause None known = None
unknown_cause (Some addr) known = address_cause addr (known addr)

-- the heap lacks an address, if one is asked for
abbrev pub lacks : Option ℕ → HeapMap → Option Refusal
lacks addr heap = unknown_cause addr (has_cell heap.cells)

-- a part of the heap of a process was loaded: the heap doesn't lack the address,
-- and over the part these terms have the answers that they have in the dump
pub record HoldsPart (pid : List ℕ) (addr : Option ℕ) (terms : List Element) (nodes : ℕ) (limits : Numbers) (index : Contents)
    (now : Now) (part : HeapPart) : Type 0 where
  pub allowed : (bytes : List ℕ) → IsIndexed bytes limits index now → lacks addr (heap_map pid bytes) ≡ None
  pub answers : (bytes : List ℕ) → IsIndexed bytes limits index now → (e : Element) → Contains terms e → (marked : Bool)
      → answer_over (walk_in part) nodes marked e ≡ answer_over (walk_of pid bytes) nodes marked e

-- what a call does that loads a part of the heap of a process: beside the bodies of the heap and the
-- literals it reads what a part may take, and it is refused only if the heap lacks the address
pub record GivesPart (pid : List ℕ) (addr : Option ℕ) (terms : List Element) (nodes : ℕ) (limits : Numbers) (index : Contents)
    (before after : DeviceState) (result : Result HeapPart Stop) : Type 0 where
  pub count : ℕ
  pub reads : ReadsAtMost before after count
  pub few : (bytes : List ℕ) → IsIndexed bytes limits index before.now
      → count ≤ bodies_length (heap_bodies pid (sections_in index))
      + (16 * (min limits.section (heap_text_size pid bytes) + 4) + 128 * binary_count pid bytes)
  pub part : MatchResult result (HoldsPart pid addr terms nodes limits index before.now)
      (StopsFor before after
      (λ why. (bytes : List ℕ) → IsIndexed bytes limits index before.now → lacks addr (heap_map pid bytes) ≡ Some why))

-- the roots that are shown of a section that may be missing, and the offset of its body
pub record AreRootsFound (now : Now) (found : Option Section) (kind : RootKind) (first most : ℕ) (roots : SomeRoots × ℕ) : Type 0 where
  pub base : roots.1 ≡ body_start found
  pub shown : IfTold now (λ dump. roots.0 ≡ shown_roots kind first most (body_in dump found))
  pub places : All (IsPlaced roots.1) roots.0.shown

-- what `peek` with these words means
abbrev pub shown_row : PeekRoots → Meaning
shown_row t = peek_roots_row t.kind t.pid.now t.first t.count t.nodes t.marked

-- the text that `peek` shows of some roots, by the index and what was loaded
abbrev pub seen_shown : PeekRoots → Contents → RootsPart → List ℕ
seen_shown t index loaded =
    shown_report (answer_over (walk_in loaded.part) t.nodes t.marked) loaded.base loaded.roots.shown loaded.roots.count
    ++ cut_report index t.pid.now (t.kind ∷ [])

-- the previews are those of the part of the heap, and the roots stand in a file of at most 2^64 - 1 bytes
abbrev pub FitsRoots : RootsPart → Type 0
FitsRoots loaded = AreFor loaded.part.heap.cells loaded.part.previews × All (IsPlaced loaded.base) loaded.roots.shown

-- the sections with roots that are at the places
abbrev pub roots_at : Contents → RootPlaces → List Section
roots_at index places =
    (option_to_list (section_in index places.stack) ++ option_to_list (section_in index places.dict))
    ++ option_to_list (section_in index places.mail)

-- the sections at the places are those with the roots of the process
pub record ArePlaces (pid : List ℕ) (index : Contents) (places : RootPlaces) : Type 0 where
  pub stack : section_in index places.stack ≡ root_section Stack pid (sections_in index)
  pub dict : section_in index places.dict ≡ root_section Dict pid (sections_in index)
  pub mail : section_in index places.mail ≡ root_section Mail pid (sections_in index)

-- the three places are those of sections
pub record AreWithin (index : Contents) (places : RootPlaces) : Type 0 where
  pub stack : IsPlaceIn index places.stack
  pub dict : IsPlaceIn index places.dict
  pub mail : IsPlaceIn index places.mail

-- these are the bodies of the sections at the places
pub record HoldsRoots (index : Contents) (now : Now) (places : RootPlaces) (roots : RootBodies) : Type 0 where
  pub stack : IsBodyIn now (section_in index places.stack) roots.stack.bytes.items
  pub dict : IsBodyIn now (section_in index places.dict) roots.dict.bytes.items
  pub mail : IsBodyIn now (section_in index places.mail) roots.mail.bytes.items

-- why bodies weren't read: one is too large, or the device failed; memory may be lacking at any time
abbrev pub AreUnread : Option LargeSection → DeviceState → DeviceState → BodyFault → Type 0
AreUnread large before after (SectionTooLarge at len) = IsSome large
AreUnread large before after fault = IsUnloaded before after fault

-- the terms among the roots that were read
abbrev pub terms_loaded : RootBodies → List Element
terms_loaded roots =
    (root_elements (roots_in Stack roots.stack.bytes.items) ++ root_elements (roots_in Dict roots.dict.bytes.items))
    ++ root_elements (roots_in Mail roots.mail.bytes.items)

-- the heap that was loaded, and the terms that refer to it
abbrev pub seen_reach : ReachedHeap → Entered
seen_reach loaded = record { heap = loaded.heap; terms = terms_loaded loaded.roots }
