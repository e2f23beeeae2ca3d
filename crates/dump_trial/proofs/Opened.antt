-- What is known of a good dump that is open and held in memory.
use Rattle.std.proofs.Common.{◌≡◌, ℕ, ◌≤◌, List, Option, Some, sym, ◌∙◌, ap, subst, arith}
use Rattle.std.specs.Prelude.{All, Err, [], ◌∷◌}
use Rattle.std.specs.Option.{option_to_list}
use Rattle.std.proofs.lemmas.Bool.{cond-true}
use Rattle.std.proofs.lemmas.List.Elements.{All-append}
use Rattle.std.specs.Str.{bytes_eq}
use Rattle.std.proofs.lemmas.Slice.Eq.{bytes_eq-Decides}
use Rattle.dump_io.specs.Dumps.{Now, DeviceFailed}
use Rattle.dump_io.specs.HeldDump.{now_of, state_of}
use Rattle.dump_io.specs.declared.held_dump.HeldDump.{HeldDump}
use Rattle.dump_io.specs.File.{name_of, bytes_of, find_file}
use Rattle.dump_io.specs.declared.file.DumpFile.{DumpFile}
use Rattle.dump_io.specs.Limits.{Numbers, usual}
use Rattle.dump_sections.specs.declared.bodies.BodyFault.{BodyFault}
use Rattle.dump_sections.specs.declared.bodies.BodyFault.TheVariants as body_faults
use Rattle.dump_sections.specs.Bodies.{section_in, body_in}
use Rattle.dump_sections.specs.Index.{Contents, IsIndexOf, sections_in}
use Rattle.dump_sections.specs.Laws.{index-is}
use Rattle.dump_sections.specs.Sections.{Section}
use Rattle.dump_sections.specs.Loading.{AreRefused}
use Rattle.heap_cells.specs.Cells.{weight}
use Rattle.heap_cells.specs.declared.faults.HeapFault.{HeapFault}
use Rattle.heap_cells.specs.declared.faults.HeapFault.TheVariants as heap_faults
use Rattle.heap_cells.specs.Loading.{enc_of, heap_section, literals_section, two_bodies, bodies_fault}
use Rattle.heap_cells.specs.Loading as heaps
use Rattle.root_views.specs.declared.kinds.RootKind.{RootKind}
use Rattle.dump_trial.specs.Trial.{root_body}
use Rattle.root_views.specs.Sections.{root_section}
use Rattle.dump_trial.specs.Inner.GoodDumps.{bytes_in, IsOpened}
use Rattle.dump_trial.proofs.Contained.{IsSmall, small-in}
use Rattle.dump_trial.proofs.Memory.{memory-bodies, memory-heap}

-- each body is within the limit
pub small-opened : (now : Now) (index : Contents) (limits : Numbers) → IsOpened now limits → IsIndexOf (bytes_in now) index → All IsSmall (sections_in index)
small-opened now index limits held of =
    subst (λ i. All IsSmall (sections_in i)) (sym (index-is (bytes_in now) index of)) held.good.bodies

-- the device's count of faults is always 0
never-fails : (old new : HeldDump) → DeviceFailed (state_of old) (state_of new) → ⊥
never-fails old new failed = omega (arith, failed)

-- only memory may lack for bodies
pub bodies-opened : (old new : HeldDump) (sections : List Section) (limits : Numbers) (fault : BodyFault) → IsOpened (now_of old) limits → All IsSmall sections
    → AreRefused sections limits.section (state_of old) (state_of new) fault → fault ≡ body_faults.Memory
bodies-opened old new sections limits fault held all cause =
    memory-bodies sections (state_of old) (state_of new) fault all (never-fails old new)
    (subst (λ (l : Numbers). AreRefused sections l.section (state_of old) (state_of new) fault) held.bounds cause)

-- what a fault tells of the bodies at two places, and why it comes
abbrev IsStopped : HeldDump → HeldDump → Option ℕ → Option ℕ → HeapFault → Contents → Numbers → Type 0
IsStopped old new heap literals fault index limits =
    let bytes = bytes_in (now_of old) in
    heaps.IsHeapAnswerFor (enc_of index.version) (body_in bytes (section_in index heap)) (body_in bytes (section_in index literals)) limits.dense (Err fault)
    × heaps.IsHeapCauseOf (bodies_fault limits.section (two_bodies (section_in index heap) (section_in index literals))) limits.dense (state_of old) (state_of new) fault

-- for a heap, by the places of its sections
pub heap-opened : (old new : HeldDump) (at index : Contents) (limits : Numbers) (pid : List ℕ) (heap literals : Option ℕ) (fault : HeapFault)
    → IsOpened (now_of old) limits → IsIndexOf (bytes_in (now_of old)) index → at ≡ index
    → section_in index heap ≡ heap_section pid (sections_in index) → section_in index literals ≡ literals_section (sections_in index)
    → IsStopped old new heap literals fault at limits → fault ≡ heap_faults.Memory
heap-opened old new at index limits pid heap literals fault held of same own shared stopped =
    let bytes = bytes_in (now_of old) in
    let all = small-opened (now_of old) index limits held of in
    let stop : IsStopped old new heap literals fault index usual =
    subst (λ i. IsStopped old new heap literals fault i usual) same (subst (IsStopped old new heap literals fault at) held.bounds stopped) in
    let few : weight (enc_of index.version) (body_in bytes (section_in index heap)) (body_in bytes (section_in index literals)) ≤ usual.dense =
    subst (λ h. weight (enc_of index.version) (body_in bytes h) (body_in bytes (section_in index literals)) ≤ usual.dense) (sym own)
    (subst (λ l. weight (enc_of index.version) (body_in bytes (heap_section pid (sections_in index))) (body_in bytes l) ≤ usual.dense) (sym shared)
    (subst (λ (i : Contents). weight (enc_of i.version) (body_in bytes (heap_section pid (sections_in i))) (body_in bytes (literals_section (sections_in i))) ≤ usual.dense)
    (sym (index-is bytes index of)) (held.good.heaps pid))) in
    memory-heap index.version (body_in bytes (section_in index heap)) (body_in bytes (section_in index literals))
    (two_bodies (section_in index heap) (section_in index literals)) (state_of old) (state_of new) fault
    (All-append IsSmall (option_to_list (section_in index heap)) (option_to_list (section_in index literals)) (small-in index heap all) (small-in index literals all))
    few (never-fails old new) stop.0 stop.1

-- the body of roots, by its section
pub root-at : (bytes : List ℕ) (index : Contents) (kind : RootKind) (pid : List ℕ) (section : Option Section) → IsIndexOf bytes index
    → section ≡ root_section kind pid (sections_in index) → root_body bytes kind pid ≡ body_in bytes section
root-at bytes index kind pid section of found =
    ap (λ (i : Contents). body_in bytes (root_section kind pid (sections_in i))) (sym (index-is bytes index of)) ∙ ap (body_in bytes) (sym found)

-- a file is the one of its name
pub file-held : (file : DumpFile) (name bytes : List ℕ) → name_of file ≡ name → bytes_of file ≡ bytes → find_file (file ∷ []) name ≡ Some bytes
file-held file name bytes named is =
    cond-true (bytes_eq (name_of file) name) _ _ ((bytes_eq-Decides (name_of file) name).1 named) ∙ ap Some is
