-- Nothing but want of memory stops the reading of a good dump, where the device doesn't fail.
use Rattle.std.proofs.Common.{◌≡◌, ℕ, ◌≤◌, List, refl, sym, ◌∙◌, ap, arith}
use Rattle.std.specs.Prelude.{All, Err}
use Rattle.std.specs.Option.{option_map}
use Rattle.std.proofs.lemmas.Option.{none-some}
use Rattle.dump_io.specs.Dumps.{DeviceState, DeviceFailed}
use Rattle.dump_io.specs.Limits.{usual}
use Rattle.section_index.specs.declared.opening.OpenFault.{OpenFault}
use Rattle.section_index.specs.declared.opening.OpenFault.TheVariants as opening_faults
use Rattle.dump_sections.specs.declared.bodies.BodyFault.{BodyFault}
use Rattle.dump_sections.specs.declared.bodies.BodyFault.TheVariants as body_faults
use Rattle.section_index.specs.Answers.{IsAnswerFor}
use Rattle.section_index.specs.Opening.{IsAccepted, IsRefusedFor}
use Rattle.dump_sections.specs.Sections.{Section}
use Rattle.dump_sections.specs.Loading.{AreRefused, body_fault}
use Rattle.dump_sections.specs.declared.version.Version.{Version}
use Rattle.heap_cells.specs.Cells.{weight}
use Rattle.heap_cells.specs.Loading.{enc_of, bodies_fault, heap_fault_of}
use Rattle.heap_cells.specs.Loading as heaps
use Rattle.heap_cells.specs.declared.faults.HeapFault.{HeapFault}
use Rattle.heap_cells.specs.declared.faults.HeapFault.TheVariants as heap_faults
use Rattle.dump_trial.proofs.Contained.{IsSmall, none-large}

refused-accepted : (bytes : List ℕ) (fault : OpenFault) → IsAccepted bytes usual → IsRefusedFor bytes usual fault → ⊥
refused-accepted bytes fault accepted refused = none-some fault (sym accepted ∙ refused)

-- of an accepted dump that is read
pub memory-opening : (bytes : List ℕ) (fault : OpenFault) → IsAccepted bytes usual → IsAnswerFor bytes usual (Err fault)
    → (fault ≡ opening_faults.Read → ⊥) → fault ≡ opening_faults.Memory
memory-opening bytes opening_faults.Read accepted answer unread = absurd (unread refl)
memory-opening bytes opening_faults.Memory accepted answer unread = refl
memory-opening bytes fault accepted answer unread = absurd (refused-accepted bytes _ accepted answer)

-- of bodies that are within the limit
pub memory-bodies : (sections : List Section) (before after : DeviceState) (fault : BodyFault) → All IsSmall sections → (DeviceFailed before after → ⊥)
    → AreRefused sections usual.section before after fault → fault ≡ body_faults.Memory
memory-bodies sections before after (body_faults.SectionTooLarge at len) all works cause = absurd (none-some _ (sym (none-large sections all) ∙ cause))
memory-bodies sections before after body_faults.Read all works cause = absurd (works cause.1)
memory-bodies sections before after body_faults.Memory all works cause = refl

-- of a heap
pub memory-heap : (version : Version) (heap literals : List ℕ) (bodies : List Section) (before after : DeviceState) (fault : HeapFault) → All IsSmall bodies
    → weight (enc_of version) heap literals ≤ usual.dense → (DeviceFailed before after → ⊥) → heaps.IsHeapAnswerFor (enc_of version) heap literals usual.dense (Err fault)
    → heaps.IsHeapCauseOf (bodies_fault usual.section bodies) usual.dense before after fault → fault ≡ heap_faults.Memory
memory-heap version heap literals bodies before after (heap_faults.SectionTooLarge at len) all few works answer cause =
    absurd (none-some _ (sym (ap (option_map (λ large. heap_fault_of (body_fault large))) (none-large bodies all)) ∙ cause))
memory-heap version heap literals bodies before after (heap_faults.TooDense count) all few works answer cause = absurd (omega (arith, few, answer.0, answer.1))
memory-heap version heap literals bodies before after heap_faults.Read all few works answer cause = absurd (works cause.1)
memory-heap version heap literals bodies before after heap_faults.Memory all few works answer cause = refl
