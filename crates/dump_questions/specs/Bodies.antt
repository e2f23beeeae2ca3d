-- What was read of sections.
use Rattle.std.specs.Prelude.{◌≡◌, ◌+◌, ◌^◌, ◌<◌, length, IfErr, List, Option, Result}
use Rattle.dump_io.specs.Dumps.{DeviceState, Now, ReadsAtMost}
use Rattle.dump_sections.specs.Bodies.{body_start, IsBodyIn}
use Rattle.dump_sections.specs.Loading.{bodies_length, IsUnloaded}
use Rattle.dump_sections.specs.declared.bodies.BodyFault.{BodyFault}
use Rattle.dump_sections.specs.Sections.{Section}
use Rattle.dump_questions.specs.Meaning.{Part}
use Rattle.dump_questions.specs.declared.subjects.Body.{Body}

-- the body that was read of a section, regardless of where it lies in memory
abbrev pub shown_body : Body → Part
shown_body body = record { base = body.base; bytes = body.bytes.items }

-- each place in the body is one in a file of at most 2^64 - 1 bytes
abbrev pub HasPlaces : Body → Type 0
HasPlaces body = body.base + length body.bytes.items < 2 ^ 64

-- what was read of a section that may be missing: its body, and the body's offset in the file
pub record IsBodyFound (now : Now) (found : Option Section) (body : Body) : Type 0 where
  pub held : IsBodyIn now found body.bytes.items
  pub base : body.base ≡ body_start found
  pub places : HasPlaces body

-- what a call does that reads the bodies of these sections, of which none is too large: it takes
-- at most as many bytes as they have, and fails only if the device does or memory is lacking
pub record ReadsBodies {T : Type 0} (sections : List Section) (before after : DeviceState) (result : Result T BodyFault) : Type 0 where
  pub reads : ReadsAtMost before after (bodies_length sections)
  pub fault : IfErr result (IsUnloaded before after)
