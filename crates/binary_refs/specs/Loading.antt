-- What loading the previews of a heap reads, and why they aren't loaded.
use Rattle.std.specs.Prelude.{ℕ, ◌*◌, List, length, Option, None}
use Rattle.std.specs.Option.{option_to_list}
use Rattle.dump_io.specs.Dumps.{DeviceState, ReadsAtMost}
use Rattle.dump_io.specs.Faults.{Cause, fails, lacks, IsCauseOf}
use Rattle.binary_refs.specs.declared.faults.PreviewFault.{PreviewFault}
use Rattle.binary_refs.specs.declared.faults.PreviewFault.TheVariants.{Read, Memory}

-- what the fault of previews says
abbrev pub preview_cause : PreviewFault → Cause PreviewFault
preview_cause Read = fails
preview_cause Memory = lacks

-- why previews aren't loaded, as nothing is refused: the device failed; memory may be lacking at any time
abbrev pub IsPreviewCauseOf : DeviceState → DeviceState → PreviewFault → Type 0
IsPreviewCauseOf before after fault = IsCauseOf None before after (preview_cause fault)

-- what is read for the cells that refer to a binary, whose numbers
-- and stated sizes these are: at most 128 bytes for each
abbrev pub ReadsPreviews : DeviceState → DeviceState → List (ℕ × ℕ) → Type 0
ReadsPreviews before after cells = ReadsAtMost before after (128 * length cells)

-- what is read for one cell, which may refer to a binary
abbrev pub ReadsPreview : DeviceState → DeviceState → Option (ℕ × ℕ) → Type 0
ReadsPreview before after cell = ReadsPreviews before after (option_to_list cell)
