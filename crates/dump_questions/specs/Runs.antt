-- What the run of a command leaves before its line on `err` is written.
use Rattle.std.specs.Prelude.{◌≡◌, ◌⊎◌, ℕ, List, None, Some, Result, Ok, Err, IsTrue, ◌^◌, ◌<◌, ◌≤◌}
use Rattle.dump_io.specs.Dumps.{DeviceState}
use Rattle.dump_io.specs.Limits.{Numbers}
use Rattle.dump_io.specs.Sinks.{SinkState, SinkFailed, IsKept, GainedFront}
use Rattle.report_text.specs.declared.refusals.Refusal.{Refusal}
use Rattle.report_text.specs.Refusals.{IsRefusal}
use Rattle.dump_questions.specs.Tasks.{Task}
use Rattle.dump_questions.specs.Run.{IsDumpOf, IsMissing, IsUnread, IsReported, IsLeft, TakesAtMost, Untouched}
use Rattle.dump_questions.specs.declared.stop.Stop.{Stop}
use Rattle.dump_questions.specs.declared.stop.Stop.TheVariants.{Refused, NotRead, NotWritten, NoMemory}

-- a whole report ends with 0, or with 3 if its command looks for findings
abbrev pub EndsWith : Task → ℕ → Type 0
EndsWith task status = (status ≡ 0) ⊎ ((status ≡ 3) × IsTrue (task.finds))

-- a command wrote its whole report, and ended with this status
pub record IsDone (task : Task) (limits : Numbers) (before after : DeviceState) (out out' : SinkState) (status : ℕ) : Type 0 where
  pub there : IsMissing before task → ⊥
  pub ends : EndsWith task status
  pub told : (bytes : List ℕ) → IsDumpOf before after task bytes → IsReported task limits status bytes out out'

-- a command is refused for this cause
pub record IsRefusedFor (task : Task) (limits : Numbers) (before after : DeviceState) (why : Refusal) : Type 0 where
  pub proper : IsRefusal why
  pub there : IsMissing before task → ⊥
  pub told : (bytes : List ℕ) → IsDumpOf before after task bytes → task.refusal bytes limits ≡ Some why

-- a write of the report of a command failed
pub record IsBrokenOff (task : Task) (limits : Numbers) (before after : DeviceState) (out out' : SinkState) : Type 0 where
  pub there : IsMissing before task → ⊥
  pub failed : SinkFailed out out'
  pub told : (bytes : List ℕ) → IsDumpOf before after task bytes
      → (task.refusal bytes limits ≡ None) × GainedFront out out' (task.report bytes)

-- what a command left, by how it ended
abbrev pub Leaves : Task → Numbers → DeviceState → DeviceState → SinkState → SinkState → Result ℕ Stop → Type 0
Leaves task limits before after out out' (Ok status) = IsDone task limits before after out out' status
Leaves task limits before after out out' (Err (Refused why)) = IsRefusedFor task limits before after why × IsKept out out'
Leaves task limits before after out out' (Err NotRead) = IsUnread before after task × IsLeft task limits before after out out'
Leaves task limits before after out out' (Err NotWritten) = IsBrokenOff task limits before after out out'
Leaves task limits before after out out' (Err NoMemory) = IsLeft task limits before after out out'

-- a command ended: with its status, or with why its report isn't whole
pub record Runs (task : Task) (limits : Numbers) (before after : DeviceState) (out out' : SinkState) (ended : Result ℕ Stop) : Type 0 where
  pub left : Leaves task limits before after out out' ended
  pub gone : IsMissing before task → Untouched before after
  pub same_files : after.files ≡ before.files
  pub later : before.faults ≤ after.faults
  pub taken : TakesAtMost task limits before after

-- what a command that opens no file leaves, whatever the limits and the device are, which it isn't given
abbrev pub RunsAlone : Task → SinkState → SinkState → Result ℕ Stop → Type 0
RunsAlone task out out' ended =
    (limits : Numbers) (device : DeviceState) → device.taken < 2 ^ 64 → Runs task limits device device out out' ended
