-- What a run leaves, by the status with which it ends. `before` and `after` are the device around it, `out` and `out'` the sink
-- of the report, and `err` and `err'` that of the lines on refusals.
use Rattle.std.specs.Prelude.{◌≡◌, ◌⊎◌, ℕ, ◌≤◌, Bool, true, false, List, [], Option, None, Some, IsSomeAnd, MatchOption, IsTrue, codes}
use Rattle.dump_io.specs.Counts.{plus_capped}
use Rattle.dump_io.specs.Dumps.{closed, IsAbsent, DeviceState, DeviceFailed}
use Rattle.dump_io.specs.Limits.{Numbers}
use Rattle.dump_io.specs.Sinks.{SinkState, SinkFailed, IsKept, Gained, GainedFront}
use Rattle.section_index.specs.Answers.{IsFileOf}
use Rattle.report_text.specs.declared.refusals.Refusal.{Refusal}
use Rattle.report_text.specs.Refusals.{refusal_line}
use Rattle.dump_questions.specs.Tasks.{Task}

-- these are the bytes on which a command reports: those of its file, and none if it has no file
abbrev pub IsDumpOf : DeviceState → DeviceState → Task → List ℕ → Type 0
IsDumpOf before after task bytes = MatchOption (task.file) (bytes ≡ []) (λ name. IsFileOf before after name bytes)

-- the device tells its files, and none has the name of a command's file
abbrev pub IsMissing : DeviceState → Task → Type 0
IsMissing before task = IsSomeAnd (task.file) (IsAbsent before.files)

-- the dump of a command wasn't read: the device failed, or has no such file
abbrev pub IsUnread : DeviceState → DeviceState → Task → Type 0
IsUnread before after task = IsSomeAnd (task.file) (λ name. DeviceFailed before after ⊎ IsAbsent before.files name)

-- a command wrote its whole report on these bytes, for which
-- it isn't refused, and the status is that of the report
pub record IsReported (task : Task) (limits : Numbers) (status : ℕ) (bytes : List ℕ) (before after : SinkState) : Type 0 where
  pub accepted : task.refusal bytes limits ≡ None
  pub ends : status ≡ task.status bytes
  pub written : Gained before after (task.report bytes)

-- status 0 and 3: the whole report is in `out`, and `err` is untouched
pub record Reports (task : Task) (limits : Numbers) (status : ℕ) (before after : DeviceState) (out out' err err' : SinkState) : Type 0 where
  pub told : (bytes : List ℕ) → IsDumpOf before after task bytes → IsReported task limits status bytes out out'
  pub err_kept : IsKept err err'

-- status 2: the command is refused, the line that says why is in `err`, and `out` is untouched
pub record Refuses (task : Task) (limits : Numbers) (before after : DeviceState) (out out' err err' : SinkState) : Type 0 where
  pub told : (bytes : List ℕ) → IsDumpOf before after task bytes
      → IsSomeAnd (task.refusal bytes limits) (λ why. Gained err err' (refusal_line why))
  pub out_kept : IsKept out out'

-- a proper prefix of the report is in `out`, or, if the command is
-- refused, one of the refusal's line is in `err`; the other is untouched
abbrev pub IsFrontOf : Task → List ℕ → Option Refusal → SinkState → SinkState → SinkState → SinkState → Type 0
IsFrontOf task bytes None out out' err err' = GainedFront out out' (task.report bytes) × SinkFailed out out' × IsKept err err'
IsFrontOf task bytes (Some why) out out' err err' = GainedFront err err' (refusal_line why) × SinkFailed err err' × IsKept out out'

-- status 5: a write failed
pub record BreaksOff (task : Task) (limits : Numbers) (before after : DeviceState) (out out' err err' : SinkState) : Type 0 where
  pub failed : SinkFailed out out' ⊎ SinkFailed err err'
  pub told : (bytes : List ℕ) → IsDumpOf before after task bytes → IsFrontOf task bytes (task.refusal bytes limits) out out' err err'

-- what a command that writes while it reads, and stopped before its report was whole, left
-- in `out`: nothing, or a proper prefix of the report; and nothing if the command is refused
abbrev pub IsLeftOf : Task → List ℕ → Option Refusal → SinkState → SinkState → Type 0
IsLeftOf task bytes None before after = IsKept before after ⊎ GainedFront before after (task.report bytes)
IsLeftOf task bytes (Some why) before after = IsKept before after

-- a command that writes while it reads, and stopped, left this in `out`, and nothing if it has no file
pub record HasStopped (task : Task) (limits : Numbers) (before after : DeviceState) (out out' : SinkState) : Type 0 where
  pub absent : IsMissing before task → IsKept out out'
  pub told : (bytes : List ℕ) → IsDumpOf before after task bytes → IsLeftOf task bytes (task.refusal bytes limits) out out'

-- what a command left in `out`, by whether it writes while it reads
abbrev pub IsLeftBy : Bool → Task → Numbers → DeviceState → DeviceState → SinkState → SinkState → Type 0
IsLeftBy false task limits before after out out' = IsKept out out'
IsLeftBy true task limits before after out out' = HasStopped task limits before after out out'

-- what a command that stopped before its report was whole left
-- in `out`: nothing, unless it writes while it reads
abbrev pub IsLeft : Task → Numbers → DeviceState → DeviceState → SinkState → SinkState → Type 0
IsLeft task limits before after out out' = IsLeftBy task.streams task limits before after out out'

-- a run takes no more bytes than the command may take
abbrev pub TakesAtMost : Task → Numbers → DeviceState → DeviceState → Type 0
TakesAtMost task limits before after =
    (bytes : List ℕ) → IsDumpOf before after task bytes → after.taken ≤ plus_capped before.taken (task.allowance bytes limits)

-- how a run of a command ends, and what is then in `out` and in `err`: a row for each status
abbrev pub Ends : Task → Numbers → ℕ → DeviceState → DeviceState → SinkState → SinkState → SinkState → SinkState → Type 0
Ends task limits status before after out out' err err' =
    ((status ≡ 0) × Reports task limits 0 before after out out' err err')
    ⊎ ((status ≡ 2) × Refuses task limits before after out out' err err')
    ⊎ ((status ≡ 3) × Reports task limits 3 before after out out' err err' × IsTrue (task.finds))
    ⊎ ((status ≡ 4) × IsUnread before after task × IsLeft task limits before after out out' × IsKept err err')
    ⊎ ((status ≡ 5) × BreaksOff task limits before after out out' err err')
    ⊎ ((status ≡ 6) × IsLeft task limits before after out out' × IsKept err err')

-- no file is open at the end, and nothing was taken
pub record Untouched (before after : DeviceState) : Type 0 where
  pub closed : after.now ≡ closed
  pub same_taken : after.taken ≡ before.taken

-- what a run of a command leaves
pub record IsRunOf (task : Task) (limits : Numbers) (status : ℕ) (before after : DeviceState) (out out' err err' : SinkState) : Type 0 where
  pub ends : Ends task limits status before after out out' err err'
  -- if there is no file with its name, the dump wasn't read, or memory was lacking, and nothing was taken
  pub missing : IsMissing before task → ((status ≡ 4) ⊎ (status ≡ 6)) × Untouched before after
  -- whatever the status, the files stay the same, and the count of faults doesn't fall
  pub same_files : after.files ≡ before.files
  pub later : before.faults ≤ after.faults
  -- whatever the status, no more bytes are taken than the command may take
  pub taken : TakesAtMost task limits before after

-- the line for words that are no command
abbrev pub usage_line : List ℕ
usage_line = codes "usage: edump COMMAND [WORDS]\n"

-- a line was written and the run ends with this status, or a proper
-- prefix of the line was and it ends with 5, since `err` failed
abbrev pub EndsTold : ℕ → List ℕ → ℕ → SinkState → SinkState → Type 0
EndsTold status line result before after =
    ((result ≡ status) × Gained before after line) ⊎ ((result ≡ 5) × GainedFront before after line × SinkFailed before after)

-- what a run leaves whose words are no command
pub record IsUsage (status : ℕ) (out out' err err' : SinkState) : Type 0 where
  pub ending : EndsTold 1 usage_line status err err'
  pub out_kept : IsKept out out'
