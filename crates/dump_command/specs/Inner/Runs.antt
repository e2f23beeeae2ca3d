-- What the run of a command leaves before its line on `err` is written.
use Rattle.std.specs.Prelude.{◌≡◌, ℕ, None, Result}
use Rattle.dump_io.specs.Dumps.{DeviceState}
use Rattle.dump_io.specs.Limits.{Numbers}
use Rattle.dump_io.specs.Sinks.{SinkState}
use Rattle.command_words.specs.Command.{Command, file_name}
use Rattle.dump_questions.specs.Runs.{Runs}
use Rattle.dump_questions.specs.declared.stop.Stop.{Stop}
use Rattle.dump_command.specs.Report.{task}

-- a command ended over a device, which one without a file leaves as it is
pub record RunsOn {D : Type 0} (state : D → DeviceState) (cmd : Command) (limits : Numbers) (old new : D) (out out' : SinkState)
    (ended : Result ℕ Stop) : Type 0 where
  pub runs : Runs (task cmd) limits (state old) (state new) out out' ended
  pub idle : file_name cmd ≡ None → new ≡ old
