-- What each command reports on the bytes of a dump, why it is refused, and how much it takes.
use Rattle.std.specs.Prelude.{ℕ, List, Option}
use Rattle.dump_io.specs.Limits.{Numbers}
use Rattle.report_text.specs.declared.refusals.Refusal.{Refusal}
use Rattle.command_words.specs.Command.{Command, make, on, trial}
use Rattle.dump_questions.specs.Tasks.{question, Task}
use Rattle.table_commands.specs.Rows.{make_task, trial_task}
use Rattle.dump_command.specs.Meaning.{meaning}

-- what each command does
abbrev pub task : Command → Task
task (on file ask) = question file (meaning ask)
task (make seed count) = make_task seed count
task (trial seed count) = trial_task seed count

-- the report of a command on the bytes of a dump
abbrev pub report : Command → List ℕ → List ℕ
report cmd = (task cmd).report

-- the status of the report of a command on the bytes of a dump
abbrev pub report_status : Command → List ℕ → ℕ
report_status cmd = (task cmd).status

-- why a command on these bytes is refused under these limits, or `None`: the first cause that holds
abbrev pub refusal : Command → List ℕ → Numbers → Option Refusal
refusal cmd = (task cmd).refusal
