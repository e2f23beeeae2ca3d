-- What the run of a command leaves, by the words that are it.
use Rattle.std.proofs.Common.{◌≡◌, ◌^◌, ◌<◌, ℕ, List, Option, Some, Result, sym, subst}
use Rattle.dump_io.specs.Dumps.{DeviceState}
use Rattle.dump_io.specs.Limits.{Numbers}
use Rattle.dump_io.specs.Sinks.{SinkState}
use Rattle.command_words.specs.Command.{Ask, Command, on}
use Rattle.dump_questions.specs.Run.{IsRunOf}
use Rattle.dump_questions.specs.Runs.{Runs, RunsAlone}
use Rattle.dump_questions.specs.Tasks.{question}
use Rattle.dump_questions.specs.declared.stop.Stop.{Stop}
use Rattle.dump_command.specs.Meaning.{meaning}
use Rattle.dump_command.specs.Report.{task}
use Rattle.dump_command.specs.Inner.Runs.{RunsOn}

-- what the run of one form of a question leaves, the run of the other does
pub runs-asked : {ask run : Ask} {name : List ℕ} {limits : Numbers} {before after : DeviceState} {out out' : SinkState} {ended : Result ℕ Stop} → ask ≡ run
    → Runs (question name (meaning run)) limits before after out out' ended → Runs (question name (meaning ask)) limits before after out out' ended
runs-asked {name = name} {limits = limits} {before = before} {after = after} {out = out} {out' = out'} {ended = ended} is runs =
    subst (λ a. Runs (question name (meaning a)) limits before after out out' ended) (sym is) runs

module _ {D : Type 0} {state : D → DeviceState} {limits : Numbers} {old new : D} {out out' : SinkState} {ended : Result ℕ Stop} {cmd : Command} where
  -- what the run of a command leaves that asks a dump
  pub runs-on : {ask : Ask} {name : List ℕ} → cmd ≡ on name ask → Runs (question name (meaning ask)) limits (state old) (state new) out out' ended → RunsOn state cmd limits old new out out' ended
  runs-on is runs =
      subst (λ c. RunsOn state c limits old new out out' ended) (sym is)
      (record { runs = runs; idle = λ none. absurd (let no : ⊥ = cc (none) in no) })

  -- what the run of a command leaves that opens no file, and isn't given the device
  pub runs-alone : {run : Command} → cmd ≡ run → (state old).taken < 2 ^ 64 → new ≡ old → RunsAlone (task run) out out' ended → RunsOn state cmd limits old new out out' ended
  runs-alone {run} is small same runs =
      subst (λ c. RunsOn state c limits old new out out' ended) (sym is)
      (record { runs = subst (λ n. Runs (task run) limits (state old) (state n) out out' ended) (sym same) (runs limits (state old) small); idle = λ _. same })

-- the run of the command that was read is that of the command of the words
pub IsRunOf-same : (words : Option Command) (mine cmd : Command) (limits : Numbers) (status : ℕ) (before after : DeviceState) (out out' err err' : SinkState)
    → words ≡ Some mine → words ≡ Some cmd → IsRunOf (task mine) limits status before after out out' err err' → IsRunOf (task cmd) limits status before after out out' err err'
IsRunOf-same words mine cmd limits status before after out out' err err' first second run =
    let same : mine ≡ cmd = cc in subst (λ k. IsRunOf (task k) limits status before after out out' err err') same run
