use Rattle.std.proofs.Common.{◌≡◌, ℕ, ◌-◌, ◌≤◌, List}
use Rattle.std.specs.List.{between}
use Rattle.dump_io.specs.Dumps.{told}
use Rattle.dump_redact.specs.Inner.Copying.{copied, stretch_behind, HasCopied}
use Rattle.dump_redact.proofs.copying.copy.Given as goal

-- the bytes up to `at` are copied
abbrev pub invariant-loop-at : goal.invariant-loop-at
invariant-loop-at g l =
    let d = g.D.Dumps in
    let k = g.K.Sink in
    record {
      from : l.from ≤ l.at;
      inside : l.at ≤ l.upto;
      copied : HasCopied (d.state l.initial.dumps) (d.state l.dumps) (k.state l.initial.sink) (k.state l.sink) (l.at - l.from)
          (λ dump. copied l.initial.stretch (between l.from l.at dump));
      behind : (dump : List ℕ) → (d.state l.initial.dumps).now ≡ told dump → l.stretch ≡ stretch_behind l.initial.stretch (between l.from l.at dump);
    }

abbrev pub decreases-loop-at : goal.decreases-loop-at
decreases-loop-at g l = l.upto - l.at
