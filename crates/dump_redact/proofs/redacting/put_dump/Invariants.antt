use Rattle.std.proofs.Common.{◌-◌, ◌≤◌, length}
use Rattle.dump_redact.specs.Redacted.{redacted}
use Rattle.dump_redact.specs.Inner.Copying.{HasCopied}
use Rattle.dump_redact.specs.Inner.Places.{offset_of, text_between}
use Rattle.dump_redact.proofs.redacting.put_dump.Given as goal

-- the dump is written up to the section at `i`
abbrev pub invariant-loop-i : goal.invariant-loop-i
invariant-loop-i g l =
    let d = g.D.Dumps in
    let k = g.K.Sink in
    record {
      place : l.i ≤ length l.index.headers;
      copied : HasCopied (d.state l.initial.dumps) (d.state l.dumps) (k.state l.initial.sink) (k.state l.sink) (offset_of l.index l.i)
          (λ dump. text_between l.index 0 l.i (redacted dump));
    }

abbrev pub decreases-loop-i : goal.decreases-loop-i
decreases-loop-i g l = length l.index.headers - l.i
