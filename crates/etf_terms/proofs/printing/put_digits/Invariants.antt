use Rattle.std.proofs.Common.{◌≤◌, length, reverse, drop}
use Rattle.std.specs.List.{flat_map}
use Rattle.dump_io.specs.Sinks.{HasPut}
use Rattle.dump_io.specs.Numbers.{hex_byte}
use Rattle.etf_terms.proofs.printing.put_digits.Given as goal

abbrev pub invariant-loop-left : goal.invariant-loop-left
invariant-loop-left g l = record {
  within : l.left ≤ length l.digits;
  put : HasPut (g.K.Sink.state l.fn.sink) (g.K.Sink.state l.sink) (flat_map hex_byte (reverse (drop l.left l.digits)));
}

abbrev pub decreases-loop-left : goal.decreases-loop-left
decreases-loop-left g l = l.left
