use Rattle.std.proofs.Common.{take}
use Rattle.std.specs.List.{flat_map}
use Rattle.dump_io.specs.Sinks.{HasPut}
use Rattle.etf_terms.specs.Text.{comma_number}
use Rattle.etf_terms.proofs.printing.put_numbers.Given as goal

-- the bytes so far are written
abbrev pub invariant-loop-c : goal.invariant-loop-c
invariant-loop-c g l =
    HasPut (g.K.Sink.state l.initial.sink) (g.K.Sink.state l.sink) (flat_map comma_number (take l.c-index l.bytes))
