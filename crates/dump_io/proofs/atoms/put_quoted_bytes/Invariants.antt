use Rattle.std.proofs.Common.{take}
use Rattle.std.specs.List.{flat_map}
use Rattle.dump_io.specs.Atoms.{quoted_byte}
use Rattle.dump_io.specs.Sinks.{HasPut}
use Rattle.dump_io.proofs.atoms.put_quoted_bytes.Given as goal

-- the bytes so far are written
abbrev pub invariant-loop-c : goal.invariant-loop-c
invariant-loop-c g l =
    HasPut (g.K.Sink.state l.initial.sink) (g.K.Sink.state l.sink) (flat_map quoted_byte (take l.c-index l.name))
