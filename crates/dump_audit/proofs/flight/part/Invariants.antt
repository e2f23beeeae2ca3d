use Rattle.std.proofs.Common.{◌≡◌, take}
use Rattle.dump_audit.specs.Flight.{in_flight, settled}
use Rattle.dump_audit.proofs.flight.part.Given as goal

-- the findings so far are parted
abbrev pub invariant-loop-finding : goal.invariant-loop-finding
invariant-loop-finding l = record {
  settled : l.parted.settled.items ≡ settled l.signalled (take l.finding-index l.findings);
  in_flight : l.parted.in_flight.items ≡ in_flight l.signalled (take l.finding-index l.findings);
}
