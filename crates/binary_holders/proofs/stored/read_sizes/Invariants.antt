use Rattle.std.proofs.Common.{◌≡◌, ◌*◌, map, take}
use Rattle.dump_io.specs.Dumps.{IfTold, ReadsAtMost}
use Rattle.binary_holders.specs.Usage.{sized_binary}
use Rattle.binary_holders.specs.Inner.Finding.{numbers_of, stored_of}
use Rattle.binary_holders.specs.Inner.Places.{numbers_in}
use Rattle.binary_holders.proofs.stored.read_sizes.Given as goal

-- the sizes of the first binaries were read
abbrev pub invariant-loop-binary : goal.invariant-loop-binary
invariant-loop-binary g l =
    let d = g.D.Dumps in
    record {
      reads : ReadsAtMost (d.state l.initial.dumps) (d.state l.dumps) (17 * l.binary-index);
      numbers : numbers_in l.binaries.items ≡ numbers_of (take l.binary-index l.stored);
      sizes : IfTold (d.state l.initial.dumps).now (λ dump. l.binaries.items ≡ map (λ binary. sized_binary dump (stored_of l.index binary)) (take l.binary-index l.stored));
    }
