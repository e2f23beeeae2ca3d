use Rattle.std.proofs.Common.{length, map, ◌∙◌, ap, arith}
use Rattle.dump_io.specs.Laws.Reads.{ReadsAtMost-within}
use Rattle.binary_holders.specs.declared.stored.StoredAt.{StoredAt}
use Rattle.binary_holders.specs.Usage.{sized_binary}
use Rattle.binary_holders.specs.Inner.Finding.{stored_of}
use Rattle.binary_holders.proofs.UsingFacts.{fronts-enough, sizes-are}
use Rattle.binary_holders.proofs.using.stored_targets.Goals as goal

pub returns-in_err-binaries-clause-reads : goal.returns-in_err-binaries-clause-reads
returns-in_err-binaries-clause-reads g c =
    ReadsAtMost-within (omega (arith, ap length c.as_slice.ensures.value, fronts-enough c.args.index.now c.in_ok-found.found.binaries.items c.in_ok-found.ensures.are)) c.in_err-binaries.ensures.reads

pub returns-in_err-targets-clause-reads : goal.returns-in_err-targets-clause-reads
returns-in_err-targets-clause-reads g c =
    ReadsAtMost-within (omega (arith, ap length c.as_slice.ensures.value, fronts-enough c.args.index.now c.in_ok-found.found.binaries.items c.in_ok-found.ensures.are)) c.in_ok-binaries.ensures.reads

pub returns-clause-reads : goal.returns-clause-reads
returns-clause-reads g c =
    ReadsAtMost-within (omega (arith, ap length c.as_slice.ensures.value, fronts-enough c.args.index.now c.in_ok-found.found.binaries.items c.in_ok-found.ensures.are)) c.in_ok-binaries.ensures.reads

pub returns-clause-sizes : goal.returns-clause-sizes
returns-clause-sizes g c = λ dump is.
    c.in_ok-targets.ensures ∙ sizes-are dump c.args.index.now c.in_ok-found.found.binaries.items c.in_ok-binaries.binaries.items c.in_ok-found.ensures.are
    (c.in_ok-binaries.ensures.sizes dump is ∙ ap (map (λ (b : StoredAt). sized_binary dump (stored_of c.args.index.now b))) c.as_slice.ensures.value)
