use Rattle.std.proofs.Common.{take}
use Rattle.cell_graphs.specs.Frontiers.{is_on}
use Rattle.cell_ways.specs.Inner.Sweeps.{Lowers}
use Rattle.cell_ways.proofs.sweeps.Sweep.lower_all.Given as goal

-- the first roots
abbrev pub invariant-loop-root : goal.invariant-loop-root
invariant-loop-root l = Lowers l.initial.self l.self 0 (λ n. is_on n (take l.root-index l.roots))
