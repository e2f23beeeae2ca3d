use Rattle.std.proofs.Common.{◌<◌, subst}
use Rattle.std.specs.Prelude.{All}
use Rattle.heap_levels.proofs.levels.weigh_parts.Goals as goal

pub weigh-requires-clause-cells : goal.weigh-requires-clause-cells
weigh-requires-clause-cells c = subst (λ n. All (λ cell. cell < n) c.cells.result.now) c.requires.leads c.cells.ensures.within
