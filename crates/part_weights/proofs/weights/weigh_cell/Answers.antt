use Rattle.std.proofs.Common.{◌∙◌}
use Rattle.heap_graph.specs.Binaries.{binaries_among}
use Rattle.part_weights.proofs.ShareFacts.{reached-alone}
use Rattle.part_weights.proofs.weights.weigh_cell.Goals as goal

pub returns : goal.returns
returns c =
    let heap = c.args.skeleton.now in c.in_ok-shares.ensures.reached ∙ reached-alone heap.leads heap.words (binaries_among heap.kinds) c.args.cell heap.own
