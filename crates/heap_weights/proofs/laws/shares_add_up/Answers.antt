use Rattle.heap_weights.proofs.Summing.{add-up}
use Rattle.heap_weights.proofs.laws.shares_add_up.Goals as goal

pub returns : goal.returns
returns c = λ graph within words binaries own roots shares are. add-up graph within roots words binaries own shares are
