use Rattle.cell_ways.proofs.Lawful.{depth-least, least-depth, none-unreached, unreached-none}
use Rattle.cell_ways.proofs.laws.depth_is_least.Goals as goal

pub returns : goal.returns
returns c = record {
  some = λ graph within begun depth n. (depth-least graph begun depth n, least-depth graph begun within depth n);
  none = λ graph within begun n. (none-unreached graph begun within n, unreached-none graph begun within n);
}
