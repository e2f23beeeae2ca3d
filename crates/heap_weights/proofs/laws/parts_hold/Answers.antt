use Rattle.heap_weights.proofs.Reachers.{alone-is, nobody-is, several-is}
use Rattle.heap_weights.proofs.laws.parts_hold.Goals as goal

pub returns : goal.returns
returns c = record {
  alone = λ graph within roots part n. alone-is graph within n roots part;
  several = λ graph within roots n. several-is graph within n roots;
  nobody = λ graph within roots n. nobody-is graph within n roots;
}
