use Rattle.std.proofs.Common.{ℕ, List, sym, subst, Vec, Global}
use Rattle.std.proofs.lemmas.Result.{IfOk-weaker}
use Rattle.process_table.specs.declared.pids.PidPlace.{PidPlace}
use Rattle.process_table.specs.Inner.Finding.{AreNumbered, AreRanked}
use Rattle.process_table.proofs.Ranking.{AreRanked-values}
use Rattle.process_table.proofs.pids.order_of.Goals as goal

pub returns : goal.returns
returns c =
    IfOk-weaker _ _ (λ (order : Vec ℕ Global). (places : List PidPlace) → AreNumbered c.args.numbers.now places → AreRanked places order.items)
    (λ (order : Vec ℕ Global) is (places : List PidPlace) (numbered : AreNumbered c.args.numbers.now places).
    subst (AreRanked places) (sym is) (AreRanked-values c.args.numbers.now places numbered c.values_of.ensures.ordered))
    c.values_of.ensures.values
