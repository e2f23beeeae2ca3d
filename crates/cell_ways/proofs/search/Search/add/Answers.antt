use Rattle.std.proofs.Common.{◌≡◌, length, refl, sym, ap, ◌∙◌, arith}
use Rattle.std.proofs.lemmas.List.{with_items_is}
use Rattle.std.specs.Vec.{with_items}
use Rattle.cell_ways.specs.declared.search.Search.{Search}
use Rattle.cell_ways.proofs.Giving.{finds-had}
use Rattle.cell_ways.proofs.search.Search.add.Goals as goal

pub returns-else-give : goal.returns-else-give
returns-else-give c =
    let new : Search = record { depths = with_items c.args.self.now.depths c.give.new.numbers; queue = c.args.self.now.queue } in
    let size : length c.give.new.numbers ≡ c.args.self.now.depths.len = omega (arith, c.give.ensures.gives.size, ap length c.deref_mut.ensures.value, c.args.self.now.depths.ok.0) in
    let end : new.depths.items ≡ c.give.new.numbers = with_items_is c.args.self.now.depths c.give.new.numbers size in
    finds-had c.args.self.now new c.deref_mut.result.now c.give.new.numbers c.args.cell c.args.depth c.deref_mut.ensures.value end c.give.ensures.gives refl (sym c.give.ensures.had ∙ c.if-give.false)
