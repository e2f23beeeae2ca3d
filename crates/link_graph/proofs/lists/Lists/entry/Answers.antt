use Rattle.std.proofs.Common.{Some, sym, ◌∙◌, ap}
use Rattle.link_graph.proofs.Spanned.{entry-shown}
use Rattle.link_graph.proofs.lists.Lists.entry.Goals as goal

pub returns : goal.returns
returns c =
    entry-shown c.args.self.now c.args.p c.index.result.now c.requires.place c.index.ensures c.args.n c.index-2.result.now c.requires.number c.requires.within c.index-2.ensures
    ∙ ap Some (sym c.entry.ensures)
