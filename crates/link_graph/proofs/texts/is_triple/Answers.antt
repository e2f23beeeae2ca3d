use Rattle.std.proofs.Common.{false, sym, ◌∙◌, ap}
use Rattle.std.specs.Option.{option_map_or}
use Rattle.link_graph.specs.Texts.{is_pair}
use Rattle.link_graph.proofs.Numbers.{triple_by_number}
use Rattle.link_graph.proofs.texts.is_triple.Goals as goal

pub returns-in-None : goal.returns-in-None
returns-in-None c = sym (triple_by_number c.args.text.now ∙ ap (λ found. option_map_or is_pair found false) (sym c.in-None.ensures))

pub returns-in-Some : goal.returns-in-Some
returns-in-Some c = c.is_pair.ensures ∙ sym (triple_by_number c.args.text.now ∙ ap (λ found. option_map_or is_pair found false) (sym c.in-Some.ensures))
