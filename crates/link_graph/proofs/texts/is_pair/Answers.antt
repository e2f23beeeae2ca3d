use Rattle.std.proofs.Common.{false, sym, ◌∙◌, ap}
use Rattle.std.specs.Option.{option_map_or}
use Rattle.dump_io.specs.Numbers.{is_digits}
use Rattle.link_graph.proofs.Numbers.{pair_by_number}
use Rattle.link_graph.proofs.texts.is_pair.Goals as goal

pub returns-in-None : goal.returns-in-None
returns-in-None c = sym (pair_by_number c.args.text.now ∙ ap (λ found. option_map_or is_digits found false) (sym c.in-None.ensures))

pub returns-in-Some : goal.returns-in-Some
returns-in-Some c = c.is_digits.ensures ∙ sym (pair_by_number c.args.text.now ∙ ap (λ found. option_map_or is_digits found false) (sym c.in-Some.ensures))
