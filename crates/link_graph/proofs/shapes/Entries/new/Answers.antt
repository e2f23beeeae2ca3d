use Rattle.std.proofs.Common.{sym, subst, length, ◌≤◌}
use Rattle.std.specs.Prelude.{map, IfSome}
use Rattle.std.specs.Option.{option_map}
use Rattle.link_graph.specs.Entries.{entry_of}
use Rattle.link_graph.proofs.Counts.{length-entries}
use Rattle.link_graph.proofs.shapes.Entries.new.Goals as goal

pub returns-clause-count : goal.returns-clause-count
returns-clause-count c =
    subst (λ parts. IfSome (option_map (map entry_of) parts) (λ left. length left ≤ length c.args.text.now)) (sym c.in_ok-new.ensures)
    (length-entries c.args.at c.args.text.now)
