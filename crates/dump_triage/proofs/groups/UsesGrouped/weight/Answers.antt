use Rattle.std.proofs.Common.{◌<◌, [], length, sym, ap, arith}
use Rattle.std.proofs.lemmas.List.{get_or-map, length-map}
use Rattle.section_rows.specs.Rows.{Row}
use Rattle.text_groups.specs.Groups.{Item}
use Rattle.dump_triage.specs.Triage.{port_item}
use Rattle.dump_triage.proofs.groups.UsesGrouped.weight.Goals as goal

pub returns : goal.returns
returns c =
    let rows = c.args.self.now in
    let row : Row = record { at = 0; cells = [] } in
    let item : Item = record { text = []; weight = 0 } in
    let inside : c.args._i < length rows = omega (arith, c.requires, length-map rows port_item) in
    sym (ap (λ (i : Item). i.weight) (get_or-map port_item rows c.args._i row item inside))
