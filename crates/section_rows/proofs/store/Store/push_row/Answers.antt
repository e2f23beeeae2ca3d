use Rattle.std.proofs.Common.{map, sym, ◌∙◌, rules, refl}
use Rattle.std.proofs.lemmas.List.{length-map}
use Rattle.section_rows.specs.Shown.{shown_cell}
use Rattle.section_rows.proofs.Heads.{HasGained-push}
use Rattle.section_rows.proofs.store.Store.push_row.Goals as goal

pub returns : goal.returns
returns c =
    HasGained-push c.args.self.now _ _ (map shown_cell c.args.cells.now) refl (c.requires.width ∙ sym (length-map c.args.cells.now shown_cell)) c.in_ok-push_cells.ensures
    (search rules) (search rules) c.requires.within c.in_ok-push.ensures.items
