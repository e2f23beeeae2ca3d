use Rattle.std.proofs.Common.{◌≡◌, ◌+◌, sym, ◌∙◌, ap}
use Rattle.std.specs.Option.{option_map_or}
use Rattle.cell_parts.specs.Parts.{CellParts, PartElement}
use Rattle.cell_parts.specs.Inner.Joining.{joined, with_element}
use Rattle.cell_parts.proofs.Joining.{are-more}
use Rattle.cell_parts.proofs.parts.Parts.add.Goals as goal
use Rattle.cell_parts.proofs.parts.Parts.add.Goals.{in-Some+in_ok-add_lead, in_default}

pub returns-clause-parts : goal.returns-clause-parts
returns-clause-parts c = λ elements are.
    let e : PartElement = record { lead = c.args.lead; at = c.args.at; label = c.args.label.now } in
    let begun = ap (λ (v : CellParts). v.elements) c.self.view_is in
    let joined : c.match-lead.self.parts ≡ with_element e c.args.self.now.parts =
    elim c.match-lead.branch [
      | in-Some+in_ok-add_lead w ↦
          ap (λ (v : CellParts). v.parts) (w.self-is ∙ w.in_ok-add_lead.ensures.parts)
          ∙ sym (ap (λ o. option_map_or (λ cell. joined cell c.args.at c.args.label.now c.args.self.now.parts) o c.args.self.now.parts) w.in-Some.is)
      | in_default w ↦
          ap (λ (v : CellParts). v.parts) w.self-is
          ∙ sym (ap (λ o. option_map_or (λ cell. joined cell c.args.at c.args.label.now c.args.self.now.parts) o c.args.self.now.parts) w.in_default.is)
    ] in
    are-more elements e c.args.self.now _ _ c.in_ok-elements.elements are (ap (λ (v : CellParts). v.parts) c.self-2.view_is ∙ joined)
    (c.in_ok-elements.ensures ∙ ap (λ n. n + 1) begun)
