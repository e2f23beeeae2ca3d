use Rattle.std.proofs.Common.{List, ◌∙◌, ap, ap₂}
use Rattle.cell_parts.specs.Parts.{CellPart, parts_made}
use Rattle.root_views.specs.declared.kinds.RootKind.TheVariants.{Stack, Dict}
use Rattle.heap_levels.specs.Levels.{kind_weighing}
use Rattle.heap_levels.specs.Shown.{shown_level}
use Rattle.heap_levels.proofs.LevelFacts.{found-kept}
use Rattle.heap_levels.proofs.found_levels.levels_of.Goals as goal

pub returns-clause-levels : goal.returns-clause-levels
returns-clause-levels c = λ roots kinds.
    let heap = c.args.skeleton.now in
    found-kept c.args.most heap roots (shown_level c.in_ok-zero.zero) c.in_ok-below.below
    (c.in_ok-zero.ensures
    ∙ ap₂ (λ (a b : List CellPart). kind_weighing heap a b c.args.kinds.mail.parts) kinds.stack.parts kinds.dict.parts
    ∙ ap (kind_weighing heap (parts_made (roots Stack)) (parts_made (roots Dict))) kinds.mail.parts)
    (c.in_ok-below.ensures.levels roots kinds)
