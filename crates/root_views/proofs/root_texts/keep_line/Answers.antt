use Rattle.std.proofs.Common.{map, refl, ◌∙◌, ap}
use Rattle.root_views.specs.Inner.Keeping.{kept_one}
use Rattle.root_views.proofs.KeepFacts.{all-grown, keeps-behind}
use Rattle.root_views.proofs.root_texts.keep_line.Goals as goal

pub returns-clause-keeps : goal.returns-clause-keeps
returns-clause-keeps c =
    let kept = c.args.kept.now in
    let raw = c.args.raw.now in
    keeps-behind kept (record kept { lines = c.extend_from_slice.new.self }) c.keep_roots.new.kept _ c.keep_roots.result refl
    (ap (λ l. map (kept_one kept.kind l) kept.roots.items) c.in_ok-extend_from_slice.ensures.items ∙ all-grown kept.kind kept.lines.items raw kept.roots.items c.requires.kept.each)
    c.keep_roots.ensures.keeps
