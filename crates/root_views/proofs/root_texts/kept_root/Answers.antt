use Rattle.std.proofs.Common.{◌≡◌, ◌<◌, length, Some, sym, ◌∙◌, ap, arith}
use Rattle.std.specs.Prelude.{slice_get}
use Rattle.std.specs.List.{between}
use Rattle.std.proofs.lemmas.List.{length-map}
use Rattle.root_views.specs.Kinds.{roots_in}
use Rattle.root_views.specs.Roots.{BodyRoot}
use Rattle.root_views.specs.Seen.{root}
use Rattle.root_views.specs.Inner.Keeping.{kept_line, kept_one}
use Rattle.root_views.proofs.KeepFacts.{read-back}
use Rattle.root_views.proofs.root_texts.kept_root.Goals as goal

pub returns : goal.returns
returns c =
    let kept = c.args.kept.now in
    let one = c.index-one.result.now in
    let found : BodyRoot = root c.root_of_line-found.result in
    let inside : c.args.i < length kept.roots.items = omega (arith, c.requires.place, length-map kept.roots.items (kept_one kept.kind kept.lines.items)) in
    let read : slice_get (roots_in kept.kind (kept_line kept.lines.items one)) one.place ≡ Some found =
    ap (λ l. slice_get (roots_in kept.kind (between one.start one.end l)) one.place) (sym c.as_slice-lines.ensures.value) ∙ c.root_of_line-found.ensures in
    read-back kept c.args.from c.args.i one found inside c.index-one.ensures
    read ∙ ap (λ n. Some (record found { at = n })) (sym c.saturating_sub.ensures)
