use Rattle.std.proofs.Common.{List, [], length, sym, ◌∙◌, ap, subst}
use Rattle.std.specs.Option.{option_map_or}
use Rattle.std.proofs.lemmas.Result.{IfOk-weaker}
use Rattle.cell_parts.specs.Parts.{ArePartsOf, PartElement}
use Rattle.root_views.specs.declared.kinds.RootKind.{RootKind}
use Rattle.heap_levels.specs.Levels.{heaviest_kind}
use Rattle.heap_levels.specs.Shown.{shown_level}
use Rattle.heap_levels.specs.Inner.Descent.{IsDescent}
use Rattle.heap_levels.specs.Inner.Plain.{below_kinds, descent}
use Rattle.heap_levels.specs.Inner.Reading.{AreKinds}
use Rattle.heap_levels.specs.declared.descending.Descent.{Descent}
use Rattle.heap_levels.specs.declared.levels.Subject.TheVariants as of
use Rattle.heap_levels.proofs.LevelFacts.{none-found, none-within}
use Rattle.heap_levels.proofs.found_levels.levels_below.Goals as goal

pub returns-in_default : goal.returns-in_default
returns-in_default c =
    let heap = c.args.skeleton.now in
    let top = c.args.zero.now in
    let found = c.no_levels.result in
    let total = top.reached.words in record {
      within = none-within (length heap.leads) found c.no_levels.ensures.levels c.no_levels.ensures.last;
      levels = λ roots kinds.
          subst (λ o. IsDescent c.args.most heap (option_map_or (λ kind. descent 19 heap total (of.OfKind kind) (roots kind)) o []) found)
          (sym c.in_default.is ∙ c.heaviest_kind.ensures ∙ ap (heaviest_kind total) c.deref.ensures.value) (none-found c.args.most heap found c.no_levels.ensures.levels c.no_levels.ensures.last);
    }

pub returns : goal.returns
returns c =
    let heap = c.args.skeleton.now in
    let top = c.args.zero.now in
    let most = c.args.most in
    let kind = c.in-Some.kind in
    let total = top.reached.words in record {
      within = c.descend.ensures.within;
      levels = IfOk-weaker c.descend.result
          (λ (found : Descent). (elements : List PartElement) → ArePartsOf elements c.kind_parts-first.result → IsDescent most heap (descent 19 heap total (of.OfKind kind) elements) found)
          (λ (found : Descent). (roots : RootKind → List PartElement) → AreKinds roots c.args.kinds → IsDescent most heap (below_kinds heap roots (shown_level top)) found)
          (λ found is roots kinds.
          subst (λ o. IsDescent most heap (option_map_or (λ k. descent 19 heap total (of.OfKind k) (roots k)) o []) found)
          (sym c.in-Some.is ∙ c.heaviest_kind.ensures ∙ ap (heaviest_kind total) c.deref.ensures.value) (is (roots kind) (c.kind_parts-first.ensures.parts roots kinds)))
          c.descend.ensures.levels;
    }
