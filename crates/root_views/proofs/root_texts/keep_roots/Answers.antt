use Rattle.std.proofs.Common.{◌+◌, ◌<◌, ◌^◌, ◌∷◌, [], ◌++◌, length, arith, sym, ◌∙◌, ap, subst, if◌then◌else◌}
use Rattle.std.specs.Prelude.{All}
use Rattle.std.proofs.lemmas.List.Elements.{All-head, All-tail}
use Rattle.root_views.specs.Roots.{IsInside}
use Rattle.root_views.specs.Seen.{root}
use Rattle.root_views.specs.Inner.Keeping.{kept_all}
use Rattle.root_views.specs.declared.kept_roots.KeptRoot.{KeptRoot}
use Rattle.root_views.proofs.KeepFacts.{IsKeeping, IsKeeping-more}
use Rattle.root_views.proofs.root_texts.keep_roots.Goals as goal

pub loop-found-preserved : goal.loop-found-preserved
loop-found-preserved c =
    let found = root c.in-Some.found in
    let rest = c.next.new.self in
    let steps = c.in-Some.ensures.steps in
    let so_far = c.loop-found.invariant in
    let kind = c.args.kept.now.kind in
    let lines = c.args.kept.now.lines.items in
    let before = kept_all c.args.kept.now in
    let raw = c.args.raw.now in
    let skip = c.args.skip in
    let most = c.args.most in
    let place = c.loop-found.place in
    let ones = c.loop-found.kept.roots.items in
    let one : KeptRoot = record { at = c.args.at + found.at; start = c.args.start; end = c.args.end; place = place } in
    let inside : found.at < length raw = All-head (IsInside raw) found rest (subst (All (IsInside raw)) steps so_far.2) in
    let fits : c.args.at + found.at < 2 ^ 64 = omega (arith, inside, c.requires.fits) in
    let more = ap (λ b. ones ++ (if b then one ∷ [] else [])) c.is_shown.ensures in (
      tt,
      tt,
      All-tail (IsInside raw) found rest (subst (All (IsInside raw)) steps so_far.2),
      c.in_ok-keep_if.ensures.kind ∙ so_far.3,
      c.in_ok-keep_if.ensures.lines ∙ so_far.4,
      subst (IsKeeping kind lines before raw c.args.at skip most (place + 1) rest) (sym (c.in_ok-keep_if.ensures.roots ∙ more))
          (IsKeeping-more kind lines before raw c.args.at skip most place c.args.start c.args.end found rest ones fits c.requires.line
          (subst (λ l. IsKeeping kind lines before raw c.args.at skip most place l ones) steps so_far.5)),
    )
