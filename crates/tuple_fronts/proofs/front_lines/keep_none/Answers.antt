use Rattle.std.proofs.Common.{◌≡◌, ◌+◌, ◌∷◌, ◌++◌, [], None, suc, map, take, sym, ◌∙◌, ap, subst, arith}
use Rattle.std.proofs.lemmas.List.{map-append}
use Rattle.std.proofs.Math.Seq.{take-suc}
use Rattle.tuple_fronts.specs.Inner.Kept.{Keeps}
use Rattle.tuple_fronts.proofs.KeptFacts.{Keeps-then, begins-none, keeps-ended}
use Rattle.tuple_fronts.proofs.front_lines.keep_none.Goals as goal

pub loop-cell-preserved : goal.loop-cell-preserved
loop-cell-preserved c =
    let cells = c.args.cells.now in
    let i = c.loop-cell._cell-index in
    let mid = c.loop-cell.kept in
    let new = c.end_front.new.self in
    let next : i + 1 ≡ suc i = omega arith in
    let so_far = map (λ _. None) (take i cells) in
    let all : map (λ _. None) (take (i + 1) cells) ≡ so_far ++ None ∷ [] =
    ap (λ n. map (λ _. None) (take n cells)) next ∙ ap (map (λ _. None)) (take-suc cells i 0 c.loop-cell-test.true) ∙ map-append (λ _. None) (take i cells) _ in
    subst (Keeps c.args.kept.now new) (sym all)
    (Keeps-then c.args.kept.now mid new so_far (None ∷ []) c.loop-cell.invariant (keeps-ended mid mid new None (begins-none mid) c.in_ok-end_front.ensures))
