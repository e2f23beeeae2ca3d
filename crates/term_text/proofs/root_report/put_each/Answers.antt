use Rattle.std.proofs.Common.{◌++◌, length, sym, ◌∙◌, ap, subst, arith}
use Rattle.std.specs.Prelude.{All}
use Rattle.std.specs.List.{flat_map}
use Rattle.std.proofs.lemmas.List.{append_assoc}
use Rattle.std.proofs.lemmas.List.Elements.{All-tail}
use Rattle.dump_io.specs.Laws.Puts.{HasPut-then, Puts-behind, Puts-stopped, Puts-as}
use Rattle.root_views.specs.Roots.{IsInside}
use Rattle.root_views.specs.Seen.{root}
use Rattle.term_text.specs.Roots.{answer_over, root_line}
use Rattle.term_text.proofs.root_report.put_each.Goals as goal

pub loop-found-preserved : goal.loop-found-preserved
loop-found-preserved g c =
    let first = root c.in-Some.found in
    let rest = c.next.new.self in
    let line = root_line (answer_over c.args.walker.now c.args.budget c.args.marked) c.args.base in
    let steps = c.in-Some.ensures.steps in
    let so_far = c.loop-found.invariant.5 in (
      tt,
      tt,
      All-tail (IsInside c.args.body.now) first rest (subst (All (IsInside c.args.body.now)) steps c.loop-found.invariant.2),
      c.put_root.ensures.same ∙ c.loop-found.invariant.3,
      omega (arith, ap length steps, c.loop-found.invariant.4),
      (
        so_far.0 ++ line first,
        HasPut-then so_far.1 (Puts-as (ap (λ w. root_line (answer_over w c.args.budget c.args.marked) c.args.base first) c.loop-found.invariant.3) c.in_ok-put_root.ensures.puts),
        append_assoc so_far.0 (line first) (flat_map line rest) ∙ ap (λ ls. so_far.0 ++ flat_map line ls) (sym steps) ∙ so_far.2,
      ),
    )

pub returns-in_err-put_root-clause-puts : goal.returns-in_err-put_root-clause-puts
returns-in_err-put_root-clause-puts g c =
    let first = root c.in-Some.found in
    let rest = c.next.new.self in
    let line = root_line (answer_over c.args.walker.now c.args.budget c.args.marked) c.args.base in
    let so_far = c.loop-found.invariant.5 in
    Puts-as (ap (λ ls. so_far.0 ++ flat_map line ls) (sym c.in-Some.ensures.steps) ∙ so_far.2)
    (Puts-behind so_far.1 (Puts-stopped (flat_map line rest) c.from_residual.ensures.0
    (Puts-as (ap (λ w. root_line (answer_over w c.args.budget c.args.marked) c.args.base first) c.loop-found.invariant.3) c.in_err-put_root.ensures.puts)))
