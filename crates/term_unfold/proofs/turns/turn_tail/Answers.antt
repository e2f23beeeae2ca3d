use Rattle.std.proofs.Common.{◌-◌, true, false, ◌++◌, drop, refl, sym, ◌∙◌, ap, arith}
use Rattle.std.specs.Prelude.{codes}
use Rattle.std.specs.Option.{option_map, option_map_or}
use Rattle.term_forms.specs.Seen.{element}
use Rattle.term_unfold.specs.Inner.Entries.{Entered}
use Rattle.term_unfold.specs.Inner.Rest.{rest}
use Rattle.term_unfold.specs.Places.{is_nil}
use Rattle.term_unfold.specs.Trees.{Immediate}
use Rattle.term_unfold.proofs.Stepping.{nil-by, step-nil, step-cons, step-tail, cons-term}
use Rattle.term_unfold.proofs.Turns_made.{IsTurn-own, IsTurn-immediate, IsTurn-none, not-nil, few-top, opens-top, advanced-top, advanced-more, popped-more}
use Rattle.term_unfold.proofs.turns.turn_tail.Goals as goal

pub returns-then-is_list-clause-turn : goal.returns-then-is_list-clause-turn
returns-then-is_list-clause-turn c =
    let heap = c.args.heap.now.cells in
    let e = c.args.entry in
    let at = c.requires.at in
    let now = ap (λ (p : Entered). p.entries) c.advance.ensures in
    IsTurn-none _ _ _ _ _ at _ _ (codes ",") refl (advanced-more c.args.opened false false _ _ now)
    (λ leaf m. step-cons leaf heap e (drop 1 c.args.path.now.entries) _ c.args.opened (e.next - 1) m c.requires.kind (omega (arith, c.requires.next)) at.at (few-top _ _ _ _ _ at)
    (opens-top _ _ _ _ _ at) (sym c.is_list.ensures ∙ c.if-is_list.true)
    ∙ ap (λ es. codes "," ++ rest leaf heap es m) (sym (advanced-top _ _ _ _ _ at _ false false now)))

pub returns-in_default-clause-turn : goal.returns-in_default-clause-turn
returns-in_default-clause-turn c =
    let e = c.args.entry in
    let at = c.requires.at in
    let term = cons-term _ e _ c.requires.kind at.at in
    let nil = nil-by _ ∙ ap (λ found. option_map_or (λ e. is_nil (Immediate e)) found false) (sym c.immediate.ensures ∙ ap (option_map element) c.in_default.is) in
    IsTurn-own _ _ _ _ _ at _ _ (codes "|") true term refl (ap (λ (p : Entered). p.entries) c.advance-in_default.ensures)
    (λ leaf m. step-tail leaf _ e (drop 1 c.args.path.now.entries) _ c.args.opened (e.next - 1) m c.requires.kind (omega (arith, c.requires.next)) at.at (few-top _ _ _ _ _ at)
    term (opens-top _ _ _ _ _ at) nil (sym c.is_list.ensures ∙ c.if-is_list.false))

pub returns-in-Nil-clause-turn : goal.returns-in-Nil-clause-turn
returns-in-Nil-clause-turn c =
    let heap = c.args.heap.now.cells in
    let e = c.args.entry in
    let at = c.requires.at in
    let now = ap (λ (p : Entered). p.entries) c.pop.ensures in
    let nil = nil-by _ ∙ ap (λ found. option_map_or (λ e. is_nil (Immediate e)) found false) (sym c.immediate.ensures ∙ ap (option_map element) c.in-Some.is) ∙ ap (λ e. is_nil (Immediate (element e))) c.in-Nil.is in
    IsTurn-none _ _ _ _ _ at _ _ (codes "]") refl (popped-more _ _ now)
    (λ leaf m. step-nil leaf heap e (drop 1 c.args.path.now.entries) _ (e.next - 1) m c.requires.kind (omega (arith, c.requires.next)) at.at (few-top _ _ _ _ _ at) nil
    ∙ ap (λ es. codes "]" ++ rest leaf heap es m) (sym now))

pub returns-clause-turn : goal.returns-clause-turn
returns-clause-turn c =
    let e = c.args.entry in
    let at = c.requires.at in
    let term = cons-term _ e _ c.requires.kind at.at in
    let is = sym c.immediate.ensures ∙ ap (option_map element) c.in-Some.is in
    let nil = nil-by _ ∙ ap (λ found. option_map_or (λ e. is_nil (Immediate e)) found false) is ∙ not-nil c.in-Some.last c.in_default-last.not-Nil in
    IsTurn-immediate _ _ _ _ _ at _ _ c.in-Some.last is
    (IsTurn-own _ _ _ _ _ at _ _ (codes "|") true term refl (ap (λ (p : Entered). p.entries) c.advance-2.ensures)
    (λ leaf m. step-tail leaf _ e (drop 1 c.args.path.now.entries) _ c.args.opened (e.next - 1) m c.requires.kind (omega (arith, c.requires.next)) at.at (few-top _ _ _ _ _ at)
    term (opens-top _ _ _ _ _ at) nil (sym c.is_list.ensures ∙ c.if-is_list.false)))
