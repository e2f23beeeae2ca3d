use Rattle.std.proofs.Common.{◌≡◌, false, filter, All, sym, ◌∙◌, ap, subst}
use Rattle.std.proofs.lemmas.List.Elements.{All-tail}
use Rattle.field_lines.specs.Shown.{shown_line}
use Rattle.root_views.specs.Roots.{has_text}
use Rattle.root_views.specs.Inner.Lines.{IsSmall}
use Rattle.root_views.proofs.LineFacts.{text_passed, empty_text}
use Rattle.root_views.proofs.texts.next_text.Goals as goal

pub returns-then-not-is_empty-clause-small : goal.returns-then-not-is_empty-clause-small
returns-then-not-is_empty-clause-small c = λ all.
    All-tail IsSmall (shown_line c.in-Some.line) c.next.new.self (subst (All IsSmall) c.in-Some.ensures.steps (c.loop-line.invariant.3 all))

pub loop-line-preserved : goal.loop-line-preserved
loop-line-preserved c =
    let line = shown_line c.in-Some.line in
    let rest = c.next.new.self in
    let none : has_text line ≡ false = empty_text line (sym c.is_empty.ensures ∙ c.if-not-is_empty.false) in (
      tt,
      tt,
      c.loop-line.invariant.2 ∙ ap (filter has_text) c.in-Some.ensures.steps ∙ text_passed line rest none,
      λ all. All-tail IsSmall line rest (subst (All IsSmall) c.in-Some.ensures.steps (c.loop-line.invariant.3 all)),
    )
