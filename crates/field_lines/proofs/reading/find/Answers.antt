use Rattle.std.proofs.Common.{◌≤◌, length, sym, ◌∙◌, ap, subst, Some}
use Rattle.std.specs.Prelude.{All, option_map, slice_range}
use Rattle.std.proofs.lemmas.List.Elements.{All-head, All-tail}
use Rattle.field_lines.specs.Lines.{IsPart}
use Rattle.field_lines.specs.Fields.{value_of}
use Rattle.field_lines.specs.Shown.{shown_line}
use Rattle.field_lines.proofs.FieldFacts.{place-found, place-missed, find-here, find-later, IsWithin-place, slice-place}
use Rattle.field_lines.proofs.reading.find.Goals as goal

pub returns-in-Some-place-clause-within : goal.returns-in-Some-place-clause-within
returns-in-Some-place-clause-within c =
    let body = c.args.body.now in
    let line = shown_line c.in-Some.line in
    let part : IsPart body line = All-head (IsPart body) line c.next.new.self (subst (All (IsPart body)) c.in-Some.ensures.steps c.loop-line.invariant.3) in
    let found = place-found c.args.key.now line c.in-Some-place.found c.in-Some-place.ensures in
    subst (λ p. (p.at ≤ p.from) × (p.from ≤ p.upto) × (p.upto ≤ length body)) (sym found.1) (IsWithin-place body line part)

pub returns-in-Some-place-clause-value : goal.returns-in-Some-place-clause-value
returns-in-Some-place-clause-value c =
    let body = c.args.body.now in
    let key = c.args.key.now in
    let line = shown_line c.in-Some.line in
    let part : IsPart body line = All-head (IsPart body) line c.next.new.self (subst (All (IsPart body)) c.in-Some.ensures.steps c.loop-line.invariant.3) in
    let found = place-found key line c.in-Some-place.found c.in-Some-place.ensures in
    let first = c.loop-line.invariant.2 ∙ find-here key line c.loop-line.line-iterator c.next.new.self c.in-Some.ensures.steps found.0 in
    ap (λ p. Some (slice_range body p.from p.upto)) found.1 ∙ ap Some (slice-place body line part) ∙ sym (ap (option_map (λ l. value_of l.text)) first)

pub loop-line-preserved : goal.loop-line-preserved
loop-line-preserved c =
    let body = c.args.body.now in
    let key = c.args.key.now in
    let line = shown_line c.in-Some.line in
    let rest = c.next.new.self in
    let missed = place-missed key line c.in_default.ensures in (
      tt,
      tt,
      c.loop-line.invariant.2 ∙ find-later key line c.loop-line.line-iterator rest c.in-Some.ensures.steps missed,
      All-tail (IsPart body) line rest (subst (All (IsPart body)) c.in-Some.ensures.steps c.loop-line.invariant.3),
    )
