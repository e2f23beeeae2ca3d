use Rattle.std.proofs.Common.{◌≡◌, false, Some, None, [], get_or, sym, ◌∙◌, ap, arith, below_more}
use Rattle.std.proofs.lemmas.List.Elements.{All-from_get_or}
use Rattle.std.proofs.lemmas.Option.{get_or_from_slice_get}
use Rattle.dump_io.specs.Laws.Lists.{position-at, position-none}
use Rattle.dump_sections.specs.FindingLaws.{section-found}
use Rattle.dump_sections.specs.Index.{sections_in}
use Rattle.dump_sections.specs.Inner.Wanted.{is_wanted}
use Rattle.dump_sections.specs.Sections.{Section, section}
use Rattle.dump_sections.proofs.lookups.position.Goals as goal

pub loop-i-preserved : goal.loop-i-preserved
loop-i-preserved c =
    let sections = sections_in c.args.index.now in
    let none = section 0 0 0 [] in
    below_more (λ k. is_wanted c.args.wanted.now (get_or sections k none).text ≡ false) c.loop-i.i c.loop-i.invariant
    (ap (λ (s : Section). is_wanted c.args.wanted.now s.text) (get_or_from_slice_get sections c.loop-i.i _ none c.text.ensures.place)
    ∙ ap (is_wanted c.args.wanted.now) (sym c.text.ensures.text) ∙ sym c.is_wanted.ensures ∙ c.if-is_wanted.false)

pub returns-then-is_wanted-clause-place : goal.returns-then-is_wanted-clause-place
returns-then-is_wanted-clause-place c =
    sym (position-at (λ (s : Section). is_wanted c.args.wanted.now s.text) (sections_in c.args.index.now) (section 0 0 0 []) c.loop-i.i _
    c.loop-i.invariant c.text.ensures.place (ap (is_wanted c.args.wanted.now) (sym c.text.ensures.text) ∙ sym c.is_wanted.ensures ∙ c.if-is_wanted.true))

pub returns-clause-place : goal.returns-clause-place
returns-clause-place c =
    let sections = sections_in c.args.index.now in
    sym (position-none (λ (s : Section). is_wanted c.args.wanted.now s.text) sections
    (All-from_get_or (λ (s : Section). is_wanted c.args.wanted.now s.text ≡ false) sections (section 0 0 0 [])
    (λ k inside. c.loop-i.invariant k (omega (arith, inside, c.len-i-end.ensures.sections)))))

pub returns-then-is_wanted-clause-section : goal.returns-then-is_wanted-clause-section
returns-then-is_wanted-clause-section c =
    section-found (λ (s : Section). is_wanted c.args.wanted.now s.text) c.args.index.now (Some c.loop-i.i) (sym (returns-then-is_wanted-clause-place c))

pub returns-clause-section : goal.returns-clause-section
returns-clause-section c = section-found (λ (s : Section). is_wanted c.args.wanted.now s.text) c.args.index.now None (sym (returns-clause-place c))
