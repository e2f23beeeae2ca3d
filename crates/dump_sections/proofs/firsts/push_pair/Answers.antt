use Rattle.std.proofs.Common.{◌≡◌, ◌∷◌, [], ◌++◌, take, length, sym, ◌∙◌, ap, subst, arith}
use Rattle.std.proofs.lemmas.List.{length-take-le}
use Rattle.std.proofs.lemmas.Option.{slice_get_within}
use Rattle.dump_io.specs.Laws.Lists.{take-at}
use Rattle.dump_sections.specs.Bodies.{section_at}
use Rattle.dump_sections.specs.Index.{sections_in}
use Rattle.dump_sections.specs.Inner.Places.{AreFirsts}
use Rattle.dump_sections.proofs.FirstFacts.{AreFirsts-passed, AreFirsts-more}
use Rattle.dump_sections.proofs.firsts.push_pair.Goals as goal

pub returns-in_default : goal.returns-in_default
returns-in_default c =
    let sections = sections_in c.args.index.now in
    let s = section_at c.args.index.now c.args.i in
    subst (λ taken. AreFirsts c.args.tag.now taken c.args.pairs.now.items) (sym (take-at sections c.args.i s c.id_at.ensures.section))
    (AreFirsts-passed c.args.tag.now c.args.pairs.now.items (take c.args.i sections) s c.requires.before (sym c.in_default.ensures.id))

pub returns : goal.returns
returns c =
    let sections = sections_in c.args.index.now in
    let s = section_at c.args.index.now c.args.i in
    let before = take c.args.i sections in
    let size : length before ≡ c.args.i = length-take-le c.args.i sections (omega (arith, slice_get_within sections c.args.i s c.id_at.ensures.section)) in
    subst (λ taken. AreFirsts c.args.tag.now taken c.push.new.self.items) (sym (take-at sections c.args.i s c.id_at.ensures.section))
    (subst (AreFirsts c.args.tag.now (before ++ s ∷ [])) (ap (λ n. c.args.pairs.now.items ++ (c.in-Some.id, n) ∷ []) size ∙ sym c.in_ok-push.ensures.items)
    (AreFirsts-more c.args.tag.now c.args.pairs.now.items before s c.in-Some.id c.requires.before (sym c.in-Some.ensures.id)))
