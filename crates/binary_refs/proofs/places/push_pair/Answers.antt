use Rattle.std.proofs.Common.{◌≡◌, ◌∷◌, [], ◌++◌, take, length, sym, ◌∙◌, ap, subst, arith}
use Rattle.std.proofs.lemmas.List.{length-take-le}
use Rattle.std.proofs.lemmas.Option.{slice_get_within}
use Rattle.dump_io.specs.Laws.Lists.{take-at}
use Rattle.dump_sections.specs.Bodies.{section_at}
use Rattle.dump_sections.specs.Index.{sections_in}
use Rattle.binary_refs.specs.Inner.Places.{AreFirsts}
use Rattle.binary_refs.proofs.PlaceFacts.{AreFirsts-passed, AreFirsts-more}
use Rattle.binary_refs.proofs.places.push_pair.Goals as goal

pub returns-in_default : goal.returns-in_default
returns-in_default c =
    let sections = sections_in c.args.index.now in
    let s = section_at c.args.index.now c.args.i in
    subst (λ taken. AreFirsts taken c.args.pairs.now.items) (sym (take-at sections c.args.i s c.binary_number.ensures.section))
    (AreFirsts-passed c.args.pairs.now.items (take c.args.i sections) s c.requires.before (sym c.in_default.ensures.number))

pub returns : goal.returns
returns c =
    let sections = sections_in c.args.index.now in
    let s = section_at c.args.index.now c.args.i in
    let before = take c.args.i sections in
    let size : length before ≡ c.args.i = length-take-le c.args.i sections (omega (arith, slice_get_within sections c.args.i s c.binary_number.ensures.section)) in
    subst (λ taken. AreFirsts taken c.push.new.self.items) (sym (take-at sections c.args.i s c.binary_number.ensures.section))
    (subst (AreFirsts (before ++ s ∷ [])) (ap (λ n. c.args.pairs.now.items ++ (c.in-Some.address, n) ∷ []) size ∙ sym c.in_ok-push.ensures.items)
    (AreFirsts-more c.args.pairs.now.items before s c.in-Some.address c.requires.before (sym c.in-Some.ensures.number)))
