use Rattle.std.proofs.Common.{[], ◌∷◌, sym, ◌∙◌, ap, subst}
use Rattle.std.proofs.lemmas.List.Elements.{All-nil, All-cons}
use Rattle.dump_io.specs.HeldDump.{now_of}
use Rattle.dump_sections.specs.Bodies.{section_at, section_in}
use Rattle.dump_sections.specs.Index.{IsIndexOf}
use Rattle.dump_trial.proofs.Contained.{IsSmall, small-at}
use Rattle.dump_trial.proofs.Opened.{bodies-opened, root-at, small-opened}
use Rattle.dump_trial.proofs.good_dump.GoodDump.root_body.Goals as goal

pub returns-in_default-clause-body : goal.returns-in_default-clause-body
returns-in_default-clause-body c =
    c.new.ensures.items
    ∙ sym (root-at c.args.self.now c.args.finder.now c.args.kind c.args.pid.now _ c.requires (ap (section_in c.args.finder.now) (sym c.in_default.is) ∙ c.roots.ensures.section))

pub of_body-requires : goal.of_body-requires
of_body-requires c =
    let index = c.args.finder.now in
    let s = section_at c.index.result.now c.in-Some.i in
    let all = small-opened (now_of c.self.inside.dumps) index c.self.inside.limits c.self.invariant (subst (λ bytes. IsIndexOf bytes index) (sym c.self.view_is) c.requires) in
    bodies-opened c.self.inside.dumps c.read_body.new.dumps (s ∷ []) c.self.inside.limits c.in-Err.fault c.self.invariant
    (All-cons IsSmall s [] (subst (λ i. IsSmall (section_at i c.in-Some.i)) (sym c.index.ensures) (small-at index c.in-Some.i all)) (All-nil IsSmall)) c.in-Err.ensures.loads.fault
