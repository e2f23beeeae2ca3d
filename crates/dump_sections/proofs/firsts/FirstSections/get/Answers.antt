use Rattle.std.proofs.Common.{◌≡◌, ◌<◌, Some, length, sym, ◌∙◌, subst}
use Rattle.std.specs.Prelude.{IfSome}
use Rattle.dump_sections.specs.FindingLaws.{section-found}
use Rattle.dump_sections.specs.Index.{sections_in}
use Rattle.dump_sections.specs.Lookups.{is_named, place_where}
use Rattle.dump_sections.specs.Sections.{Section}
use Rattle.dump_sections.proofs.FirstFacts.{first-within}
use Rattle.dump_sections.proofs.firsts.FirstSections.get.Goals as goal

-- the place that is found is the first one
place : (c : goal.After-get) → c.get.result ≡ place_where (is_named c.self.inside.tag.now (Some c.args.id.now)) (sections_in c.self.inside.index.now)
place c = c.get.ensures ∙ c.self.invariant.firsts c.args.id

pub returns-clause-place : goal.returns-clause-place
returns-clause-place c = rw (sym c.self.view_is) (place c)

pub returns-clause-section : goal.returns-clause-section
returns-clause-section c =
    rw (sym c.self.view_is)
    (section-found (λ (s : Section). is_named c.self.inside.tag.now (Some c.args.id.now) s.text) c.self.inside.index.now c.get.result (sym (place c)))

pub returns-clause-within : goal.returns-clause-within
returns-clause-within c =
    let index = c.self.inside.index.now in
    rw (sym c.self.view_is)
    (subst (λ place. IfSome place (λ i. i < length index.headers)) (sym (place c))
    (first-within c.self.inside.tag.now (sections_in index) _ c.args.id.now c.self.invariant.count))
