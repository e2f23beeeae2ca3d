use Rattle.std.proofs.Common.{◌≡◌, ◌<◌, codes, length, sym, ◌∙◌, subst}
use Rattle.std.specs.Prelude.{IfSome}
use Rattle.dump_sections.specs.FindingLaws.{section-found}
use Rattle.dump_sections.specs.Index.{sections_in}
use Rattle.dump_sections.specs.Lookups.{has_hex, place_where}
use Rattle.dump_sections.specs.Sections.{Section}
use Rattle.binary_refs.proofs.PlaceFacts.{first-within}
use Rattle.binary_refs.proofs.places.BinaryPlaces.first.Goals as goal

-- the place that is found is the first one
place : (c : goal.After-get) → c.get.result ≡ place_where (has_hex (codes "binary") c.args.address) (sections_in c.self.inside.index.now)
place c = c.get.ensures ∙ c.self.invariant.firsts c.args.address

pub returns-clause-section : goal.returns-clause-section
returns-clause-section c =
    rw (sym c.self.view_is)
    (section-found (λ (s : Section). has_hex (codes "binary") c.args.address s.text) c.self.inside.index.now c.get.result (sym (place c)))

pub returns-clause-within : goal.returns-clause-within
returns-clause-within c =
    let index = c.self.inside.index.now in
    rw (sym c.self.view_is)
    (subst (λ place. IfSome place (λ i. i < length index.headers)) (sym (place c))
    (first-within (sections_in index) _ c.args.address c.self.invariant.count))
