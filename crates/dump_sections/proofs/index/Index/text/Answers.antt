use Rattle.std.proofs.Common.{◌≡◌, sym, ◌∙◌, ap, Some, [], subst}
use Rattle.std.specs.Prelude.{unwrap_or}
use Rattle.std.specs.List.{slice_get}
use Rattle.dump_sections.specs.Bodies.{section_at}
use Rattle.dump_sections.specs.Sections.{section, sections_of, end_at}
use Rattle.dump_sections.specs.Index.{Contents, sections_in}
use Rattle.dump_sections.proofs.PlaceFacts.{sections_of-at}
use Rattle.dump_sections.proofs.index.Index.text.Goals as goal

-- the section of the header
is : (c : goal.After-result-1) → slice_get (sections_of c.self.inside.headers c.self.inside.size) c.args.i
    ≡ Some (section c.header.result.at c.header.result.body (end_at c.self.inside.headers c.self.inside.size c.args.i) c.header.result.text.now)
is c = sections_of-at c.self.inside.headers c.self.inside.size c.args.i _ c.header.ensures

pub returns-clause-place : goal.returns-clause-place
returns-clause-place c =
    subst (λ (index : Contents). slice_get (sections_in index) c.args.i ≡ Some (section_at index c.args.i)) c.self.view_is
    (is c ∙ ap (λ o. Some (unwrap_or o (section 0 0 0 []))) (sym (is c)))

pub returns-clause-text : goal.returns-clause-text
returns-clause-text c =
    ap (λ o. (unwrap_or o (section 0 0 0 [])).text) (sym (is c)) ∙ ap (λ (index : Contents). (section_at index c.args.i).text) c.self.view_is
