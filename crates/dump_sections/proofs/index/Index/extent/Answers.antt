use Rattle.std.proofs.Common.{◌≡◌, ◌<◌, ◌≤◌, sym, ◌∙◌, ap, Some, [], subst, arith}
use Rattle.std.specs.Prelude.{unwrap_or}
use Rattle.std.specs.List.{slice_get}
use Rattle.dump_io.specs.Lines.{Header}
use Rattle.dump_sections.specs.Sections.{section, sections_of}
use Rattle.dump_sections.specs.Index.{Contents, HasShortLine, sections_in}
use Rattle.dump_sections.proofs.PlaceFacts.{sections_of-at}
use Rattle.dump_sections.proofs.Parts.{Tile-at}
use Rattle.dump_io.specs.Laws.Lists.{All-at}
use Rattle.dump_sections.proofs.index.Index.extent.Goals as goal

place : (c : goal.After-result-1) → slice_get (sections_of c.self.inside.headers c.self.inside.size) c.args.i
    ≡ Some (section c.header-header.result.at c.header-header.result.body c.end_of-end.result c.header-header.result.text.now)
place c =
    let header = c.header-header.result in
    sections_of-at c.self.inside.headers c.self.inside.size c.args.i _ c.header-header.ensures
    ∙ ap (λ end. Some (section header.at header.body end header.text.now)) (sym c.end_of-end.ensures)

tile : (c : goal.After-result-1) → (c.header-header.result.at < c.header-header.result.body) × (c.header-header.result.body ≤ c.end_of-end.result) × (c.end_of-end.result ≤ c.self.inside.size)
tile c = Tile-at 0 c.self.inside.size _ c.args.i _ c.self.invariant.tiled (place c)

pub returns-clause-place : goal.returns-clause-place
returns-clause-place c = ap (λ index. slice_get (sections_in index) c.args.i) (sym c.self.view_is) ∙ place c

pub returns-clause-begins : goal.returns-clause-begins
returns-clause-begins c = (tile c).0

line : (c : goal.After-result-1) → HasShortLine (let h : Header = record { at = c.header-header.result.at; body = c.header-header.result.body; text = c.header-header.result.text.now } in h)
line c = All-at HasShortLine c.self.inside.headers c.args.i _ c.self.invariant.lines c.header-header.ensures

pub returns-clause-line : goal.returns-clause-line
returns-clause-line c = (line c).text

pub returns-clause-short : goal.returns-clause-short
returns-clause-short c = (line c).short

pub returns-clause-ends : goal.returns-clause-ends
returns-clause-ends c = (tile c).1

pub returns-clause-within : goal.returns-clause-within
returns-clause-within c = subst (λ (index : Contents). c.end_of-end.result ≤ index.size) c.self.view_is (tile c).2

pub returns-clause-at_place : goal.returns-clause-at_place
returns-clause-at_place c =
    ap (λ index. unwrap_or (slice_get (sections_in index) c.args.i) (section 0 0 0 [])) (sym c.self.view_is)
    ∙ ap (λ found. unwrap_or found (section 0 0 0 [])) (place c)

pub returns-clause-small : goal.returns-clause-small
returns-clause-small c = omega (arith, (tile c).2, c.self.invariant.size)
