use Rattle.std.proofs.Common.{◌≡◌, ◌<◌, length, All, sym, ◌∙◌, ap, subst, refl}
use Rattle.dump_sections.specs.Index.{sections_in}
use Rattle.dump_sections.specs.Loading.{sections_at}
use Rattle.section_rows.specs.Shown.{shown_column}
use Rattle.process_table.specs.Records.{records, record_sections}
use Rattle.process_table.proofs.Building.{sections_at-records, places-within}
use Rattle.process_table.proofs.Splitting.{others-of, some-of}
use Rattle.process_table.proofs.columns.load_split.Goals as goal

pub load_split-requires-clause-places : goal.load_split-requires-clause-places
load_split-requires-clause-places g c =
    let index = c.args.index.now in
    subst (All (λ place. place < length index.headers)) (sym c.requires.found) (places-within index (records (sections_in index)) c.requires.records)

-- the sections that are loaded are those of the records
pub returns-clause-loads : goal.returns-clause-loads
returns-clause-loads g c =
    let index = c.args.index.now in
    let are : sections_at index c.args.sections.now ≡ record_sections (sections_in index) =
    ap (sections_at index) c.requires.found ∙ sections_at-records index (records (sections_in index)) c.requires.records in
    rw (← are) c.load_split.ensures.loads

pub returns-clause-rows : goal.returns-clause-rows
returns-clause-rows g c =
    let index = c.args.index.now in
    let are : sections_at index c.args.sections.now ≡ record_sections (sections_in index) =
    ap (sections_at index) c.requires.found ∙ sections_at-records index (records (sections_in index)) c.requires.records in
    rw (← are, ← some-of shown_column c.args.some.now c.args.others.now c.as_slice.result.now (length c.args.some.now) (c.as_slice.ensures.value ∙ c.in-Ok.ensures) refl) c.load_split.ensures.first

pub returns-clause-others : goal.returns-clause-others
returns-clause-others g c =
    let index = c.args.index.now in
    let are : sections_at index c.args.sections.now ≡ record_sections (sections_in index) =
    ap (sections_at index) c.requires.found ∙ sections_at-records index (records (sections_in index)) c.requires.records in
    rw (← are, ← others-of shown_column c.args.some.now c.args.others.now c.as_slice.result.now (length c.args.some.now) (c.as_slice.ensures.value ∙ c.in-Ok.ensures) refl) c.load_split.ensures.second
