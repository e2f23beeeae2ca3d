use Rattle.std.proofs.Common.{◌≡◌, ◌<◌, length, All, sym, ◌∙◌, ap, subst}
use Rattle.dump_sections.specs.Index.{sections_in}
use Rattle.dump_sections.specs.Loading.{sections_at}
use Rattle.process_table.specs.Records.{records, record_sections}
use Rattle.process_table.proofs.Building.{sections_at-records, places-within}
use Rattle.process_table.proofs.columns.load_columns.Goals as goal

pub load-requires-clause-places : goal.load-requires-clause-places
load-requires-clause-places g c =
    let index = c.args.index.now in
    subst (All (λ place. place < length index.headers)) (sym c.requires.found) (places-within index (records (sections_in index)) c.requires.records)

-- the sections that are loaded are those of the records
pub returns : goal.returns
returns g c =
    let index = c.args.index.now in
    let load = c.load.ensures in
    let are : sections_at index c.args.sections.now ≡ record_sections (sections_in index) =
    ap (sections_at index) c.requires.found ∙ sections_at-records index (records (sections_in index)) c.requires.records in
    rw (← are) record { loads = load.loads; rows = load.rows }
