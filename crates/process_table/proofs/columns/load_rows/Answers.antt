use Rattle.std.proofs.Common.{◌∙◌, ap}
use Rattle.dump_sections.specs.Index.{sections_in}
use Rattle.process_table.specs.Records.{ProcPlaces, records}
use Rattle.process_table.proofs.Building.{places-records}
use Rattle.process_table.proofs.Placing.{All-records}
use Rattle.process_table.proofs.columns.load_rows.Goals as goal

pub load_columns-requires-clause-found : goal.load_columns-requires-clause-found
load_columns-requires-clause-found g c =
    let found = c.into_parts-sections in
    c.as_slice.ensures.value ∙ found.ensures.sections
    ∙ places-records (records (sections_in c.args.index.now)) found.result.0.items (found.ensures.places ∙ ap (λ (t : ProcPlaces). t.places) c.in-Ok.ensures)

pub load_columns-requires-clause-records : goal.load_columns-requires-clause-records
load_columns-requires-clause-records g c = All-records c.args.index.now
