use Rattle.std.proofs.Common.{◌∙◌, ap}
use Rattle.dump_sections.specs.Index.{sections_in}
use Rattle.process_table.specs.Records.{ProcPlaces, records}
use Rattle.process_table.proofs.Building.{IsOver-built, built_told, count_of_places, places-records, sections_told}
use Rattle.process_table.proofs.Placing.{All-records}
use Rattle.process_table.proofs.procs.Procs.read_with.Goals as goal

pub load_split-requires-clause-found : goal.load_split-requires-clause-found
load_split-requires-clause-found g c =
    let found = c.into_parts-places in
    c.as_slice.ensures.value ∙ found.ensures.sections
    ∙ places-records (records (sections_in c.args.index.now)) found.result.0.items (found.ensures.places ∙ ap (λ (t : ProcPlaces). t.places) c.requires.found)

pub load_split-requires-clause-records : goal.load_split-requires-clause-records
load_split-requires-clause-records g c = All-records c.args.index.now

pub invariant_of-procs : goal.invariant_of-procs
invariant_of-procs g c =
    let found = c.into_parts-places in
    let read = c.in_ok-fields in
    record {
      rows = count_of_places c.args.index.now c.args.found found.result.0.items found.result.3 read.fields.rows c.requires.found found.ensures.places found.ensures.repeated read.ensures.rows.places;
      width = read.ensures.rows.width;
      count = found.ensures.count;
      ordered = found.ensures.ordered;
    }

pub returns-clause-table : goal.returns-clause-table
returns-clause-table g c = λ bytes same.
    let index = c.args.index.now in
    let found = c.into_parts-places in
    let read = c.in_ok-fields in
    built_told index c.args.found found.result.0.items found.result.3 read.fields.rows c.requires.found found.ensures.places found.ensures.repeated read.ensures.rows.places bytes
    (sections_told (g.D.Dumps.state c.args.dumps.now).now index bytes c.requires.over same) (read.ensures.rows.rows bytes same)

pub returns-clause-over : goal.returns-clause-over
returns-clause-over g c =
    let found = c.into_parts-places in
    let read = c.in_ok-fields in
    IsOver-built c.args.index.now c.args.found found.result.0.items found.result.3 read.fields.rows c.requires.found found.ensures.places found.ensures.repeated read.ensures.rows.places
    (All-records c.args.index.now)
