use Rattle.std.proofs.Common.{length, map, sym, ◌∙◌, ap}
use Rattle.std.proofs.lemmas.List.{length-map}
use Rattle.dump_sections.specs.Index.{sections_in}
use Rattle.dump_sections.specs.Sections.{Section}
use Rattle.section_rows.specs.Rows.{Row, rows_of}
use Rattle.process_table.specs.Processes.{Process}
use Rattle.process_table.specs.Records.{PlacedSection, record_sections, records}
use Rattle.process_table.specs.Stands.{stand_columns}
use Rattle.process_table.proofs.Building.{sections_told}
use Rattle.process_table.proofs.procs.Procs.read_standing.Goals as goal

pub returns-clause-stands : goal.returns-clause-stands
returns-clause-stands g c = λ bytes same.
    c.of.ensures ∙ c.in_ok-procs.ensures.rows.rows bytes same
    ∙ ap (λ ss. rows_of bytes stand_columns (record_sections ss)) (sections_told (g.D.Dumps.state c.args.dumps.now).now c.args.index.now bytes c.requires.over same)

-- both are as many as the records of the index
pub returns-clause-count : goal.returns-clause-count
returns-clause-count g c =
    let ss = records (sections_in c.args.index.now) in
    let rows = c.in_ok-procs.rows.rows in
    let read = c.in_ok-procs.ensures in
    ap length c.of.ensures ∙ sym (length-map rows (λ (r : Row). r.at)) ∙ ap length read.rows.places
    ∙ length-map (map (λ (r : PlacedSection). r.1) ss) (λ (s : Section). s.at) ∙ length-map ss (λ (r : PlacedSection). r.1)
    ∙ sym (length-map ss (λ (r : PlacedSection). r.0)) ∙ sym (ap length read.over.sections) ∙ length-map c.in_ok-procs.procs.processes (λ (p : Process). p.section)
