use Rattle.std.proofs.Common.{map, take, get_or, sym, subst}
use Rattle.dump_io.specs.Dumps.{Now, ReadsAtMost}
use Rattle.dump_io.specs.Laws.Reads.{ReadsAtMost-then, ReadsAtMost-both}
use Rattle.dump_sections.specs.Bodies.{section_at}
use Rattle.dump_sections.specs.Loading.{sections_at}
use Rattle.section_rows.specs.Shown.{shown_column}
use Rattle.section_rows.specs.Inner.Gains.{GainsRow, HoldsRows}
use Rattle.section_rows.proofs.Loaded.{HoldsRows-more, sections-more, bodies-more, bodies-upto}
use Rattle.section_rows.proofs.loaded_rows.load_rows.Goals as goal

pub returns-in_err-load_row-clause-reads : goal.returns-in_err-load_row-clause-reads
returns-in_err-load_row-clause-reads g c =
    ReadsAtMost-both c.loop-i.invariant.reads c.in_err-load_row.ensures.reads (bodies-upto c.args.index.now c.args.sections.now c.loop-i.i-index 0 c.loop-i-test.true)

pub loop-i-preserved : goal.loop-i-preserved
loop-i-preserved g c =
    let index = c.args.index.now in
    let places = c.args.sections.now in
    let i = c.loop-i.i-index in
    let columns = map shown_column c.args.columns.now in
    let before = sections_at index (take i places) in
    let row = subst (λ (now : Now). GainsRow now columns (section_at index (get_or places i 0)) c.loop-i.store c.load_row.new.store) c.loop-i.invariant.reads.same_now c.in_ok-load_row.ensures.row in
    record {
      reads = subst (ReadsAtMost (g.D.Dumps.state c.args.dumps.now) (g.D.Dumps.state c.load_row.new.dumps))
          (sym (bodies-more index places i 0 c.loop-i-test.true)) (ReadsAtMost-then c.loop-i.invariant.reads c.in_ok-load_row.ensures.reads);
      rows = subst (λ sections. HoldsRows (g.D.Dumps.state c.args.dumps.now).now columns sections c.load_row.new.store) (sym (sections-more index places i 0 c.loop-i-test.true))
          (HoldsRows-more (g.D.Dumps.state c.args.dumps.now).now columns before (section_at index (get_or places i 0)) c.loop-i.store c.load_row.new.store c.loop-i.invariant.rows row);
    }
