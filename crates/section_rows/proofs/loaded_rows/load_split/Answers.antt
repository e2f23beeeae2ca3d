use Rattle.std.proofs.Common.{◌+◌, drop, map, take, get_or, sym, ◌∙◌, ap, subst}
use Rattle.dump_io.specs.Dumps.{Now, ReadsAtMost}
use Rattle.dump_io.specs.Laws.Reads.{ReadsAtMost-then, ReadsAtMost-both}
use Rattle.dump_sections.specs.Bodies.{section_at}
use Rattle.dump_sections.specs.Loading.{sections_at}
use Rattle.section_rows.specs.Shown.{shown_column}
use Rattle.section_rows.specs.Inner.Gains.{GainsRow, HoldsSplit}
use Rattle.section_rows.proofs.Loaded.{HoldsRows-more, sections-more, bodies-more, bodies-upto}
use Rattle.section_rows.proofs.loaded_rows.load_split.Goals as goal

pub returns-in_err-load_split_row-clause-reads : goal.returns-in_err-load_split_row-clause-reads
returns-in_err-load_split_row-clause-reads g c =
    ReadsAtMost-both c.loop-i.invariant.reads c.in_err-load_split_row.ensures.reads (bodies-upto c.args.index.now c.args.sections.now c.loop-i.i-index 0 c.loop-i-test.true)

pub loop-i-preserved : goal.loop-i-preserved
loop-i-preserved g c =
    let index = c.args.index.now in
    let places = c.args.sections.now in
    let i = c.loop-i.i-index in
    let now = (g.D.Dumps.state c.args.dumps.now).now in
    let columns = map shown_column c.args.columns.now in
    let before = sections_at index (take i places) in
    let s = section_at index (get_or places i 0) in
    let reads = c.loop-i.invariant.reads in
    let split = c.loop-i.invariant.split in
    let rows = c.loop-i.invariant.rows in
    let one = c.in_ok-load_split_row.ensures in
    let first = subst (λ (n : Now). GainsRow n (take c.args.first columns) s c.loop-i.split.first c.load_split_row.new.split.first) reads.same_now one.first in
    let second = subst (λ (n : Now). GainsRow n (drop c.args.first columns) s c.loop-i.split.second c.load_split_row.new.split.second) reads.same_now one.second in
    record {
      reads = subst (ReadsAtMost (g.D.Dumps.state c.args.dumps.now) (g.D.Dumps.state c.load_split_row.new.dumps))
          (sym (bodies-more index places i 0 c.loop-i-test.true)) (ReadsAtMost-then reads one.reads);
      split = record {
        width = first.gained.width ∙ split.width;
        rest = ap (λ n. c.args.first + n) second.gained.width ∙ split.rest;
        within = first.gained.within;
        rest_within = second.gained.within;
      };
      rows = subst (λ sections. HoldsSplit now c.args.first columns sections c.load_split_row.new.split) (sym (sections-more index places i 0 c.loop-i-test.true))
          (record {
            fronts = HoldsRows-more now (take c.args.first columns) before s c.loop-i.split.first c.load_split_row.new.split.first rows.fronts first;
            others = HoldsRows-more now (drop c.args.first columns) before s c.loop-i.split.second c.load_split_row.new.split.second rows.others second;
          });
    }
