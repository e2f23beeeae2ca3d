use Rattle.std.proofs.Common.{ap, arith}
use Rattle.std.specs.Option.{option_map}
use Rattle.section_rows.specs.Rows.{row_at}
use Rattle.dump_triage.specs.Triage.{bytes_of, words_in}
use Rattle.section_rows.specs.Laws.{row_at-there}
use Rattle.dump_triage.proofs.RankFacts.{largest-all, rows-more}
use Rattle.dump_triage.proofs.numbers.largest_tables.Goals as goal

pub loop-i-preserved : goal.loop-i-preserved
loop-i-preserved c =
    let rows = c.args.tables.now.rows in
    let i = c.loop-i.i in
    rows-more (λ item. option_map bytes_of (words_in item.1)) rows i (row_at rows i) (option_map bytes_of c.words_at.result) _ _ (row_at-there rows i (omega arith)) c.loop-i.invariant (ap (option_map bytes_of) c.words_at.ensures) c.in_ok-push_words.ensures

pub returns : goal.returns
returns c = largest-all (λ item. option_map bytes_of (words_in item.1)) c.args.tables.now.rows c.loop-i.i c.args.most c.loop-i.rows.items c.first_rows.result (omega arith) c.loop-i.invariant c.first_rows.ensures
