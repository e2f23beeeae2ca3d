use Rattle.std.proofs.Common.{◌≡◌, take}
use Rattle.std.specs.Option.{option_map}
use Rattle.dump_triage.specs.Ranking.{rows_by}
use Rattle.dump_triage.specs.Triage.{bytes_of, words_in}
use Rattle.dump_triage.proofs.numbers.largest_tables.Given as goal

-- the rows of the places so far
abbrev pub invariant-loop-i : goal.invariant-loop-i
invariant-loop-i l = l.rows.items ≡ rows_by (λ item. option_map bytes_of (words_in item.1)) (take l.i l.tables.rows)
