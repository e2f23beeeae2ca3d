use Rattle.std.proofs.Common.{◌≡◌, ◌≤◌, take}
use Rattle.term_text.specs.Cells.{word_count}
use Rattle.term_text.proofs.cell_report.count_of.Given as goal

-- the cells so far are counted
abbrev pub invariant-loop-n : goal.invariant-loop-n
invariant-loop-n l = (l.count ≡ word_count (take l.n (take l.heap.own l.heap.cells)) l.word) × (l.count ≤ l.n)
