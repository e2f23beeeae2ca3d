use Rattle.std.proofs.Common.{◌≡◌, ◌≤◌, ◌*◌, take}
use Rattle.std.specs.List.{sum_by}
use Rattle.report_text.specs.Links.{entry_count}
use Rattle.report_text.proofs.link_report.entry_total.Given as goal

-- the entries so far are counted, and no process has 2^32
abbrev pub invariant-loop-p : goal.invariant-loop-p
invariant-loop-p l = (l.total ≡ sum_by entry_count (take l.p l.procs.processes)) × (l.total ≤ l.p * 4294967296)
