use Rattle.std.proofs.Common.{◌≤◌, ◌-◌, length}
use Rattle.memchr.specs.Find.{Nowhere}
use Rattle.line_source.specs.Inner.Starts.{BeginsHeader}
use Rattle.line_source.proofs.starts.header_start.Given as goal

abbrev pub invariant-loop-found : goal.invariant-loop-found
invariant-loop-found l = (l.from ≤ length l.bytes) × Nowhere (BeginsHeader l.begun l.bytes) 0 l.from

abbrev pub decreases-loop-found : goal.decreases-loop-found
decreases-loop-found l = length l.bytes - l.from
