use Rattle.std.proofs.Common.{◌≡◌, ℕ, ◌+◌, ◌-◌, ◌≤◌, None, List, ◌++◌, length, take}
use Rattle.line_source.specs.Scan.{StandsFor}
use Rattle.line_source.specs.Streams.{new_headers}
use Rattle.line_source.proofs.line_scan.LineScan.take_all.Given as goal

abbrev pub invariant-loop-done : goal.invariant-loop-done
invariant-loop-done g l =
    let sink = g.H.HeaderSink in
    record {
      within : l.done ≤ length l.piece;
      limit : l.self.limit ≡ l.initial.self.limit;
      offset : l.self.offset ≡ l.initial.self.offset + l.done;
      open' : sink.stop l.into ≡ None;
      stands : (stream : List ℕ) → StandsFor l.initial.self stream → StandsFor l.self (stream ++ take l.done l.piece);
      heard : (stream : List ℕ) → StandsFor l.initial.self stream → sink.heard l.into ≡ sink.heard l.initial.into ++ new_headers stream (take l.done l.piece);
    }

abbrev pub decreases-loop-done : goal.decreases-loop-done
decreases-loop-done g l = length l.piece - l.done
