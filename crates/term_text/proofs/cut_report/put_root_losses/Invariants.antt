use Rattle.std.proofs.Common.{take}
use Rattle.std.specs.List.{flat_map}
use Rattle.dump_io.specs.Sinks.{HasPut}
use Rattle.term_text.specs.Cuts.{root_loss}
use Rattle.term_text.proofs.cut_report.put_root_losses.Given as goal

-- the lines on the kinds so far are written
abbrev pub invariant-loop-kind : goal.invariant-loop-kind
invariant-loop-kind g l = HasPut (g.K.Sink.state l.initial.sink) (g.K.Sink.state l.sink) (flat_map (root_loss l.index l.pid) (take l.kind-index l.kinds))
