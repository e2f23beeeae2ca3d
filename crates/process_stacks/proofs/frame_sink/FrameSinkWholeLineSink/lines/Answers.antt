use Rattle.process_stacks.proofs.FrameFacts.{run-hears, run-stops}
use Rattle.process_stacks.proofs.frame_sink.FrameSinkWholeLineSink.lines.Goals as goal

pub returns-clause-hears : goal.returns-clause-hears
returns-clause-hears c = run-hears c.args.self.now c.take_frames.new.sink c.args.at c.args.run.now c.take_frames.result c.take_frames.ensures.takes

pub returns-clause-stops : goal.returns-clause-stops
returns-clause-stops c = run-stops c.args.self.now c.take_frames.new.sink c.args.at c.args.run.now c.take_frames.result c.take_frames.ensures.stops
