use Rattle.dump_io.specs.Laws.Lines.{AreLines-raw, AreLines-only, raw_lines-ended, raw_lines-one}
use Rattle.dump_io.proofs.lines.lines_are_one.Goals as goal

pub returns : goal.returns
returns c = record { divides = AreLines-raw; only = AreLines-only; first = raw_lines-ended; alone = raw_lines-one }
