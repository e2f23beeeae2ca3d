use Rattle.dump_io.specs.Laws.Puts.{Puts-as, Puts-then, Puts-stopped}
use Rattle.stream_commands.proofs.stack_report.put_lines.Goals as goal

pub returns-in_err-put_group : goal.returns-in_err-put_group
returns-in_err-put_group g c = Puts-stopped _ c.from_residual.ensures.0 c.in_err-put_group.ensures

pub returns : goal.returns
returns g c = Puts-then c.in_ok-put_group.ensures (Puts-as c.place.ensures c.write_all.ensures.puts)
