use Rattle.dump_io.specs.Laws.Puts.{Puts-then}
use Rattle.skeleton_commands.proofs.weight_report.put_weights.Goals as goal

pub returns : goal.returns
returns g c = Puts-then c.in_ok-put_parts.ensures c.put_totals.ensures
