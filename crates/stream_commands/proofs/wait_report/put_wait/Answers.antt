use Rattle.std.proofs.Common.{◌∷◌, ◌++◌, ap₂, codes}
use Rattle.dump_io.specs.Laws.Puts.{Puts-as}
use Rattle.report_lines.specs.Lines.{line_of, tab}
use Rattle.stream_commands.proofs.wait_report.put_wait.Goals as goal

pub returns : goal.returns
returns g c = Puts-as (ap₂ (λ parts whom. line_of tab (codes "wait" ∷ (parts ++ whom))) c.process_parts.ensures c.target_parts.ensures) c.put_pieces.ensures
