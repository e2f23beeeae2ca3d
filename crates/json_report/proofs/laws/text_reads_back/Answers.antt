use Rattle.json_report.proofs.Bounds.{all-read-back}
use Rattle.json_report.proofs.laws.text_reads_back.Goals as goal

pub returns : goal.returns
returns c = all-read-back c.sections_tile_a_dump.ensures
