use Rattle.dump_sections.specs.TilingLaws.{sections_tile}
use Rattle.dump_sections.proofs.laws.sections_tile_a_dump.Goals as goal

pub returns : goal.returns
returns c = sections_tile
