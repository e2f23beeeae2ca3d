use Rattle.process_stacks.proofs.PlaceFacts.{all-told}
use Rattle.process_stacks.proofs.place_lines.lines_tell_places.Goals as goal

pub returns : goal.returns
returns c = all-told
