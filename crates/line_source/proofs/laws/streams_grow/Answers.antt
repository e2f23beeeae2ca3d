use Rattle.line_source.proofs.Walk.{headers-split}
use Rattle.line_source.proofs.Pieces.{ended_headers-grow}
use Rattle.line_source.proofs.Growing.{TooLongGrows-all, later-after}
use Rattle.line_source.proofs.laws.streams_grow.Goals as goal

pub returns : goal.returns
returns c = record { headers = headers-split; ended = ended_headers-grow; too_long = TooLongGrows-all; after_too_long = later-after }
