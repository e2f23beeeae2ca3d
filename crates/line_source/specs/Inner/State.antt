-- What the fields of a scan say of the last line.
use Rattle.std.specs.Prelude.{ℕ, List}
use Rattle.line_source.specs.Streams.{LastLine, ended, plain, header}
use Rattle.line_source.specs.declared.line_scan.LineState.{LineState}
use Rattle.line_source.specs.declared.line_scan.LineState.TheVariants.{Ended, Plain, Header}

-- the last line, from the state and the bytes that are kept
abbrev pub last_in : LineState → List ℕ → LastLine
last_in Ended kept = ended
last_in Plain kept = plain
last_in Header kept = header kept
