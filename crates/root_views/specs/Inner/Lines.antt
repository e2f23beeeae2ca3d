-- Lines whose places can be counted.
use Rattle.std.specs.Prelude.{◌+◌, ◌<◌, ◌^◌, length}
use Rattle.field_lines.specs.Lines.{TextLine}

-- a line of a body in memory ends below 2^63
abbrev pub IsSmall : TextLine → Type 0
IsSmall line = line.at + length line.text < 2 ^ 63
