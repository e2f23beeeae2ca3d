-- What contracts see of a line: its value, regardless of where the shape of a tuple lies in memory.
use Rattle.std.specs.Option.{option_map}
use Rattle.heap_ways.specs.Ways.{Line, Tails, Single}
use Rattle.heap_ways.specs.declared.lines.WayLine.{WayLine}
use Rattle.heap_ways.specs.declared.lines.WayLine.TheVariants as way_line

-- the value of a line whose shape is borrowed
abbrev pub line : WayLine → Line
line (way_line.Tails address count) = Tails address count
line (way_line.Cell address kind place front) = Single address kind place (option_map (λ text. text.now) front)
