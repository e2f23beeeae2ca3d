-- What contracts see of a row: its value, regardless of where its label lies in memory.
use Rattle.part_weights.specs.Weights.{Row}
use Rattle.part_weights.specs.declared.part_rows.PartRow.{PartRow}

-- the value of a row whose label is borrowed
abbrev pub row : PartRow → Row
row r = record { words = r.words; cells = r.cells; binaries = r.binaries; kind = r.kind; address = r.address; elements = r.elements; at = r.at; label = r.label.now }
