-- Headers that are stored with their texts in one pool.
use Rattle.std.specs.Prelude.{ℕ, ◌≤◌, List, [], ◌∷◌, map}
use Rattle.std.specs.List.{between}
use Rattle.dump_io.specs.Lines.{Header}
use Rattle.dump_sections.specs.declared.headers.Head.{Head}

-- the header that a stored head stands for
abbrev pub header_in : List ℕ → Head → Header
header_in pool head = record { at = head.at; body = head.body; text = between head.from head.upto pool }

-- the headers that stored heads stand for
abbrev pub headers_in : List ℕ → List Head → List Header
headers_in pool heads = map (header_in pool) heads

-- each text lies within this many bytes
abbrev pub AreWithin : ℕ → List Head → Type 0
AreWithin size [] = Unit {0}
AreWithin size (head ∷ heads) = (head.from ≤ head.upto) × (head.upto ≤ size) × AreWithin size heads
