-- The entries of a link list.
use Rattle.std.specs.Prelude.{◌≡◌, ◌≢◌, ℕ, ◌+◌, ◌<◌, ◌==◌, Bool, ◌&&◌, List, [], ◌∷◌, ◌++◌, length, Option, codes, map, All, if◌then◌else◌}
use Rattle.std.specs.Option.{option_map}
use Rattle.dump_io.specs.Letters.{letter}
use Rattle.link_graph.specs.Texts.{inside}
use Rattle.link_graph.specs.Kinds.{Kind}
use Rattle.link_graph.specs.Reading.{entry_kind}

-- what stands between two entries
abbrev pub gap : List ℕ
gap = codes ", "

-- whether two bytes are a gap
abbrev pub is_gap : ℕ → ℕ → Bool
is_gap c d = c == letter (codes ",") && d == letter (codes " ")

-- parts with one more byte at the front of the first
abbrev pub led_by : ℕ → List (List ℕ) → List (List ℕ)
led_by c [] = (c ∷ []) ∷ []
led_by c (part ∷ parts) = (c ∷ part) ∷ parts

-- the parts of a text that is cut at each comma followed by a space, from the left
unfoldable pub cut : List ℕ → List (List ℕ)
cut [] = [] ∷ []
cut (c ∷ []) = (c ∷ []) ∷ []
cut (c ∷ d ∷ text) = if is_gap c d then [] ∷ cut text else led_by c (cut (d ∷ text))

-- a part, and the number of bytes before it
pub record Part : Type 0 where
  pub at : ℕ
  pub text : List ℕ

-- parts with their offsets, the first at this one, with a gap between each two
abbrev pub parts_from : ℕ → List (List ℕ) → List Part
parts_from at [] = []
parts_from at (text ∷ texts) = record { at = at; text = text } ∷ parts_from (at + length text + 2) texts

-- the parts of what stands between the brackets; if nothing stands there, there are none
abbrev pub parts_of : ℕ → List ℕ → List Part
parts_of at [] = []
parts_of at (c ∷ inner) = parts_from at (cut (c ∷ inner))

-- the parts of a list, which is `[`, any bytes and `]`; the list begins at the offset
abbrev pub list_parts : ℕ → List ℕ → Option (List Part)
list_parts at text = option_map (parts_of (at + 1)) (inside (codes "[") (codes "]") text)

-- an entry: how many bytes stand before it, its text and its kind
pub record LinkEntry : Type 0 where
  pub at : ℕ
  pub text : List ℕ
  pub kind : Kind

-- the entry that a part is
abbrev pub entry_of : Part → LinkEntry
entry_of part = record { at = part.at; text = part.text; kind = entry_kind part.text }

-- the entries of a list that begins at the offset, or `None` if the text isn't a list
abbrev pub entries_at : ℕ → List ℕ → Option (List LinkEntry)
entries_at at text = option_map (map entry_of) (list_parts at text)

-- the text is `[`, any bytes and `]`
abbrev pub IsList : List ℕ → Type 0
IsList text = (inner : List ℕ) × (text ≡ codes "[" ++ (inner ++ codes "]"))

-- the text has no comma followed by a space
abbrev pub HasNoGap : List ℕ → Type 0
HasNoGap text = (front rest : List ℕ) → text ≢ front ++ (gap ++ rest)

-- parts with a gap between each two
abbrev pub joined : List (List ℕ) → List ℕ
joined [] = []
joined (part ∷ []) = part
joined (part ∷ next ∷ parts) = part ++ (gap ++ joined (next ∷ parts))

-- the rule of cutting: with a gap between each two, the parts make up the text, and none contains a gap
pub record AreCutParts (text : List ℕ) (parts : List (List ℕ)) : Type 0 where
  pub some : 0 < length parts
  pub together : joined parts ≡ text
  pub whole : All HasNoGap parts
