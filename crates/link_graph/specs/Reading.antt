-- The kind of an entry, as a function of its text. The law `an_entry_has_one_kind` says that this is the kind that
-- `Kinds` describes.
use Rattle.std.specs.Prelude.{ℕ, ◌==◌, Bool, List, [], ◌∷◌, Option, None, Some, codes, if◌then◌else◌}
use Rattle.std.specs.Option.{option_map, option_map_or, option_or}
use Rattle.dump_io.specs.Letters.{letter}
use Rattle.link_graph.specs.Texts.{◌>>=◌, inside, is_pid, is_port, is_reference, is_braced}
use Rattle.link_graph.specs.Kinds.{Kind, Link, LinkPort, To, ToPort, ToName, From, FromPort, Other, to_opening, from_opening}

-- whether a byte is a comma
abbrev pub is_comma : ℕ → Bool
is_comma c = c == letter (codes ",")

-- what stands before and after the last comma, if there is one
unfoldable pub at_last_comma : List ℕ → Option (List ℕ × List ℕ)
at_last_comma [] = None
at_last_comma (c ∷ text) =
    option_or (option_map (λ found. (c ∷ found.0, found.1)) (at_last_comma text)) (if is_comma c then Some ([], text) else None)

-- the partner and the reference of a monitor, from what stands
-- between its opening and its `}`: no reference has a comma
unfoldable pub parties : List ℕ → Option (List ℕ × List ℕ)
parties text = at_last_comma text >>= λ found. if is_reference found.1 then Some found else None

-- the kind of a monitor by the process, from its partner
unfoldable pub to_kind : List ℕ × List ℕ → Kind
to_kind found =
    if is_pid found.0 then To found.0 found.1
    else (if is_port found.0 then ToPort else (if is_braced found.0 then ToName found.1 else Other))

-- the kind of a monitor of the process, from its partner
unfoldable pub from_kind : List ℕ × List ℕ → Kind
from_kind found = if is_pid found.0 then From found.0 found.1 else (if is_port found.0 then FromPort else Other)

-- the kind of a text, by the opening of a monitor that it begins with
unfoldable pub monitor_kind : Option (List ℕ) → Option (List ℕ) → Kind
monitor_kind (Some to) from = option_map_or to_kind (parties to) Other
monitor_kind None (Some from) = option_map_or from_kind (parties from) Other
monitor_kind None None = Other

-- the kind of a text: a link, a link to a port or a monitor, and otherwise `Other`
unfoldable pub entry_kind : List ℕ → Kind
entry_kind text =
    if is_pid text then Link text
    else (if is_port text then LinkPort
    else monitor_kind (inside to_opening (codes "}") text) (inside from_opening (codes "}") text))
