-- The shapes of terms: what kind of term each is, and of a tuple its first elements. Pids that are elements are shown or not.
use Rattle.std.specs.Prelude.{ℕ, Bool, false, List, [], ◌∷◌, ◌++◌, length, map, take, codes, nat_lt, Option, None, Some, if◌then◌else◌}
use Rattle.std.specs.Option.{option_map_or}
use Rattle.dump_io.specs.Atoms.{atom_text}
use Rattle.heap_cells.specs.Cells.{Cell}
use Rattle.heap_cells.specs.HeapMap.{form_at, number_at}
use Rattle.term_forms.specs.Elements.{Element, Nil, Small, Atom, Pid, Port, Ref}
use Rattle.term_forms.specs.Forms as form
use Rattle.text_groups.specs.Cut.{cut_text}

-- the text of an atom in a shape
abbrev pub atom_shape : List ℕ → List ℕ
atom_shape name = cut_text (atom_text name)

-- texts with `,` between each two of them
abbrev pub comma_list : List (List ℕ) → List ℕ
comma_list [] = []
comma_list (text ∷ []) = text
comma_list (text ∷ texts) = text ++ (codes "," ++ comma_list texts)

-- at most the first 8 texts, and `...` if there are more
abbrev pub first_eight : List (List ℕ) → List (List ℕ)
first_eight texts = take 8 texts ++ (if nat_lt 8 (length texts) then codes "..." ∷ [] else [])

-- a tuple whose elements are shown by these texts
abbrev pub tuple_text : List (List ℕ) → List ℕ
tuple_text texts = codes "{" ++ (comma_list (first_eight texts) ++ codes "}")

-- the first element of a tuple inside a message: an atom is shown
abbrev pub tag_text : Element → List ℕ
tag_text (Atom name) = atom_shape name
tag_text e = codes "_"

-- the text of an element that is a pid, cut as that of an atom, if pids are shown, and this text of any other
abbrev pub or_pid : Bool → List ℕ → Element → List ℕ
or_pid pids text (Pid pid) = if pids then cut_text pid else text
or_pid pids text e = text

-- the elements of a tuple inside a message: beside pids no other one is shown
abbrev pub tags_with : Bool → List Element → List (List ℕ)
tags_with pids [] = []
tags_with pids (first ∷ rest) = or_pid pids (tag_text first) first ∷ map (or_pid pids (codes "_")) rest

-- the shape of a cell inside a message
abbrev pub form_with : Bool → Option form.HeapForm → List ℕ
form_with pids None = codes "malformed()"
form_with pids (Some (form.Cons head tail)) = codes "list()"
form_with pids (Some (form.Tuple elements)) = tuple_text (tags_with pids elements)
form_with pids (Some (form.Float bytes)) = codes "float()"
form_with pids (Some (form.Long number)) = codes "integer()"
form_with pids (Some (form.Pid pid)) = codes "pid()"
form_with pids (Some (form.Port port)) = codes "port()"
form_with pids (Some (form.Ext size chars)) = codes "external()"
form_with pids (Some (form.HeapBin size chars)) = codes "binary()"
form_with pids (Some (form.RefBin address offset size)) = codes "binary()"
form_with pids (Some (form.SubBin address offset size)) = codes "binary()"
form_with pids (Some (form.Flat keys values)) = codes "map()"
form_with pids (Some (form.Hash size children)) = codes "map()"
form_with pids (Some (form.Node children)) = codes "malformed()"

-- the shape of an element that leads to no cell
abbrev pub plain_shape : Element → List ℕ
plain_shape Nil = codes "[]"
plain_shape (Small integer) = codes "integer()"
plain_shape (Atom name) = atom_shape name
plain_shape (Pid pid) = codes "pid()"
plain_shape (Port port) = codes "port()"
plain_shape (Ref address) = codes "missing()"

-- the shape of an element that leads to no cell, with a pid shown or not
abbrev pub plain_with : Bool → Element → List ℕ
plain_with pids e = or_pid pids (plain_shape e) e

-- the shape of an element
abbrev pub element_with : Bool → List Cell → Element → List ℕ
element_with pids cells (Ref address) = option_map_or (λ n. form_with pids (form_at cells n)) (number_at cells address) (codes "missing()")
element_with pids cells e = plain_with pids e

-- the shape of the cell to which a message refers: of a tuple those of its elements
abbrev pub subject_with : Bool → List Cell → Option form.HeapForm → List ℕ
subject_with pids cells (Some (form.Tuple elements)) = tuple_text (map (element_with pids cells) elements)
subject_with pids cells found = form_with pids found

-- the shape of a term as that of a message
abbrev pub term_with : Bool → List Cell → Element → List ℕ
term_with pids cells (Ref address) =
    option_map_or (λ n. subject_with pids cells (form_at cells n)) (number_at cells address) (codes "missing()")
term_with pids cells e = element_with pids cells e

-- the shape of a message that refers to the cell with a number
abbrev pub cell_shape_with : Bool → List Cell → ℕ → List ℕ
cell_shape_with pids cells n = subject_with pids cells (form_at cells n)

-- ---- where no pid is shown

-- the texts of the elements of a tuple inside a message, with no pid shown
abbrev pub tag_texts : List Element → List (List ℕ)
tag_texts elements = tags_with false elements

-- the shape of a cell inside a message, with no pid shown
abbrev pub form_shape : Option form.HeapForm → List ℕ
form_shape found = form_with false found

-- the shape of an element, with no pid shown
abbrev pub element_shape : List Cell → Element → List ℕ
element_shape cells e = element_with false cells e

-- the shape of the cell to which a message refers, by its form
abbrev pub subject_shape : List Cell → Option form.HeapForm → List ℕ
subject_shape cells found = subject_with false cells found

-- the shape of a term as that of a message
abbrev pub term_shape : List Cell → Element → List ℕ
term_shape cells e = term_with false cells e

-- the shape that the cell with a number has inside a message
abbrev pub inner_shape : List Cell → ℕ → List ℕ
inner_shape cells n = form_shape (form_at cells n)

-- the shape of a message that refers to the cell with a number
abbrev pub cell_shape : List Cell → ℕ → List ℕ
cell_shape cells n = cell_shape_with false cells n
