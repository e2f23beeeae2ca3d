-- What is told of messages as they are heard: where each stands, and to which cell it refers or what its shape is.
use Rattle.std.specs.Prelude.{ℕ, ◌<◌, Bool, List, [], ◌∷◌, map, filter, flat_map, codes, length, slice_index_or, All}
use Rattle.std.specs.Option.{option_map_or}
use Rattle.term_forms.specs.Elements.{Element, Ref}
use Rattle.root_views.specs.Roots.{BodyRoot, Content, Term, Info, Dist, Unread, is_message}
use Rattle.tuple_fronts.specs.Shapes.{plain_with}
use Rattle.tuple_fronts.specs.CellSets.{cell_with}
use Rattle.message_shapes.specs.declared.heard.Found.{Found}
use Rattle.message_shapes.specs.declared.heard.Source.{Source}
use Rattle.message_shapes.specs.declared.heard.Source.TheVariants as source
use Rattle.message_shapes.specs.declared.heard.Subject.{Subject}
use Rattle.message_shapes.specs.declared.heard.Subject.TheVariants as subject

-- what a message is: one that refers to a cell, or one of this shape
pub data Origin : Type 0 where
  OfCell : ℕ → Origin
  OfText : List ℕ → Origin

-- the offset of a message, and what it is
pub record Told : Type 0 where
  pub at : ℕ
  pub source : Origin

-- the message at a place; past the last one, one at 0 without a shape
abbrev pub told_at : List Told → ℕ → Told
told_at all i = slice_index_or all i (record { at = 0; source = OfText [] })

-- ---- as it is kept

-- what a message is, if its shape is one of these texts
abbrev pub origin_of : List (List ℕ) → Subject → Origin
origin_of texts (subject.Cell cell) = OfCell cell
origin_of texts (subject.Text number) = OfText (slice_index_or texts number [])

-- what is told of a message that is kept
abbrev pub told_of : List (List ℕ) → Found → Told
told_of texts found = record { at = found.at; source = origin_of texts found.subject }

-- all that are kept
abbrev pub all_told : List (List ℕ) → List Found → List Told
all_told texts found = map (told_of texts) found

-- the number of the text is one of so many
abbrev pub IsBelow : ℕ → Subject → Type 0
IsBelow size (subject.Cell cell) = Unit {0}
IsBelow size (subject.Text number) = number < size

-- there is a text with the number
pub record IsKnown (texts : List (List ℕ)) (found : Found) : Type 0 where
  pub below : IsBelow (length texts) found.subject

-- each of these has its text
abbrev pub AreKnown : List (List ℕ) → List Found → Type 0
AreKnown texts found = All (IsKnown texts) found

-- what a message is, regardless of where its text lies in memory
abbrev pub shown_source : Source → Origin
shown_source (source.Cell cell) = OfCell cell
shown_source (source.Text text) = OfText text.now

-- ---- of roots, where pids are shown or not

-- what a message is that is a term
abbrev pub element_origin : Bool → List ℕ → Element → Origin
element_origin pids addresses (Ref address) = option_map_or OfCell (cell_with addresses address) (OfText (codes "missing()"))
element_origin pids addresses e = OfText (plain_with pids e)

-- what a message is
abbrev pub content_origin : Bool → List ℕ → Content → Origin
content_origin pids addresses (Term e) = element_origin pids addresses e
content_origin pids addresses (Dist text) = OfText (codes "distribution()")
content_origin pids addresses (Info text) = OfText (codes "?")
content_origin pids addresses Unread = OfText (codes "?")

-- a root that is a message
abbrev pub root_told : Bool → List ℕ → BodyRoot → Told
root_told pids addresses root = record { at = root.at; source = content_origin pids addresses root.content }

-- what is told of several roots
abbrev pub roots_told : Bool → List ℕ → List BodyRoot → List Told
roots_told pids addresses roots = map (root_told pids addresses) (filter is_message roots)

-- ---- the cells to which messages refer

-- the cell, if the message refers to one
abbrev pub origin_cells : Origin → List ℕ
origin_cells (OfCell cell) = cell ∷ []
origin_cells (OfText text) = []

-- the cells of several messages
abbrev pub told_cells : List Told → List ℕ
told_cells all = flat_map (λ told. origin_cells told.source) all

-- a cell is one of so many
abbrev pub IsOriginWithin : ℕ → Origin → Type 0
IsOriginWithin size (OfCell cell) = cell < size
IsOriginWithin size (OfText text) = Unit {0}

-- if a message refers to a cell, that is one of so many
pub record IsCell (size : ℕ) (told : Told) : Type 0 where
  pub within : IsOriginWithin size told.source

-- each does
abbrev pub AreCells : ℕ → List Told → Type 0
AreCells size all = All (IsCell size) all
