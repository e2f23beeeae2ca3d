-- The messages of a mailbox, and their shapes, in which pids are shown or not. Offsets are of the file.
use Rattle.std.specs.Prelude.{ℕ, Bool, List, [], map, filter, slice_index_or, Option}
use Rattle.dump_sections.specs.Bodies.{body_in, body_start}
use Rattle.dump_sections.specs.Index.{Contents, sections_in}
use Rattle.dump_sections.specs.Sections.{Section}
use Rattle.heap_cells.specs.Cells.{Cell}
use Rattle.root_views.specs.Placed.{placed_roots}
use Rattle.root_views.specs.Roots.{BodyRoot, is_message}
use Rattle.root_views.specs.Sections.{root_section}
use Rattle.root_views.specs.declared.kinds.RootKind.TheVariants.{Mail}
use Rattle.text_groups.specs.Sorting.{most_first}
use Rattle.text_groups.specs.Groups.{Item, groups}
use Rattle.text_groups.specs.Numbers.{weightless}
use Rattle.text_groups.specs.declared.text_group.TextGroup.{TextGroup}
use Rattle.tuple_fronts.specs.Fronts.{cells_for}
use Rattle.message_shapes.specs.Shapes.{message_shape}

-- a message: the offset of its line, and its shape
pub record Message : Type 0 where
  pub at : ℕ
  pub shape : List ℕ

-- the message at a place; past the last one, one at 0 without a shape
abbrev pub message_at : List Message → ℕ → Message
message_at messages i = slice_index_or messages i (record { at = 0; shape = [] })

-- the message of a root that is one
abbrev pub message_of : Bool → List Cell → BodyRoot → Message
message_of pids cells root = record { at = root.at; shape = message_shape pids cells root.content }

-- the messages of the roots of a mailbox; tokens are none
abbrev pub messages_of : Bool → List Cell → List BodyRoot → List Message
messages_of pids cells roots = map (message_of pids cells) (filter is_message roots)

-- ---- which messages have the same shape

-- a message as one of those that are grouped
abbrev pub item_of : Message → Item
item_of message = weightless message.shape

-- the groups of messages that have the same shape, the largest first, of equal ones that whose first message comes first
abbrev pub shape_groups : List Message → List TextGroup
shape_groups messages = most_first (λ group. group.count) (groups (map item_of messages))

-- messages, and their groups
pub record ShapeMap : Type 0 where
  pub messages : List Message
  pub groups : List TextGroup

-- messages with their groups
abbrev pub grouped_by_shape : List Message → ShapeMap
grouped_by_shape messages = record { messages = messages; groups = shape_groups messages }

-- ---- those of a process

-- the roots in a section of a dump that is a mailbox; a missing section has none
abbrev pub roots_in_mail : List ℕ → Option Section → List BodyRoot
roots_in_mail dump found = placed_roots Mail (body_start found) (body_in dump found)

-- the roots of the mailbox of the process with this pid
abbrev pub mail_roots : List ℕ → Contents → List ℕ → List BodyRoot
mail_roots dump index pid = roots_in_mail dump (root_section Mail pid (sections_in index))

-- the messages of a process's mailbox, with their groups
abbrev pub mail_shapes : Bool → List ℕ → Contents → List ℕ → ShapeMap
mail_shapes pids dump index pid = grouped_by_shape (messages_of pids (cells_for dump index pid) (mail_roots dump index pid))
