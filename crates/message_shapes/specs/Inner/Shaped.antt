-- Messages with the shapes of the cells to which they refer.
use Rattle.std.specs.Prelude.{ℕ, ◌<◌, List, [], map, slice_index_or, All}
use Rattle.std.specs.Option.{option_map_or}
use Rattle.text_groups.specs.Numbers.{HaveNumbers}
use Rattle.message_shapes.specs.Messages.{Message}
use Rattle.message_shapes.specs.Inner.Telling.{Origin, OfCell, OfText, Told}
use Rattle.tuple_fronts.specs.CellSets.{place_of}

-- the shape of what refers to one of these cells, which have these shapes, or has its own
abbrev pub shape_with : List ℕ → List (List ℕ) → Origin → List ℕ
shape_with cells shapes (OfCell cell) = option_map_or (λ i. slice_index_or shapes i []) (place_of cells cell) []
shape_with cells shapes (OfText text) = text

-- a message
abbrev pub message_with : List ℕ → List (List ℕ) → Told → Message
message_with cells shapes told = record { at = told.at; shape = shape_with cells shapes told.source }

-- all messages
abbrev pub messages_with : List ℕ → List (List ℕ) → List Told → List Message
messages_with cells shapes all = map (message_with cells shapes) all

-- ---- which messages have the same shape

-- the shapes of messages
abbrev pub shapes_of : List Message → List (List ℕ)
shapes_of messages = map (λ message. message.shape) messages

-- these are the numbers of the shapes of messages, each below the number of different ones
pub record AreNumbered (messages : List Message) (numbers : List ℕ) (different : ℕ) : Type 0 where
  pub known : List (List ℕ)
  pub have : HaveNumbers known (shapes_of messages) numbers
  pub within : All (λ n. n < different) numbers
