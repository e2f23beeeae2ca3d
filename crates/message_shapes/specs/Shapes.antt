-- The shapes of messages: what kind of term each is, and of a tuple its first elements.
use Rattle.std.specs.Prelude.{ℕ, Bool, List, codes}
use Rattle.heap_cells.specs.Cells.{Cell}
use Rattle.root_views.specs.Roots.{Content, Term, Info, Dist, Unread}
use Rattle.tuple_fronts.specs.Shapes.{term_with}

-- the shape of a message, in which pids that are elements are shown or not; none is a word of the stack
abbrev pub message_shape : Bool → List Cell → Content → List ℕ
message_shape pids cells (Term e) = term_with pids cells e
message_shape pids cells (Dist text) = codes "distribution()"
message_shape pids cells (Info text) = codes "?"
message_shape pids cells Unread = codes "?"
