-- What a cell is in the unfolding, by the kind of its form. A malformed cell has none.
use Rattle.std.specs.Prelude.{ℕ, ◌==◌, Bool, false, Option, None, Some}
use Rattle.cell_records.specs.declared.cells.Kind.{Kind}
use Rattle.cell_records.specs.declared.cells.Kind.TheVariants as cell_kind
use Rattle.term_unfold.specs.declared.kinds.TermKind.{TermKind}
use Rattle.term_unfold.specs.declared.kinds.TermKind.TheVariants as term
use Rattle.term_unfold.specs.declared.node.NodeKind.{NodeKind}
use Rattle.term_unfold.specs.declared.node.NodeKind.TheVariants as kinds

-- what a cell is as a term
abbrev pub term_kind : Option Kind → TermKind
term_kind (Some cell_kind.List) = term.Node kinds.Cons
term_kind (Some cell_kind.Tuple) = term.Node kinds.Tuple
term_kind (Some cell_kind.Flat) = term.Flat
term_kind (Some cell_kind.Hash) = term.Node kinds.Hash
term_kind (Some cell_kind.Node) = term.Malformed
term_kind (Some kind) = term.Leaf
term_kind None = term.Malformed

-- the node that a cell is as a child of a hash map or of one of its inner nodes, if it may be one
abbrev pub item_kind : Option Kind → Option NodeKind
item_kind (Some cell_kind.List) = Some kinds.Pair
item_kind (Some cell_kind.Tuple) = Some kinds.Inner
item_kind (Some cell_kind.Node) = Some kinds.Inner
item_kind kind = None

-- whether a cell with this many elements holds the keys of so many values: it is a tuple of as many
abbrev pub are_keys : Option Kind → ℕ → ℕ → Bool
are_keys (Some cell_kind.Tuple) elements values = elements == values
are_keys kind elements values = false
