-- The nodes of a tree with their places, and what each looks like.
use Rattle.std.specs.Prelude.{ℕ, suc, Bool, true, false, List, [], ◌∷◌, ◌++◌}
use Rattle.term_forms.specs.Elements.{Nil}
use Rattle.cell_records.specs.declared.cells.Why.{Why}
use Rattle.term_unfold.specs.declared.node.NodeKind.{NodeKind}
use Rattle.term_unfold.specs.Terms.{count}
use Rattle.term_unfold.specs.Trees.{Value, Immediate, Tree, Leaf, Bad, Branch, Trees, none, more}

-- whether a leaf ends a list
abbrev pub is_nil : Value → Bool
is_nil (Immediate Nil) = true
is_nil value = false

-- what a node looks like by itself
pub data Face : Type 0 where
  -- a leaf: whether it is the one that ends a list, and its text
  LeafFace : Bool → List ℕ → Face
  -- a bad address
  BadFace : ℕ → Why → Face
  -- a node with this many children
  BranchFace : NodeKind → ℕ → Face

-- a node with its place: the numbers of the children that lead to it from the root
abbrev pub PlacedNode : Type 0
PlacedNode = List ℕ × Face

abbrev mutual
  -- the nodes in preorder, of a tree at a place
  pub placed : (Value → List ℕ) → List ℕ → Tree → List PlacedNode
  placed leaf place (Leaf value) = (place, LeafFace (is_nil value) (leaf value)) ∷ []
  placed leaf place (Bad address why) = (place, BadFace address why) ∷ []
  placed leaf place (Branch kind children) = (place, BranchFace kind (count children)) ∷ placed_all leaf place 0 children

  -- the nodes in preorder, of the children of a place from the one with number n on
  pub placed_all : (Value → List ℕ) → List ℕ → ℕ → Trees → List PlacedNode
  placed_all leaf place n none = []
  placed_all leaf place n (more tree trees) = placed leaf (place ++ n ∷ []) tree ++ placed_all leaf place (suc n) trees

-- the nodes of a whole tree
abbrev pub nodes_of : (Value → List ℕ) → Tree → List PlacedNode
nodes_of leaf tree = placed leaf [] tree
