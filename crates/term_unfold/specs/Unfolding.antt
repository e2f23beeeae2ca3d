-- The finite tree that an element unfolds to.
use Rattle.std.specs.Prelude.{ℕ, zero, suc, ◌-◌, List, [], ◌∷◌, length}
use Rattle.term_forms.specs.Elements.{Element}
use Rattle.heap_cells.specs.Cells.{Cell}
use Rattle.cell_records.specs.declared.cells.Why.TheVariants.{OnPath}
use Rattle.term_unfold.specs.Rules.{Child, Term, Opening, leaf, bad, node, opening}
use Rattle.term_unfold.specs.Trees.{Tree, Leaf, Bad, Branch, Trees, none, more}

-- each child's tree
abbrev pub trees : (Child → Tree) → List Child → Trees
trees tree [] = none
trees tree (child ∷ children) = more (tree child) (trees tree children)

-- the tree of what was opened, given the trees below an address
abbrev pub grown_tree : (ℕ → Child → Tree) → Opening → Tree
grown_tree below (leaf value) = Leaf value
grown_tree below (bad address why) = Bad address why
grown_tree below (node a kind children) = Branch kind (trees (below a) children)

-- at most this many levels below the ancestors `path`
unfoldable pub unfold_by : ℕ → List Cell → List ℕ → Child → Tree
unfold_by zero heap path child = Bad 0 OnPath
unfold_by (suc levels) heap path child = grown_tree (λ a. unfold_by levels heap (a ∷ path)) (opening heap path child)

-- Each level down adds one cell to the ancestors, so as many levels as
-- there are cells that are no ancestors yet, and one more, are all.
unfoldable pub unfolded : List Cell → List ℕ → Child → Tree
unfolded heap path child = unfold_by (suc (length heap) - length path) heap path child

-- the tree of a root, which has no ancestors
abbrev pub unfolding_of : List Cell → Element → Tree
unfolding_of heap element = unfolded heap [] (Term element)
