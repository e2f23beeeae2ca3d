-- What the laws of the unfolding say.
use Rattle.std.specs.Prelude.{◌≡◌, ℕ, ◌+◌, ◌<◌, false, List, [], ◌∷◌, length, take, IsSome}
use Rattle.heap_cells.specs.Cells.{Cell}
use Rattle.heap_cells.specs.HeapMap.{number_at}
use Rattle.term_unfold.specs.Rules.{Child, Term, Item, is_on, opening}
use Rattle.term_unfold.specs.Terms.{IsTerm, IsItem}
use Rattle.term_unfold.specs.Places.{nodes_of}
use Rattle.term_unfold.specs.Trees.{Value, Tree, Branch, Trees, none, more}
use Rattle.term_unfold.specs.declared.node.NodeKind.TheVariants.{Hash, Inner}
use Rattle.term_unfold.specs.Unfolding.{grown_tree, unfold_by, unfolded}

-- distinct addresses of the heap
abbrev pub IsPath : List Cell → List ℕ → Type 0
IsPath heap [] = Unit {0}
IsPath heap (a ∷ path) = IsSome (number_at heap a) × (is_on a path ≡ false) × IsPath heap path

-- the tree of what a child opens, without a bound on levels
abbrev pub FollowsRules : (List Cell → List ℕ → Child → Tree) → Type 0
FollowsRules tree = (heap : List Cell) (path : List ℕ) (child : Child) → IsPath heap path
    → tree heap path child ≡ grown_tree (λ a. tree heap (a ∷ path)) (opening heap path child)

-- any number of levels above that of the cells that are no ancestors gives the same tree
abbrev pub IsEnough : Type 0
IsEnough = (levels : ℕ) (heap : List Cell) (path : List ℕ) (child : Child) → IsPath heap path → length heap < levels + length path
    → unfold_by levels heap path child ≡ unfolded heap path child

-- a term gives a term, and a child of a hash map an item
abbrev pub Suits : Child → Tree → Type 0
Suits (Term element) tree = IsTerm tree
Suits (Item parent element) tree = IsItem tree

-- trees, and others after them
abbrev pub joined : Trees → Trees → Trees
joined none others = others
joined (more tree trees) others = more tree (joined trees others)

-- the first n nodes of two trees, whose leaves may have their texts from
-- two functions, look alike, and stand at the same places
abbrev pub LookAlike : (Value → List ℕ) → (Value → List ℕ) → ℕ → Tree → Tree → Type 0
LookAlike leaf leaf' n one other = take n (nodes_of leaf one) ≡ take n (nodes_of leaf' other)

-- a hash map with these children
abbrev pub hash_map : Trees → Tree
hash_map children = Branch Hash children

-- the children of a map that begin with an inner node with some of them
abbrev pub behind_inner : Trees → Trees → Trees
behind_inner children rest = more (Branch Inner children) rest
