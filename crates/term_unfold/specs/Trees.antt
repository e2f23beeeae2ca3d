-- Finite trees of terms, their nodes in preorder, and the first of them that is bad.
use Rattle.std.specs.Prelude.{ℕ, List, [], ◌∷◌, ◌++◌, take}
use Rattle.term_forms.specs.Elements.{Element}
use Rattle.term_forms.specs.Forms.{HeapForm}
use Rattle.cell_records.specs.declared.cells.Why.{Why}
use Rattle.term_unfold.specs.declared.node.NodeKind.{NodeKind}
use Rattle.term_unfold.specs.declared.verdict.Verdict.{Verdict}
use Rattle.term_unfold.specs.declared.verdict.Verdict.TheVariants as verdicts

-- what a leaf holds: an immediate, or a cell with its address
pub data Value : Type 0 where
  Immediate : Element → Value
  OfCell : ℕ → HeapForm → Value

mutual
  -- a node of an unfolding: a leaf, an address that can't be followed, or a branch of some kind
  pub data Tree : Type 0 where
    Leaf : Value → Tree
    Bad : ℕ → Why → Tree
    Branch : NodeKind → Trees → Tree

  -- trees in a row
  pub data Trees : Type 0 where
    none : Trees
    more : Tree → Trees → Trees

-- the nodes of a tree in preorder, children from the left, each as the tree below it
abbrev mutual
  pub pre : Tree → List Tree
  pre (Branch kind children) = Branch kind children ∷ pre_all children
  pre node = node ∷ []

  -- the nodes of trees in a row
  pub pre_all : Trees → List Tree
  pre_all none = []
  pre_all (more tree trees) = pre tree ++ pre_all trees

-- the first that is bad
abbrev pub first_bad : List Tree → Verdict
first_bad [] = verdicts.Clean
first_bad (Bad address why ∷ trees) = verdicts.Bad address why
first_bad (tree ∷ trees) = first_bad trees

-- the first bad node among the first n
abbrev pub verdict : Tree → ℕ → Verdict
verdict tree n = first_bad (take n (pre tree))
