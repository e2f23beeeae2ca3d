-- Which trees are terms.
use Rattle.std.specs.Prelude.{◌≡◌, ℕ, suc}
use Rattle.term_unfold.specs.declared.node.NodeKind.TheVariants as kinds
use Rattle.term_unfold.specs.Trees.{Tree, Bad, Branch, Trees, none, more}

-- how many trees there are
abbrev pub count : Trees → ℕ
count none = 0
count (more tree trees) = suc (count trees)

abbrev mutual
  -- a tree is a term
  pub IsTerm : Tree → Type 0
  -- a head and a tail
  IsTerm (Branch kinds.Cons children) = (count children ≡ 2) × AreTerms children
  IsTerm (Branch kinds.Tuple children) = AreTerms children
  -- keys and values
  IsTerm (Branch kinds.Flat children) = AreTerms children
  IsTerm (Branch kinds.Hash children) = AreItems children
  -- an inner node and a pair occur only in a hash map
  IsTerm (Branch kind children) = ⊥
  -- a leaf or a bad address
  IsTerm tree = Unit {0}

  -- what may occur in a hash map
  pub IsItem : Tree → Type 0
  IsItem (Bad address why) = Unit {0}
  IsItem (Branch kinds.Inner children) = AreItems children
  -- a key and a value
  IsItem (Branch kinds.Pair children) = (count children ≡ 2) × AreTerms children
  -- no other node is one
  IsItem tree = ⊥

  -- each of these trees is a term
  pub AreTerms : Trees → Type 0
  AreTerms none = Unit {0}
  AreTerms (more tree trees) = IsTerm tree × AreTerms trees

  -- each of these trees may occur in a hash map
  pub AreItems : Trees → Type 0
  AreItems none = Unit {0}
  AreItems (more tree trees) = IsItem tree × AreItems trees
