-- The text of a tree, over the nodes that a count allows.
use Rattle.std.specs.Prelude.{ℕ, zero, suc, Bool, true, false, List, [], ◌++◌, codes, if◌then◌else◌}
use Rattle.std.specs.Fmt.{digits}
use Rattle.term_forms.specs.Elements.{Nil}
use Rattle.cell_records.specs.declared.cells.Why.{Why}
use Rattle.cell_records.specs.declared.cells.Why.TheVariants.{Missing, Malformed, OnPath}
use Rattle.term_unfold.specs.declared.node.NodeKind.TheVariants as kinds
use Rattle.term_unfold.specs.Trees.{Value, Immediate, Tree, Leaf, Bad, Branch, Trees, none, more}

-- a text, and what it leaves: the count of nodes that remains, or where the items of a hash map stand
pub record Shown (A : Type 0) : Type 0 where
  pub text : List ℕ
  pub left : A

-- the two as one value
abbrev pub shown : {A : Type 0} → List ℕ → A → Shown A
shown text left = record { text = text; left = left }

-- a text before another
abbrev pub led : {A : Type 0} → List ℕ → Shown A → Shown A
led front last = record { text = front ++ last.text; left = last.left }

infixl 10 ◌then◌
-- a text, followed by one that begins with what the first leaves
abbrev pub ◌then◌ : {A B : Type 0} → Shown A → (A → Shown B) → Shown B
first then second = record { text = first.text ++ (second first.left).text; left = (second first.left).left }

-- Where the text of a hash map's items stands: either `...` stood for all that is left of
-- the map, or the text goes on with the count that remains, after an item's text or none.
pub data Stand : Type 0 where
  Cut : Stand
  At : Bool → ℕ → Stand

-- the items that come after others; nothing is written after a cut
abbrev pub go_on : (Bool → ℕ → Shown Stand) → Stand → Shown Stand
go_on second Cut = shown [] Cut
go_on second (At came m) = second came m

-- how many nodes may still be visited
abbrev pub left_at : Stand → ℕ
left_at Cut = 0
left_at (At came m) = m

-- all items of a hash map, and its `}`
abbrev pub closed : Shown Stand → Shown ℕ
closed inside = shown (inside.text ++ codes "}") (left_at inside.left)

-- the comma after a text
abbrev pub comma_text : Bool → List ℕ
comma_text came = if came then codes "," else []

-- `...` stands for all that is left of a hash map
abbrev pub cut_map : Bool → Shown Stand
cut_map came = shown (comma_text came ++ codes "...") Cut

-- a value after its key, in a hash map
abbrev pub valued : Shown ℕ → Shown Stand
valued value = shown (codes "=>" ++ value.text) (At true value.left)

-- why an address is bad, in a word
abbrev pub reason : Why → List ℕ
reason Missing = codes "missing"
reason Malformed = codes "malformed"
reason OnPath = codes "onpath"

-- a bad address in its place: why it is bad, and the address in upper-case hex
abbrev pub bad_text : ℕ → Why → List ℕ
bad_text address why = codes "!" ++ (reason why ++ (codes ":" ++ digits 16 true address))

-- `leaf` gives the texts of leaves. Each function takes the count that
-- remains; visiting a node takes one, and happens only if one remains.
abbrev mutual
  -- a node that is visited, with the count that remains after the visit
  pub node_text : (Value → List ℕ) → Tree → ℕ → Shown ℕ
  node_text leaf (Leaf value) m = shown (leaf value) m
  node_text leaf (Bad address why) m = shown (bad_text address why) m
  node_text leaf (Branch kinds.Cons children) m = led (codes "[") (head_text leaf children m)
  node_text leaf (Branch kinds.Tuple children) m = led (codes "{") (elements_text leaf false children m)
  node_text leaf (Branch kinds.Flat children) m = led (codes "#{") (keys_text leaf false children m)
  node_text leaf (Branch kinds.Hash children) m = led (codes "#{") (closed (items_text leaf false children m))
  -- an inner node and a pair are no terms: they occur only in a hash map
  node_text leaf (Branch kind children) m = shown [] m

  -- a list from its head on; each cons cell has a head and a tail
  pub head_text : (Value → List ℕ) → Trees → ℕ → Shown ℕ
  head_text leaf none m = shown [] m
  head_text leaf (more head rest) zero = shown (codes "...]") 0
  head_text leaf (more head rest) (suc m) = node_text leaf head m then tail_text leaf rest

  -- a list from its tail on
  pub tail_text : (Value → List ℕ) → Trees → ℕ → Shown ℕ
  tail_text leaf none m = shown [] m
  tail_text leaf (more tail rest) zero = shown (codes "|...]") 0
  tail_text leaf (more (Leaf (Immediate Nil)) rest) (suc m) = shown (codes "]") m
  tail_text leaf (more (Branch kinds.Cons children) rest) (suc m) = led (codes ",") (head_text leaf children m)
  -- a tail that is neither the end of the list nor a list
  tail_text leaf (more tail rest) (suc m) = led (codes "|") (node_text leaf tail m then shown (codes "]"))

  -- the elements of a tuple from one of them on, after some or none
  pub elements_text : (Value → List ℕ) → Bool → Trees → ℕ → Shown ℕ
  elements_text leaf came none m = shown (codes "}") m
  elements_text leaf came (more element rest) zero = shown (comma_text came ++ codes "...}") 0
  elements_text leaf came (more element rest) (suc m) = led (comma_text came) (node_text leaf element m then elements_text leaf true rest)

  -- the pairs of a flat map from a key on, after some or none
  pub keys_text : (Value → List ℕ) → Bool → Trees → ℕ → Shown ℕ
  keys_text leaf came none m = shown (codes "}") m
  keys_text leaf came (more key rest) zero = shown (comma_text came ++ codes "...}") 0
  keys_text leaf came (more key rest) (suc m) = led (comma_text came) (node_text leaf key m then values_text leaf rest)

  -- the pairs of a flat map from a value on
  pub values_text : (Value → List ℕ) → Trees → ℕ → Shown ℕ
  values_text leaf none m = shown (codes "}") m
  values_text leaf (more value rest) zero = shown (codes "=>...}") 0
  values_text leaf (more value rest) (suc m) = led (codes "=>") (node_text leaf value m then keys_text leaf true rest)

  -- the items of a hash map from one of them on, after an item's text or none
  pub items_text : (Value → List ℕ) → Bool → Trees → ℕ → Shown Stand
  items_text leaf came none m = shown [] (At came m)
  items_text leaf came (more item rest) zero = cut_map came
  items_text leaf came (more item rest) (suc m) = item_text leaf came item m then go_on (λ c. items_text leaf c rest)

  -- an item that is visited; the children of an inner node take its place
  pub item_text : (Value → List ℕ) → Bool → Tree → ℕ → Shown Stand
  item_text leaf came (Branch kinds.Pair children) m = pair_text leaf came children m
  item_text leaf came (Branch kinds.Inner children) m = items_text leaf came children m
  item_text leaf came (Bad address why) m = shown (comma_text came ++ bad_text address why) (At true m)
  -- no other node is an item
  item_text leaf came item m = shown [] (At came m)

  -- a pair of a hash map from its key on
  pub pair_text : (Value → List ℕ) → Bool → Trees → ℕ → Shown Stand
  pair_text leaf came none m = shown [] (At true m)
  pair_text leaf came (more key rest) zero = cut_map came
  pair_text leaf came (more key rest) (suc m) = led (comma_text came) (node_text leaf key m then value_text leaf rest)

  -- a pair of a hash map from its value on
  pub value_text : (Value → List ℕ) → Trees → ℕ → Shown Stand
  value_text leaf none m = shown [] (At true m)
  value_text leaf (more value rest) zero = shown (codes "=>...") Cut
  value_text leaf (more value rest) (suc m) = valued (node_text leaf value m)

-- the text over the first n nodes
abbrev pub show : (Value → List ℕ) → Tree → ℕ → List ℕ
show leaf tree zero = []
show leaf tree (suc m) = (node_text leaf tree m).text
