-- The definitions at small examples, computed.
use Rattle.std.proofs.Common.{◌≡◌, ℕ, true, false, List, [], ◌∷◌, map, Some, refl}
use Rattle.std.specs.Prelude.{codes}
use Rattle.std.specs.Fmt.{digits}
use Rattle.term_forms.specs.Elements.{Element, Nil, Small, Atom, Pid, Port, Ref}
use Rattle.term_forms.specs.Forms.{HeapForm, Cons, Tuple, Float, Long, Flat, Hash, Node, RefBin}
use Rattle.heap_cells.specs.Cells.{Cell}
use Rattle.cell_records.specs.declared.cells.Why.TheVariants.{Missing, Malformed, OnPath}
use Rattle.term_unfold.specs.declared.verdict.Verdict.{Verdict}
use Rattle.term_unfold.specs.declared.verdict.Verdict.TheVariants.{Clean, Bad}
use Rattle.term_unfold.specs.Trees.{Value, Immediate, verdict}
use Rattle.binary_payloads.specs.declared.enc.Enc.TheVariants.{Hex}
use Rattle.binary_refs.specs.Previews.{entry}
use Rattle.term_unfold.specs.Leaves.{leaf_text}
use Rattle.term_unfold.specs.Text.{show}
use Rattle.term_unfold.specs.Walks.{answer}
use Rattle.term_unfold.specs.Unfolding.{unfold_by, unfolded, unfolding_of}

abbrev at : ℕ → HeapForm → Cell
at address form = record { address = address; form = Some form }

-- the number itself stands for the text of a small integer
abbrev leaf : Value → List ℕ
leaf (Immediate Nil) = codes "[]"
leaf (Immediate (Small integer)) = integer
leaf (Immediate (Atom name)) = name
leaf value = codes "?"

abbrev small : List ℕ → Element
small text = Small text

-- the text of the cell at 10 hex within a budget, with bad addresses in their places
abbrev text : List Cell → ℕ → List ℕ
text heap budget = show leaf (unfolding_of heap (Ref 16)) budget

abbrev judged : List Cell → ℕ → Verdict
judged heap budget = verdict (unfolding_of heap (Ref 16)) budget

abbrev one : Element
one = Small (codes "1")

abbrev two : Element
two = Small (codes "2")

-- a list of one element, by budgets
single : map (text (at 16 (Cons one Nil) ∷ [])) (1 ∷ 2 ∷ 3 ∷ []) ≡ codes "[...]" ∷ codes "[1|...]" ∷ codes "[1]" ∷ []
unfolding unfolded unfold_by digits
single = refl

-- a cell that is met twice is shown twice
shared : text (at 16 (Tuple (Ref 32 ∷ Ref 32 ∷ [])) ∷ at 32 (Cons one Nil) ∷ []) 10 ≡ codes "{[1],[1]}"
unfolding unfolded unfold_by digits
shared = refl

-- a list whose tail is itself
abbrev ring : List Cell
ring = at 16 (Cons one (Ref 16)) ∷ []

ring-judged : map (judged ring) (2 ∷ 3 ∷ []) ≡ Clean ∷ Bad 16 OnPath ∷ []
unfolding unfolded unfold_by
ring-judged = refl

ring-text : map (text ring) (2 ∷ 3 ∷ []) ≡ codes "[1|...]" ∷ codes "[1|!onpath:10]" ∷ []
unfolding unfolded unfold_by digits
ring-text = refl

missing : text (at 16 (Tuple (Ref 153 ∷ two ∷ [])) ∷ []) 10 ≡ codes "{!missing:99,2}"
unfolding unfolded unfold_by digits
missing = refl

-- a list that comes back to itself by its tail's tail
abbrev circle : List Cell
circle = at 16 (Cons one (Ref 32)) ∷ at 32 (Cons two (Ref 48)) ∷ at 48 (Cons (Small (codes "3")) (Ref 16)) ∷ []

circle-text : text circle 6 ≡ codes "[1,2,3|...]"
unfolding unfolded unfold_by digits
circle-text = refl

circle-judged : map (judged circle) (6 ∷ 7 ∷ []) ≡ Clean ∷ Bad 16 OnPath ∷ []
unfolding unfolded unfold_by
circle-judged = refl

-- a tail that is another term
tail : text (at 16 (Cons one two) ∷ []) 3 ≡ codes "[1|2]"
unfolding unfolded unfold_by digits
tail = refl

-- pairs of the cell after, down to an empty tuple
abbrev doubled : List Cell
doubled = at 16 (Tuple (Ref 32 ∷ Ref 32 ∷ [])) ∷ at 32 (Tuple (Ref 48 ∷ Ref 48 ∷ [])) ∷ at 48 (Tuple []) ∷ []

doubled-text : map (text doubled) (2 ∷ 3 ∷ 7 ∷ []) ≡ codes "{{...},...}" ∷ codes "{{{},...},...}" ∷ codes "{{{},{}},{{},{}}}" ∷ []
unfolding unfolded unfold_by digits
doubled-text = refl

-- a flat map of two pairs
abbrev flat : List Cell
flat = at 16 (Flat (Ref 32) (one ∷ two ∷ [])) ∷ at 32 (Tuple (Atom (codes "a") ∷ Atom (codes "b") ∷ [])) ∷ []

flat-text : map (text flat) (1 ∷ 2 ∷ 3 ∷ 4 ∷ 5 ∷ [])
    ≡ codes "#{...}" ∷ codes "#{a=>...}" ∷ codes "#{a=>1,...}" ∷ codes "#{a=>1,b=>...}" ∷ codes "#{a=>1,b=>2}" ∷ []
unfolding unfolded unfold_by digits
flat-text = refl

-- the keys of a flat map of one value: which ones are bad, and where
abbrev keyed : Element → HeapForm → Verdict
keyed keys other = judged (at 16 (Flat keys (one ∷ [])) ∷ at 32 other ∷ []) 10

keys-tuples : map (λ keys. keyed keys (Tuple (one ∷ []))) (Ref 48 ∷ one ∷ Ref 16 ∷ []) ≡ Bad 48 Missing ∷ Bad 16 Malformed ∷ Bad 16 OnPath ∷ []
unfolding unfolded unfold_by
keys-tuples = refl

-- by their count and form, and good ones with a key that leads back to the map
keys-forms : map (keyed (Ref 32)) (Tuple (one ∷ two ∷ []) ∷ Cons one Nil ∷ Tuple (Ref 16 ∷ []) ∷ []) ≡ Bad 32 Malformed ∷ Bad 32 Malformed ∷ Bad 16 OnPath ∷ []
unfolding unfolded unfold_by
keys-forms = refl

-- the keys' tuple is no ancestor of the values, nor of the keys
keys-tuple : judged (at 16 (Flat (Ref 32) (Ref 32 ∷ [])) ∷ at 32 (Tuple (Ref 32 ∷ [])) ∷ []) 10 ≡ Bad 32 OnPath
unfolding unfolded unfold_by
keys-tuple = refl

-- a flat map inside a tuple that should be its keys
keys-above : judged (at 16 (Tuple (Ref 32 ∷ [])) ∷ at 32 (Flat (Ref 16) (one ∷ [])) ∷ []) 10 ≡ Bad 16 OnPath
unfolding unfolded unfold_by
keys-above = refl

-- the keys of an empty map aren't looked at
flat-empty : text (at 16 (Flat (Ref 153) []) ∷ []) 10 ≡ codes "#{}"
unfolding unfolded unfold_by digits
flat-empty = refl

marked-key : text (at 16 (Flat (Ref 32) (two ∷ [])) ∷ at 32 (Tuple (Ref 153 ∷ [])) ∷ []) 10 ≡ codes "#{!missing:99=>2}"
unfolding unfolded unfold_by digits
marked-key = refl

marked-map : text (at 16 (Flat (Ref 32) (one ∷ two ∷ [])) ∷ at 32 (Tuple (one ∷ one ∷ one ∷ [])) ∷ []) 10 ≡ codes "!malformed:20"
unfolding unfolded unfold_by digits
marked-map = refl

-- a hash map of a pair, and of a node with a tuple of a pair
abbrev hash : List Cell
hash =
    at 16 (Hash 2 (Ref 32 ∷ Ref 48 ∷ [])) ∷ at 32 (Cons (Atom (codes "a")) one) ∷ at 48 (Node (Ref 64 ∷ []))
    ∷ at 64 (Tuple (Ref 80 ∷ [])) ∷ at 80 (Cons (Atom (codes "b")) two) ∷ []

hash-text : map (text hash) (1 ∷ 2 ∷ 3 ∷ 4 ∷ 7 ∷ 8 ∷ 9 ∷ [])
    ≡ codes "#{...}" ∷ codes "#{...}" ∷ codes "#{a=>...}" ∷ codes "#{a=>1,...}" ∷ codes "#{a=>1,...}" ∷ codes "#{a=>1,b=>...}" ∷ codes "#{a=>1,b=>2}" ∷ []
unfolding unfolded unfold_by digits
hash-text = refl

hash-empty : text (at 16 (Hash 2 (Ref 32 ∷ [])) ∷ at 32 (Node []) ∷ []) 10 ≡ codes "#{}"
unfolding unfolded unfold_by digits
hash-empty = refl

marked-item : text (at 16 (Hash 1 (one ∷ Ref 32 ∷ [])) ∷ at 32 (Cons (Atom (codes "a")) one) ∷ []) 10 ≡ codes "#{!malformed:10,a=>1}"
unfolding unfolded unfold_by digits
marked-item = refl

-- a node is no term, and an item is looked at only if a node is left for it
judged-1 : judged (at 16 (Hash 1 (one ∷ [])) ∷ []) 1 ≡ Clean
unfolding unfolded unfold_by
judged-1 = refl

node-term : judged (at 16 (Node (Ref 32 ∷ [])) ∷ []) 1 ≡ Bad 16 Malformed
unfolding unfolded unfold_by
node-term = refl

-- a child of a hash map that comes back to it, or to the child itself, and a hash map, which is no item
abbrev hashed : HeapForm → Verdict
hashed child = judged (at 16 (Hash 1 (Ref 32 ∷ [])) ∷ at 32 child ∷ []) 10

hash-children : map hashed (Node (Ref 16 ∷ []) ∷ Node (Ref 32 ∷ []) ∷ Cons (Ref 16) one ∷ Cons one (Ref 32) ∷ Hash 1 [] ∷ [])
    ≡ Bad 16 OnPath ∷ Bad 32 OnPath ∷ Bad 16 OnPath ∷ Bad 32 OnPath ∷ Bad 32 Malformed ∷ []
unfolding unfolded unfold_by
hash-children = refl

hash-itself : judged (at 16 (Hash 1 (Ref 16 ∷ [])) ∷ []) 10 ≡ Bad 16 OnPath
unfolding unfolded unfold_by
hash-itself = refl

-- the texts of leaves, and whole answers, where no bytes of a binary are known

abbrev written : List Cell → List ℕ
written heap = show (leaf_text Hex heap []) (unfolding_of heap (Ref 16)) 10

atoms : written (at 16 (Tuple (Atom (codes "ok") ∷ Atom (codes "Hello") ∷ Atom (codes "a'b") ∷ Atom [] ∷ [])) ∷ []) ≡ codes "{ok,'Hello','a\\'b',''}"
unfolding unfolded unfold_by digits
atoms = refl

numbers : written (at 16 (Tuple (Ref 32 ∷ Ref 48 ∷ [])) ∷ at 32 (Long (codes "-16#FF")) ∷ at 48 (Float (codes "1.50")) ∷ []) ≡ codes "{-16#FF,1.50}"
unfolding unfolded unfold_by digits
numbers = refl

ports : written (at 16 (Tuple (Pid (codes "<0.5.0>") ∷ Port (codes "<0.6>") ∷ [])) ∷ []) ≡ codes "{<0.5.0>,#Port<0.6>}"
unfolding unfolded unfold_by digits
ports = refl

binary : written (at 16 (RefBin 2304 0 40) ∷ []) ≡ codes "#Bin<40:?>"
unfolding unfolded unfold_by digits
binary = refl

previewed : show (leaf_text Hex (at 16 (RefBin 2304 0 2) ∷ []) (entry 0 2 (Some (104 ∷ 101 ∷ [])) ∷ [])) (unfolding_of (at 16 (RefBin 2304 0 2) ∷ []) (Ref 16)) 10 ≡ codes "#Bin<2:6865>"
unfolding unfolded unfold_by digits
previewed = refl

-- unmarked and marked
answers : map (answer Hex [] ring (Ref 16) 3) (false ∷ true ∷ []) ≡ codes "! onpath 10" ∷ codes "[1|!onpath:10]" ∷ []
unfolding unfolded unfold_by digits
answers = refl
