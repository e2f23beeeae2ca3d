-- The text within n nodes depends on the first n nodes alone.
use Rattle.std.proofs.Common.{◌≡◌, ℕ, zero, suc, Bool, true, false, List, [], ◌∷◌, ◌++◌, take, map, refl, sym, ◌∙◌, ap, subst, append_assoc, append-nil, arith}
use Rattle.std.specs.Prelude.{codes}
use Rattle.std.proofs.lemmas.List.{take-map, map-append}
use Rattle.term_forms.specs.Elements.{Nil}
use Rattle.term_unfold.specs.declared.node.NodeKind.{NodeKind}
use Rattle.term_unfold.specs.declared.node.NodeKind.TheVariants as kinds
use Rattle.term_unfold.specs.Places.{is_nil, Face, LeafFace, BadFace, BranchFace, PlacedNode, placed, placed_all, nodes_of}
use Rattle.term_unfold.specs.Terms.{count, IsTerm, IsItem, AreTerms, AreItems}
use Rattle.term_unfold.specs.Text.{Shown, shown, led, ◌then◌, Stand, Cut, At, go_on, left_at, closed, comma_text, valued, node_text, head_text, tail_text, elements_text, keys_text, values_text, items_text, item_text, pair_text, value_text, show}
use Rattle.term_unfold.specs.Trees.{Value, Immediate, Tree, Leaf, Bad, Branch, Trees, none, more}
use Rattle.term_unfold.proofs.Turning.{barred}

-- the faces of the nodes, without their places

abbrev mutual
  pub faces : (Value → List ℕ) → Tree → List Face
  faces leaf (Leaf value) = LeafFace (is_nil value) (leaf value) ∷ []
  faces leaf (Bad address why) = BadFace address why ∷ []
  faces leaf (Branch kind children) = BranchFace kind (count children) ∷ faces_all leaf children

  pub faces_all : (Value → List ℕ) → Trees → List Face
  faces_all leaf none = []
  faces_all leaf (more tree trees) = faces leaf tree ++ faces_all leaf trees

abbrev face_of : PlacedNode → Face
face_of p = p.1

mutual
  faces-placed : (leaf : Value → List ℕ) (place : List ℕ) (t : Tree) → map face_of (placed leaf place t) ≡ faces leaf t
  faces-placed leaf place (Leaf value) = refl
  faces-placed leaf place (Bad address why) = refl
  faces-placed leaf place (Branch kind children) = ap (λ l. BranchFace kind (count children) ∷ l) (faces-placed_all leaf place 0 children)

  faces-placed_all : (leaf : Value → List ℕ) (place : List ℕ) (n : ℕ) (ts : Trees) → map face_of (placed_all leaf place n ts) ≡ faces_all leaf ts
  faces-placed_all leaf place n none = refl
  faces-placed_all leaf place n (more t ts) =
      map-append face_of (placed leaf (place ++ n ∷ []) t) (placed_all leaf place (suc n) ts)
      ∙ ap (λ l. l ++ map face_of (placed_all leaf place (suc n) ts)) (faces-placed leaf (place ++ n ∷ []) t)
      ∙ ap (λ l. faces leaf t ++ l) (faces-placed_all leaf place (suc n) ts)

-- two texts are the same, and so are the faces behind them as far as the count goes that they leave

record Same (s t : Shown ℕ) (xs ys : List Face) : Type 0 where
  shown : s ≡ t
  rest : take s.left xs ≡ take s.left ys

record SameItems (s t : Shown Stand) (xs ys : List Face) : Type 0 where
  shown : s ≡ t
  rest : take (left_at s.left) xs ≡ take (left_at s.left) ys

same-led : (front : List ℕ) (s t : Shown ℕ) (xs ys : List Face) → Same s t xs ys → Same (led front s) (led front t) xs ys
same-led front s t xs ys same = record { shown = ap (led front) same.shown; rest = same.rest }

same-barred : (s t : Shown ℕ) (xs ys : List Face) → Same s t xs ys → Same (barred s) (barred t) xs ys
same-barred s t xs ys same = record { shown = ap barred same.shown; rest = same.rest }

same-then : (s t : Shown ℕ) (f g : ℕ → Shown ℕ) (vs ws xs ys : List Face) → Same s t vs ws → ((k : ℕ) → take k vs ≡ take k ws → Same (f k) (g k) xs ys)
    → Same (s then f) (t then g) xs ys
same-then s t f g vs ws xs ys first second =
    let next = second s.left first.rest in
    record {
      shown = ap (λ r. shown (s.text ++ r.text) r.left) next.shown ∙ ap (λ r. r then g) first.shown;
      rest = next.rest;
    }

same-closed : (s t : Shown Stand) (xs ys : List Face) → SameItems s t xs ys → Same (closed s) (closed t) xs ys
same-closed s t xs ys same = record { shown = ap closed same.shown; rest = same.rest }

same-go_on : (stand : Stand) (f g : Bool → ℕ → Shown Stand) (vs ws xs ys : List Face) → take (left_at stand) vs ≡ take (left_at stand) ws
    → ((came : Bool) (k : ℕ) → take k vs ≡ take k ws → SameItems (f came k) (g came k) xs ys) → SameItems (go_on f stand) (go_on g stand) xs ys
same-go_on Cut f g vs ws xs ys rest second = record { shown = refl; rest = refl }
same-go_on (At came k) f g vs ws xs ys rest second = second came k rest

same-followed : (s t : Shown Stand) (f g : Bool → ℕ → Shown Stand) (vs ws xs ys : List Face) → SameItems s t vs ws
    → ((came : Bool) (k : ℕ) → take k vs ≡ take k ws → SameItems (f came k) (g came k) xs ys) → SameItems (s then go_on f) (t then go_on g) xs ys
same-followed s t f g vs ws xs ys first second =
    let next = same-go_on s.left f g vs ws xs ys first.rest second in
    record {
      shown = ap (λ r. shown (s.text ++ r.text) r.left) next.shown ∙ ap (λ r. r then go_on g) first.shown;
      rest = next.rest;
    }

same-key : (came : Bool) (s t : Shown ℕ) (f g : ℕ → Shown Stand) (vs ws xs ys : List Face) → Same s t vs ws → ((k : ℕ) → take k vs ≡ take k ws → SameItems (f k) (g k) xs ys)
    → SameItems (led (comma_text came) (s then f)) (led (comma_text came) (t then g)) xs ys
same-key came s t f g vs ws xs ys first second =
    let next = second s.left first.rest in
    record {
      shown = ap (λ r. shown (comma_text came ++ (s.text ++ r.text)) r.left) next.shown ∙ ap (λ r. led (comma_text came) (r then g)) first.shown;
      rest = next.rest;
    }

same-valued : (s t : Shown ℕ) (xs ys : List Face) → Same s t xs ys → SameItems (valued s) (valued t) xs ys
same-valued s t xs ys same = record { shown = ap valued same.shown; rest = same.rest }

-- the premise: so many faces are the same
abbrev Agree : ℕ → List Face → List Face → Type 0
Agree n xs ys = take n xs ≡ take n ys

agree-behind : (n : ℕ) (vs ws cs ds es fs : List Face) → Agree n ((vs ++ ws) ++ cs) ((ds ++ es) ++ fs) → Agree n (vs ++ (ws ++ cs)) (ds ++ (es ++ fs))
agree-behind n vs ws cs ds es fs h = ap (take n) (sym (append_assoc vs ws cs)) ∙ h ∙ ap (take n) (append_assoc ds es fs)

-- a first face that is the same
agree-first : (n : ℕ) (x y : Face) (xs ys : List Face) → Agree (suc n) (x ∷ xs) (y ∷ ys) → (x ≡ y) × Agree n xs ys
agree-first n x y xs ys h =
    let h' : x ∷ take n xs ≡ y ∷ take n ys = h in
    let first : x ≡ y = cc in
    let rest : take n xs ≡ take n ys = cc in
    (first, rest)

branch-same : (k j : NodeKind) (m n : ℕ) → BranchFace k m ≡ BranchFace j n → (k ≡ j) × (m ≡ n)
branch-same k j m n h =
    let kind : k ≡ j = cc in
    let size : m ≡ n = cc in
    (kind, size)

leaf-same : (v w : Value) (leaf leaf' : Value → List ℕ) → LeafFace (is_nil v) (leaf v) ≡ LeafFace (is_nil w) (leaf' w) → (is_nil v ≡ is_nil w) × (leaf v ≡ leaf' w)
leaf-same v w leaf leaf' h =
    let nil : is_nil v ≡ is_nil w = cc in
    let text : leaf v ≡ leaf' w = cc in
    (nil, text)

-- two nodes with children that look the same are of one kind
at-kind : (P : NodeKind → Type 0) (n : ℕ) (k j : NodeKind) (size other : ℕ) (xs ys : List Face) → Agree (suc n) (BranchFace k size ∷ xs) (BranchFace j other ∷ ys)
    → (size ≡ other → Agree n xs ys → P k) → P j
at-kind P n k j size other xs ys h same =
    let first = agree-first n (BranchFace k size) (BranchFace j other) xs ys h in
    let kinds = branch-same k j size other first.0 in
    subst P kinds.0 (same kinds.1 first.1)

agree-only : (n : ℕ) (vs ws xs ys : List Face) → Agree n ((vs ++ []) ++ xs) ((ws ++ []) ++ ys) → Agree n (vs ++ xs) (ws ++ ys)
agree-only n vs ws xs ys h = ap (λ l. take n (l ++ xs)) (sym (append-nil vs)) ∙ h ∙ ap (λ l. take n (l ++ ys)) (append-nil ws)

-- a tail that is a leaf
same-leaf : (leaf leaf' : Value → List ℕ) (v w : Value) (m : ℕ) (xs ys : List Face) → is_nil v ≡ is_nil w → leaf v ≡ leaf' w → take m xs ≡ take m ys
    → Same (tail_text leaf (more (Leaf v) none) (suc m)) (tail_text leaf' (more (Leaf w) none) (suc m)) xs ys
same-leaf leaf leaf' (Immediate Nil) (Immediate Nil) m xs ys nil text rest = record { shown = refl; rest = rest }
same-leaf leaf leaf' (Immediate Nil) w m xs ys nil text rest = cc
same-leaf leaf leaf' v (Immediate Nil) m xs ys nil text rest = cc
same-leaf leaf leaf' v w m xs ys nil text rest = record { shown = ap (λ l. shown (codes "|" ++ (l ++ codes "]")) m) text; rest = rest }

tail-cut : (leaf : Value → List ℕ) (t : Tree) → tail_text leaf (more t none) 0 ≡ shown (codes "|...]") 0
tail-cut leaf (Leaf (Immediate Nil)) = refl
tail-cut leaf t = refl

cut-rest : (leaf : Value → List ℕ) (t : Tree) (xs ys : List Face) → take (tail_text leaf (more t none) 0).left xs ≡ take (tail_text leaf (more t none) 0).left ys
cut-rest leaf t xs ys = ap (λ (s : Shown ℕ). take s.left xs) (tail-cut leaf t) ∙ sym (ap (λ (s : Shown ℕ). take s.left ys) (tail-cut leaf t))

-- a value, where one more node is the same if one more is visited
same-value : (leaf leaf' : Value → List ℕ) (t u : Tree) (k : ℕ) (xs ys : List Face) → ((m : ℕ) → k ≡ suc m → Same (node_text leaf t m) (node_text leaf' u m) xs ys)
    → SameItems (value_text leaf (more t none) k) (value_text leaf' (more u none) k) xs ys
same-value leaf leaf' t u zero xs ys h = record { shown = refl; rest = refl }
same-value leaf leaf' t u (suc m) xs ys h = same-valued (node_text leaf t m) (node_text leaf' u m) xs ys (h m refl)

-- a tail that isn't visited
same-cut : (leaf leaf' : Value → List ℕ) (t u : Tree) (xs ys : List Face) → Same (tail_text leaf (more t none) 0) (tail_text leaf' (more u none) 0) xs ys
same-cut leaf leaf' t u xs ys = record { shown = tail-cut leaf t ∙ sym (tail-cut leaf' u); rest = cut-rest leaf t xs ys }

mutual
  same-node : (leaf leaf' : Value → List ℕ) (t u : Tree) (m : ℕ) (xs ys : List Face) → IsTerm t → IsTerm u → Agree (suc m) (faces leaf t ++ xs) (faces leaf' u ++ ys)
      → Same (node_text leaf t m) (node_text leaf' u m) xs ys
  same-node leaf leaf' (Leaf v) (Leaf w) m xs ys a b h =
      let first = agree-first m (LeafFace (is_nil v) (leaf v)) (LeafFace (is_nil w) (leaf' w)) xs ys h in
      record { shown = ap (λ l. shown l m) (leaf-same v w leaf leaf' first.0).1; rest = first.1 }
  same-node leaf leaf' (Leaf v) (Bad c why) m xs ys a b h = let no = (agree-first m (LeafFace (is_nil v) (leaf v)) (BadFace c why) xs ys h).0 in cc
  same-node leaf leaf' (Leaf v) (Branch j us) m xs ys a b h = let no = (agree-first m (LeafFace (is_nil v) (leaf v)) (BranchFace j (count us)) xs (faces_all leaf' us ++ ys) h).0 in cc
  same-node leaf leaf' (Bad c why) (Leaf w) m xs ys a b h = let no = (agree-first m (BadFace c why) (LeafFace (is_nil w) (leaf' w)) xs ys h).0 in cc
  same-node leaf leaf' (Bad c why) (Bad d reason) m xs ys a b h =
      let first = agree-first m (BadFace c why) (BadFace d reason) xs ys h in
      let is : BadFace c why ≡ BadFace d reason = first.0 in
      let same : node_text leaf (Bad c why) m ≡ node_text leaf' (Bad d reason) m = cc in
      record { shown = same; rest = first.1 }
  same-node leaf leaf' (Bad c why) (Branch j us) m xs ys a b h = let no = (agree-first m (BadFace c why) (BranchFace j (count us)) xs (faces_all leaf' us ++ ys) h).0 in cc
  same-node leaf leaf' (Branch k ts) (Leaf w) m xs ys a b h = let no = (agree-first m (BranchFace k (count ts)) (LeafFace (is_nil w) (leaf' w)) (faces_all leaf ts ++ xs) ys h).0 in cc
  same-node leaf leaf' (Branch k ts) (Bad d reason) m xs ys a b h = let no = (agree-first m (BranchFace k (count ts)) (BadFace d reason) (faces_all leaf ts ++ xs) ys h).0 in cc
  same-node leaf leaf' (Branch kinds.Cons ts) (Branch j us) m xs ys a b h =
      at-kind (λ k. IsTerm (Branch k us) → Same (node_text leaf (Branch kinds.Cons ts) m) (node_text leaf' (Branch k us) m) xs ys) m kinds.Cons j (count ts) (count us) (faces_all leaf ts ++ xs) (faces_all leaf' us ++ ys) h
      (λ size rest is. same-led (codes "[") (head_text leaf ts m) (head_text leaf' us m) xs ys (same-head leaf leaf' ts us m xs ys a is rest)) b
  same-node leaf leaf' (Branch kinds.Tuple ts) (Branch j us) m xs ys a b h =
      at-kind (λ k. IsTerm (Branch k us) → Same (node_text leaf (Branch kinds.Tuple ts) m) (node_text leaf' (Branch k us) m) xs ys) m kinds.Tuple j (count ts) (count us) (faces_all leaf ts ++ xs) (faces_all leaf' us ++ ys) h
      (λ size rest is. same-led (codes "{") (elements_text leaf false ts m) (elements_text leaf' false us m) xs ys (same-elements leaf leaf' false ts us m xs ys a is size rest)) b
  same-node leaf leaf' (Branch kinds.Flat ts) (Branch j us) m xs ys a b h =
      at-kind (λ k. IsTerm (Branch k us) → Same (node_text leaf (Branch kinds.Flat ts) m) (node_text leaf' (Branch k us) m) xs ys) m kinds.Flat j (count ts) (count us) (faces_all leaf ts ++ xs) (faces_all leaf' us ++ ys) h
      (λ size rest is. same-led (codes "#{") (keys_text leaf false ts m) (keys_text leaf' false us m) xs ys (same-keys leaf leaf' false ts us m xs ys a is size rest)) b
  same-node leaf leaf' (Branch kinds.Hash ts) (Branch j us) m xs ys a b h =
      at-kind (λ k. IsTerm (Branch k us) → Same (node_text leaf (Branch kinds.Hash ts) m) (node_text leaf' (Branch k us) m) xs ys) m kinds.Hash j (count ts) (count us) (faces_all leaf ts ++ xs) (faces_all leaf' us ++ ys) h
      (λ size rest is. same-led (codes "#{") (closed (items_text leaf false ts m)) (closed (items_text leaf' false us m)) xs ys
      (same-closed (items_text leaf false ts m) (items_text leaf' false us m) xs ys (same-items leaf leaf' false ts us m xs ys a is size rest))) b
  same-node leaf leaf' (Branch kinds.Inner ts) (Branch j us) m xs ys a b h = absurd a
  same-node leaf leaf' (Branch kinds.Pair ts) (Branch j us) m xs ys a b h = absurd a

  same-head : (leaf leaf' : Value → List ℕ) (ts us : Trees) (m : ℕ) (xs ys : List Face) → (count ts ≡ 2) × AreTerms ts → (count us ≡ 2) × AreTerms us
      → Agree m (faces_all leaf ts ++ xs) (faces_all leaf' us ++ ys) → Same (head_text leaf ts m) (head_text leaf' us m) xs ys
  same-head leaf leaf' (more t (more v none)) (more u (more w none)) zero xs ys a b h = record { shown = refl; rest = refl }
  same-head leaf leaf' (more t (more v none)) (more u (more w none)) (suc m) xs ys a b h =
      let after = faces_all leaf (more v none) in
      let other = faces_all leaf' (more w none) in
      same-then (node_text leaf t m) (node_text leaf' u m) (tail_text leaf (more v none)) (tail_text leaf' (more w none)) (after ++ xs) (other ++ ys) xs ys
      (same-node leaf leaf' t u m (after ++ xs) (other ++ ys) a.1.0 b.1.0 (agree-behind (suc m) (faces leaf t) after xs (faces leaf' u) other ys h))
      (λ k rest. same-tail leaf leaf' v w k xs ys a.1.1.0 b.1.1.0 (agree-only k (faces leaf v) (faces leaf' w) xs ys rest))
  same-head leaf leaf' ts us m xs ys a b h = absurd (omega (arith, a.0, b.0))

  same-tail : (leaf leaf' : Value → List ℕ) (t u : Tree) (m : ℕ) (xs ys : List Face) → IsTerm t → IsTerm u → Agree m (faces leaf t ++ xs) (faces leaf' u ++ ys)
      → Same (tail_text leaf (more t none) m) (tail_text leaf' (more u none) m) xs ys
  same-tail leaf leaf' t u zero xs ys a b h = same-cut leaf leaf' t u xs ys
  same-tail leaf leaf' (Leaf v) (Leaf w) (suc m) xs ys a b h =
      let first = agree-first m (LeafFace (is_nil v) (leaf v)) (LeafFace (is_nil w) (leaf' w)) xs ys h in
      let parts = leaf-same v w leaf leaf' first.0 in
      same-leaf leaf leaf' v w m xs ys parts.0 parts.1 first.1
  same-tail leaf leaf' (Leaf v) (Bad c why) (suc m) xs ys a b h = let no = (agree-first m (LeafFace (is_nil v) (leaf v)) (BadFace c why) xs ys h).0 in cc
  same-tail leaf leaf' (Leaf v) (Branch j us) (suc m) xs ys a b h = let no = (agree-first m (LeafFace (is_nil v) (leaf v)) (BranchFace j (count us)) xs (faces_all leaf' us ++ ys) h).0 in cc
  same-tail leaf leaf' (Bad c why) (Leaf w) (suc m) xs ys a b h = let no = (agree-first m (BadFace c why) (LeafFace (is_nil w) (leaf' w)) xs ys h).0 in cc
  same-tail leaf leaf' (Bad c why) (Bad d reason) (suc m) xs ys a b h =
      let first = agree-first m (BadFace c why) (BadFace d reason) xs ys h in
      let is : BadFace c why ≡ BadFace d reason = first.0 in
      let same : node_text leaf (Bad c why) m ≡ node_text leaf' (Bad d reason) m = cc in
      same-barred (node_text leaf (Bad c why) m) (node_text leaf' (Bad d reason) m) xs ys (record { shown = same; rest = first.1 })
  same-tail leaf leaf' (Bad c why) (Branch j us) (suc m) xs ys a b h = let no = (agree-first m (BadFace c why) (BranchFace j (count us)) xs (faces_all leaf' us ++ ys) h).0 in cc
  same-tail leaf leaf' (Branch k ts) (Leaf w) (suc m) xs ys a b h = let no = (agree-first m (BranchFace k (count ts)) (LeafFace (is_nil w) (leaf' w)) (faces_all leaf ts ++ xs) ys h).0 in cc
  same-tail leaf leaf' (Branch k ts) (Bad d reason) (suc m) xs ys a b h = let no = (agree-first m (BranchFace k (count ts)) (BadFace d reason) (faces_all leaf ts ++ xs) ys h).0 in cc
  same-tail leaf leaf' (Branch kinds.Cons ts) (Branch j us) (suc m) xs ys a b h =
      at-kind (λ k. IsTerm (Branch k us) → Same (tail_text leaf (more (Branch kinds.Cons ts) none) (suc m)) (tail_text leaf' (more (Branch k us) none) (suc m)) xs ys) m kinds.Cons j (count ts) (count us) (faces_all leaf ts ++ xs) (faces_all leaf' us ++ ys) h
      (λ size rest is. same-led (codes ",") (head_text leaf ts m) (head_text leaf' us m) xs ys (same-head leaf leaf' ts us m xs ys a is rest)) b
  same-tail leaf leaf' (Branch kinds.Tuple ts) (Branch j us) (suc m) xs ys a b h =
      at-kind (λ k. IsTerm (Branch k us) → Same (tail_text leaf (more (Branch kinds.Tuple ts) none) (suc m)) (tail_text leaf' (more (Branch k us) none) (suc m)) xs ys) m kinds.Tuple j (count ts) (count us) (faces_all leaf ts ++ xs) (faces_all leaf' us ++ ys) h
      (λ size rest is. same-barred (led (codes "{") (elements_text leaf false ts m)) (led (codes "{") (elements_text leaf' false us m)) xs ys
      (same-led (codes "{") (elements_text leaf false ts m) (elements_text leaf' false us m) xs ys (same-elements leaf leaf' false ts us m xs ys a is size rest))) b
  same-tail leaf leaf' (Branch kinds.Flat ts) (Branch j us) (suc m) xs ys a b h =
      at-kind (λ k. IsTerm (Branch k us) → Same (tail_text leaf (more (Branch kinds.Flat ts) none) (suc m)) (tail_text leaf' (more (Branch k us) none) (suc m)) xs ys) m kinds.Flat j (count ts) (count us) (faces_all leaf ts ++ xs) (faces_all leaf' us ++ ys) h
      (λ size rest is. same-barred (led (codes "#{") (keys_text leaf false ts m)) (led (codes "#{") (keys_text leaf' false us m)) xs ys
      (same-led (codes "#{") (keys_text leaf false ts m) (keys_text leaf' false us m) xs ys (same-keys leaf leaf' false ts us m xs ys a is size rest))) b
  same-tail leaf leaf' (Branch kinds.Hash ts) (Branch j us) (suc m) xs ys a b h =
      at-kind (λ k. IsTerm (Branch k us) → Same (tail_text leaf (more (Branch kinds.Hash ts) none) (suc m)) (tail_text leaf' (more (Branch k us) none) (suc m)) xs ys) m kinds.Hash j (count ts) (count us) (faces_all leaf ts ++ xs) (faces_all leaf' us ++ ys) h
      (λ size rest is. same-barred (led (codes "#{") (closed (items_text leaf false ts m))) (led (codes "#{") (closed (items_text leaf' false us m))) xs ys
      (same-led (codes "#{") (closed (items_text leaf false ts m)) (closed (items_text leaf' false us m)) xs ys
      (same-closed (items_text leaf false ts m) (items_text leaf' false us m) xs ys (same-items leaf leaf' false ts us m xs ys a is size rest)))) b
  same-tail leaf leaf' (Branch kinds.Inner ts) (Branch j us) (suc m) xs ys a b h = absurd a
  same-tail leaf leaf' (Branch kinds.Pair ts) (Branch j us) (suc m) xs ys a b h = absurd a

  same-elements : (leaf leaf' : Value → List ℕ) (came : Bool) (ts us : Trees) (m : ℕ) (xs ys : List Face) → AreTerms ts → AreTerms us → count ts ≡ count us
      → Agree m (faces_all leaf ts ++ xs) (faces_all leaf' us ++ ys) → Same (elements_text leaf came ts m) (elements_text leaf' came us m) xs ys
  same-elements leaf leaf' came none none m xs ys a b size h = record { shown = refl; rest = h }
  same-elements leaf leaf' came (more t ts) (more u us) zero xs ys a b size h = record { shown = refl; rest = refl }
  same-elements leaf leaf' came (more t ts) (more u us) (suc m) xs ys a b size h =
      same-led (comma_text came) (node_text leaf t m then elements_text leaf true ts) (node_text leaf' u m then elements_text leaf' true us) xs ys
      (same-then (node_text leaf t m) (node_text leaf' u m) (elements_text leaf true ts) (elements_text leaf' true us) (faces_all leaf ts ++ xs) (faces_all leaf' us ++ ys) xs ys
      (same-node leaf leaf' t u m (faces_all leaf ts ++ xs) (faces_all leaf' us ++ ys) a.0 b.0 (agree-behind (suc m) (faces leaf t) (faces_all leaf ts) xs (faces leaf' u) (faces_all leaf' us) ys h))
      (λ k rest. same-elements leaf leaf' true ts us k xs ys a.1 b.1 (omega (arith, size)) rest))
  same-elements leaf leaf' came ts us m xs ys a b size h = absurd (omega (arith, size))

  same-keys : (leaf leaf' : Value → List ℕ) (came : Bool) (ts us : Trees) (m : ℕ) (xs ys : List Face) → AreTerms ts → AreTerms us → count ts ≡ count us
      → Agree m (faces_all leaf ts ++ xs) (faces_all leaf' us ++ ys) → Same (keys_text leaf came ts m) (keys_text leaf' came us m) xs ys
  same-keys leaf leaf' came none none m xs ys a b size h = record { shown = refl; rest = h }
  same-keys leaf leaf' came (more t ts) (more u us) zero xs ys a b size h = record { shown = refl; rest = refl }
  same-keys leaf leaf' came (more t ts) (more u us) (suc m) xs ys a b size h =
      same-led (comma_text came) (node_text leaf t m then values_text leaf ts) (node_text leaf' u m then values_text leaf' us) xs ys
      (same-then (node_text leaf t m) (node_text leaf' u m) (values_text leaf ts) (values_text leaf' us) (faces_all leaf ts ++ xs) (faces_all leaf' us ++ ys) xs ys
      (same-node leaf leaf' t u m (faces_all leaf ts ++ xs) (faces_all leaf' us ++ ys) a.0 b.0 (agree-behind (suc m) (faces leaf t) (faces_all leaf ts) xs (faces leaf' u) (faces_all leaf' us) ys h))
      (λ k rest. same-values leaf leaf' ts us k xs ys a.1 b.1 (omega (arith, size)) rest))
  same-keys leaf leaf' came ts us m xs ys a b size h = absurd (omega (arith, size))

  same-values : (leaf leaf' : Value → List ℕ) (ts us : Trees) (m : ℕ) (xs ys : List Face) → AreTerms ts → AreTerms us → count ts ≡ count us
      → Agree m (faces_all leaf ts ++ xs) (faces_all leaf' us ++ ys) → Same (values_text leaf ts m) (values_text leaf' us m) xs ys
  same-values leaf leaf' none none m xs ys a b size h = record { shown = refl; rest = h }
  same-values leaf leaf' (more t ts) (more u us) zero xs ys a b size h = record { shown = refl; rest = refl }
  same-values leaf leaf' (more t ts) (more u us) (suc m) xs ys a b size h =
      same-led (codes "=>") (node_text leaf t m then keys_text leaf true ts) (node_text leaf' u m then keys_text leaf' true us) xs ys
      (same-then (node_text leaf t m) (node_text leaf' u m) (keys_text leaf true ts) (keys_text leaf' true us) (faces_all leaf ts ++ xs) (faces_all leaf' us ++ ys) xs ys
      (same-node leaf leaf' t u m (faces_all leaf ts ++ xs) (faces_all leaf' us ++ ys) a.0 b.0 (agree-behind (suc m) (faces leaf t) (faces_all leaf ts) xs (faces leaf' u) (faces_all leaf' us) ys h))
      (λ k rest. same-keys leaf leaf' true ts us k xs ys a.1 b.1 (omega (arith, size)) rest))
  same-values leaf leaf' ts us m xs ys a b size h = absurd (omega (arith, size))

  same-items : (leaf leaf' : Value → List ℕ) (came : Bool) (ts us : Trees) (m : ℕ) (xs ys : List Face) → AreItems ts → AreItems us → count ts ≡ count us
      → Agree m (faces_all leaf ts ++ xs) (faces_all leaf' us ++ ys) → SameItems (items_text leaf came ts m) (items_text leaf' came us m) xs ys
  same-items leaf leaf' came none none m xs ys a b size h = record { shown = refl; rest = h }
  same-items leaf leaf' came (more t ts) (more u us) zero xs ys a b size h = record { shown = refl; rest = refl }
  same-items leaf leaf' came (more t ts) (more u us) (suc m) xs ys a b size h =
      same-followed (item_text leaf came t m) (item_text leaf' came u m) (λ c. items_text leaf c ts) (λ c. items_text leaf' c us) (faces_all leaf ts ++ xs) (faces_all leaf' us ++ ys) xs ys
      (same-item leaf leaf' came t u m (faces_all leaf ts ++ xs) (faces_all leaf' us ++ ys) a.0 b.0 (agree-behind (suc m) (faces leaf t) (faces_all leaf ts) xs (faces leaf' u) (faces_all leaf' us) ys h))
      (λ c k rest. same-items leaf leaf' c ts us k xs ys a.1 b.1 (omega (arith, size)) rest)
  same-items leaf leaf' came ts us m xs ys a b size h = absurd (omega (arith, size))

  same-item : (leaf leaf' : Value → List ℕ) (came : Bool) (t u : Tree) (m : ℕ) (xs ys : List Face) → IsItem t → IsItem u → Agree (suc m) (faces leaf t ++ xs) (faces leaf' u ++ ys)
      → SameItems (item_text leaf came t m) (item_text leaf' came u m) xs ys
  same-item leaf leaf' came (Bad c why) (Leaf w) m xs ys a b h = absurd b
  same-item leaf leaf' came (Bad c why) (Bad d reason) m xs ys a b h =
      let first = agree-first m (BadFace c why) (BadFace d reason) xs ys h in
      let is : BadFace c why ≡ BadFace d reason = first.0 in
      let same : item_text leaf came (Bad c why) m ≡ item_text leaf' came (Bad d reason) m = cc in
      record { shown = same; rest = first.1 }
  same-item leaf leaf' came (Bad c why) (Branch j us) m xs ys a b h = let no = (agree-first m (BadFace c why) (BranchFace j (count us)) xs (faces_all leaf' us ++ ys) h).0 in cc
  same-item leaf leaf' came (Branch k ts) (Leaf w) m xs ys a b h = absurd b
  same-item leaf leaf' came (Branch k ts) (Bad d reason) m xs ys a b h = let no = (agree-first m (BranchFace k (count ts)) (BadFace d reason) (faces_all leaf ts ++ xs) ys h).0 in cc
  same-item leaf leaf' came (Branch kinds.Inner ts) (Branch j us) m xs ys a b h =
      at-kind (λ k. IsItem (Branch k us) → SameItems (item_text leaf came (Branch kinds.Inner ts) m) (item_text leaf' came (Branch k us) m) xs ys) m kinds.Inner j (count ts) (count us) (faces_all leaf ts ++ xs) (faces_all leaf' us ++ ys) h
      (λ size rest is. same-items leaf leaf' came ts us m xs ys a is size rest) b
  same-item leaf leaf' came (Branch kinds.Pair ts) (Branch j us) m xs ys a b h =
      at-kind (λ k. IsItem (Branch k us) → SameItems (item_text leaf came (Branch kinds.Pair ts) m) (item_text leaf' came (Branch k us) m) xs ys) m kinds.Pair j (count ts) (count us) (faces_all leaf ts ++ xs) (faces_all leaf' us ++ ys) h
      (λ size rest is. same-pair leaf leaf' came ts us m xs ys a is rest) b
  same-item leaf leaf' came t u m xs ys a b h = absurd a

  same-pair : (leaf leaf' : Value → List ℕ) (came : Bool) (ts us : Trees) (m : ℕ) (xs ys : List Face) → (count ts ≡ 2) × AreTerms ts → (count us ≡ 2) × AreTerms us
      → Agree m (faces_all leaf ts ++ xs) (faces_all leaf' us ++ ys) → SameItems (pair_text leaf came ts m) (pair_text leaf' came us m) xs ys
  same-pair leaf leaf' came (more t (more v none)) (more u (more w none)) zero xs ys a b h = record { shown = refl; rest = refl }
  same-pair leaf leaf' came (more t (more v none)) (more u (more w none)) (suc m) xs ys a b h =
      let after = faces_all leaf (more v none) in
      let other = faces_all leaf' (more w none) in
      same-key came (node_text leaf t m) (node_text leaf' u m) (value_text leaf (more v none)) (value_text leaf' (more w none)) (after ++ xs) (other ++ ys) xs ys
      (same-node leaf leaf' t u m (after ++ xs) (other ++ ys) a.1.0 b.1.0 (agree-behind (suc m) (faces leaf t) after xs (faces leaf' u) other ys h))
      (λ k rest. same-value leaf leaf' v w k xs ys
      (λ n is. same-node leaf leaf' v w n xs ys a.1.1.0 b.1.1.0 (subst (λ k. Agree k (faces leaf v ++ xs) (faces leaf' w ++ ys)) is (agree-only k (faces leaf v) (faces leaf' w) xs ys rest))))
  same-pair leaf leaf' came ts us m xs ys a b h = absurd (omega (arith, a.0, b.0))

-- the text within n nodes, from the faces of the first n
pub same_faces : (leaf leaf' : Value → List ℕ) (t u : Tree) (n : ℕ) → IsTerm t → IsTerm u → take n (faces leaf t) ≡ take n (faces leaf' u) → show leaf t n ≡ show leaf' u n
same_faces leaf leaf' t u zero a b h = refl
same_faces leaf leaf' t u (suc m) a b h =
    let behind : Agree (suc m) (faces leaf t ++ []) (faces leaf' u ++ [])
    = ap (take (suc m)) (append-nil (faces leaf t)) ∙ h ∙ ap (take (suc m)) (sym (append-nil (faces leaf' u))) in
    ap (λ (s : Shown ℕ). s.text) (same-node leaf leaf' t u m [] [] a b behind).shown

pub first_nodes : (leaf leaf' : Value → List ℕ) (t u : Tree) (n : ℕ) → IsTerm t → IsTerm u → take n (nodes_of leaf t) ≡ take n (nodes_of leaf' u) → show leaf t n ≡ show leaf' u n
first_nodes leaf leaf' t u n a b h =
    let no_place : List ℕ = [] in
    same_faces leaf leaf' t u n a b (
    ap (take n) (sym (faces-placed leaf no_place t)) ∙ take-map face_of n (nodes_of leaf t) ∙ ap (map face_of) h
    ∙ sym (take-map face_of n (nodes_of leaf' u)) ∙ ap (take n) (faces-placed leaf' no_place u))
