-- The shapes of cells, from the skeleton of the heap and the first elements of tuples.
use Rattle.std.proofs.Common.{◌≡◌, ℕ, zero, suc, ◌==◌, Bool, true, false, List, [], ◌∷◌, ◌++◌, length, map, take, Option, None, Some, refl, sym, ◌∙◌, ap, ap₂, subst, arith, append_assoc, append-nil}
use Rattle.std.specs.Prelude.{codes, flat_map, nat_lt, slice_index_or, Contains, if◌then◌else◌}
use Rattle.std.specs.Option.{option_map, option_map_or}
use Rattle.std.specs.List.Sorted.{IsStrictlyIncreasing}
use Rattle.std.proofs.lemmas.Bool.{lt-ltb}
use Rattle.std.proofs.lemmas.List.{length-map, take-map}
use Rattle.std.proofs.lemmas.List.Elements.{Contains-append_left, Contains-append_right}
use Rattle.cell_graphs.specs.Graphs.{cell_in, places_at, places_of}
use Rattle.cell_graphs.specs.Laws.HeapGraphs.{places-of}
use Rattle.heap_skeleton.specs.Kinds.{cell_kind}
use Rattle.cell_records.specs.declared.cells.Kind.{Kind}
use Rattle.dump_io.specs.Laws.Lists.{position-map}
use Rattle.heap_cells.specs.Cells.{Cell, addresses, kind_of}
use Rattle.heap_cells.specs.HeapMap.{HeapMap, form_at, number_at}
use Rattle.heap_cells.specs.Targets.{target, target_at}
use Rattle.heap_skeleton.specs.Skeletons.{SkeletonMap, is_tuple, is_tuple_kind, skeleton_of}
use Rattle.term_forms.specs.Elements.{Element, Ref}
use Rattle.term_forms.specs.Forms.{HeapForm, Tuple}
use Rattle.tuple_fronts.specs.Fronts.{form_front, front_of}
use Rattle.tuple_fronts.specs.Shapes.{comma_list, element_with, form_with, or_pid, subject_with, tag_text, tags_with, tuple_text}
use Rattle.tuple_fronts.specs.CellTexts.{comma_behind, element_text, inner_text, kind_text, subject_text, tuple_with}
use Rattle.tuple_fronts.specs.CellSets.{cell_with, place_of}
use Rattle.tuple_fronts.specs.Tuples.{TupleMap, front_at, lead_tuple, needed_at}
use Rattle.tuple_fronts.specs.Laws.CellSets.{at-place}

-- ---- texts with commas between them

-- behind the first element there is a comma
behind-some : (n : ℕ) → comma_behind (suc n) ≡ codes ","
behind-some n = ap (λ b. if b then codes "," else []) (lt-ltb 0 (suc n) (omega arith))

-- one more text
pub comma-last : (texts : List (List ℕ)) (text : List ℕ) → comma_list (texts ++ text ∷ []) ≡ comma_list texts ++ (comma_behind (length texts) ++ text)
comma-last [] text = refl
comma-last (first ∷ []) text = refl
comma-last (first ∷ second ∷ texts) text =
    let inner = comma_list (second ∷ texts) in
    let before = comma_behind (length (second ∷ texts)) in
    let after = comma_behind (length (first ∷ second ∷ texts)) in
    ap (λ l. first ++ (codes "," ++ l)) (comma-last (second ∷ texts) text)
    ∙ ap (λ l. first ++ l) (sym (append_assoc (codes ",") inner (before ++ text)))
    ∙ sym (append_assoc first (codes "," ++ inner) (before ++ text))
    ∙ ap (λ c. (first ++ (codes "," ++ inner)) ++ (c ++ text)) (behind-some (length texts) ∙ sym (behind-some (suc (length texts))))

pub tags-count : (pids : Bool) (es : List Element) → length (tags_with pids es) ≡ length es
tags-count pids [] = refl
tags-count pids (e ∷ es) = ap suc (length-map es (or_pid pids (codes "_")))

-- ---- a tuple

rest-shown : (shown : List (List ℕ)) (b : Bool) → comma_list (shown ++ (if b then codes "..." ∷ [] else [])) ≡ comma_list shown ++ (if b then comma_behind (length shown) ++ codes "..." else [])
rest-shown shown true = comma-last shown (codes "...")
rest-shown shown false = ap comma_list (append-nil shown) ∙ sym (append-nil (comma_list shown))

tuple-shown : (all shown : List (List ℕ)) (count : ℕ) → count ≡ length all → shown ≡ take 8 all → tuple_with count shown ≡ tuple_text all
tuple-shown all shown count count_is shown_is =
    let more = if nat_lt 8 (length all) then comma_behind (length (take 8 all)) ++ codes "..." else [] in
    ap₂ tuple_with count_is shown_is
    ∙ ap (λ l. codes "{" ++ l) (sym (append_assoc (comma_list (take 8 all)) more (codes "}")))
    ∙ ap (λ l. codes "{" ++ (l ++ codes "}")) (sym (rest-shown (take 8 all) (nat_lt 8 (length all))))

tags-take : (pids : Bool) (es : List Element) → tags_with pids (take 8 es) ≡ take 8 (tags_with pids es)
tags-take pids [] = refl
tags-take pids (e ∷ es) = ap (λ l. or_pid pids (tag_text e) e ∷ l) (sym (take-map (or_pid pids (codes "_")) 7 es))

-- ---- numbers in a list

pub head-contained : (n : ℕ) (xs : List ℕ) → Contains (n ∷ xs) n
head-contained n xs = (0, omega arith, refl)

pub flat-contained : (f : ℕ → List ℕ) (xs : List ℕ) (x n : ℕ) → Contains xs x → Contains (f x) n → Contains (flat_map f xs) n
flat-contained f [] x n (i, inside, is) has = absurd (omega (arith, inside))
flat-contained f (y ∷ xs) x n (zero, inside, is) has = Contains-append_left (f y) (flat_map f xs) n (subst (λ z. Contains (f z) n) (sym is) has)
flat-contained f (y ∷ xs) x n (suc i, inside, is) has = Contains-append_right (f y) (flat_map f xs) n (flat-contained f xs x n (i, omega (arith, inside), is) has)

-- ---- a cell

-- the kind of a cell of a heap
pub kind-in : (cells : List Cell) (n : ℕ) → cell_kind (map (λ (cell : Cell). option_map kind_of cell.form) cells) n ≡ option_map kind_of (form_at cells n)
kind-in [] zero = refl
kind-in [] (suc n) = refl
kind-in (cell ∷ cells) zero = refl
kind-in (cell ∷ cells) (suc n) = kind-in cells n

-- the number of the cell with an address
pub number-in : (cells : List Cell) (address : ℕ) → cell_with (addresses cells) address ≡ number_at cells address
number-in cells address = position-map (λ a. a == address) (λ (cell : Cell). cell.address) cells

module _ (pids : Bool) (heap : HeapMap) (lines : List ℕ) (t : TupleMap) (rising : IsStrictlyIncreasing t.cells) (fronts_are : t.fronts ≡ map (front_of heap.cells) t.cells) where
  abbrev cells : List Cell
  cells = heap.cells

  -- the skeleton of the heap
  abbrev s : SkeletonMap
  s = skeleton_of heap lines

  front-known : (n : ℕ) → Contains t.cells n → front_at t n ≡ form_front (form_at cells n)
  front-known n has =
      ap (λ fronts. option_map_or (λ i. slice_index_or fronts i []) (place_of t.cells n) []) fronts_are
      ∙ at-place (front_of cells) t.cells n [] rising has

  -- ---- a cell inside a message

  inner-by : (o : Option HeapForm) (front : List Element) → (is_tuple_kind (option_map kind_of o) ≡ true → front ≡ form_front o)
      → (if is_tuple_kind (option_map kind_of o) then tuple_with (length (places_of cells o)) (tags_with pids front) else kind_text (option_map kind_of o)) ≡ form_with pids o
  inner-by None front known = refl
  inner-by (Some (Tuple es)) front known =
      tuple-shown (tags_with pids es) (tags_with pids front) (length (places_of cells (Some (Tuple es))))
      (length-map es (λ e. cell_in (target cells e)) ∙ sym (tags-count pids es))
      (ap (tags_with pids) (known refl) ∙ tags-take pids es)
  inner-by (Some form) front known = refl

  -- the text of a cell inside a message, by its kind, its places and what its first elements are known to be
  abbrev inner_with : Option Kind → List (Option ℕ) → List Element → List ℕ
  inner_with kind places front = if is_tuple_kind kind then tuple_with (length places) (tags_with pids front) else kind_text kind

  -- law: with the first elements of tuples known, the text of a cell inside a message is that of its form
  pub inner-is : (n : ℕ) → (is_tuple s n ≡ true → Contains t.cells n) → inner_text pids s t n ≡ form_with pids (form_at cells n)
  inner-is n has =
      let o = form_at cells n in
      let kind_is : cell_kind s.kinds n ≡ option_map kind_of o = kind-in cells n in
      ap₂ (λ kind places. inner_with kind places (front_at t n)) kind_is (places-of cells n)
      ∙ inner-by o (front_at t n) (λ tuple. front-known n (has (ap is_tuple_kind kind_is ∙ tuple)))

  -- ---- an element of a message

  -- the cell to which an element leads
  abbrev lead : Element → Option ℕ
  lead e = cell_in (target cells e)

  reference-by : (address : ℕ) (o : Option ℕ) → ((n : ℕ) → Contains (lead_tuple s (cell_in (target_at address o))) n → Contains t.cells n)
      → option_map_or (inner_text pids s t) o (codes "missing()") ≡ option_map_or (λ n. form_with pids (form_at cells n)) o (codes "missing()")
  reference-by address None has = refl
  reference-by address (Some n) has =
      inner-is n (λ tuple. has n (subst (λ b. Contains (if b then n ∷ [] else []) n) (sym tuple) (head-contained n [])))

  -- law: so is the text of an element that of what it refers to
  pub element-is : (e : Element) → ((n : ℕ) → Contains (lead_tuple s (lead e)) n → Contains t.cells n) → element_text pids s t e ≡ element_with pids cells e
  element-is (Ref address) has =
      ap (λ o. option_map_or (inner_text pids s t) o (codes "missing()")) (number-in cells address)
      ∙ reference-by address (number_at cells address) has
  element-is e has = refl

  elements-are : (es : List Element) → ((n : ℕ) → Contains (flat_map (lead_tuple s) (map lead es)) n → Contains t.cells n) → map (element_text pids s t) es ≡ map (element_with pids cells) es
  elements-are [] has = refl
  elements-are (e ∷ es) has =
      ap₂ (λ text texts. text ∷ texts)
      (element-is e (λ n here. has n (Contains-append_left (lead_tuple s (lead e)) (flat_map (lead_tuple s) (map lead es)) n here)))
      (elements-are es (λ n there. has n (Contains-append_right (lead_tuple s (lead e)) (flat_map (lead_tuple s) (map lead es)) n there)))

  -- ---- a cell to which a message refers

  -- the tuples of which the text of a cell of this kind needs the first elements: itself, and those among its first 8 places
  abbrev needed_with : ℕ → Option Kind → List (Option ℕ) → List ℕ
  needed_with n kind places = if is_tuple_kind kind then n ∷ flat_map (lead_tuple s) (take 8 places) else []

  -- the text of a cell to which a message refers, by its kind, its places and its first elements
  abbrev subject_by_kind : Option Kind → List (Option ℕ) → List Element → List ℕ
  subject_by_kind kind places front = if is_tuple_kind kind then tuple_with (length places) (map (element_text pids s t) front) else kind_text kind

  subject-by : (n : ℕ) (o : Option HeapForm) (front : List Element) → (is_tuple_kind (option_map kind_of o) ≡ true → front ≡ form_front o)
      → ((m : ℕ) → Contains (needed_with n (option_map kind_of o) (places_of cells o)) m → Contains t.cells m)
      → subject_by_kind (option_map kind_of o) (places_of cells o) front ≡ subject_with pids cells o
  subject-by n None front known has = refl
  subject-by n (Some (Tuple es)) front known has =
      let leads : List (Option ℕ) = take 8 (map lead es) in
      tuple-shown (map (element_with pids cells) es) (map (element_text pids s t) front) (length (places_of cells (Some (Tuple es))))
      (length-map es lead ∙ sym (length-map es (element_with pids cells)))
      (ap (map (element_text pids s t)) (known refl)
      ∙ elements-are (take 8 es) (λ m there. has m
      (Contains-append_right (n ∷ []) (flat_map (lead_tuple s) leads) m
      (subst (λ l. Contains (flat_map (lead_tuple s) l) m) (sym (take-map lead 8 es)) there)))
      ∙ sym (take-map (element_with pids cells) 8 es))
  subject-by n (Some form) front known has = refl

  -- law: with the first elements of the tuples that it needs known, the text of a cell to which a message refers is that of its form
  pub subject-is : (n : ℕ) → ((m : ℕ) → Contains (needed_at s n) m → Contains t.cells m) → subject_text pids s t n ≡ subject_with pids cells (form_at cells n)
  subject-is n has =
      let o = form_at cells n in
      let kind_is : cell_kind s.kinds n ≡ option_map kind_of o = kind-in cells n in
      let places_are : places_at s.leads n ≡ places_of cells o = places-of cells n in
      ap₂ (λ kind places. subject_by_kind kind places (front_at t n)) kind_is places_are
      ∙ subject-by n o (front_at t n)
      (λ tuple. front-known n (has n (subst (λ b. Contains (if b then n ∷ flat_map (lead_tuple s) (take 8 (places_at s.leads n)) else []) n) (sym (ap is_tuple_kind kind_is ∙ tuple)) (head-contained n _))))
      (λ m there. has m (subst (λ l. Contains l m) (sym (ap₂ (needed_with n) kind_is places_are)) there))
