-- The shapes of keys, from the skeleton of the heap and the first elements of cells.
use Rattle.std.proofs.Common.{◌≡◌, ℕ, zero, suc, ◌+◌, ◌<◌, ◌≤◌, false, List, [], ◌∷◌, length, map, take, Option, None, Some, refl, sym, ◌∙◌, ap, ap₂, subst, arith}
use Rattle.std.specs.Prelude.{All, codes, slice_get, slice_index_or, Contains}
use Rattle.std.specs.Option.{option_and_then, option_map, option_map_or}
use Rattle.std.specs.List.Sorted.{IsStrictlyIncreasing}
use Rattle.std.proofs.lemmas.List.Elements.{All-append, All-cons, All-head, All-nil, All-push, All-tail, Contains-append_left, Contains-append_right}
use Rattle.std.proofs.lemmas.Option.{none-some, slice_get-get_or, slice_get-map}
use Rattle.cell_graphs.specs.Graphs.{cell_in, places_at, places_of, LeadsWithin}
use Rattle.cell_graphs.specs.Laws.HeapGraphs.{places-of}
use Rattle.dump_io.specs.Laws.Lists.{take-at}
use Rattle.dump_sections.specs.Index.{Contents, sections_in}
use Rattle.heap_cells.specs.Cells.{Cell}
use Rattle.heap_cells.specs.HeapMap.{HeapMap, form_at}
use Rattle.heap_cells.specs.Loading.{heap_section, literals_section}
use Rattle.heap_cells.specs.Targets.{target}
use Rattle.heap_skeleton.specs.Skeletons.{SkeletonMap, heap_in, is_tuple, lines_in, skeleton_for, skeleton_of}
use Rattle.term_forms.specs.Elements.{Element}
use Rattle.term_forms.specs.Forms.{HeapForm, Cons, Tuple}
use Rattle.tuple_fronts.specs.CellSets.{place_of}
use Rattle.tuple_fronts.specs.Fronts.{first_of, firsts_for, front_of, fronts_for, listed}
use Rattle.part_keys.specs.KeyPlaces.{AreKeysWithin, IsIn, IsKeyWithin}
use Rattle.part_keys.specs.Keys.{key_shapes, place_shape}
use Rattle.tuple_fronts.specs.Laws.CellSets.{at-place}
use Rattle.tuple_fronts.specs.Shapes.{element_shape}
use Rattle.part_keys.specs.declared.key_places.KeyPlace.{KeyPlace}
use Rattle.part_keys.specs.declared.key_places.KeyPlace.TheVariants as place
use Rattle.tuple_fronts.specs.CellTexts.{element_text}
use Rattle.part_keys.specs.Inner.KeyTexts.{all_key_cells, all_key_tuples, key_cells, key_text, key_tuples, lead_at, AreAmong, IsAmong}
use Rattle.tuple_fronts.specs.Tuples.{TupleMap, front_at, lead_tuple}
use Rattle.tuple_fronts.specs.Laws.Needed.{if-within}
use Rattle.tuple_fronts.specs.Laws.CellTexts.{element-is, head-contained}

-- ---- the cells of keys

cell-within : (size : ℕ) (key : KeyPlace) → IsIn size key → All (λ n. n < size) (key_cells key)
cell-within size (place.At cell i) below = All-cons (λ n. n < size) cell [] below (All-nil (λ n. n < size))
cell-within size place.NoKey below = All-nil (λ n. n < size)
cell-within size place.Unknown below = All-nil (λ n. n < size)

pub cells-within : (size : ℕ) (keys : List KeyPlace) → AreKeysWithin size keys → All (λ n. n < size) (all_key_cells keys)
cells-within size [] within = All-nil (λ n. n < size)
cells-within size (key ∷ keys) within =
    All-append (λ n. n < size) (key_cells key) (all_key_cells keys)
    (cell-within size key (All-head (IsKeyWithin size) key keys within).within)
    (cells-within size keys (All-tail (IsKeyWithin size) key keys within))

-- ---- the tuples to which they refer

lead-within : (s : SkeletonMap) (o : Option (Option ℕ)) → ((n : ℕ) → o ≡ Some (Some n) → n < length s.leads) → All (λ n. n < length s.leads) (lead_tuple s (option_and_then (λ lead. lead) o))
lead-within s None below = All-nil (λ n. n < length s.leads)
lead-within s (Some None) below = All-nil (λ n. n < length s.leads)
lead-within s (Some (Some n)) below = if-within (length s.leads) (is_tuple s n) n (below n refl)

pub tuples-within : (s : SkeletonMap) (keys : List KeyPlace) → LeadsWithin s.leads → All (λ n. n < length s.leads) (all_key_tuples s keys)
tuples-within s [] within = All-nil (λ n. n < length s.leads)
tuples-within s (place.At cell i ∷ keys) within =
    All-append (λ n. n < length s.leads) (lead_tuple s (lead_at s cell i)) (all_key_tuples s keys)
    (lead-within s (slice_get (places_at s.leads cell) i) (λ n is. within cell n (i, is))) (tuples-within s keys within)
tuples-within s (place.NoKey ∷ keys) within = tuples-within s keys within
tuples-within s (place.Unknown ∷ keys) within = tuples-within s keys within

-- ---- how many elements are looked at

among-more : (most more : ℕ) (key : KeyPlace) → most ≤ more → IsAmong most key → IsAmong more key
among-more most more (place.At cell i) less among = let first = among.first in record { first = omega (arith, less, first) }
among-more most more place.NoKey less among = record { first = tt }
among-more most more place.Unknown less among = record { first = tt }

all-among-more : (most more : ℕ) (keys : List KeyPlace) → most ≤ more → AreAmong most keys → AreAmong more keys
all-among-more most more [] less among = All-nil (IsAmong more)
all-among-more most more (key ∷ keys) less among =
    All-cons (IsAmong more) key keys (among-more most more key less (All-head (IsAmong most) key keys among))
    (all-among-more most more keys less (All-tail (IsAmong most) key keys among))

-- one more key
pub among-next : (most more : ℕ) (keys : List KeyPlace) (i : ℕ) (past : KeyPlace) → i < length keys → most ≤ more → AreAmong most (take i keys) → IsAmong more (slice_index_or keys i past)
    → AreAmong more (take (i + 1) keys)
among-next most more keys i past inside less before here =
    let key = slice_index_or keys i past in
    subst (AreAmong more) (sym (take-at keys i key (slice_get-get_or keys i past inside)))
    (All-push (IsAmong more) (take i keys) key (all-among-more most more (take i keys) less before) here)

-- ---- the shapes

-- an element behind which a list is cut
pub get-take : {X : Type 0} (xs : List X) (n i : ℕ) → i < n → slice_get (take n xs) i ≡ slice_get xs i
get-take [] zero i less = refl
get-take [] (suc n) i less = refl
get-take (x ∷ xs) zero i less = absurd (omega (arith, less))
get-take (x ∷ xs) (suc n) zero less = refl
get-take (x ∷ xs) (suc n) (suc i) less = get-take xs n i (omega (arith, less))

module _ (heap : HeapMap) (lines : List ℕ) (most : ℕ) (f t : TupleMap) (f_rising : IsStrictlyIncreasing f.cells) (f_are : f.fronts ≡ map (first_of most heap.cells) f.cells)
    (t_rising : IsStrictlyIncreasing t.cells) (t_are : t.fronts ≡ map (front_of heap.cells) t.cells) where
  abbrev cells : List Cell
  cells = heap.cells

  abbrev s : SkeletonMap
  s = skeleton_of heap lines

  pub first-known : (n : ℕ) → Contains f.cells n → front_at f n ≡ first_of most cells n
  first-known n has =
      ap (λ fronts. option_map_or (λ i. slice_index_or fronts i []) (place_of f.cells n) []) f_are
      ∙ at-place (first_of most cells) f.cells n [] f_rising has

  abbrev lead : Element → Option ℕ
  lead e = cell_in (target cells e)

  listed-lead : (o : Option HeapForm) (i : ℕ) (e : Element) → slice_get (listed o) i ≡ Some e → slice_get (places_of cells o) i ≡ Some (lead e)
  listed-lead None i e is = absurd (none-some e is)
  listed-lead (Some (Tuple es)) i e is = slice_get-map lead es i ∙ ap (option_map lead) is
  listed-lead (Some (Cons head tail)) i e is = slice_get-map lead (head ∷ tail ∷ []) i ∙ ap (option_map lead) is
  listed-lead (Some form) i e is = absurd (none-some e is)

  pub lead-is : (cell i : ℕ) (e : Element) → slice_get (listed (form_at cells cell)) i ≡ Some e → lead_at s cell i ≡ lead e
  lead-is cell i e is =
      ap (λ l. option_and_then (λ lead. lead) (slice_get l i)) (places-of cells cell)
      ∙ ap (option_and_then (λ lead. lead)) (listed-lead (form_at cells cell) i e is)

  key-by : (cell i : ℕ) (o : Option Element) → slice_get (listed (form_at cells cell)) i ≡ o → ((n : ℕ) → Contains (lead_tuple s (lead_at s cell i)) n → Contains t.cells n)
      → option_map_or (element_text false s t) o (codes "?") ≡ option_map_or (element_shape cells) o (codes "?")
  key-by cell i None is has = refl
  key-by cell i (Some e) is has = element-is false heap lines t t_rising t_are e (λ n inside. has n (subst (λ l. Contains (lead_tuple s l) n) (sym (lead-is cell i e is)) inside))

  key-is : (key : KeyPlace) → IsAmong most key → ((n : ℕ) → Contains (key_cells key) n → Contains f.cells n) → ((n : ℕ) → Contains (key_tuples s key) n → Contains t.cells n)
      → key_text s f t key ≡ place_shape cells key
  key-is place.NoKey among here there = refl
  key-is place.Unknown among here there = refl
  key-is (place.At cell i) among here there =
      ap (λ l. option_map_or (element_text false s t) (slice_get l i) (codes "?")) (first-known cell (here cell (head-contained cell [])))
      ∙ ap (λ o. option_map_or (element_text false s t) o (codes "?")) (get-take (listed (form_at cells cell)) most i among.first)
      ∙ key-by cell i (slice_get (listed (form_at cells cell)) i) refl there

  keys-are : (keys : List KeyPlace) → AreAmong most keys → ((n : ℕ) → Contains (all_key_cells keys) n → Contains f.cells n) → ((n : ℕ) → Contains (all_key_tuples s keys) n → Contains t.cells n)
      → map (key_text s f t) keys ≡ map (place_shape cells) keys
  keys-are [] among here there = refl
  keys-are (key ∷ keys) among here there =
      ap₂ (λ a b. a ∷ b)
      (key-is key (All-head (IsAmong most) key keys among) (λ n one. here n (Contains-append_left (key_cells key) (all_key_cells keys) n one))
      (λ n one. there n (Contains-append_left (key_tuples s key) (all_key_tuples s keys) n one)))
      (keys-are keys (All-tail (IsAmong most) key keys among) (λ n one. here n (Contains-append_right (key_cells key) (all_key_cells keys) n one))
      (λ n one. there n (Contains-append_right (key_tuples s key) (all_key_tuples s keys) n one)))

-- the shapes of keys, from what was kept of the heap
pub keys-shown : (dump : List ℕ) (index : Contents) (pid : List ℕ) (s : SkeletonMap) (most : ℕ) (f t : TupleMap) (numbers others : List ℕ) (keys : List KeyPlace) (texts : List (List ℕ))
    → s ≡ skeleton_for dump index pid → AreAmong most keys
    → IsStrictlyIncreasing numbers → ((n : ℕ) → Contains (all_key_cells keys) n → Contains numbers n) → f.cells ≡ numbers → f.fronts ≡ firsts_for most dump index pid numbers
    → IsStrictlyIncreasing others → ((n : ℕ) → Contains (all_key_tuples s keys) n → Contains others n) → t.cells ≡ others → t.fronts ≡ fronts_for dump index pid others
    → texts ≡ map (key_text s f t) keys → texts ≡ key_shapes dump index pid keys
keys-shown dump index pid s most f t numbers others keys texts s_is among rising here f_cells f_fronts t_rising there t_cells t_fronts texts_are =
    let sections = sections_in index in
    let heap = heap_in dump index (heap_section pid sections) (literals_section sections) in
    let lines = lines_in dump (heap_section pid sections) (literals_section sections) in
    texts_are
    ∙ ap (λ (k : SkeletonMap). map (key_text k f t) keys) s_is
    ∙ keys-are heap lines most f t (subst IsStrictlyIncreasing (sym f_cells) rising) (f_fronts ∙ ap (map (first_of most heap.cells)) (sym f_cells))
    (subst IsStrictlyIncreasing (sym t_cells) t_rising) (t_fronts ∙ ap (map (front_of heap.cells)) (sym t_cells))
    keys among (λ n one. subst (λ l. Contains l n) (sym f_cells) (here n one))
    (λ n one. subst (λ l. Contains l n) (sym t_cells) (there n (subst (λ k. Contains (all_key_tuples k keys) n) (sym s_is) one)))
