-- The shapes of parts, from the skeleton of the heap and the first elements of cells.
use Rattle.std.proofs.Common.{◌≡◌, ℕ, ◌+◌, ◌<◌, false, List, [], ◌∷◌, ◌++◌, length, map, take, Option, None, Some, refl, sym, ◌∙◌, ap, ap₂, subst, append_assoc, append-nil}
use Rattle.std.specs.Prelude.{All, codes, flat_map, slice_get, Contains}
use Rattle.std.specs.Option.{option_and_then, option_map_or}
use Rattle.std.specs.List.Sorted.{IsStrictlyIncreasing}
use Rattle.std.proofs.lemmas.List.{map-append}
use Rattle.std.proofs.lemmas.List.Concat.{flat_map-append}
use Rattle.std.proofs.lemmas.List.Elements.{All-append, All-cons, All-head, All-nil, All-tail, Contains-append_left, Contains-append_right}
use Rattle.cell_graphs.specs.Graphs.{cell_in, places_at, LeadsWithin}
use Rattle.dump_io.specs.Laws.Lists.{take-at}
use Rattle.dump_sections.specs.Index.{Contents, sections_in}
use Rattle.heap_cells.specs.Cells.{Cell}
use Rattle.heap_cells.specs.HeapMap.{HeapMap, form_at, number_at}
use Rattle.heap_cells.specs.Loading.{heap_section, literals_section}
use Rattle.heap_cells.specs.Targets.{target, target_at}
use Rattle.heap_skeleton.specs.Skeletons.{SkeletonMap, heap_in, lines_in, skeleton_for, skeleton_of}
use Rattle.term_forms.specs.Elements.{Element, Ref}
use Rattle.tuple_fronts.specs.CellTexts.{subject_text}
use Rattle.tuple_fronts.specs.Fronts.{first_of, firsts_for, front_of, fronts_for, listed}
use Rattle.tuple_fronts.specs.Laws.CellTexts.{head-contained, number-in, subject-is}
use Rattle.tuple_fronts.specs.Laws.Needed.{needed-within}
use Rattle.tuple_fronts.specs.Shapes.{cell_shape, term_shape}
use Rattle.tuple_fronts.specs.Tuples.{TupleMap, needed_at}
use Rattle.part_keys.specs.KeyPlaces.{AreKeysWithin, IsKeyWithin}
use Rattle.part_keys.specs.Keys.{key_shapes}
use Rattle.part_keys.specs.PartShapes.{part_shape, part_shapes, term_among, AreShapedWithin, IsShapedWithin}
use Rattle.part_keys.specs.declared.key_places.KeyPlace.{KeyPlace}
use Rattle.part_keys.specs.declared.shaped.ShapedPart.{ShapedPart}
use Rattle.part_keys.specs.declared.shaped.ShapedPart.TheVariants as shaped
use Rattle.part_keys.specs.Inner.KeyTexts.{all_key_cells, all_key_tuples, key_cells, key_text, lead_at, AreAmong, IsAmong}
use Rattle.part_keys.specs.Inner.PartTexts.{all_part_tuples, all_tuples, part_text, part_tuples, read_places, term_text, value_place, value_text}
use Rattle.part_keys.proofs.KeyFacts.{first-known, get-take, keys-shown, lead-is}

-- ---- what is collected, one list behind another

-- what comes of the next behind what came of those before
pub lists-next : {X : Type 0} (f : X → List ℕ) (xs : List X) (i : ℕ) (x : X) (before now after : List ℕ) → slice_get xs i ≡ Some x → now ≡ before ++ flat_map f (take i xs) → after ≡ now ++ f x
    → after ≡ before ++ flat_map f (take (i + 1) xs)
lists-next f xs i x before now after at now_is after_is =
    let last : flat_map f (take i xs) ++ f x ≡ flat_map f (take (i + 1) xs) =
    ap (λ l. flat_map f (take i xs) ++ l) (sym (append-nil (f x)))
    ∙ sym (flat_map-append f (take i xs) (x ∷ []))
    ∙ ap (flat_map f) (sym (take-at xs i x at)) in
    after_is ∙ ap (λ l. l ++ f x) now_is ∙ append_assoc before (flat_map f (take i xs)) (f x) ∙ ap (λ l. before ++ l) last

-- ---- where elements are read

-- one more part
pub places-next : (parts : List ShapedPart) (i : ℕ) (part : ShapedPart) (before now after : List KeyPlace) → slice_get parts i ≡ Some part → now ≡ before ++ map value_place (take i parts)
    → after ≡ now ++ value_place part ∷ [] → after ≡ before ++ map value_place (take (i + 1) parts)
places-next parts i part before now after at now_is after_is =
    after_is
    ∙ ap (λ l. l ++ value_place part ∷ []) now_is
    ∙ append_assoc before (map value_place (take i parts)) (value_place part ∷ [])
    ∙ ap (λ l. before ++ l) (sym (map-append value_place (take i parts) (part ∷ [])) ∙ ap (map value_place) (sym (take-at parts i part at)))

value-within : (size : ℕ) (part : ShapedPart) → IsShapedWithin size part → IsKeyWithin size (value_place part)
value-within size (shaped.Cell n) within = record { within = tt }
value-within size (shaped.Value n) within = record { within = within.within }

values-within : (size : ℕ) (parts : List ShapedPart) → AreShapedWithin size parts → AreKeysWithin size (map value_place parts)
values-within size [] within = All-nil (IsKeyWithin size)
values-within size (part ∷ parts) within =
    All-cons (IsKeyWithin size) (value_place part) (map value_place parts)
    (value-within size part (All-head (IsShapedWithin size) part parts within))
    (values-within size parts (All-tail (IsShapedWithin size) part parts within))

pub places-within : (size : ℕ) (keys : List KeyPlace) (parts : List ShapedPart) → AreKeysWithin size keys → AreShapedWithin size parts → AreKeysWithin size (read_places keys parts)
places-within size keys parts keys_in parts_in = All-append (IsKeyWithin size) keys (map value_place parts) keys_in (values-within size parts parts_in)

-- ---- the tuples that are needed

needed-one : (s : SkeletonMap) (n : ℕ) → LeadsWithin s.leads → n < length s.leads → All (λ m. m < length s.leads) (needed_at s n)
needed-one s n leads below =
    subst (All (λ m. m < length s.leads)) (append-nil (needed_at s n))
    (needed-within s (n ∷ []) leads (All-cons (λ m. m < length s.leads) n [] below (All-nil (λ m. m < length s.leads))))

led-within : (s : SkeletonMap) (o : Option (Option ℕ)) → LeadsWithin s.leads → ((n : ℕ) → o ≡ Some (Some n) → n < length s.leads)
    → All (λ m. m < length s.leads) (option_map_or (needed_at s) (option_and_then (λ lead. lead) o) [])
led-within s None leads below = All-nil (λ m. m < length s.leads)
led-within s (Some None) leads below = All-nil (λ m. m < length s.leads)
led-within s (Some (Some n)) leads below = needed-one s n leads (below n refl)

part-within : (s : SkeletonMap) (part : ShapedPart) → LeadsWithin s.leads → IsShapedWithin (length s.leads) part → All (λ m. m < length s.leads) (part_tuples s part)
part-within s (shaped.Cell n) leads within = needed-one s n leads within.within
part-within s (shaped.Value n) leads within = led-within s (slice_get (places_at s.leads n) 1) leads (λ m is. leads n m (1, is))

pub parts-within : (s : SkeletonMap) (parts : List ShapedPart) → LeadsWithin s.leads → AreShapedWithin (length s.leads) parts → All (λ m. m < length s.leads) (all_part_tuples s parts)
parts-within s [] leads within = All-nil (λ m. m < length s.leads)
parts-within s (part ∷ parts) leads within =
    All-append (λ m. m < length s.leads) (part_tuples s part) (all_part_tuples s parts)
    (part-within s part leads (All-head (IsShapedWithin (length s.leads)) part parts within))
    (parts-within s parts leads (All-tail (IsShapedWithin (length s.leads)) part parts within))

-- ---- the shapes

module _ (heap : HeapMap) (lines : List ℕ) (most : ℕ) (f t : TupleMap) (f_rising : IsStrictlyIncreasing f.cells) (f_are : f.fronts ≡ map (first_of most heap.cells) f.cells)
    (t_rising : IsStrictlyIncreasing t.cells) (t_are : t.fronts ≡ map (front_of heap.cells) t.cells) where
  abbrev cells : List Cell
  cells = heap.cells

  abbrev s : SkeletonMap
  s = skeleton_of heap lines

  abbrev lead : Element → Option ℕ
  lead e = cell_in (target cells e)

  -- what the cell needs to which a place leads
  abbrev led : Option ℕ → List ℕ
  led lead = option_map_or (needed_at s) lead []

  reference-by : (address : ℕ) (o : Option ℕ) → ((n : ℕ) → Contains (led (cell_in (target_at address o))) n → Contains t.cells n)
      → option_map_or (subject_text false s t) o (codes "missing()") ≡ option_map_or (cell_shape cells) o (codes "missing()")
  reference-by address None has = refl
  reference-by address (Some n) has = subject-is false heap lines t t_rising t_are n has

  term-is : (e : Element) → ((n : ℕ) → Contains (led (lead e)) n → Contains t.cells n) → term_text s t e ≡ term_shape cells e
  term-is (Ref address) has =
      ap (λ o. option_map_or (subject_text false s t) o (codes "missing()")) (number-in cells address)
      ∙ reference-by address (number_at cells address) has
  term-is e has = refl

  value-by : (n : ℕ) (o : Option Element) → slice_get (listed (form_at cells n)) 1 ≡ o → ((m : ℕ) → Contains (led (lead_at s n 1)) m → Contains t.cells m)
      → option_map_or (term_text s t) o (codes "?") ≡ option_map_or (term_shape cells) o (codes "?")
  value-by n None is has = refl
  value-by n (Some e) is has =
      term-is e (λ m inside. has m (subst (λ l. Contains (led l) m) (sym (lead-is heap lines most f t f_rising f_are t_rising t_are n 1 e is)) inside))

  value-is : (n : ℕ) → 1 < most → Contains f.cells n → ((m : ℕ) → Contains (led (lead_at s n 1)) m → Contains t.cells m) → value_text s f t n ≡ term_among cells (listed (form_at cells n)) 1
  value-is n among here there =
      ap (λ l. option_map_or (term_text s t) (slice_get l 1) (codes "?")) (first-known heap lines most f t f_rising f_are t_rising t_are n here)
      ∙ ap (λ o. option_map_or (term_text s t) o (codes "?")) (get-take (listed (form_at cells n)) most 1 among)
      ∙ value-by n (slice_get (listed (form_at cells n)) 1) refl there

  part-is : (part : ShapedPart) → IsAmong most (value_place part) → ((n : ℕ) → Contains (key_cells (value_place part)) n → Contains f.cells n)
      → ((n : ℕ) → Contains (part_tuples s part) n → Contains t.cells n) → part_text s f t part ≡ part_shape cells part
  part-is (shaped.Cell n) among here there = subject-is false heap lines t t_rising t_are n there
  part-is (shaped.Value n) among here there = value-is n among.first (here n (head-contained n [])) there

  pub parts-are : (parts : List ShapedPart) → AreAmong most (map value_place parts) → ((n : ℕ) → Contains (all_key_cells (map value_place parts)) n → Contains f.cells n)
      → ((n : ℕ) → Contains (all_part_tuples s parts) n → Contains t.cells n) → map (part_text s f t) parts ≡ map (part_shape cells) parts
  parts-are [] among here there = refl
  parts-are (part ∷ parts) among here there =
      let places = map value_place parts in
      ap₂ (λ a b. a ∷ b)
      (part-is part (All-head (IsAmong most) (value_place part) places among) (λ n one. here n (Contains-append_left (key_cells (value_place part)) (all_key_cells places) n one))
      (λ n one. there n (Contains-append_left (part_tuples s part) (all_part_tuples s parts) n one)))
      (parts-are parts (All-tail (IsAmong most) (value_place part) places among) (λ n one. here n (Contains-append_right (key_cells (value_place part)) (all_key_cells places) n one))
      (λ n one. there n (Contains-append_right (part_tuples s part) (all_part_tuples s parts) n one)))

-- ---- those of keys and of parts, from what was kept of the heap

-- the first elements of cells in which keys stand and of pairs, and those of the tuples that are needed
pub record AreRead (dump : List ℕ) (index : Contents) (pid : List ℕ) (keys : List KeyPlace) (parts : List ShapedPart) (s : SkeletonMap) (most : ℕ) (f t : TupleMap) : Type 0 where
  pub skeleton : s ≡ skeleton_for dump index pid
  pub among : AreAmong most (read_places keys parts)
  pub numbers : List ℕ
  pub rising : IsStrictlyIncreasing numbers
  pub all : (n : ℕ) → Contains (all_key_cells (read_places keys parts)) n → Contains numbers n
  pub cells : f.cells ≡ numbers
  pub firsts : f.fronts ≡ firsts_for most dump index pid numbers
  pub others : List ℕ
  pub others_rising : IsStrictlyIncreasing others
  pub all_others : (n : ℕ) → Contains (all_tuples s keys parts) n → Contains others n
  pub other_cells : t.cells ≡ others
  pub fronts : t.fronts ≡ fronts_for dump index pid others

among-front : (most : ℕ) (xs ys : List KeyPlace) → AreAmong most (xs ++ ys) → AreAmong most xs
among-front most [] ys among = All-nil (IsAmong most)
among-front most (x ∷ xs) ys among =
    All-cons (IsAmong most) x xs (All-head (IsAmong most) x (xs ++ ys) among) (among-front most xs ys (All-tail (IsAmong most) x (xs ++ ys) among))

among-back : (most : ℕ) (xs ys : List KeyPlace) → AreAmong most (xs ++ ys) → AreAmong most ys
among-back most [] ys among = among
among-back most (x ∷ xs) ys among = among-back most xs ys (All-tail (IsAmong most) x (xs ++ ys) among)

module _ (dump : List ℕ) (index : Contents) (pid : List ℕ) (keys : List KeyPlace) (parts : List ShapedPart) (s : SkeletonMap) (most : ℕ) (f t : TupleMap) (read : AreRead dump index pid keys parts s most f t) where
  abbrev values : List KeyPlace
  values = map value_place parts

  cells-of : (n : ℕ) → Contains (all_key_cells keys ++ all_key_cells values) n → Contains read.numbers n
  cells-of n has = read.all n (subst (λ l. Contains l n) (sym (flat_map-append key_cells keys values)) has)

  -- the shapes of keys
  pub labels-shown : (texts : List (List ℕ)) → texts ≡ map (key_text s f t) keys → texts ≡ key_shapes dump index pid keys
  labels-shown texts are =
      keys-shown dump index pid s most f t read.numbers read.others keys texts read.skeleton (among-front most keys values read.among)
      read.rising (λ n one. cells-of n (Contains-append_left (all_key_cells keys) (all_key_cells values) n one)) read.cells read.firsts
      read.others_rising (λ n one. read.all_others n (Contains-append_left (all_key_tuples s keys) (all_part_tuples s parts) n one)) read.other_cells read.fronts are

  -- the shapes of parts
  pub parts-shown : (texts : List (List ℕ)) → texts ≡ map (part_text s f t) parts → texts ≡ part_shapes dump index pid parts
  parts-shown texts are =
      let sections = sections_in index in
      let heap = heap_in dump index (heap_section pid sections) (literals_section sections) in
      let lines = lines_in dump (heap_section pid sections) (literals_section sections) in
      are
      ∙ ap (λ (k : SkeletonMap). map (part_text k f t) parts) read.skeleton
      ∙ parts-are heap lines most f t
      (subst IsStrictlyIncreasing (sym read.cells) read.rising) (read.firsts ∙ ap (map (first_of most heap.cells)) (sym read.cells))
      (subst IsStrictlyIncreasing (sym read.other_cells) read.others_rising) (read.fronts ∙ ap (map (front_of heap.cells)) (sym read.other_cells))
      parts (among-back most keys values read.among)
      (λ n one. subst (λ l. Contains l n) (sym read.cells) (cells-of n (Contains-append_right (all_key_cells keys) (all_key_cells values) n one)))
      (λ n one. subst (λ l. Contains l n) (sym read.other_cells) (read.all_others n
      (Contains-append_right (all_key_tuples s keys) (all_part_tuples s parts) n (subst (λ k. Contains (all_part_tuples k parts) n) (sym read.skeleton) one))))
