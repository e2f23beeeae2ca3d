-- The tuples that are looked into are cells of the heap.
use Rattle.std.proofs.Common.{◌≡◌, ℕ, zero, suc, ◌<◌, Bool, true, false, List, [], ◌∷◌, length, take, Option, None, Some, refl}
use Rattle.std.specs.Prelude.{All, flat_map, slice_get, if◌then◌else◌}
use Rattle.std.proofs.lemmas.List.Elements.{All-append, All-cons, All-head, All-nil, All-tail}
use Rattle.cell_graphs.specs.Graphs.{LeadsWithin, places_at}
use Rattle.heap_skeleton.specs.Skeletons.{SkeletonMap, is_tuple}
use Rattle.tuple_fronts.specs.Tuples.{lead_tuple, needed, needed_at, tuple_or_none}

pub if-within : (size : ℕ) (b : Bool) (n : ℕ) → n < size → All (λ m. m < size) (if b then n ∷ [] else [])
if-within size true n below = All-cons (λ m. m < size) n [] below (All-nil (λ m. m < size))
if-within size false n below = All-nil (λ m. m < size)

leads-within : (s : SkeletonMap) (size k : ℕ) (places : List (Option ℕ)) → ((i n : ℕ) → slice_get places i ≡ Some (Some n) → n < size) → All (λ n. n < size) (flat_map (lead_tuple s) (take k places))
leads-within s size zero places below = All-nil (λ n. n < size)
leads-within s size (suc k) [] below = All-nil (λ n. n < size)
leads-within s size (suc k) (None ∷ places) below = leads-within s size k places (λ i n is. below (suc i) n is)
leads-within s size (suc k) (Some n ∷ places) below =
    All-append (λ m. m < size) (tuple_or_none s n) (flat_map (lead_tuple s) (take k places))
    (if-within size (is_tuple s n) n (below 0 n refl))
    (leads-within s size k places (λ i m is. below (suc i) m is))

either-within : (size : ℕ) (b : Bool) (xs : List ℕ) → All (λ n. n < size) xs → All (λ n. n < size) (if b then xs else [])
either-within size true xs all = all
either-within size false xs all = All-nil (λ n. n < size)

pub needed-within : (s : SkeletonMap) (cells : List ℕ) → LeadsWithin s.leads → All (λ n. n < length s.leads) cells → All (λ n. n < length s.leads) (needed s cells)
needed-within s [] within all = All-nil (λ n. n < length s.leads)
needed-within s (cell ∷ cells) within all =
    let size = length s.leads in
    let leads = flat_map (lead_tuple s) (take 8 (places_at s.leads cell)) in
    All-append (λ n. n < size) (needed_at s cell) (needed s cells)
    (either-within size (is_tuple s cell) (cell ∷ leads)
    (All-cons (λ n. n < size) cell leads (All-head (λ n. n < size) cell cells all)
    (leads-within s size 8 (places_at s.leads cell) (λ i n is. within cell n (i, is)))))
    (needed-within s cells within (All-tail (λ n. n < size) cell cells all))
