-- Processes joined of places and rows.
use Rattle.std.proofs.Common.{◌≡◌, ℕ, zero, suc, ◌<◌, List, [], ◌∷◌, length, map, slice_get, get_or, Option, Some, None, All, refl, sym, ◌∙◌, ap, arith, unwrap_or, position}
use Rattle.std.specs.Str.{bytes_eq}
use Rattle.std.proofs.lemmas.List.{length-map, get_or_past}
use Rattle.std.proofs.lemmas.Simd.{map-map}
use Rattle.std.proofs.lemmas.Option.{unwrap_or-slice_get, slice_get_cases, slice_get-get_or}
use Rattle.std.proofs.lemmas.List.Elements.{All-head, All-tail, All-nil, All-cons}
use Rattle.section_rows.specs.Rows.{Kept, Row, row_at, cell_at, IsBoundedCell}
use Rattle.process_table.specs.declared.pids.PidPlace.{PidPlace}
use Rattle.process_table.specs.Processes.{Process, IsBoundedProcess, nobody, process_at}
use Rattle.process_table.specs.Inner.Finding.{named_places, has_pid}
use Rattle.process_table.specs.Inner.Joined.{joined, all_joined}
use Rattle.dump_io.specs.Laws.Lists.{position-map}

pub length-named : (places : List PidPlace) → length (named_places places) ≡ length places
length-named places = length-map places (λ (place : PidPlace). (place.pid.items, place.section))

pub length-all_joined : (entries : List (List ℕ × ℕ)) (rows : List Row) → length rows ≡ length entries → length (all_joined entries rows) ≡ length entries
length-all_joined [] rows same = refl
length-all_joined (entry ∷ entries) [] same = absurd (omega (arith, same))
length-all_joined (entry ∷ entries) (row ∷ rows) same = ap suc (length-all_joined entries rows (omega (arith, same)))

-- the process at a place
pub all_joined-at : (entries : List (List ℕ × ℕ)) (rows : List Row) (i : ℕ) (entry : List ℕ × ℕ) → length rows ≡ length entries → slice_get entries i ≡ Some entry
    → slice_get (all_joined entries rows) i ≡ Some (joined entry (row_at rows i))
all_joined-at [] rows i entry same is = cc
all_joined-at (first ∷ entries) [] i entry same is = absurd (omega (arith, same))
all_joined-at (first ∷ entries) (row ∷ rows) zero entry same is = let here : first ≡ entry = cc in ap (λ e. Some (joined e row)) here
all_joined-at (first ∷ entries) (row ∷ rows) (suc i) entry same is = all_joined-at entries rows i entry (omega (arith, same)) is

-- the process at a place is joined of the entry and the row there
pub process_at-joined : (places : List PidPlace) (rows : List Row) (i : ℕ) (entry : List ℕ × ℕ) → length rows ≡ length places → slice_get (named_places places) i ≡ Some entry
    → process_at (all_joined (named_places places) rows) i ≡ joined entry (row_at rows i)
process_at-joined places rows i entry same is =
    ap (λ o. unwrap_or o nobody) (all_joined-at (named_places places) rows i entry (same ∙ sym (length-named places)) is)

-- so that its cells are those of the row
pub process_at-row : (places : List PidPlace) (rows : List Row) (i : ℕ) → length rows ≡ length places → i < length places
    → process_at (all_joined (named_places places) rows) i ≡ joined (get_or (named_places places) i ([], 0)) (row_at rows i)
process_at-row places rows i same inside = grind (arith, process_at-joined, slice_get-get_or, length-named)

-- what the processes have of their entries
pub map-all_joined : {X : Type 0} (f : Process → X) (g : List ℕ × ℕ → X) → ((entry : List ℕ × ℕ) (row : Row) → f (joined entry row) ≡ g entry)
    → (entries : List (List ℕ × ℕ)) (rows : List Row) → length rows ≡ length entries → map f (all_joined entries rows) ≡ map g entries
map-all_joined f g own [] rows same = refl
map-all_joined f g own (entry ∷ entries) [] same = absurd (omega (arith, same))
map-all_joined f g own (entry ∷ entries) (row ∷ rows) same = cc (own entry row, map-all_joined f g own entries rows (omega (arith, same)))

-- the cell that was read
pub cell_at-read : (rows : List Row) (i c : ℕ) (cell : Option Kept) → slice_get (row_at rows i).cells c ≡ Some cell → cell_at (row_at rows i) c ≡ cell
cell_at-read rows i c cell is = ap (λ (read : Option (Option Kept)). unwrap_or read None) is

-- each cell of a bounded row is bounded, and one that isn't there too
cell_at-bounded : (row : Row) (c : ℕ) → All IsBoundedCell row.cells → IsBoundedCell (cell_at row c)
cell_at-bounded row c bounded = grind (arith, unwrap_or-slice_get, slice_get_cases, get_or_past)

joined-bounded : (entry : List ℕ × ℕ) (row : Row) → All IsBoundedCell row.cells → IsBoundedProcess (joined entry row)
joined-bounded entry row bounded = grind (arith, cell_at-bounded)

pub all_joined-bounded : (entries : List (List ℕ × ℕ)) (rows : List Row) → All (λ (row : Row). All IsBoundedCell row.cells) rows → All IsBoundedProcess (all_joined entries rows)
all_joined-bounded [] rows bounded = All-nil IsBoundedProcess
all_joined-bounded (entry ∷ entries) [] bounded = All-nil IsBoundedProcess
all_joined-bounded (entry ∷ entries) (row ∷ rows) bounded =
    let inside : Row → Type 0 = λ (r : Row). All IsBoundedCell r.cells in
    All-cons IsBoundedProcess (joined entry row) (all_joined entries rows) (joined-bounded entry row (All-head inside row rows bounded)) (all_joined-bounded entries rows (All-tail inside row rows bounded))

-- the place of a pid among the keys is that among the processes
pub place_of_pid : (pid : List ℕ) (places : List PidPlace) (rows : List Row) → length rows ≡ length places
    → position (has_pid pid) places ≡ position (λ (p : Process). bytes_eq pid p.pid) (all_joined (named_places places) rows)
place_of_pid pid places rows same =
    let test = bytes_eq pid in
    let named = named_places places in
    cc (position-map test (λ (place : PidPlace). place.pid.items) places, map-map (λ (e : List ℕ × ℕ). e.0) (λ (place : PidPlace). (place.pid.items, place.section)) places, map-all_joined (λ p. p.pid) (λ e. e.0) (λ entry row. refl) named rows (same ∙ sym (length-named places)), position-map test (λ (p : Process). p.pid) (all_joined named rows))

pub count_of : (places : List PidPlace) (rows : List Row) → length rows ≡ length places → length (all_joined (named_places places) rows) ≡ length places
count_of places rows same = length-all_joined (named_places places) rows (same ∙ sym (length-named places)) ∙ length-named places

-- a process by its cells
pub joined-cells : (entry : List ℕ × ℕ) (row : Row) (state name queue memory links young old : Option Kept)
    → cell_at row 0 ≡ state → cell_at row 1 ≡ name → cell_at row 2 ≡ queue → cell_at row 3 ≡ memory → cell_at row 4 ≡ links → cell_at row 5 ≡ young → cell_at row 6 ≡ old
    → joined entry row
    ≡ (let p : Process = record {
      section = entry.1;
      pid = entry.0;
      state = state;
      name = name;
      queue = queue;
      memory = memory;
      links = links;
      virtual_heap = young;
      old_virtual_heap = old;
    } in p)
joined-cells entry row state name queue memory links young old a b c d e f g =
    λ i. record { section = entry.1; pid = entry.0; state = a i; name = b i; queue = c i; memory = d i; links = e i; virtual_heap = f i; old_virtual_heap = g i }
