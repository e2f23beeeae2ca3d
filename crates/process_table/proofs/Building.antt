-- The process table is put together.
use Rattle.std.proofs.Common.{◌≡◌, ℕ, ◌<◌, true, List, [], ◌∷◌, length, map, Some, All, refl, sym, ◌∙◌, ap, subst, arith}
use Rattle.std.specs.Prelude.{codes}
use Rattle.std.proofs.lemmas.List.{length-map}
use Rattle.std.proofs.lemmas.List.Elements.{All-nil, All-cons, All-head, All-map, All-tail, All-weaker}
use Rattle.std.proofs.lemmas.Simd.{map-map}
use Rattle.std.proofs.lemmas.Slice.Eq.{bytes_eq-Decides}
use Rattle.dump_io.specs.Dumps.{Now, told}
use Rattle.dump_sections.specs.Index.{Contents, sections_in, IsBuiltOver}
use Rattle.dump_sections.specs.Lookups.{is_named}
use Rattle.dump_sections.specs.Sections.{Section, sections}
use Rattle.dump_sections.specs.Loading.{sections_at}
use Rattle.section_rows.specs.Rows.{Row, rows_of}
use Rattle.dump_sections.specs.Bodies.{body_of}
use Rattle.process_table.specs.declared.pids.PidPlace.{PidPlace}
pub use Rattle.process_table.specs.Laws.{sections_told}
use Rattle.process_table.specs.Records.{PlacedSection, ProcPlaces, is_process, named_place, proc_places, pid_of, records, record_sections, repeated}
use Rattle.process_table.specs.Processes.{Process, ProcessTable, process_in, process_table, IsProcessIn, AreProcessesOver}
use Rattle.process_table.specs.Inner.Finding.{named_places, IsRecordOf, sections_of as places_in}
use Rattle.process_table.specs.Inner.Joined.{all_joined, field_columns}
use Rattle.process_table.proofs.Joining.{length-named, map-all_joined}

-- the places that are kept are those of the records
pub places-records : (rs : List PlacedSection) (places : List PidPlace) → named_places places ≡ map named_place rs → places_in places ≡ map (λ (r : PlacedSection). r.0) rs
places-records rs places same =
    sym (map-map (λ (e : List ℕ × ℕ). e.1) (λ (place : PidPlace). (place.pid.items, place.section)) places)
    ∙ ap (map (λ (e : List ℕ × ℕ). e.1)) same ∙ map-map (λ (e : List ℕ × ℕ). e.1) named_place rs

-- the sections at these places are those of the records
pub sections_at-records : (index : Contents) (rs : List PlacedSection) → All (IsRecordOf index) rs → sections_at index (map (λ (r : PlacedSection). r.0) rs) ≡ map (λ (r : PlacedSection). r.1) rs
sections_at-records index [] all = refl
sections_at-records index (r ∷ rs) all = grind (arith, sections_at-records index rs (All-tail (IsRecordOf index) r rs all), All-head, All-tail)

-- and these places are within the index
pub places-within : (index : Contents) (rs : List PlacedSection) → All (IsRecordOf index) rs → All (λ place. place < length index.headers) (map (λ (r : PlacedSection). r.0) rs)
places-within index rs all =
    All-map (λ place. place < length index.headers) (λ (r : PlacedSection). r.0) rs
    (All-weaker (IsRecordOf index) (λ (r : PlacedSection). r.0 < length index.headers) (λ r is. is.place) rs all)

-- the processes of a dump whose bytes are told: places and rows are those of its records
pub all_joined-records : (bytes : List ℕ) (rs : List PlacedSection)
    → all_joined (map named_place rs) (rows_of bytes field_columns (map (λ (r : PlacedSection). r.1) rs)) ≡ map (λ (r : PlacedSection). process_in r (body_of bytes r.1)) rs
all_joined-records bytes [] = refl
all_joined-records bytes (r ∷ rs) = ap (λ processes. process_in r (body_of bytes r.1) ∷ processes) (all_joined-records bytes rs)

-- the places and the pids of processes are those of the entries
pub sections-records : (rs : List PlacedSection) (rows : List Row) → length rows ≡ length rs
    → map (λ (p : Process). p.section) (all_joined (map named_place rs) rows) ≡ map (λ (r : PlacedSection). r.0) rs
sections-records rs rows same =
    map-all_joined (λ p. p.section) (λ e. e.1) (λ entry row. refl) (map named_place rs) rows (same ∙ sym (length-map rs named_place))
    ∙ map-map (λ (e : List ℕ × ℕ). e.1) named_place rs

pub pids-records : (rs : List PlacedSection) (rows : List Row) → length rows ≡ length rs
    → map (λ (p : Process). p.pid) (all_joined (map named_place rs) rows) ≡ map (λ (r : PlacedSection). pid_of r.1) rs
pids-records rs rows same =
    map-all_joined (λ p. p.pid) (λ e. e.0) (λ entry row. refl) (map named_place rs) rows (same ∙ sym (length-map rs named_place))
    ∙ map-map (λ (e : List ℕ × ℕ). e.0) named_place rs

-- a process's section has the tag and its pid
named_own : (s : Section) → is_process s ≡ true → is_named (codes "proc") (Some (pid_of s)) s.text ≡ true
named_own s own = grind (arith, bytes_eq-Decides)

All-named : (index : Contents) (rs : List PlacedSection) (rows : List Row) → All (IsRecordOf index) rs → All (IsProcessIn index) (all_joined (map named_place rs) rows)
All-named index [] rows all = All-nil (IsProcessIn index)
All-named index (r ∷ rs) [] all = All-nil (IsProcessIn index)
All-named index (r ∷ rs) (row ∷ rows) all = grind (arith, All-named index rs rows (All-tail (IsRecordOf index) r rs all), All-head, All-cons, named_own, All-tail)

-- a table that is put together of what an index tells of its processes, and of the rows of the records
module _ (index : Contents) (found : ProcPlaces) (places : List PidPlace) (passed : ℕ) (rows : List Row)
    (same_found : found ≡ proc_places (sections_in index)) (same_places : named_places places ≡ found.places) (same_passed : passed ≡ found.repeated)
    (in_rows : map (λ (row : Row). row.at) rows ≡ map (λ (s : Section). s.at) (record_sections (sections_in index))) where
  are : named_places places ≡ map named_place (records (sections_in index))
  are = same_places ∙ ap (λ (t : ProcPlaces). t.places) same_found

  others : passed ≡ repeated (sections_in index)
  others = same_passed ∙ ap (λ (t : ProcPlaces). t.repeated) same_found

  count_of_rows : length rows ≡ length (records (sections_in index))
  count_of_rows = grind (arith, length-map)

  pub count_of_places : length rows ≡ length places
  count_of_places = count_of_rows ∙ sym (length-map (records (sections_in index)) named_place) ∙ sym (ap length are) ∙ length-named places

  named_built : All (IsRecordOf index) (records (sections_in index)) → All (IsProcessIn index) (all_joined (named_places places) rows)
  named_built all = subst (λ l. All (IsProcessIn index) (all_joined l rows)) (sym are) (All-named index (records (sections_in index)) rows all)

  pub IsOver-built : All (IsRecordOf index) (records (sections_in index))
      → AreProcessesOver index (let t : ProcessTable = record { processes = all_joined (named_places places) rows; repeated = passed } in t)
  IsOver-built all = grind (arith, are, sections-records, count_of_rows, pids-records, named_built all)

  pub built_told : (bytes : List ℕ) → sections_in index ≡ sections bytes → rows ≡ rows_of bytes field_columns (record_sections (sections_in index))
      → (let t : ProcessTable = record { processes = all_joined (named_places places) rows; repeated = passed } in t) ≡ process_table bytes
  built_told bytes same told_rows = grind (arith, are, all_joined-records)
