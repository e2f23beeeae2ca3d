-- Processes are found one section after another.
use Rattle.std.proofs.Common.{◌≡◌, ℕ, ◌+◌, ◌≤◌, Bool, true, false, cond, List, [], ◌∷◌, ◌++◌, length, map, is_some, None, Some, sym, ◌∙◌, ap, arith, if◌then◌else◌, length-append}
use Rattle.std.specs.Prelude.{position}
use Rattle.std.specs.List.{list_any}
use Rattle.std.specs.Str.{bytes_eq}
use Rattle.std.proofs.lemmas.List.{append-nil, map-append}
use Rattle.std.proofs.lemmas.List.Sums.{length-filter, count_by-le-length}
use Rattle.dump_sections.specs.Sections.{Section}
use Rattle.process_table.specs.declared.pids.PidPlace.{PidPlace}
use Rattle.process_table.specs.declared.first_by_pid.Found.{Found}
use Rattle.process_table.specs.Records.{PlacedSection, is_process, named_place, pid_of, process_sections, first_of_each}
use Rattle.process_table.specs.Inner.Finding.{named_places, has_pid, pid_in, AreFound}
use Rattle.process_table.proofs.Positions.{some-position}
use Rattle.process_table.proofs.Firsts.{first_of_each-more, process_sections-more}
use Rattle.dump_io.specs.Laws.Lists.{list_any-map}

pub pid_in-none : (s : Section) → pid_in s ≡ None → is_process s ≡ false
pid_in-none s none = grind arith

pub pid_in-some : (s : Section) (pid : List ℕ) → pid_in s ≡ Some pid → (is_process s ≡ true) × (pid_of s ≡ pid)
pid_in-some s pid some = grind arith

-- whether a pid stands there
there-is : (pid : List ℕ) (places : List PidPlace) (firsts : List PlacedSection) → named_places places ≡ map named_place firsts
    → is_some (position (has_pid pid) places) ≡ list_any (λ (q : PlacedSection). bytes_eq pid (pid_of q.1)) firsts
there-is pid places firsts same =
    cc (some-position (has_pid pid) places, list_any-map (λ (e : List ℕ × ℕ). bytes_eq pid e.0) (λ (place : PidPlace). (place.pid.items, place.section)) places, list_any-map (λ (e : List ℕ × ℕ). bytes_eq pid e.0) named_place firsts)

module _ (found : Found) (among : List PlacedSection) (p : PlacedSection) (are : AreFound found among) where
  -- a section that is none of a process changes nothing
  pub AreFound-passed : is_process p.1 ≡ false → AreFound found (among ++ p ∷ [])
  AreFound-passed other = grind (arith, process_sections-more, append-nil)

  -- the sections of processes with one that was heard
  more : is_process p.1 ≡ true → process_sections (among ++ p ∷ []) ≡ process_sections among ++ p ∷ []
  more own = process_sections-more among p ∙ ap (λ b. process_sections among ++ cond b (p ∷ []) []) own

  count_more : is_process p.1 ≡ true → length (process_sections (among ++ p ∷ [])) ≡ length (process_sections among) + 1
  count_more own = ap length (more own) ∙ length-append (process_sections among) (p ∷ [])

  firsts_more : (b : Bool) → is_process p.1 ≡ true → is_some (position (has_pid (pid_of p.1)) found.places.items) ≡ b
      → first_of_each (process_sections (among ++ p ∷ [])) ≡ (if b then first_of_each (process_sections among) else first_of_each (process_sections among) ++ p ∷ [])
  firsts_more b own there =
      let firsts = first_of_each (process_sections among) in
      ap first_of_each (more own) ∙ first_of_each-more (process_sections among) p
      ∙ ap (λ x. if x then firsts else firsts ++ p ∷ []) (sym (there-is (pid_of p.1) found.places.items firsts are.records) ∙ there)

  -- one whose pid is there is counted
  pub AreFound-repeated : (after : Found) → is_process p.1 ≡ true → is_some (position (has_pid (pid_of p.1)) found.places.items) ≡ true
      → after.places.items ≡ found.places.items → after.repeated ≡ found.repeated + 1 → AreFound after (among ++ p ∷ [])
  AreFound-repeated after own there places repeated = record {
    records = ap named_places places ∙ are.records ∙ ap (map named_place) (sym (firsts_more true own there));
    all = omega (arith, ap length places, repeated, are.all, count_more own);
  }

  -- another one is put behind
  pub AreFound-new : (after : Found) (place : PidPlace) → is_process p.1 ≡ true → is_some (position (has_pid (pid_of p.1)) found.places.items) ≡ false
      → place.pid.items ≡ pid_of p.1 → place.section ≡ p.0 → after.places.items ≡ found.places.items ++ place ∷ [] → after.repeated ≡ found.repeated → AreFound after (among ++ p ∷ [])
  AreFound-new after place own absent is section grown repeated = record {
    records =
        ap named_places grown
        ∙ map-append (λ (q : PidPlace). (q.pid.items, q.section)) found.places.items (place ∷ [])
        ∙ ap (λ l. l ++ (place.pid.items, place.section) ∷ []) are.records
        ∙ ap (λ n. map named_place (first_of_each (process_sections among)) ++ (place.pid.items, n) ∷ []) section
        ∙ ap (λ pid. map named_place (first_of_each (process_sections among)) ++ (pid, p.0) ∷ []) is
        ∙ sym (map-append named_place (first_of_each (process_sections among)) (p ∷ []))
        ∙ ap (map named_place) (sym (firsts_more false own absent));
    all = omega (arith, ap length grown, length-append found.places.items (place ∷ []), repeated, are.all, count_more own);
  }

-- no more are repeated than there are, nor are there more processes
pub repeated-few : (found : Found) (among : List PlacedSection) → AreFound found among → found.repeated ≤ length among
repeated-few found among are = omega (arith, are.all, length-filter (λ (q : PlacedSection). is_process q.1) among, count_by-le-length (λ (q : PlacedSection). is_process q.1) among)

pub entries-few : (found : Found) (among : List PlacedSection) → AreFound found among → length found.places.items ≤ length among
entries-few found among are = omega (arith, are.all, length-filter (λ (q : PlacedSection). is_process q.1) among, count_by-le-length (λ (q : PlacedSection). is_process q.1) among)
