-- That for which processes wait, by its number.
use Rattle.std.specs.Prelude.{◌≡◌, ℕ, ◌<◌, ◌≤◌, List, length, Option, None, Some, filter_map, if◌then◌else◌, option_and_then, slice_index}
use Rattle.std.specs.List.{list_any}
use Rattle.text_groups.specs.Sorting.{most_first}
use Rattle.wait_circles.specs.Steps.{upto}
use Rattle.wait_circles.specs.declared.blocker.Blocker.{Blocker}
use Rattle.wait_circles.specs.Inner.Leading.{all_to, is_to, onto, tokens}

-- the number to which a process leads, if none before it leads there
abbrev pub node_blocker : List (Option ℕ) → ℕ → Option Blocker
node_blocker leads r =
    option_and_then (λ v. if list_any (λ q. is_to v (onto leads q)) (upto r) then None
    else Some (record { first = r; all = all_to leads v; direct = tokens leads v })) (onto leads r)

-- the numbers to which these processes lead, that to which most come first
abbrev pub node_blockers : List (Option ℕ) → ℕ → List Blocker
node_blockers leads count = most_first (λ blocker. blocker.all) (filter_map (node_blocker leads) (upto count))

-- of each number how many come to it
pub record CountsAll (leads : List (Option ℕ)) (counts : List ℕ) : Type 0 where
  pub size : length leads ≤ length counts
  pub each : (v : ℕ) → v < length leads → slice_index counts v ≡ all_to leads v

-- of each number how many lead to it, but of those to which the first processes lead none
pub record AreLeft (leads : List (Option ℕ)) (counts : List ℕ) (first : ℕ) : Type 0 where
  pub size : length counts ≡ length leads
  pub each : (v : ℕ) → v < length leads
      → slice_index counts v ≡ (if list_any (λ q. is_to v (onto leads q)) (upto first) then 0 else tokens leads v)
