-- Resolving the addresses of elements: first those whose cells are near, then those that are far.
use Rattle.std.specs.Prelude.{◌≡◌, ℕ, ◌+◌, ◌<◌, ◌≤◌, ◌⊎◌, Bool, true, false, List, [], ◌∷◌, ◌++◌, length, drop, map, slice_get, slice_index_or, Option, None, Some, All, Contains}
use Rattle.std.specs.Borrow.{Bor}
use Rattle.cell_records.specs.declared.cells.Kind.{Kind}
use Rattle.cell_records.specs.Order.{AreRanked}
use Rattle.heap_skeleton.specs.declared.far.Far.{Far}
use Rattle.heap_graph.specs.declared.leads.Lead.{Lead}
use Rattle.heap_graph.specs.declared.leads.Lead.TheVariants as lead
use Rattle.heap_graph.specs.declared.leads.Leads.{Leads}
use Rattle.heap_graph.specs.Leads.{mark, marks, references}
use Rattle.heap_skeleton.specs.Inner.Targets.{lead_to, resolved}

-- no element is far
abbrev pub no_far : Far
no_far = record { cells = []; binaries = [] }

-- one more element is far
abbrev pub far_with : Far → Bool → ℕ × ℕ → Far
far_with far false pair = record far { cells = far.cells ++ pair ∷ [] }
far_with far true pair = record far { binaries = far.binaries ++ pair ∷ [] }

-- the element at a place; behind the last one, one that leads nowhere
abbrev pub lead_at : List Lead → ℕ → Lead
lead_at leads i = slice_index_or leads i lead.Nowhere

-- the number kept of the element at a place
abbrev pub number_at : List ℕ → ℕ → ℕ
number_at numbers i = slice_index_or numbers i 0

-- these pairs are addresses of elements, with their places
pub record AreFar (leads : List Lead) (to_binary : Bool) (pairs : List (ℕ × ℕ)) : Type 0 where
  pub each : All (λ (pair : ℕ × ℕ). slice_get leads pair.1 ≡ Some (lead_to to_binary pair.0)) pairs

-- one of the pairs has this place
abbrev pub HasPlace : List (ℕ × ℕ) → ℕ → Type 0
HasPlace pairs place = (address : ℕ) × Contains pairs (address, place)

-- each of the first i elements is resolved or far
pub record AreNearResolved (addresses : List ℕ) (kinds : List (Option Kind)) (leads : List Lead) (i : ℕ) (numbers : List ℕ) (far : Far) : Type 0 where
  pub count : length numbers ≡ length leads
  pub cells : AreFar leads false far.cells
  pub binaries : AreFar leads true far.binaries
  pub each : (j : ℕ) → j < i → (number_at numbers j ≡ resolved addresses kinds (lead_at leads j)) ⊎ HasPlace far.cells j ⊎ HasPlace far.binaries j

-- the first i elements are resolved or far, and the marks and the addresses of the others are left
pub record IsResolving (addresses : List ℕ) (kinds : List (Option Kind)) (leads : List Lead) (i : ℕ) (numbers left : List ℕ) (far : Far) : Type 0 where
  pub near : AreNearResolved addresses kinds leads i numbers far
  pub marks_are : (j : ℕ) → i ≤ j → j < length leads → number_at numbers j ≡ mark (lead_at leads j)
  pub left_is : left ≡ references (drop i leads)

-- one more is resolved or far; there is an address if it needs one
abbrev pub ResolvesNext : List ℕ → List (Option Kind) → ℕ → List ℕ → List ℕ → Far → List ℕ → Far → Option (Bor (List ℕ)) → Type 0
ResolvesNext addresses kinds i old left far new far' (Some behind) =
    (leads : List Lead) → IsResolving addresses kinds leads i old left far → IsResolving addresses kinds leads (i + 1) new behind.now far'
ResolvesNext addresses kinds i old left far new far' None = (leads : List Lead) → IsResolving addresses kinds leads i old left far → ⊥

-- of whichever addresses these are the pairs, each element was left as it was or is resolved, and the first far ones are resolved
pub record IsSettling (addresses : List ℕ) (kinds : List (Option Kind)) (leads : List Lead) (far : List (ℕ × ℕ)) (old new : List ℕ) (n : ℕ) : Type 0 where
  pub each : (j : ℕ) → j < length leads → (number_at new j ≡ number_at old j) ⊎ (number_at new j ≡ resolved addresses kinds (lead_at leads j))
  pub over : (k : ℕ) → k < n → number_at new (slice_index_or far k (0, 0)).1 ≡ resolved addresses kinds (lead_at leads (slice_index_or far k (0, 0)).1)

abbrev pub IsFarSettled : List (ℕ × ℕ) → List (Option Kind) → Bool → List (ℕ × ℕ) → List ℕ → List ℕ → ℕ → Type 0
IsFarSettled pairs kinds to_binary far old new n =
    (addresses : List ℕ) (leads : List Lead) → AreRanked addresses pairs → AreFar leads to_binary far → length old ≡ length leads
    → IsSettling addresses kinds leads far old new n

-- these are the numbers of the cells to which elements lead
abbrev pub AreResolved : List ℕ → List (Option Kind) → Leads → List ℕ → Type 0
AreResolved addresses kinds held numbers =
    (leads : List Lead) → held.marks.items ≡ marks leads → held.references.items ≡ references leads → numbers ≡ map (resolved addresses kinds) leads
