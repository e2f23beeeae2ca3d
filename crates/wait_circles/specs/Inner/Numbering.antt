-- The numbers of that for which processes wait: that of a process whose pid it is, and others behind those of the processes.
use Rattle.std.specs.Prelude.{◌≡◌, ℕ, ◌+◌, ◌<◌, List, length, Option, None, Some, option_map}
use Rattle.std.specs.Option.{option_or}
use Rattle.text_groups.specs.Numbers.{number_in}
use Rattle.wait_circles.specs.Waiters.{Waiter, process_of, target_at}
use Rattle.wait_circles.specs.Inner.Leading.{onto}

-- the number of a target, given the different targets that are no pids of processes
abbrev pub node_of : List Waiter → List (List ℕ) → List ℕ → Option ℕ
node_of ws others target = option_or (process_of ws target) (option_map (λ k. length ws + k) (number_in others target))

-- each process leads to the number of its target, and the numbers behind those of the processes lead nowhere
pub record IsNumbered (ws : List Waiter) (others : List (List ℕ)) (leads : List (Option ℕ)) : Type 0 where
  pub size : length leads ≡ length ws + length others
  pub each : (r : ℕ) (target : List ℕ) → target_at ws r ≡ Some target → (v : ℕ) × (node_of ws others target ≡ Some v) × (onto leads r ≡ Some v)
  pub none : (r : ℕ) → target_at ws r ≡ None → onto leads r ≡ None

-- this is the number of the target of a process, if it has one
abbrev pub IsLead : List Waiter → List (List ℕ) → ℕ → Option ℕ → Type 0
IsLead ws others r None = target_at ws r ≡ None
IsLead ws others r (Some v) = (target : List ℕ) × (target_at ws r ≡ Some target) × (node_of ws others target ≡ Some v)

-- these are the numbers of the targets of the first processes
pub record AreNumbered (ws : List Waiter) (others : List (List ℕ)) (leads : List (Option ℕ)) (count : ℕ) : Type 0 where
  pub size : length leads ≡ count
  pub each : (r : ℕ) → r < count → IsLead ws others r (onto leads r)
