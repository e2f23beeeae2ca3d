-- Processes that wait for one another. Each is known by its place among them, from 0.
use Rattle.std.specs.Prelude.{◌≡◌, ℕ, ◌<◌, Bool, false, List, [], length, Option, None, Some, slice_index_or, position, bytes_eq, option_and_then}
use Rattle.std.specs.Option.{option_map_or}

-- a process: its pid, and that for which it waits, if it waits
pub record Waiter : Type 0 where
  pub pid : List ℕ
  pub target : Option (List ℕ)

-- the process at a place; past the last one, one that waits for nothing
abbrev pub waiter_at : List Waiter → ℕ → Waiter
waiter_at ws r = slice_index_or ws r (record { pid = []; target = None })

-- that for which the process at a place waits: its target
abbrev pub target_at : List Waiter → ℕ → Option (List ℕ)
target_at ws r = (waiter_at ws r).target

-- whether a process has this pid, byte for byte
abbrev pub has_pid : List ℕ → Waiter → Bool
has_pid pid waiter = bytes_eq pid waiter.pid

-- the process with this pid
abbrev pub process_of : List Waiter → List ℕ → Option ℕ
process_of ws pid = position (has_pid pid) ws

-- the process whose pid is the target of another: that one's next
abbrev pub next_of : List Waiter → ℕ → Option ℕ
next_of ws r = option_and_then (process_of ws) (target_at ws r)

-- whether a process waits for this
abbrev pub waits_for : List Waiter → List ℕ → ℕ → Bool
waits_for ws target r = option_map_or (bytes_eq target) (target_at ws r) false

-- each process has a pid of its own
pub record HaveOwnPids (ws : List Waiter) : Type 0 where
  pub each : (r : ℕ) → r < length ws → process_of ws (waiter_at ws r).pid ≡ Some r
