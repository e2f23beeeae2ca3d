-- Processes, and for whom they wait.
use Rattle.std.proofs.Common.{◌≡◌, ℕ, zero, suc, ◌+◌, ◌<◌, ◌≤◌, ◌==◌, Bool, true, false, cond, not, ltb, List, [], ◌∷◌, length, get_or, take, map, filter, Option, None, Some, refl, sym, ◌∙◌, ap, ap₂, arith}
use Rattle.std.specs.Prelude.{bytes_eq, position, unwrap_or}
use Rattle.std.specs.List.{position_or_len}
use Rattle.std.specs.Option.{option_map}
use Rattle.std.proofs.lemmas.Bool.{lt-ltb}
use Rattle.std.proofs.lemmas.List.{get_or-map, length-map}
use Rattle.std.proofs.lemmas.List.Sums.{sum_by_more, sum_by-take-le}
use Rattle.std.proofs.lemmas.Option.{slice_get-map, unwrap_or-slice_get}
use Rattle.dump_io.specs.Laws.Lists.{position-map}
use Rattle.dump_io.specs.Laws.Texts.{bytes_eq-refl, bytes_eq-swap}
use Rattle.dump_sections.specs.Index.{Contents, sections_in}
use Rattle.link_graph.specs.Graph.{graph_of, links_of}
use Rattle.link_graph.specs.Lists.{Links, links_at, no_links}
use Rattle.link_graph.specs.Requests.{Request, requests_in}
use Rattle.process_table.specs.Laws.{process_at-there}
use Rattle.process_table.specs.Processes.{Process, nobody, process_at}
use Rattle.process_table.specs.Records.{PlacedSection, first_of_each, has_same_pid, pid_of, process_sections, placed_sections, records}
use Rattle.wait_circles.specs.Waiters.{process_of, target_at, waiter_at, HaveOwnPids, Waiter}
use Rattle.wait_requests.specs.Waits.{asked_first, memory_size, requests_of, wait_length, waiters_with, waits_length}

-- ---- the requests of a process

pub links-at : (graph : List Links) (processes : List Process) (p : ℕ) → graph ≡ graph_of processes → p < length processes → requests_in (links_at graph p) ≡ requests_of (process_at processes p)
links-at graph processes p is inside =
    ap (λ g. requests_in (links_at g p)) is
    ∙ ap (λ o. requests_in (unwrap_or o no_links)) (slice_get-map (λ (process : Process). links_of process.links) processes p ∙ ap (option_map (λ (process : Process). links_of process.links)) (process_at-there processes p inside))

pub asks-none : (requests : List Request) (helds : List (List ℕ)) → length requests ≡ 0 → asked_first helds requests ≡ None
asks-none [] helds none = refl
asks-none (request ∷ requests) helds none = absurd (omega (arith, none))

-- ---- how much is read

pub reads-memory : (index : Contents) (process : Process) → 0 < length (requests_of process) → wait_length index process ≡ memory_size index process.pid
reads-memory index process some = ap (λ b. cond b 0 (memory_size index process.pid)) (nonzero (length (requests_of process)) some)
  where
    nonzero : (n : ℕ) → 0 < n → (n == 0) ≡ false
    nonzero n above = grind arith

module _ (index : Contents) (processes : List Process) (p : ℕ) (inside : p < length processes) where
  pub waits-more : waits_length index (take (p + 1) processes) ≡ waits_length index (take p processes) + wait_length index (process_at processes p)
  waits-more =
      sum_by_more (wait_length index) processes p nobody inside
      ∙ ap (λ process. waits_length index (take p processes) + wait_length index process) (sym (unwrap_or-slice_get processes p nobody))

  pub waits-upto : waits_length index (take p processes) + wait_length index (process_at processes p) ≤ waits_length index processes
  waits-upto = omega (arith, waits-more, sum_by-take-le (wait_length index) processes (p + 1))

-- ---- waiters

pub length-with : (processes : List Process) (targets : List (Option (List ℕ))) → length targets ≡ length processes → length (waiters_with processes targets) ≡ length processes
length-with [] targets same = refl
length-with (process ∷ processes) [] same = absurd (omega (arith, same))
length-with (process ∷ processes) (target ∷ targets) same = let rest = length-with processes targets (omega (arith, same)) in omega (arith, rest)

pids-with : (processes : List Process) (targets : List (Option (List ℕ))) → length targets ≡ length processes → map (λ (w : Waiter). w.pid) (waiters_with processes targets) ≡ map (λ (p : Process). p.pid) processes
pids-with [] targets same = refl
pids-with (process ∷ processes) [] same = absurd (omega (arith, same))
pids-with (process ∷ processes) (target ∷ targets) same = ap (λ l. process.pid ∷ l) (pids-with processes targets (omega (arith, same)))

pub target-with : (processes : List Process) (targets : List (Option (List ℕ))) (r : ℕ) → length targets ≡ length processes → r < length targets → get_or targets r None ≡ target_at (waiters_with processes targets) r
target-with [] targets r same inside = absurd (omega (arith, same, inside))
target-with (process ∷ processes) [] r same inside = absurd (omega (arith, inside))
target-with (process ∷ processes) (target ∷ targets) zero same inside = refl
target-with (process ∷ processes) (target ∷ targets) (suc r) same inside = target-with processes targets r (omega (arith, same)) (omega (arith, inside))

pub find-with : (processes : List Process) (targets : List (Option (List ℕ))) (pid : List ℕ) → length targets ≡ length processes
    → position (λ (process : Process). bytes_eq pid process.pid) processes ≡ process_of (waiters_with processes targets) pid
find-with processes targets pid same =
    sym (position-map (bytes_eq pid) (λ (p : Process). p.pid) processes) ∙ ap (position (bytes_eq pid)) (sym (pids-with processes targets same))
    ∙ position-map (bytes_eq pid) (λ (w : Waiter). w.pid) (waiters_with processes targets)

-- ---- each process has its own pid

abbrev pid_at : PlacedSection → List ℕ
pid_at p = pid_of p.1

abbrev Others : PlacedSection → List PlacedSection → Type 0
Others p [] = Unit {0}
Others p (q ∷ qs) = (bytes_eq (pid_at p) (pid_at q) ≡ false) × Others p qs

abbrev Apart : List PlacedSection → Type 0
Apart [] = Unit {0}
Apart (p ∷ ps) = Others p ps × Apart ps

others-filter : (p : PlacedSection) (f : PlacedSection → Bool) (ps : List PlacedSection) → Others p ps → Others p (filter f ps)
others-filter p f [] others = tt
others-filter p f (q ∷ qs) others = by (others-filter p f qs others.1) (f q)
  where
    by : Others p (filter f qs) → (b : Bool) → Others p (cond b (q ∷ filter f qs) (filter f qs))
    by rest true = (others.0, rest)
    by rest false = rest

others-made : (p : PlacedSection) (ps : List PlacedSection) → Others p (filter (λ other. not (has_same_pid p other)) ps)
others-made p [] = tt
others-made p (q ∷ qs) = by (others-made p qs) (has_same_pid p q) refl
  where
    by : Others p (filter (λ other. not (has_same_pid p other)) qs) → (b : Bool) → has_same_pid p q ≡ b → Others p (cond (not b) (q ∷ filter (λ other. not (has_same_pid p other)) qs) (filter (λ other. not (has_same_pid p other)) qs))
    by rest true same = rest
    by rest false other = (other, rest)

apart-filter : (f : PlacedSection → Bool) (ps : List PlacedSection) → Apart ps → Apart (filter f ps)
apart-filter f [] apart = tt
apart-filter f (q ∷ qs) apart = by (apart-filter f qs apart.1) (f q)
  where
    by : Apart (filter f qs) → (b : Bool) → Apart (cond b (q ∷ filter f qs) (filter f qs))
    by rest true = (others-filter q f qs apart.0, rest)
    by rest false = rest

apart-first : (ps : List PlacedSection) → Apart (first_of_each ps)
apart-first [] = tt
apart-first (p ∷ ps) = (others-made p (first_of_each ps), apart-filter (λ other. not (has_same_pid p other)) (first_of_each ps) (apart-first ps))

others-at : (p : PlacedSection) (ps : List PlacedSection) (r : ℕ) → Others p ps → r < length ps → bytes_eq (pid_at p) (get_or (map pid_at ps) r []) ≡ false
others-at p [] r others inside = absurd (omega (arith, inside))
others-at p (q ∷ qs) zero others inside = others.0
others-at p (q ∷ qs) (suc r) others inside = others-at p qs r others.1 (omega (arith, inside))

own-place : (ps : List PlacedSection) (r : ℕ) → Apart ps → r < length ps → position_or_len (bytes_eq (get_or (map pid_at ps) r [])) (map pid_at ps) ≡ r
own-place [] r apart inside = absurd (omega (arith, inside))
own-place (p ∷ ps) zero apart inside = ap (λ b. cond (not b) (1 + position_or_len (bytes_eq (pid_at p)) (map pid_at ps)) 0) (bytes_eq-refl (pid_at p))
own-place (p ∷ ps) (suc r) apart inside =
    let pid = get_or (map pid_at ps) r [] in
    let rest = own-place ps r apart.1 (omega (arith, inside)) in
    ap (λ b. cond (not b) (1 + position_or_len (bytes_eq pid) (map pid_at ps)) 0) (bytes_eq-swap pid (pid_at p) ∙ others-at p ps r apart.0 (omega (arith, inside)))
    ∙ omega (arith, rest)

own-pid : (ps : List PlacedSection) (r : ℕ) → Apart ps → r < length ps → position (bytes_eq (get_or (map pid_at ps) r [])) (map pid_at ps) ≡ Some r
own-pid ps r apart inside =
    let many : length (map pid_at ps) ≡ length ps = length-map ps pid_at in
    ap (λ n. cond (ltb n (length (map pid_at ps))) (Some n) None) (own-place ps r apart inside)
    ∙ ap (λ b. cond b (Some r) None) (lt-ltb r (length (map pid_at ps)) (omega (arith, inside, many)))

pub own-pids : (index : Contents) (processes : List Process) (targets : List (Option (List ℕ))) → map (λ (p : Process). p.pid) processes ≡ map (λ (r : PlacedSection). pid_of r.1) (records (sections_in index))
    → length targets ≡ length processes → HaveOwnPids (waiters_with processes targets)
own-pids index processes targets pids same = record { each = each }
  where
    each : (r : ℕ) → r < length (waiters_with processes targets) → process_of (waiters_with processes targets) (waiter_at (waiters_with processes targets) r).pid ≡ Some r
    each r inside =
        let ws = waiters_with processes targets in
        let found = records (sections_in index) in
        let none : Waiter = record { pid = []; target = None } in
        let all : map (λ (w : Waiter). w.pid) ws ≡ map pid_at found = pids-with processes targets same ∙ pids in
        let many : length ws ≡ length found = sym (length-map ws (λ (w : Waiter). w.pid)) ∙ ap length all ∙ length-map found pid_at in
        let pid : (waiter_at ws r).pid ≡ get_or (map pid_at found) r [] = sym (get_or-map (λ (w : Waiter). w.pid) ws r none [] inside) ∙ ap (λ l. get_or l r []) all in
        sym (position-map (bytes_eq (waiter_at ws r).pid) (λ (w : Waiter). w.pid) ws)
        ∙ ap₂ (λ p l. position (bytes_eq p) l) pid all
        ∙ own-pid found r (apart-first (process_sections (placed_sections (sections_in index)))) (omega (arith, inside, many))
