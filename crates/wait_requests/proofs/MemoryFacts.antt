-- Where the stacks and the heaps of processes stand.
use Rattle.std.proofs.Common.{◌≡◌, ℕ, zero, suc, ◌+◌, ◌<◌, ◌≤◌, Bool, true, false, cond, not, List, [], ◌∷◌, ◌++◌, length, get_or, set, Option, None, Some, refl, sym, ◌∙◌, ap, ap₂, subst, arith}
use Rattle.std.specs.Prelude.{bytes_eq, codes, is_some, IfSome, unwrap_or}
use Rattle.std.specs.List.{position_or_len}
use Rattle.std.specs.Option.{option_eq, option_or}
use Rattle.std.proofs.lemmas.Bool.{false≢true, lt-ltb}
use Rattle.std.proofs.lemmas.Grind.{get_or-set_at}
use Rattle.std.proofs.lemmas.List.{get_or-set_other}
use Rattle.std.proofs.lemmas.List.Quantifiers.{position-Some}
use Rattle.std.proofs.lemmas.Option.{get_or_from_slice_get, slice_get_read, unwrap_or-slice_get}
use Rattle.dump_io.specs.Laws.Lists.{position-within}
use Rattle.dump_io.specs.Laws.Options.{or-none}
use Rattle.dump_io.specs.Laws.Texts.{bytes_eq-refl, bytes_eq-same}
use Rattle.dump_sections.specs.Bodies.{body_in, body_size, IsPlaceIn}
use Rattle.dump_sections.specs.FindingLaws.{section-found}
use Rattle.dump_sections.specs.Index.{Contents, sections_in}
use Rattle.dump_sections.specs.Laws.{first-more, first-passed, length-sections_of}
use Rattle.dump_sections.specs.Lookups.{is_named, place_where}
use Rattle.dump_sections.specs.Sections.{Section}
use Rattle.heap_cells.specs.Loading.{enc_of}
use Rattle.process_table.specs.Processes.{Process, nobody, process_at}
use Rattle.wait_requests.specs.Held.{held}
use Rattle.wait_requests.specs.Waits.{held_by, memory_size}
use Rattle.wait_requests.specs.Inner.Memories.{held_at, id_with, noted, process_with, size_at, AreMemories, AreNoted, IsMemory, Notes}
use Rattle.wait_requests.specs.declared.memories.Memories.{Memories}
use Rattle.wait_requests.specs.declared.memories.Memory.{Memory}

-- ---- noting a place

-- what was read of the places is what was noted
pub noted-here : (places : List (Option ℕ)) (q : ℕ) (found : Option ℕ) → q < length places → found ≡ get_or places q found → is_some found ≡ false → noted places q ≡ None
noted-here places q found inside read none =
    get_or_from_slice_get places q found None (slice_get_read places (length places) q found refl inside read) ∙ is-none found none
  where
    is-none : (o : Option ℕ) → is_some o ≡ false → o ≡ None
    is-none None none = refl
    is-none (Some x) none = absurd (false≢true (sym none))

module _ (processes : List Process) (old : List (Option ℕ)) (place : ℕ) where
  pub notes-none : Notes processes old old None place
  notes-none = record { each = λ other p is. sym (or-none (noted old p)) }

  -- another pid than that for which the place is
  passed : (pid other : List ℕ) (before : Option ℕ) → bytes_eq pid other ≡ false → before ≡ option_or before (cond (bytes_eq pid other) (Some place) None)
  passed pid other before apart = sym (ap (λ b. option_or before (cond b (Some place) None)) apart ∙ or-none before)

  pub notes-unknown : (pid : List ℕ) → process_with processes pid ≡ None → Notes processes old old (Some pid) place
  notes-unknown pid none = record { each = λ other p is. by other p is (bytes_eq pid other) refl }
    where
      by : (other : List ℕ) (p : ℕ) → process_with processes other ≡ Some p → (b : Bool) → bytes_eq pid other ≡ b
          → noted old p ≡ option_or (noted old p) (cond (bytes_eq pid other) (Some place) None)
      by other p is true same = absurd (let no : ⊥ = cc (is, none, ap (process_with processes) (bytes_eq-same pid other same)) in no)
      by other p is false apart = passed pid other (noted old p) apart

  same-process : (pid other : List ℕ) (p q : ℕ) → process_with processes pid ≡ Some q → process_with processes other ≡ Some p → bytes_eq pid other ≡ true → p ≡ q
  same-process pid other p q at is same = ap (λ o. unwrap_or o 0) (sym is ∙ ap (process_with processes) (sym (bytes_eq-same pid other same)) ∙ at)

  pub notes-had : (pid : List ℕ) (q k : ℕ) → process_with processes pid ≡ Some q → noted old q ≡ Some k → Notes processes old old (Some pid) place
  notes-had pid q k at had = record { each = λ other p is. by other p is (bytes_eq pid other) refl }
    where
      by : (other : List ℕ) (p : ℕ) → process_with processes other ≡ Some p → (b : Bool) → bytes_eq pid other ≡ b
          → noted old p ≡ option_or (noted old p) (cond (bytes_eq pid other) (Some place) None)
      by other p is true same =
          let here : noted old p ≡ Some k = ap (noted old) (same-process pid other p q at is same) ∙ had in
          here ∙ sym (ap (λ o. option_or o (cond (bytes_eq pid other) (Some place) None)) here)
      by other p is false apart = passed pid other (noted old p) apart

  pid-of : (pid : List ℕ) (p : ℕ) → process_with processes pid ≡ Some p → pid ≡ (get_or processes p nobody).pid
  pid-of pid p is = bytes_eq-same pid _ (position-Some (λ (process : Process). bytes_eq pid process.pid) processes p nobody is).1

  pub notes-new : (pid : List ℕ) (q : ℕ) → process_with processes pid ≡ Some q → q < length old → noted old q ≡ None
      → Notes processes old (set old q (Some place)) (Some pid) place
  notes-new pid q at inside none = record { each = λ other p is. by other p is (bytes_eq pid other) refl }
    where
      by : (other : List ℕ) (p : ℕ) → process_with processes other ≡ Some p → (b : Bool) → bytes_eq pid other ≡ b
          → noted (set old q (Some place)) p ≡ option_or (noted old p) (cond (bytes_eq pid other) (Some place) None)
      by other p is true same =
          let there = same-process pid other p q at is same in
          get_or-set_at old q p (Some place) None there inside
          ∙ sym (ap₂ (λ o b. option_or o (cond b (Some place) None)) (ap (noted old) there ∙ none) same)
      by other p is false apart =
          get_or-set_other old q p (Some place) None
          (λ there. false≢true (sym apart ∙ ap (bytes_eq pid) (pid-of other p is ∙ ap (λ r. (get_or processes r nobody).pid) there ∙ sym (pid-of pid q at)) ∙ bytes_eq-refl pid))
          ∙ passed pid other (noted old p) apart

-- ---- the sections so far

pub noted-none : (tag : List ℕ) (processes : List Process) (places : List (Option ℕ)) → length places ≡ length processes → ((p : ℕ) → noted places p ≡ None) → AreNoted tag [] processes places
noted-none tag processes places count none = record { count = count; each = λ pid p is. none p }

pub noted-more : (tag : List ℕ) (before : List Section) (s : Section) (processes : List Process) (old new : List (Option ℕ)) (n : ℕ) → AreNoted tag before processes old → n ≡ length before
    → length new ≡ length processes → Notes processes old new (id_with tag s.text) n → AreNoted tag (before ++ s ∷ []) processes new
noted-more tag before s processes old new n are size count notes = record { count = count; each = λ pid p is. notes.each pid p is ∙ by pid p is (id_with tag s.text) refl }
  where
    by : (pid : List ℕ) (p : ℕ) → process_with processes pid ≡ Some p → (id : Option (List ℕ)) → id_with tag s.text ≡ id
        → option_or (noted old p) (cond (option_eq bytes_eq (id_with tag s.text) (Some pid)) (Some n) None) ≡ place_where (is_named tag (Some pid)) (before ++ s ∷ [])
    by pid p is None none =
        ap (λ o. option_or (noted old p) (cond (option_eq bytes_eq o (Some pid)) (Some n) None)) none
        ∙ or-none (noted old p) ∙ are.each pid p is ∙ sym (first-passed tag before s pid none)
    by pid p is (Some here) some =
        ap (λ o. option_or (noted old p) (cond (option_eq bytes_eq o (Some pid)) (Some n) None)) some
        ∙ ap₂ (λ o k. option_or o (cond (bytes_eq here pid) (Some k) None)) (are.each pid p is) size ∙ sym (first-more tag before s here pid some)

-- ---- the memory of a process

one-passes : {X : Type 0} (p : X → Bool) (xs : List X) (k : ℕ) (d : X) → k < length xs → p (get_or xs k d) ≡ true → position_or_len p xs < length xs
one-passes p [] k d inside passes = absurd (omega (arith, inside))
one-passes p (x ∷ xs) zero d inside passes =
    let here : position_or_len p (x ∷ xs) ≡ 0 = ap (λ b. cond (not b) (1 + position_or_len p xs) 0) passes in
    omega (arith, here)
one-passes p (x ∷ xs) (suc k) d inside passes =
    let rest = one-passes p xs k d (omega (arith, inside)) passes in
    let most : position_or_len p (x ∷ xs) ≤ 1 + position_or_len p xs = by (p x) (position_or_len p xs) in
    omega (arith, rest, most)
  where
    by : (b : Bool) (n : ℕ) → cond (not b) (1 + n) 0 ≤ 1 + n
    by true n = omega arith
    by false n = omega arith

-- each process is found by its pid
pub process-found : (processes : List Process) (p : ℕ) → p < length processes → process_with processes (process_at processes p).pid ≡ None → ⊥
process-found processes p inside none =
    let pid = (process_at processes p).pid in
    let n = position_or_len (λ (process : Process). bytes_eq pid process.pid) processes in
    let passes = ap (λ (process : Process). bytes_eq pid process.pid) (sym (unwrap_or-slice_get processes p nobody)) ∙ bytes_eq-refl pid in
    let below : n < length processes = one-passes (λ (process : Process). bytes_eq pid process.pid) processes p nobody inside passes in
    let no : ⊥ = cc (ap (λ b. cond b (Some n) None) (lt-ltb n (length processes) below), none) in
    no

module _ (tag pid : List ℕ) (index : Contents) (place : Option ℕ) (is : place ≡ place_where (is_named tag (Some pid)) (sections_in index)) where
  there : IsPlaceIn index place
  there =
      subst (λ n. IfSome place (λ i. i < n)) (length-sections_of index.headers index.size)
      (subst (λ o. IfSome o (λ i. i < length (sections_in index))) (sym is) (position-within (λ (s : Section). is_named tag (Some pid) s.text) (sections_in index)))

pub is-memory : (index : Contents) (processes : List Process) (memories : Memories) (memory : Memory) (pid : List ℕ) (q : ℕ) → AreMemories (sections_in index) processes memories
    → process_with processes pid ≡ Some q → memory.stack ≡ noted memories.stacks.items q → memory.heap ≡ noted memories.heaps.items q → IsMemory index pid memory
is-memory index processes memories memory pid q are at stack_is heap_is =
    let stack = stack_is ∙ are.stacks.each pid q at in
    let heap = heap_is ∙ are.heaps.each pid q at in
    record {
      stack = section-found (λ (s : Section). is_named (codes "proc_stack") (Some pid) s.text) index memory.stack (sym stack);
      heap = section-found (λ (s : Section). is_named (codes "proc_heap") (Some pid) s.text) index memory.heap (sym heap);
      stack_there = there (codes "proc_stack") pid index memory.stack stack;
      heap_there = there (codes "proc_heap") pid index memory.heap heap;
    }

-- ---- what is read there

module _ (index : Contents) (pid : List ℕ) (memory : Memory) (is : IsMemory index pid memory) where
  pub size-there : size_at index memory ≡ memory_size index pid
  size-there = ap₂ (λ stack heap. body_size stack + body_size heap) is.stack is.heap

  pub held-there : (dump : List ℕ) → held_at dump index memory ≡ held_by dump index pid
  held-there dump = ap₂ (λ stack heap. held (enc_of index.version) (body_in dump stack) (body_in dump heap)) is.stack is.heap
