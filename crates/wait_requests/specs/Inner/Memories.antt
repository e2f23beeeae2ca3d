-- The stacks and the heaps of processes, and for whom these wait.
use Rattle.std.specs.Prelude.{◌≡◌, ℕ, ◌+◌, List, codes, bytes_eq, length, position, slice_index_or, Option, None, Some, if◌then◌else◌}
use Rattle.std.specs.Option.{option_eq, option_or}
use Rattle.dump_sections.specs.Bodies.{body_in, body_size, section_in, IsPlaceIn}
use Rattle.dump_sections.specs.Index.{Contents, sections_in}
use Rattle.dump_sections.specs.Lookups.{has_tag, is_named, place_where}
use Rattle.dump_sections.specs.Sections.{Section, id_of}
use Rattle.heap_cells.specs.Loading.{enc_of, heap_section}
use Rattle.process_table.specs.Processes.{Process}
use Rattle.root_views.specs.Sections.{root_section}
use Rattle.root_views.specs.declared.kinds.RootKind.TheVariants.{Stack}
use Rattle.wait_circles.specs.Waiters.{HaveOwnPids}
use Rattle.wait_requests.specs.Held.{held}
use Rattle.wait_requests.specs.Waits.{waiters_with}
use Rattle.wait_requests.specs.declared.memories.Memories.{Memories}
use Rattle.wait_requests.specs.declared.memories.Memory.{Memory}

-- the id in a header's text, if the section has the tag
abbrev pub id_with : List ℕ → List ℕ → Option (List ℕ)
id_with tag text = if has_tag tag text then id_of text else None

-- the place of the first process with a pid
abbrev pub process_with : List Process → List ℕ → Option ℕ
process_with processes pid = position (λ process. bytes_eq pid process.pid) processes

-- the place that was noted for a process
abbrev pub noted : List (Option ℕ) → ℕ → Option ℕ
noted places p = slice_index_or places p None

-- a place was noted for the process with a pid, if there are both and none was noted for it
pub record Notes (processes : List Process) (old new : List (Option ℕ)) (pid : Option (List ℕ)) (place : ℕ) : Type 0 where
  pub each : (other : List ℕ) (p : ℕ) → process_with processes other ≡ Some p
      → noted new p ≡ option_or (noted old p) (if option_eq bytes_eq pid (Some other) then Some place else None)

-- for the first process with each pid the place was noted of the first section with the tag and that pid
pub record AreNoted (tag : List ℕ) (sections : List Section) (processes : List Process) (places : List (Option ℕ)) : Type 0 where
  pub count : length places ≡ length processes
  pub each : (pid : List ℕ) (p : ℕ) → process_with processes pid ≡ Some p → noted places p ≡ place_where (is_named tag (Some pid)) sections

-- these are the first stacks and the first heaps of processes among sections
pub record AreMemories (sections : List Section) (processes : List Process) (memories : Memories) : Type 0 where
  pub stacks : AreNoted (codes "proc_stack") sections processes memories.stacks.items
  pub heaps : AreNoted (codes "proc_heap") sections processes memories.heaps.items

-- there stand the stack and the heap of the process with a pid
pub record IsMemory (index : Contents) (pid : List ℕ) (memory : Memory) : Type 0 where
  pub stack : section_in index memory.stack ≡ root_section Stack pid (sections_in index)
  pub heap : section_in index memory.heap ≡ heap_section pid (sections_in index)
  pub stack_there : IsPlaceIn index memory.stack
  pub heap_there : IsPlaceIn index memory.heap

-- how many bytes the stack and the heap have that stand there
abbrev pub size_at : Contents → Memory → ℕ
size_at index memory = body_size (section_in index memory.stack) + body_size (section_in index memory.heap)

-- the words of the references that are held by the stack and the heap that stand there
abbrev pub held_at : List ℕ → Contents → Memory → List (List ℕ)
held_at dump index memory =
    held (enc_of index.version) (body_in dump (section_in index memory.stack)) (body_in dump (section_in index memory.heap))

-- each process has one of these, and its own pid
pub record AreTargets (processes : List Process) (targets : List (Option (List ℕ))) : Type 0 where
  pub count : length targets ≡ length processes
  pub own : HaveOwnPids (waiters_with processes targets)
