-- For whom the processes of a dump wait.
use Rattle.std.specs.Prelude.{ℕ, ◌+◌, ◌==◌, Bool, List, [], ◌∷◌, length, map, find, Option, option_map, if◌then◌else◌}
use Rattle.std.specs.List.{list_any, sum_by}
use Rattle.dump_sections.specs.Bodies.{body_in, body_size}
use Rattle.dump_sections.specs.Index.{Contents, sections_in}
use Rattle.heap_cells.specs.Loading.{enc_of, heap_section}
use Rattle.link_graph.specs.Graph.{links_of}
use Rattle.link_graph.specs.Requests.{Request, requests_in}
use Rattle.process_table.specs.Processes.{Process}
use Rattle.root_views.specs.Sections.{root_section}
use Rattle.root_views.specs.declared.kinds.RootKind.TheVariants.{Stack}
use Rattle.wait_circles.specs.Waiters.{Waiter}
use Rattle.wait_requests.specs.Held.{held}
use Rattle.wait_requests.specs.References.{has_words}

-- whether the reference of a request is one of those that are held
abbrev pub is_held : List (List ℕ) → Request → Bool
is_held helds request = list_any (λ words. has_words words request.reference) helds

-- the words of the references that the process with a pid holds
abbrev pub held_by : List ℕ → Contents → List ℕ → List (List ℕ)
held_by dump index pid =
    held (enc_of index.version) (body_in dump (root_section Stack pid (sections_in index))) (body_in dump (heap_section pid (sections_in index)))

-- the requests of a process
abbrev pub requests_of : Process → List Request
requests_of process = requests_in (links_of process.links)

-- whom the first request asks whose reference is held
abbrev pub asked_first : List (List ℕ) → List Request → Option (List ℕ)
asked_first helds requests = option_map (λ request. request.target) (find (is_held helds) requests)

-- for whom a process waits: the first of its requests whose reference it holds says so
abbrev pub target_of : List ℕ → Contents → Process → Option (List ℕ)
target_of dump index process = asked_first (held_by dump index process.pid) (requests_of process)

-- for whom each process waits
abbrev pub targets_of : List ℕ → Contents → List Process → List (Option (List ℕ))
targets_of dump index processes = map (target_of dump index) processes

-- processes that wait for these, in order
abbrev pub waiters_with : List Process → List (Option (List ℕ)) → List Waiter
waiters_with [] targets = []
waiters_with (process ∷ processes) [] = []
waiters_with (process ∷ processes) (target ∷ targets) =
    record { pid = process.pid; target = target } ∷ waiters_with processes targets

-- how many bytes the stack and the heap of the process with a pid have
abbrev pub memory_size : Contents → List ℕ → ℕ
memory_size index pid =
    body_size (root_section Stack pid (sections_in index)) + body_size (heap_section pid (sections_in index))

-- how many bytes are read to find out for whom a process waits: none if it has no request
abbrev pub wait_length : Contents → Process → ℕ
wait_length index process = if length (requests_of process) == 0 then 0 else memory_size index process.pid

-- how many bytes are read for all of them
abbrev pub waits_length : Contents → List Process → ℕ
waits_length index processes = sum_by (wait_length index) processes
