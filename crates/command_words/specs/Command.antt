-- The commands, from the words of the command line.
use Rattle.std.specs.Prelude.{ℕ, ◌<◌, ◌≤◌, Bool, true, false, List, [], ◌∷◌, Option, None, Some, codes, if◌then◌else◌}
use Rattle.std.specs.Option.{option_and_then, option_map}
use Rattle.std.specs.Str.{bytes_eq}
use Rattle.dump_io.specs.Numbers.{dec_number, hex_number}
use Rattle.root_views.specs.declared.kinds.RootKind.{RootKind}
use Rattle.root_views.specs.declared.kinds.RootKind.TheVariants as bodies
use Rattle.table_sections.specs.declared.kinds.TableKind.{TableKind}
use Rattle.table_sections.specs.declared.kinds.TableKind.TheVariants as kinds
use Rattle.command_words.specs.declared.words.Cmd.{Cmd}
use Rattle.command_words.specs.declared.words.Cmd.TheVariants.{On, Make, Trial}
use Rattle.command_words.specs.declared.words.Query.{Query}
use Rattle.command_words.specs.declared.words.Query.TheVariants.{Index, Info, Procs, Proc, Memory, Field, Table, Roots, Term, PeekTerm, PeekRoots, Ext, Reach, Shapes, Weigh, WeighCell, Heavy, Cells, Binary, Binaries, Holders, Triage, Stacks, Links, Redact, Audit, AuditJson, AuditSettled, Fields, Path, Waits}
use Rattle.command_words.specs.Budgets.{budget_of}
use Rattle.command_words.specs.Ranges.{number_upto}

-- what a command asks of a dump
pub data Ask : Type 0 where
  index : Ask
  info : Ask
  procs : Ask
  -- the fields of the process with this pid
  proc : List ℕ → Ask
  memory : Ask
  -- the field with this key of every process
  field : List ℕ → Ask
  -- the field with this key of every section with this tag
  fields : List ℕ → List ℕ → Ask
  table : TableKind → Ask
  -- the roots of the process with this pid, each within this many nodes, with bad addresses marked or not
  roots : RootKind → List ℕ → ℕ → Bool → Ask
  -- the term at this address, in the heap of the process with this pid
  term : List ℕ → ℕ → ℕ → Bool → Ask
  -- the term at an address, as a process refers to it, whatever the size of the heap
  peek_term : List ℕ → ℕ → ℕ → Bool → Ask
  -- of the roots of this process those from this place on, at most this many, whatever the sizes of the bodies
  peek_roots : RootKind → List ℕ → ℕ → ℕ → ℕ → Bool → Ask
  -- the external term at this address, in the heap of the process with this pid
  ext : List ℕ → ℕ → Ask
  -- by which way the roots of the process with this pid reach the cell at this address
  path : List ℕ → ℕ → Ask
  -- what the roots of the process with this pid reach
  reach : List ℕ → Ask
  -- what kinds of messages the process with this pid has in its mailbox, at most this many of them, with pids shown or not
  shapes : List ℕ → ℕ → Bool → Ask
  -- what each of the cells alone holds to which the roots of the process with this pid refer, at most this many of them
  weigh : List ℕ → ℕ → Ask
  -- what the cells alone hold to which the elements of the cell at this address refer
  weigh_cell : List ℕ → ℕ → ℕ → Ask
  -- down to where most of the memory of the process with this pid hangs, with at most this many parts of each level
  heavy : List ℕ → ℕ → Ask
  -- what is on the heap of the process with this pid
  cells : List ℕ → Ask
  -- the binary with this address
  binary : ℕ → Ask
  -- which processes hold how much of the binaries
  binaries : Ask
  -- which processes hold the binary with this address
  holders : ℕ → Ask
  -- what to read first, with at most this many rows of each table
  triage : ℕ → Ask
  -- which processes stand at the same place, with at most this many groups
  stacks : ℕ → Ask
  -- who waits for whom, with at most this many targets and circles
  waits : ℕ → Ask
  links : Ask
  -- the dump with its payloads made zero
  redact : Ask
  -- an audit with this limit on message queues, in full or not
  audit : ℕ → Bool → Ask
  -- the findings of an audit as one JSON text
  audit_json : ℕ → Bool → Ask
  -- the findings of an audit but those that are in flight
  audit_settled : ℕ → Bool → Ask

-- a command
pub data Command : Type 0 where
  -- what is asked of the dump in the file with this name
  on : List ℕ → Ask → Command
  -- a dump made from a seed and a count of processes
  make : ℕ → ℕ → Command
  -- a summary of the reports on such a dump
  trial : ℕ → ℕ → Command

-- the value of a query whose words are borrowed
abbrev pub shown_query : Query → Ask
shown_query Index = index
shown_query Info = info
shown_query Procs = procs
shown_query (Proc pid) = proc pid.now
shown_query Memory = memory
shown_query (Field key) = field key.now
shown_query (Fields tag key) = fields tag.now key.now
shown_query (Table kind) = table kind
shown_query (Roots kind pid nodes marked) = roots kind pid.now nodes marked
shown_query (Term pid addr nodes marked) = term pid.now addr nodes marked
shown_query (PeekTerm pid addr nodes marked) = peek_term pid.now addr nodes marked
shown_query (PeekRoots kind pid first count nodes marked) = peek_roots kind pid.now first count nodes marked
shown_query (Ext pid addr) = ext pid.now addr
shown_query (Path pid addr) = path pid.now addr
shown_query (Reach pid) = reach pid.now
shown_query (Shapes pid count pids) = shapes pid.now count pids
shown_query (Weigh pid count) = weigh pid.now count
shown_query (WeighCell pid count addr) = weigh_cell pid.now count addr
shown_query (Heavy pid count) = heavy pid.now count
shown_query (Cells pid) = cells pid.now
shown_query (Binary addr) = binary addr
shown_query Binaries = binaries
shown_query (Holders addr) = holders addr
shown_query (Triage count) = triage count
shown_query (Stacks count) = stacks count
shown_query (Waits count) = waits count
shown_query Links = links
shown_query Redact = redact
shown_query (Audit limit full) = audit limit full
shown_query (AuditJson limit full) = audit_json limit full
shown_query (AuditSettled limit full) = audit_settled limit full

-- the value of a command
abbrev pub shown_command : Cmd → Command
shown_command (On file query) = on file.now (shown_query query)
shown_command (Make seed count) = make seed count
shown_command (Trial seed count) = trial seed count

-- what a command without more words asks; `triage` then shows
-- 10 rows of each table, `stacks` 10 groups, and `waits` 10 targets and circles
abbrev pub plain_query : List ℕ → Option Ask
plain_query name =
    if bytes_eq name (codes "index") then Some index
    else (if bytes_eq name (codes "info") then Some info
    else (if bytes_eq name (codes "procs") then Some procs
    else (if bytes_eq name (codes "memory") then Some memory
    else (if bytes_eq name (codes "ets") then Some (table kinds.Ets)
    else (if bytes_eq name (codes "ports") then Some (table kinds.Ports)
    else (if bytes_eq name (codes "nodes") then Some (table kinds.Nodes)
    else (if bytes_eq name (codes "mods") then Some (table kinds.Mods)
    else (if bytes_eq name (codes "binaries") then Some binaries
    else (if bytes_eq name (codes "triage") then Some (triage 10)
    else (if bytes_eq name (codes "stacks") then Some (stacks 10)
    else (if bytes_eq name (codes "waits") then Some (waits 10)
    else (if bytes_eq name (codes "links") then Some links
    else (if bytes_eq name (codes "redact") then Some redact else None)))))))))))))

-- the roots of a process, within the budget of the last words
abbrev pub roots_query : RootKind → List ℕ → List (List ℕ) → Option Ask
roots_query kind pid words = option_map (λ b. roots kind pid b.nodes b.marked) (budget_of words)

-- the term at an address, which is in hex, of a heap that is loaded or of one of any size
abbrev pub term_query : (List ℕ → ℕ → ℕ → Bool → Ask) → List ℕ → List (List ℕ) → Option Ask
term_query form pid [] = None
term_query form pid (addr ∷ words) =
    option_and_then (λ a. option_map (λ b. form pid a b.nodes b.marked) (budget_of words)) (hex_number addr)

-- some roots of a process: from a place on, which is decimal, at most a number of them from 1 to 1,000
abbrev pub some_roots_query : RootKind → List ℕ → List (List ℕ) → Option Ask
some_roots_query kind pid (first ∷ count ∷ words) =
    option_and_then (λ f. option_and_then (λ c. option_map (λ b. peek_roots kind pid f c b.nodes b.marked) (budget_of words))
    (number_upto 1000 count)) (dec_number first)
some_roots_query kind pid words = None

-- a term of a heap of any size, or some of its roots
abbrev pub peek_query : List ℕ → List (List ℕ) → Option Ask
peek_query pid [] = None
peek_query pid (what ∷ words) =
    if bytes_eq what (codes "stack") then some_roots_query bodies.Stack pid words
    else (if bytes_eq what (codes "dict") then some_roots_query bodies.Dict pid words
    else (if bytes_eq what (codes "mail") then some_roots_query bodies.Mail pid words
    else term_query peek_term pid (what ∷ words)))

-- what is asked of the cell at an address, which is in hex: the external term there, or the way to it
abbrev pub cell_query : (List ℕ → ℕ → Ask) → List ℕ → List (List ℕ) → Option Ask
cell_query form pid (addr ∷ []) = option_map (form pid) (hex_number addr)
cell_query form pid words = None

-- whether a word is `pids`
abbrev pub is_pids : List ℕ → Bool
is_pids word = bytes_eq word (codes "pids")

-- kinds of messages, at most as many as a word says, from 1 to 1,000, with pids shown or not
abbrev pub counted_shapes : List ℕ → Bool → List ℕ → Option Ask
counted_shapes pid pids word = option_map (λ n. shapes pid n pids) (number_upto 1000 word)

-- kinds of messages: the last words are a number of them, which is 10 if it is left out, and then `pids` or nothing
abbrev pub shapes_query : List ℕ → List (List ℕ) → Option Ask
shapes_query pid [] = Some (shapes pid 10 false)
shapes_query pid (word ∷ []) = if is_pids word then Some (shapes pid 10 true) else counted_shapes pid false word
shapes_query pid (count ∷ last ∷ []) = if is_pids last then counted_shapes pid true count else None
shapes_query pid words = None

-- what parts of a heap hold: those of a process, at most 10 or a number of them
-- from 1 to 1,000, or of the cell at an address, which is in hex
abbrev pub weigh_query : List ℕ → List (List ℕ) → Option Ask
weigh_query pid [] = Some (weigh pid 10)
weigh_query pid (count ∷ []) = option_map (weigh pid) (number_upto 1000 count)
weigh_query pid (count ∷ addr ∷ []) = option_and_then (λ n. option_map (weigh_cell pid n) (hex_number addr)) (number_upto 1000 count)
weigh_query pid words = None

-- down to where memory hangs: at most 3 parts of each level, or a number of them from 1 to 1,000
abbrev pub heavy_query : List ℕ → List (List ℕ) → Option Ask
heavy_query pid [] = Some (heavy pid 3)
heavy_query pid (count ∷ []) = option_map (heavy pid) (number_upto 1000 count)
heavy_query pid words = None

-- the field with a key of every section with a tag
abbrev pub fields_query : List ℕ → List (List ℕ) → Option Ask
fields_query tag (key ∷ []) = Some (fields tag key)
fields_query tag words = None

-- an audit is full if its last word is `full`
abbrev pub full_of : List (List ℕ) → Option Bool
full_of [] = Some false
full_of (word ∷ []) = if bytes_eq word (codes "full") then Some true else None
full_of words = None

-- an audit with a limit, which is decimal, in one of its forms
abbrev pub audit_query : (ℕ → Bool → Ask) → List ℕ → List (List ℕ) → Option Ask
audit_query form limit words = option_and_then (λ n. option_map (form n) (full_of words)) (dec_number limit)

-- what a command asks that may have more words after another word
abbrev pub process_query : List ℕ → List ℕ → List (List ℕ) → Option Ask
process_query name word words =
    if bytes_eq name (codes "stack") then roots_query bodies.Stack word words
    else (if bytes_eq name (codes "dict") then roots_query bodies.Dict word words
    else (if bytes_eq name (codes "mail") then roots_query bodies.Mail word words
    else (if bytes_eq name (codes "term") then term_query term word words
    else (if bytes_eq name (codes "peek") then peek_query word words
    else (if bytes_eq name (codes "shapes") then shapes_query word words
    else (if bytes_eq name (codes "weigh") then weigh_query word words
    else (if bytes_eq name (codes "heavy") then heavy_query word words
    else (if bytes_eq name (codes "ext") then cell_query ext word words
    else (if bytes_eq name (codes "path") then cell_query path word words
    else (if bytes_eq name (codes "fields") then fields_query word words
    else (if bytes_eq name (codes "audit") then audit_query audit word words
    else (if bytes_eq name (codes "audit-json") then audit_query audit_json word words
    else (if bytes_eq name (codes "audit-settled") then audit_query audit_settled word words else None)))))))))))))

-- what a command asks with another word
abbrev pub word_query : List ℕ → List ℕ → Option Ask
word_query name word =
    if bytes_eq name (codes "proc") then Some (proc word)
    else (if bytes_eq name (codes "field") then Some (field word)
    else (if bytes_eq name (codes "reach") then Some (reach word)
    else (if bytes_eq name (codes "cells") then Some (cells word)
    else (if bytes_eq name (codes "binary") then option_map binary (hex_number word)
    else (if bytes_eq name (codes "holders") then option_map holders (hex_number word)
    else (if bytes_eq name (codes "triage") then option_map triage (number_upto 1000 word)
    else (if bytes_eq name (codes "stacks") then option_map stacks (number_upto 1000 word)
    else (if bytes_eq name (codes "waits") then option_map waits (number_upto 1000 word)
    else process_query name word []))))))))

-- a command that makes a dump, from a seed and a count of processes, which is from 1 to 200,000
abbrev pub made_command : (ℕ → ℕ → Command) → List ℕ → List ℕ → Option Command
made_command form seed count = option_and_then (λ s. option_map (form s) (number_upto 200000 count)) (dec_number seed)

-- a command with two numbers, or with the name of a file and another word
abbrev pub word_command : List ℕ → List ℕ → List ℕ → Option Command
word_command name file word =
    if bytes_eq name (codes "make") then made_command make file word
    else (if bytes_eq name (codes "trial") then made_command trial file word
    else option_map (on file) (word_query name word))

-- the command that the words after the program's name are, or `None`
abbrev pub command : List (List ℕ) → Option Command
command [] = None
command (name ∷ []) = None
command (name ∷ file ∷ []) = option_map (on file) (plain_query name)
command (name ∷ file ∷ word ∷ []) = word_command name file word
command (name ∷ file ∷ word ∷ more ∷ words) = option_map (on file) (process_query name word (more ∷ words))

-- the name of the file that a command opens, if it opens one
abbrev pub file_name : Command → Option (List ℕ)
file_name (on file ask) = Some file
file_name (make seed count) = None
file_name (trial seed count) = None

-- the numbers of what is asked are in the ranges that it takes
abbrev pub IsAskInRange : Ask → Type 0
IsAskInRange (roots kind pid nodes marked) = 0 < nodes
IsAskInRange (term pid addr nodes marked) = 0 < nodes
IsAskInRange (peek_term pid addr nodes marked) = 0 < nodes
IsAskInRange (peek_roots kind pid first count nodes marked) = (0 < nodes) × (1 ≤ count) × (count ≤ 1000)
IsAskInRange (shapes pid count pids) = (1 ≤ count) × (count ≤ 1000)
IsAskInRange (weigh pid count) = (1 ≤ count) × (count ≤ 1000)
IsAskInRange (weigh_cell pid count addr) = (1 ≤ count) × (count ≤ 1000)
IsAskInRange (heavy pid count) = (1 ≤ count) × (count ≤ 1000)
IsAskInRange (triage count) = (1 ≤ count) × (count ≤ 1000)
IsAskInRange (stacks count) = (1 ≤ count) × (count ≤ 1000)
IsAskInRange (waits count) = (1 ≤ count) × (count ≤ 1000)
IsAskInRange ask = Unit {0}

-- the numbers of a command are in the ranges that it takes
abbrev pub IsInRange : Command → Type 0
IsInRange (on file ask) = IsAskInRange ask
IsInRange (make seed count) = (1 ≤ count) × (count ≤ 200000)
IsInRange (trial seed count) = (1 ≤ count) × (count ≤ 200000)
