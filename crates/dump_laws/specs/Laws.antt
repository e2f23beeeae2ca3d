-- What is the same in a redacted dump, and what is read back of an audit.
use Rattle.std.specs.Prelude.{◌≡◌, ℕ, Bool, true, false, List, map, option_map}
use Rattle.dump_sections.specs.Sections.{sections}
use Rattle.binary_payloads.specs.declared.enc.Enc.{Enc}
use Rattle.term_forms.specs.Elements.{Element}
use Rattle.term_forms.specs.Forms.{HeapForm, HeapBin, RefBin, SubBin}
use Rattle.root_views.specs.Roots.{BodyRoot}
use Rattle.heap_cells.specs.Cells.{Cell, addresses}
use Rattle.heap_cells.specs.HeapMap.{HeapMap}
use Rattle.dump_sections.specs.Bodies.{body_in}
use Rattle.term_unfold.specs.Leaves.{leaf_text}
use Rattle.term_unfold.specs.Trees.{Value, Immediate, OfCell, Tree, Leaf, Bad, Branch, Trees, none, more, verdict}
use Rattle.term_unfold.specs.Unfolding.{unfolding_of}
use Rattle.term_unfold.specs.Walks.{Walk}
use Rattle.root_views.specs.declared.kinds.RootKind.{RootKind}
use Rattle.root_views.specs.Kinds.{roots_in}
use Rattle.process_table.specs.Processes.{process_table}
use Rattle.dump_audit.specs.Findings.{findings}
use Rattle.dump_redact.specs.Redacted.{blank, redacted}
use Rattle.json_report.specs.Laws.{AreOfFile, IsReadBack}
use Rattle.json_report.specs.Trees.{audit_tree}
use Rattle.dump_audit.specs.Audits.{audit_in}
use Rattle.heap_cells.specs.DumpHeaps.{heap_map, payloads_of}
use Rattle.term_unfold.specs.DumpWalks.{walk_of}
use Rattle.root_views.specs.Sections.{root_section}

-- a redacted dump has the same processes
abbrev pub KeepsProcesses : Type 0
KeepsProcesses = (bytes : List ℕ) → process_table (redacted bytes) ≡ process_table bytes

-- an audit finds the same in a redacted dump
abbrev pub KeepsFindings : Type 0
KeepsFindings =
    (bytes : List ℕ) (limit : ℕ) (full : Bool) → findings (audit_in limit full (redacted bytes)) ≡ findings (audit_in limit full bytes)

-- ---- heaps

-- a heap binary with its characters made blank; any other form stays
abbrev pub blank_form : Enc → HeapForm → HeapForm
blank_form enc (HeapBin size chars) = HeapBin size (map (blank enc) chars)
blank_form enc form = form

-- a cell with the characters of a heap binary made blank, at the same address
abbrev pub blank_cell : Enc → Cell → Cell
blank_cell enc cell = record { address = cell.address; form = option_map (blank_form enc) cell.form }

-- a heap with the characters of its heap binaries made blank: its cells stand in the same order, as many of them its own
abbrev pub blank_heap : HeapMap → HeapMap
blank_heap heap =
    record { cells = map (blank_cell heap.enc) heap.cells; own = heap.own; enc = heap.enc }

-- the heap of a process in a redacted dump differs only in the characters of its heap binaries
abbrev pub KeepsHeaps : Type 0
KeepsHeaps = (bytes pid : List ℕ) → heap_map pid (redacted bytes) ≡ blank_heap (heap_map pid bytes)

-- the heap of a process in a redacted dump has the same addresses in the same order
abbrev pub KeepsAddresses : Type 0
KeepsAddresses = (bytes pid : List ℕ) → addresses (heap_map pid (redacted bytes)).cells ≡ addresses (heap_map pid bytes).cells

-- ---- terms

-- the roots of one kind of a process
abbrev pub found_roots : RootKind → List ℕ → List ℕ → List BodyRoot
found_roots kind pid bytes = roots_in kind (body_in bytes (root_section kind pid (sections bytes)))

-- each process of a redacted dump has the same roots
abbrev pub KeepsRoots : Type 0
KeepsRoots = (kind : RootKind) (bytes pid : List ℕ) → found_roots kind pid (redacted bytes) ≡ found_roots kind pid bytes

-- what a leaf holds, with the characters of a heap binary made blank
abbrev pub blank_value : Enc → Value → Value
blank_value enc (Immediate element) = Immediate element
blank_value enc (OfCell a form) = OfCell a (blank_form enc form)

abbrev mutual
  -- a tree with the characters of heap binaries made blank: its nodes, their addresses and what is bad are the same
  pub blank_tree : Enc → Tree → Tree
  blank_tree enc (Leaf value) = Leaf (blank_value enc value)
  blank_tree enc (Bad address why) = Bad address why
  blank_tree enc (Branch kind children) = Branch kind (blank_trees enc children)

  -- each tree of a list with the characters of heap binaries made blank
  pub blank_trees : Enc → Trees → Trees
  blank_trees enc none = none
  blank_trees enc (more tree trees) = more (blank_tree enc tree) (blank_trees enc trees)

-- the tree of an element in the heap of a process
abbrev pub tree_in : List ℕ → Element → List ℕ → Tree
tree_in pid root bytes = unfolding_of (heap_map pid bytes).cells root

-- the tree of each element in a redacted dump differs only in the characters of heap binaries
abbrev pub KeepsTrees : Type 0
KeepsTrees =
    (bytes pid : List ℕ) (root : Element) → tree_in pid root (redacted bytes) ≡ blank_tree (payloads_of bytes) (tree_in pid root bytes)

-- within each budget the first bad address of an element is the same in a redacted dump, or none is bad in both
abbrev pub KeepsVerdicts : Type 0
KeepsVerdicts =
    (bytes pid : List ℕ) (root : Element) (nodes : ℕ)
    → verdict (tree_in pid root (redacted bytes)) nodes ≡ verdict (tree_in pid root bytes) nodes

-- a leaf that holds a heap binary, a reference to a binary or a sub binary
abbrev pub is_binary : Value → Bool
is_binary (OfCell a (HeapBin size chars)) = true
is_binary (OfCell a (RefBin address offset size)) = true
is_binary (OfCell a (SubBin address offset size)) = true
is_binary value = false

-- the text of a leaf over a heap and its previews
abbrev pub text_over : Walk → Value → List ℕ
text_over walk value = leaf_text walk.heap.enc walk.heap.cells walk.previews value

-- the text of each other leaf is the same in a redacted dump
abbrev pub KeepsLeaves : Type 0
KeepsLeaves = (bytes pid : List ℕ) (value : Value) → is_binary value ≡ false
    → text_over (walk_of pid (redacted bytes)) (blank_value (payloads_of bytes) value) ≡ text_over (walk_of pid bytes) value

-- ---- audits

-- the text of the tree of an audit of a dump in a file is read back as that tree
abbrev pub AuditsReadBack : Type 0
AuditsReadBack = (bytes : List ℕ) (limit : ℕ) (full : Bool) → AreOfFile bytes → IsReadBack (audit_tree (audit_in limit full bytes))
