-- What the questions on the terms of a process, and on a binary, report on the bytes of an accepted dump.
use Rattle.dump_questions.specs.Heaps.{no_address}
use Rattle.std.specs.Prelude.{◌++◌, [], if◌then◌else◌, is_some, unwrap_or, List, None, Option, Some, ℕ}
use Rattle.std.specs.Option.{option_and_then, option_map, option_or}
use Rattle.dump_sections.specs.Bodies.{body_in}
use Rattle.dump_sections.specs.Index.{index_of}
use Rattle.dump_sections.specs.Sections.{sections, Section}
use Rattle.report_text.specs.declared.refusals.Refusal.{Refusal}
use Rattle.root_views.specs.Kinds.{roots_in}
use Rattle.root_views.specs.Sections.{root_section}
use Rattle.root_views.specs.declared.kinds.RootKind.TheVariants.{Dict, Mail, Stack}
use Rattle.term_forms.specs.Elements.{Element}
use Rattle.heap_cells.specs.HeapMap.{form_at, number_at, HeapMap}
use Rattle.binary_refs.specs.StoredBinaries.{binary_section}
use Rattle.binary_payloads.specs.declared.enc.Enc.{Enc}
use Rattle.term_forms.specs.Forms.{Ext, HeapForm}
use Rattle.etf_terms.specs.Walks.{bad_place}
use Rattle.binary_refs.specs.Wholes.{whole_bytes}
use Rattle.binary_refs.specs.Payloads.{counted_bytes}
use Rattle.report_text.specs.declared.refusals.Refusal.TheVariants.{BadBinary, BadExt, NoBinary, NotExt}
use Rattle.root_views.specs.declared.kinds.RootKind.{RootKind}
use Rattle.term_text.specs.Reach.{root_elements}

-- the bytes that the characters of an external term write; any other form has none
abbrev pub external_in : Enc → HeapForm → Option (List ℕ)
external_in enc (Ext size chars) = counted_bytes enc size chars
external_in enc form = None

-- the bytes of the external term that is the cell at an address of the heap, if it is one
abbrev pub external_at : ℕ → HeapMap → Option (List ℕ)
external_at addr heap = option_and_then (external_in heap.enc) (option_and_then (form_at heap.cells) (number_at heap.cells addr))

-- the cell at the address isn't an external term, or its bytes aren't 131 and one term
abbrev pub external_cause : ℕ → Option (List ℕ) → Option Refusal
external_cause addr None = Some (NotExt addr)
external_cause addr (Some bytes) = option_map (BadExt addr) (bad_place bytes)

-- why a heap has no external term at an address, or `None`: it has no cell there, or that is no such term
abbrev pub no_external : ℕ → HeapMap → Option Refusal
no_external addr heap = option_or (no_address addr heap) (external_cause addr (external_at addr heap))

-- the terms among the roots of one kind of a process
abbrev pub terms_in : RootKind → List ℕ → List ℕ → List Element
terms_in kind pid bytes = root_elements (roots_in kind (body_in bytes (root_section kind pid (sections bytes))))

-- the terms among all roots of a process: of its stack, its dictionary and its mailbox
abbrev pub root_terms : List ℕ → List ℕ → List Element
root_terms pid bytes = (terms_in Stack pid bytes ++ terms_in Dict pid bytes) ++ terms_in Mail pid bytes

-- the bytes that the section of the binary at an address writes
abbrev pub binary_bytes : ℕ → List ℕ → List ℕ
binary_bytes addr bytes = unwrap_or (whole_bytes bytes (index_of bytes) addr) []

-- the section at this offset writes no bytes
abbrev pub malformed_cause : ℕ → Option (List ℕ) → Option Refusal
malformed_cause at (Some bytes) = None
malformed_cause at None = Some (BadBinary at)

-- why a binary can't be written, or `None`
abbrev pub bad_binary : ℕ → List ℕ → Option Refusal
bad_binary addr bytes =
    option_and_then (λ s. malformed_cause s.at (whole_bytes bytes (index_of bytes) addr)) (binary_section addr (sections bytes))

-- no section is that of the binary
abbrev pub binary_cause : ℕ → Option Section → Option Refusal
binary_cause addr found = if is_some found then None else Some (NoBinary addr)
