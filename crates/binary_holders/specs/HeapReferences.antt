-- To which of the binaries outside the heaps a heap refers.
use Rattle.std.specs.Prelude.{ℕ, Bool, true, false, List, map, Option, None, Some}
use Rattle.std.specs.List.{filter_map}
use Rattle.dump_sections.specs.Bodies.{body_in}
use Rattle.dump_sections.specs.Index.{Contents, sections_in}
use Rattle.binary_payloads.specs.declared.enc.Enc.{Enc}
use Rattle.term_forms.specs.Forms.{HeapForm, RefBin, SubBin}
use Rattle.heap_cells.specs.Cells.{line_cells}
use Rattle.heap_cells.specs.Loading.{enc_of, heap_section}
use Rattle.binary_holders.specs.declared.texts.Reference.{Reference}

-- the reference of the line with an address to the binary with a number: to the whole binary, or to a part of it
abbrev pub reference : ℕ → Bool → ℕ → Reference
reference address whole number = record { address = address; number = number; whole = whole }

-- to which binary the form of the line with an address refers, if it is that of a whole
-- binary or of a part of one, whose own address is a number like others
abbrev pub referred : ℕ → Option HeapForm → Option Reference
referred address (Some (RefBin number offset size)) = Some (reference address true number)
referred address (Some (SubBin number offset size)) = Some (reference address false number)
referred address form = None

-- the references of the heap lines of a body, line by line, one for each line with such a form
abbrev pub references : Enc → List ℕ → List Reference
references enc body = filter_map (λ cell. referred cell.address cell.form) (line_cells enc body)

-- the numbers of the binaries to which these refer
abbrev pub numbers_referred : List Reference → List ℕ
numbers_referred references = map (λ reference. reference.number) references

-- the references of the heap of a pid, which is the body of its first `proc_heap` section
abbrev pub references_of : List ℕ → Contents → List ℕ → List Reference
references_of dump index pid = references (enc_of index.version) (body_in dump (heap_section pid (sections_in index)))
