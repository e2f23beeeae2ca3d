-- Which references a process holds: those to which the slots of the frame refer in which it stands.
use Rattle.std.specs.Prelude.{ℕ, ◌-◌, ◌==◌, nat_le, List, [], ◌∷◌, Option, None, Some, option_and_then, if◌then◌else◌}
use Rattle.std.specs.List.{cons_option, filter_map, list_any}
use Rattle.binary_payloads.specs.ReadingPayloads.{payload_bytes}
use Rattle.binary_payloads.specs.declared.enc.Enc.{Enc}
use Rattle.etf_terms.specs.References.{reference_in}
use Rattle.heap_cells.specs.Cells.{Cell, line_cells}
use Rattle.root_views.specs.Roots.{BodyRoot, Content, Info, Term, stack_roots}
use Rattle.term_forms.specs.Elements.{Ref}
use Rattle.term_forms.specs.Forms.{HeapForm, Ext}

-- the address to which a root refers, if it is a term that refers to one
abbrev pub address_in : Content → Option ℕ
address_in (Term (Ref address)) = Some address
address_in content = None

-- the address to which a root refers, if words that are no terms are still awaited
abbrev pub slot_in : ℕ → Content → Option ℕ
slot_in awaited content = if awaited == 0 then None else address_in content

-- how many words that are no terms are awaited behind a root
abbrev pub awaited_behind : ℕ → Content → ℕ
awaited_behind awaited (Info text) = awaited - 1
awaited_behind awaited content = awaited

-- the addresses to which roots refer, before so many words that are no terms
abbrev pub slots_before : ℕ → List BodyRoot → List ℕ
slots_before awaited [] = []
slots_before awaited (root ∷ roots) =
    cons_option (slot_in awaited root.content) (slots_before (awaited_behind awaited root.content) roots)

-- the addresses to which the slots of the first frame of a stack refer: the first word that
-- is no term is where the process goes on, and the second is where its caller does
abbrev pub first_slots : List ℕ → List ℕ
first_slots stack = slots_before 2 (stack_roots stack)

-- the words of a reference that is an external term of at most 2,048 bytes, as references to other nodes
-- and those that are longer than a word of the machine are dumped
abbrev pub words_of : Enc → Option HeapForm → Option (List ℕ)
words_of enc (Some (Ext size chars)) = if nat_le size 2048 then option_and_then reference_in (payload_bytes enc chars) else None
words_of enc form = None

-- the words of the reference that a cell is, if one of the slots refers to it
abbrev pub words_held : Enc → List ℕ → Cell → Option (List ℕ)
words_held enc slots cell =
    if list_any (λ address. address == cell.address) slots then words_of enc cell.form else None

-- the words of each reference that a process with this stack and this heap holds
abbrev pub held : Enc → List ℕ → List ℕ → List (List ℕ)
held enc stack heap = filter_map (words_held enc (first_slots stack)) (line_cells enc heap)
