-- The definitions at worked examples, which the checker computes.
use Rattle.std.proofs.Common.{◌≡◌, ℕ, true, false, List, [], ◌∷◌, map, filter, None, Some, refl}
use Rattle.std.specs.Prelude.{codes}
use Rattle.dump_sections.specs.Sections.{sections}
use Rattle.term_forms.specs.Forms.{HeapBin, RefBin, SubBin}
use Rattle.binary_holders.specs.HeapReferences.{reference, referred}
use Rattle.binary_holders.specs.declared.rows.Holding.{Holding}
use Rattle.binary_holders.specs.Held.{BinaryHeap, has_binaries, holders_of, holdings, is_holder, whole_lines}
use Rattle.binary_holders.specs.StoredBinaries.{stored}

-- of the sections with one number the first is stored, and one without a number isn't
stored_sections : map (λ b. b.section.at) (stored (sections (codes "=erl_crash_dump:0.5\n=binary:a0\n=binary:x\n=binary:00A0\n=binary\n=proc_heap:1\n=binary:1\n"))) ≡ 20 ∷ 75 ∷ []
stored_sections = refl

-- a heap with these lines, of which each has an address and refers to a whole binary, of a process with such a count
abbrev heap : ℕ → List (ℕ × ℕ) → BinaryHeap
heap counted lines = record { counted = counted; references = map (λ line. reference line.0 true line.1) lines }

-- the second of three processes holds a binary of 5 bytes, by one of two lines
one_holder : filter is_holder (holdings (record { number = 1280; size = 5 } ∷ []) (heap 8 [] ∷ heap 0 ((16, 7) ∷ (32, 1280) ∷ []) ∷ heap 0 ((16, 7) ∷ []) ∷ []))
    ≡ record { process = 1; counted = 0; bytes = 5; total = 5; count = 1; lines = 2; cells = 1; first = 32 } ∷ []
one_holder = refl

-- the others have binaries by the node's count, or by a line
all_with_binaries : map (λ (h : Holding). h.process) (filter has_binaries (holdings (record { number = 1280; size = 5 } ∷ []) (heap 8 [] ∷ heap 0 [] ∷ heap 0 ((16, 7) ∷ []) ∷ []))) ≡ 0 ∷ 2 ∷ []
all_with_binaries = refl

-- a binary counts once for a process, however many lines refer to it, and a sum is shown as at most 2^64 - 1
counted_once : holdings (record { number = 1; size = 18446744073709551615 } ∷ record { number = 2; size = 3 } ∷ []) (heap 16 ((40, 2) ∷ (24, 2) ∷ []) ∷ heap 0 ((8, 1) ∷ (16, 2) ∷ []) ∷ [])
    ≡ record { process = 0; counted = 16; bytes = 3; total = 3; count = 1; lines = 2; cells = 2; first = 40 }
    ∷ record { process = 1; counted = 0; bytes = 18446744073709551615; total = 18446744073709551618; count = 2; lines = 2; cells = 2; first = 8 } ∷ []
counted_once = refl

-- so many heaps hold a binary
holder_count : map (holders_of ((2 ∷ 2 ∷ []) ∷ (1 ∷ 2 ∷ []) ∷ [])) (1 ∷ 2 ∷ 3 ∷ []) ≡ 1 ∷ 2 ∷ 0 ∷ []
holder_count = refl

-- the form of a whole binary and that of a part are references, whatever their addresses; others aren't
both_references : map (referred 32) (Some (RefBin 1280 0 1) ∷ Some (SubBin 16 2 3) ∷ Some (HeapBin 1 (codes "AA==")) ∷ None ∷ []) ≡ Some (reference 32 true 1280) ∷ Some (reference 32 false 16) ∷ None ∷ None ∷ []
both_references = refl

-- of three lines of whole binaries one refers to none of the binaries; a part isn't counted
whole_and_unstored : whole_lines (record { number = 1; size = 5 } ∷ []) (reference 16 true 1 ∷ reference 24 false 2 ∷ reference 32 true 3 ∷ reference 40 true 1 ∷ []) ≡ record { count = 3; unstored = 1 }
whole_and_unstored = refl
