-- Who holds a cell, and the number that stands for it.
use Rattle.std.specs.Prelude.{ℕ, zero, suc, ◌+◌, Bool, true, false, List, [], ◌∷◌, slice_index_or}
use Rattle.heap_weights.specs.declared.holders.Holder.{Holder}
use Rattle.heap_weights.specs.declared.holders.Holder.TheVariants.{Nobody, Several, Part}

-- nobody, a part, or several, by the numbers of the parts that reach the cell
abbrev pub holder_among : List ℕ → Holder
holder_among [] = Nobody
holder_among (part ∷ []) = Part part
holder_among (part ∷ other ∷ more) = Several

-- a part comes to a cell: it holds the cell alone if nobody did
abbrev pub held_too : ℕ → Holder → Holder
held_too part Nobody = Part part
held_too part holder = Several

-- who holds a cell, if this is so, once a part has come to it, and otherwise as before
abbrev pub held_if : Bool → ℕ → Holder → Holder
held_if true part holder = held_too part holder
held_if false part holder = holder

-- who holds the cell with a number
abbrev pub holder_at : List Holder → ℕ → Holder
holder_at holders n = slice_index_or holders n Nobody

-- the number that stands for a holder
abbrev pub label_of : Holder → ℕ
label_of Nobody = 0
label_of Several = 1
label_of (Part part) = part + 2

-- the holder for which a number stands
abbrev pub labelled : ℕ → Holder
labelled zero = Nobody
labelled (suc zero) = Several
labelled (suc (suc part)) = Part part

-- whether a cell with this holder is held
abbrev pub is_held : Holder → Bool
is_held Nobody = false
is_held holder = true

-- whether several parts hold a cell with this holder
abbrev pub is_several : Holder → Bool
is_several Several = true
is_several holder = false
