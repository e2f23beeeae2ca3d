-- How much of a term is shown, from the last words of a command.
use Rattle.std.specs.Prelude.{ℕ, Bool, true, false, List, [], ◌∷◌, Option, None, Some, codes, if◌then◌else◌}
use Rattle.std.specs.Option.{option_map}
use Rattle.std.specs.Str.{bytes_eq}
use Rattle.command_words.specs.Ranges.{number_upto}
use Rattle.command_words.specs.declared.budgets.Budget.{Budget}

-- this many nodes of a term, with bad addresses marked in its text or not
abbrev pub budget : Bool → ℕ → Budget
budget marked nodes = record { nodes = nodes; marked = marked }

-- whether a word is `marked`
abbrev pub is_mark : List ℕ → Bool
is_mark word = bytes_eq word (codes "marked")

-- the number of nodes that a word writes: from 1 to 1,000,000,000
abbrev pub counted : Bool → List ℕ → Option Budget
counted marked word = option_map (budget marked) (number_upto 1000000000 word)

-- the last words are a number of nodes, which is 10,000 if it is left out, and then `marked` or nothing
abbrev pub budget_of : List (List ℕ) → Option Budget
budget_of [] = Some (budget false 10000)
budget_of (word ∷ []) = if is_mark word then Some (budget true 10000) else counted false word
budget_of (nodes ∷ mark ∷ []) = if is_mark mark then counted true nodes else None
budget_of words = None
