-- Which processes have signals that wait: another has sent them, and the process hasn't handled them yet.
use Rattle.std.specs.Prelude.{ℕ, zero, suc, Bool, false, List, [], ◌∷◌, codes, nat_eq, if◌then◌else◌}
use Rattle.std.specs.List.{list_any, starts_with}
use Rattle.std.specs.Option.{option_map_or}
use Rattle.std.specs.Str.{bytes_eq}
use Rattle.section_rows.specs.Rows.{Column, field, Row, cell_at, text_in}

-- what stands between two words of an internal state
abbrev pub separator : List ℕ
separator = codes " | "

-- puts a byte in front of the first of some words
abbrev pub in_front : ℕ → List (List ℕ) → List (List ℕ)
in_front c [] = (c ∷ []) ∷ []
in_front c (word ∷ words) = (c ∷ word) ∷ words

-- the words of what is left of a state, of which the first bytes belong to a separator
abbrev pub words_behind : ℕ → List ℕ → List (List ℕ)
words_behind passed [] = [] ∷ []
words_behind (suc passed) (c ∷ rest) = words_behind passed rest
words_behind zero (c ∷ rest) =
    if starts_with nat_eq (c ∷ rest) separator then [] ∷ words_behind 2 rest else in_front c (words_behind 0 rest)

-- the words of an internal state, which is cut at each separator from the left
abbrev pub state_words : List ℕ → List (List ℕ)
state_words text = words_behind 0 text

-- the words that say that signals wait
abbrev pub signal_words : List (List ℕ)
signal_words = codes "SIG_Q" ∷ codes "SIG_IN_Q" ∷ codes "NMSG_SIG_IN_Q" ∷ []

-- whether a word is one of them
abbrev pub is_signal : List ℕ → Bool
is_signal word = list_any (bytes_eq word) signal_words

-- whether an internal state has one of them
abbrev pub has_signal : List ℕ → Bool
has_signal text = list_any is_signal (state_words text)

-- what is kept of a process to see whether signals wait
abbrev pub signal_columns : List Column
signal_columns = field (codes "Internal State") ∷ []

-- whether signals wait for the process of a row whose first cell is its internal state
abbrev pub is_signalled : Row → Bool
is_signalled row = option_map_or has_signal (text_in (cell_at row 0)) false
