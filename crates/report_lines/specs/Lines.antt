-- The parts of lines, and lines that several reports have.
use Rattle.std.specs.Prelude.{ℕ, zero, suc, List, [], ◌∷◌, ◌++◌, decimal, codes, unwrap_or, Option}

-- what stands between two words
abbrev pub word_space : List ℕ
word_space = codes " "

-- what stands between two cells of a row
abbrev pub tab : List ℕ
tab = codes "\t"

-- the end of a line
abbrev pub newline : List ℕ
newline = codes "\n"

-- a text, or `-` if there is none
abbrev pub text_or_dash : Option (List ℕ) → List ℕ
text_or_dash text = unwrap_or text (codes "-")

-- a line of parts, with the same between each two of them
abbrev pub line_of : List ℕ → List (List ℕ) → List ℕ
line_of between [] = newline
line_of between (part ∷ []) = part ++ newline
line_of between (part ∷ rest) = part ++ (between ++ line_of between rest)

-- the last line of a list: what its lines are, and how many there are
abbrev pub total_line : List ℕ → ℕ → List ℕ
total_line word count = line_of word_space (word ∷ decimal count ∷ [])

-- the line of something that is counted: a word, the number and what it is; what doesn't occur has none
abbrev pub count_line : List ℕ → List ℕ → ℕ → List ℕ
count_line word counted zero = []
count_line word counted (suc more) = line_of tab (word ∷ decimal (suc more) ∷ counted ∷ [])
