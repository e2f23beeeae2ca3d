-- The texts of the roots of a process, of one term, of an external term, and of a whole binary. Offsets are of the file.
use Rattle.std.specs.Prelude.{ℕ, zero, suc, ◌+◌, ◌/◌, Bool, List, [], ◌∷◌, ◌++◌, length, take, drop, decimal, codes}
use Rattle.std.specs.List.{flat_map}
use Rattle.dump_io.specs.Numbers.{hexadecimal, hex_byte}
use Rattle.etf_terms.specs.Reading.{external_text}
use Rattle.term_forms.specs.Elements.{Element, Ref}
use Rattle.term_unfold.specs.Walks.{Walk, answer}
use Rattle.root_views.specs.Shown.{some_of}
use Rattle.root_views.specs.Roots.{Content, Term, Info, Dist, Unread, BodyRoot}
use Rattle.report_lines.specs.Lines.{line_of, newline, word_space, total_line}

-- the answer to an element within a budget of nodes, over a heap and its previews
abbrev pub answer_over : Walk → ℕ → Bool → Element → List ℕ
answer_over walk budget marked e = answer walk.heap.enc walk.previews walk.heap.cells e budget marked

-- what a root is, where `say` gives the answer to an element
abbrev pub content_text : (Element → List ℕ) → Content → List ℕ
content_text say (Term e) = say e
content_text say (Info text) = codes "# " ++ text
content_text say (Dist text) = codes "D " ++ decimal (length text)
content_text say Unread = codes "?"

-- the line of a root: its offset, given where the body begins, its label, and what it is
abbrev pub root_line : (Element → List ℕ) → ℕ → BodyRoot → List ℕ
root_line say base root = line_of word_space (decimal (base + root.at) ∷ root.label ∷ content_text say root.content ∷ [])

-- a line for each root of a body that begins at this offset
abbrev pub root_lines : (Element → List ℕ) → ℕ → List BodyRoot → List ℕ
root_lines say base roots = flat_map (root_line say base) roots

-- the lines of the roots that are shown of a body that begins at this offset, and of how many roots it has in all
abbrev pub shown_report : (Element → List ℕ) → ℕ → List BodyRoot → ℕ → List ℕ
shown_report say base shown count = root_lines say base shown ++ total_line (codes "roots") count

-- the report of all roots of a body that begins at this offset
abbrev pub roots_report : (Element → List ℕ) → ℕ → List BodyRoot → List ℕ
roots_report say base roots = shown_report say base roots (length roots)

-- the report of at most this many of the roots of a body that begins at this offset, from a place on
abbrev pub some_roots_report : (Element → List ℕ) → ℕ → ℕ → ℕ → List BodyRoot → List ℕ
some_roots_report say base first most roots = shown_report say base (some_of first most roots) (length roots)

-- the report of one term: the answer to the reference to this address
abbrev pub term_report : (Element → List ℕ) → ℕ → List ℕ
term_report say address = say (Ref address) ++ newline

-- the report of the external term with these bytes
abbrev pub ext_report : List ℕ → List ℕ
ext_report bytes = external_text bytes ++ newline

-- a line of bytes in upper-case hex
abbrev pub hex_line : List ℕ → List ℕ
hex_line bytes = flat_map hex_byte bytes ++ newline

-- this many lines of 32 bytes, the last of as many as are left
abbrev pub hex_lines : ℕ → List ℕ → List ℕ
hex_lines zero bytes = []
hex_lines (suc lines) bytes = hex_line (take 32 bytes) ++ hex_lines lines (drop 32 bytes)

-- how many lines hold all bytes
abbrev pub line_count : List ℕ → ℕ
line_count bytes = (length bytes + 31) / 32

-- the first line: the address of a binary, and how many bytes it has
abbrev pub binary_heading : ℕ → ℕ → List ℕ
binary_heading address size = line_of word_space (codes "binary" ∷ hexadecimal address ∷ codes "size" ∷ decimal size ∷ [])

-- the report of the binary with this address
abbrev pub binary_report : ℕ → List ℕ → List ℕ
binary_report address bytes = binary_heading address (length bytes) ++ hex_lines (line_count bytes) bytes
