-- The lines that are written, and how they are read.
use Rattle.std.specs.Prelude.{◌≡◌, ◌⊎◌, ℕ, ◌==◌, Bool, true, not, ◌&&◌, List, [], ◌∷◌, ◌++◌, Option, None, Some, nat_eq}
use Rattle.std.specs.List.{list_all, ends_with, flat_map}
use Rattle.dump_io.specs.Colons.{colon}
use Rattle.dump_io.specs.Lines.{lf, cr, equals_sign, IsEnded, raw_lines, text_of, is_header}
use Rattle.dump_io.specs.Numbers.{hexadecimal}
use Rattle.dump_sections.specs.Sections.{tag_of, id_of}
use Rattle.term_forms.specs.Forms.{HeapForm, plain_form}

-- whether the byte doesn't occur in the text
abbrev pub lacks : ℕ → List ℕ → Bool
lacks c text = list_all (λ b. not (b == c)) text

-- whether the text fits on a line: it has no LF, and no CR at its end, which would belong to the line's end
abbrev pub is_line_text : List ℕ → Bool
is_line_text text = lacks lf text && not (ends_with nat_eq text (cr ∷ []))

-- the line of a text: the text and LF
abbrev pub line : List ℕ → List ℕ
line text = text ++ lf ∷ []

-- the lines of texts, one after another
abbrev pub lines_of : List (List ℕ) → List ℕ
lines_of texts = flat_map line texts

-- the text of a header: an equals sign, the tag, and, if there is an id, a colon and the id
abbrev pub header_text : List ℕ → Option (List ℕ) → List ℕ
header_text tag None = equals_sign ∷ tag
header_text tag (Some id) = equals_sign ∷ (tag ++ colon ∷ id)

-- the text of a heap line: the address, a colon and the form's plain spelling
abbrev pub heap_text : ℕ → HeapForm → List ℕ
heap_text address form = hexadecimal address ++ colon ∷ plain_form form

-- there are no bytes, or the last one is LF
abbrev pub AreWholeLines : List ℕ → Type 0
AreWholeLines bytes = (bytes ≡ []) ⊎ IsEnded bytes

-- the bytes are one raw line, which is read as the text, and add one line to whole lines before them
pub record IsOneLine (text bytes : List ℕ) : Type 0 where
  pub alone : raw_lines bytes ≡ bytes ∷ []
  pub reads : text_of bytes ≡ text
  pub behind : (before : List ℕ) → AreWholeLines before → raw_lines (before ++ bytes) ≡ raw_lines before ++ bytes ∷ []

-- the raw line is a header with this tag and this id
pub record IsHeaderOf (raw tag : List ℕ) (id : Option (List ℕ)) : Type 0 where
  pub header : is_header raw ≡ true
  pub tagged : tag_of (text_of raw) ≡ tag
  pub named : id_of (text_of raw) ≡ id
