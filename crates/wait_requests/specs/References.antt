-- The texts of references, as a link list has them.
use Rattle.std.specs.Prelude.{◌≡◌, ◌↔◌, ◌<◌, ℕ, ◌==◌, Bool, true, false, List, [], ◌∷◌, ◌++◌, length, drop, codes, bytes_eq, nat_eq, Option, None, Some, if◌then◌else◌}
use Rattle.std.specs.Char.{is_ascii_digit}
use Rattle.std.specs.Int.{w32, from_be_bytes}
use Rattle.std.specs.List.{list_all, prefix_len, starts_with}
use Rattle.std.specs.Option.{option_map_or}
use Rattle.etf_terms.specs.Text.{dotted}

-- the words of a reference, of four bytes each, as its text has them: the last one first, each after a dot
abbrev pub words_backwards : List ℕ → List ℕ
words_backwards (a ∷ b ∷ c ∷ d ∷ words) = words_backwards words ++ dotted (from_be_bytes w32 (a ∷ b ∷ c ∷ d ∷ []))
words_backwards words = []

-- what the text of a reference with these words has behind its first number
abbrev pub tail_of : List ℕ → List ℕ
tail_of words = words_backwards words ++ codes ">"

-- what stands behind the digits with which a text begins, if it begins with one
abbrev pub behind_digits : List ℕ → Option (List ℕ)
behind_digits text = if prefix_len is_ascii_digit text == 0 then None else Some (drop (prefix_len is_ascii_digit text) text)

-- what stands behind the first number of the text of a reference
abbrev pub behind_first : List ℕ → Option (List ℕ)
behind_first text = if starts_with nat_eq text (codes "#Ref<") then behind_digits (drop 5 text) else None

-- whether this stands behind the first number of the text of a reference
abbrev pub has_tail : List ℕ → List ℕ → Bool
has_tail tail text = option_map_or (bytes_eq tail) (behind_first text) false

-- whether a text is that of a reference with these words, whatever its first number is
abbrev pub has_words : List ℕ → List ℕ → Bool
has_words words text = has_tail (tail_of words) text

-- a text is that of a reference with these words: it has a first number of any digits, and the words behind it
pub record IsTextOf (words text : List ℕ) : Type 0 where
  pub first : List ℕ
  pub some : 0 < length first
  pub digits : list_all is_ascii_digit first ≡ true
  pub spelled : text ≡ codes "#Ref<" ++ (first ++ tail_of words)

-- what is computed of words and a text is so
abbrev pub AreTexts : Type 0
AreTexts = (words text : List ℕ) → (has_words words text ≡ true) ↔ IsTextOf words text
