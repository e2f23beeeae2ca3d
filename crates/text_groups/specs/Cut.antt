-- How much of a text is shown: a dump may have texts of any length.
use Rattle.std.specs.Prelude.{ℕ, List, take}

-- as much of a text as is shown and compared: at most its first 255 bytes
abbrev pub cut_text : List ℕ → List ℕ
cut_text text = take 255 text
