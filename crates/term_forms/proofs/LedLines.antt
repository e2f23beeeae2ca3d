-- What a reader that answers as `led_of` does says of the text.
use Rattle.std.proofs.Common.{◌≡◌, ℕ, List, Option, Some, None, sym}
use Rattle.std.specs.Borrow.{Bor}
use Rattle.std.specs.Prelude.{IfSome, IfNone}
use Rattle.std.specs.Option.{option_map}
use Rattle.term_forms.specs.Words.{IsLed, led_of}
use Rattle.term_forms.specs.Seen.{number_rest}
use Rattle.term_forms.proofs.Hexes.{led_full, led_sound}

pub found_line : (text : List ℕ) (result : Option (ℕ × Bor (List ℕ))) → option_map number_rest result ≡ led_of text → IfSome result (λ found. IsLed text found.0 found.1.now)
found_line text None h = tt
found_line text (Some found) h = led_sound text found.0 found.1.now (sym h)

pub no_line : (text : List ℕ) (result : Option (ℕ × Bor (List ℕ))) → option_map number_rest result ≡ led_of text → IfNone result ((n : ℕ) (rest : List ℕ) → IsLed text n rest → ⊥)
no_line text None h = λ n rest led. (let e : led_of text ≡ Some (n, rest) = led_full text n rest led in cc)
no_line text (Some found) h = tt
