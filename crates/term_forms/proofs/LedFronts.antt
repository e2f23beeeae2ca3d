-- A number that leads a text stands, with its colon, in the first 17 bytes.
use Rattle.std.proofs.Common.{◌≡◌, ℕ, suc, ◌+◌, ◌-◌, List, ◌∷◌, ◌++◌, length, take, drop, Option, None, Some, refl, sym, ◌∙◌, ap, arith, append_assoc, length-append}
use Rattle.std.proofs.lemmas.List.{take-append-drop}
use Rattle.std.proofs.Math.Seq.{take-append-add, drop-append-add}
use Rattle.dump_io.specs.Laws.HexNumbers.{hex_number-short}
use Rattle.term_forms.specs.Words.{colon, led_of}
use Rattle.term_forms.proofs.Hexes.{led_full, led_sound}

-- what the front says of the text
pub front-some : (text rest : List ℕ) (n : ℕ) → led_of (take 17 text) ≡ Some (n, rest)
    → led_of text ≡ Some (n, drop (length (take 17 text) - length rest) text)
front-some text rest n found =
    let led = led_sound (take 17 text) n rest found in
    let hex = led.0 in
    let more = drop 17 text in
    let whole : text ≡ hex ++ colon ∷ (rest ++ more) =
    sym (take-append-drop 17 text) ∙ (ap (λ f. f ++ more) led.2 ∙ append_assoc hex (colon ∷ rest) more) in
    let count : length (take 17 text) - length rest ≡ length hex + 1 =
    let e = ap length led.2 ∙ length-append hex (colon ∷ rest) in omega (arith, e) in
    let behind : drop (length (take 17 text) - length rest) text ≡ rest ++ more =
    ap (λ k. drop k text) count ∙ (ap (drop (length hex + 1)) whole ∙ drop-append-add hex (colon ∷ (rest ++ more)) 1) in
    led_full text n (rest ++ more) (hex, led.1, whole) ∙ ap (λ r. Some (n, r)) (sym behind)

-- a text that a number leads has it in its front
led-front : (text rest : List ℕ) (n : ℕ) → led_of text ≡ Some (n, rest) → (behind : List ℕ) × (led_of (take 17 text) ≡ Some (n, behind))
led-front text rest n found =
    let led = led_sound text n rest found in
    let hex = led.0 in
    let more = 16 - length hex in
    let count : 17 ≡ length hex + suc more = omega (arith, hex_number-short hex n led.1) in
    let front : take 17 text ≡ hex ++ colon ∷ take more rest =
    ap (take 17) led.2 ∙ (ap (λ k. take k (hex ++ colon ∷ rest)) count ∙ take-append-add hex (colon ∷ rest) (suc more)) in
    (take more rest, led_full (take 17 text) n (take more rest) (hex, led.1, front))

pub front-none : (text : List ℕ) → led_of (take 17 text) ≡ None → led_of text ≡ None
front-none text none = of (led_of text) refl
  where
    of : (o : Option (ℕ × List ℕ)) → led_of text ≡ o → led_of text ≡ None
    of None e = e
    of (Some (n, rest)) e = let front = led-front text rest n e in cc (none, front.1)
