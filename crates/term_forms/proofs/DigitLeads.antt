-- The number that leads a text, by the hex digits with which the text begins.
use Rattle.std.proofs.Common.{◌≡◌, ℕ, zero, suc, ◌+◌, ◌-◌, ◌<◌, ◌≤◌, true, List, [], ◌∷◌, ◌++◌, length, take, drop, get_or, None, Some, sym, ◌∙◌, ap, arith, append_assoc, length-append}
use Rattle.std.specs.List.{list_all, prefix_len}
use Rattle.std.proofs.Math.Seq.{take-append-add}
use Rattle.std.proofs.lemmas.List.{get_or-append-add, take-append-drop, take_more}
use Rattle.dump_io.specs.Numbers.{hex_number}
use Rattle.term_forms.specs.Words.{colon, is_hex_digit, led_of}
use Rattle.term_forms.proofs.Hexes.{hex_parts, led_full, led_sound}
use Rattle.term_forms.proofs.Runs.{run_over}
use Rattle.dump_io.specs.Laws.Options.{none-of}

-- how many of the first 16 bytes are the digits before the first other
abbrev digits_of : List ℕ → ℕ
digits_of text = prefix_len is_hex_digit (take 16 text)

colon-ends : (k n : ℕ) (rest : List ℕ) → n + prefix_len is_hex_digit (take k (colon ∷ rest)) ≡ n
colon-ends zero n rest = omega arith
colon-ends (suc k) n rest = omega arith

digits-led : (hex rest : List ℕ) → list_all is_hex_digit hex ≡ true → length hex ≤ 16 → digits_of (hex ++ colon ∷ rest) ≡ length hex
digits-led hex rest all few =
    let k = 16 - length hex in
    let count : 16 ≡ length hex + k = omega (arith, few) in
    ap (λ n. prefix_len is_hex_digit (take n (hex ++ colon ∷ rest))) count
    ∙ ap (prefix_len is_hex_digit) (take-append-add hex (colon ∷ rest) k)
    ∙ run_over is_hex_digit hex (take k (colon ∷ rest)) all
    ∙ colon-ends k (length hex) rest

module _ (text : List ℕ) (n : ℕ) (run : n ≡ digits_of text) where
  pub digits-none : (1 ≤ n → n < length text → get_or text n 0 ≡ colon → ⊥) → led_of text ≡ None
  digits-none none = none-of (led_of text) (λ led found.
      let parts = led_sound text led.0 led.1 found in
      let hex = hex_parts parts.0 led.0 parts.1 in
      let same : n ≡ length parts.0 = run ∙ ap digits_of parts.2 ∙ digits-led parts.0 led.1 hex.digits hex.few in
      let size = ap length parts.2 ∙ length-append parts.0 (colon ∷ led.1) in
      let place : n ≡ length parts.0 + 0 = omega (arith, same) in
      let here : get_or text n 0 ≡ colon =
      ap (λ l. get_or l n 0) parts.2 ∙ ap (λ m. get_or (parts.0 ++ colon ∷ led.1) m 0) place ∙ get_or-append-add parts.0 (colon ∷ led.1) 0 0 in
      none (omega (arith, same, hex.some)) (omega (arith, same, size)) here)

  pub digits-some : n < length text → get_or text n 0 ≡ colon → (number : ℕ) → hex_number (take n text) ≡ Some number
      → led_of text ≡ Some (number, drop (n + 1) text)
  digits-some inside here number is =
      let whole =
      sym (take-append-drop (n + 1) text) ∙ ap (λ l. l ++ drop (n + 1) text) (take_more text n 0 inside ∙ ap (λ c. take n text ++ c ∷ []) here) ∙ append_assoc (take n text) (colon ∷ []) (drop (n + 1) text) in
      led_full text number (drop (n + 1) text) (take n text, is, whole)
