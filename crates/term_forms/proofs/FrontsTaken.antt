-- What is read at a text's front spells the element that it is read as.
use Rattle.std.proofs.Common.{◌≡◌, ℕ, suc, ◌+◌, ◌-◌, ◌≤◌, ◌==◌, Bool, true, false, List, [], ◌∷◌, ◌++◌, length, take, drop, Some, None, refl, sym, ◌∙◌, ap, subst, add-one, arith, if◌then◌else◌, inl, inr}
use Rattle.std.specs.Prelude.{nat_le, nat_eq, ◌⊎◌}
use Rattle.std.specs.List.{prefix_len, starts_with}
use Rattle.std.proofs.lemmas.Bool.{leb-true, eqb-true}
use Rattle.std.proofs.lemmas.List.{length-append, length-take, length-take-le}
use Rattle.std.proofs.lemmas.List.Sums.{prefix_len-le-length}
use Rattle.std.proofs.lemmas.Option.{same_Some}
use Rattle.std.proofs.Math.Seq.{take-append-add}
use Rattle.dump_io.specs.Numbers.{hex_number}
use Rattle.term_forms.specs.Words.{colon, is_hex_digit, IsLed, led_of}
use Rattle.term_forms.specs.Reading.{front, ◌>>=◌, integer_len, bracketed_len, small_front, atom_front, pid_front, port_front, ref_front, port_word}
use Rattle.term_forms.specs.Elements.{Element, Nil, Small, Atom, Pid, Port, Ref, IsElem}
use Rattle.term_forms.proofs.Steps.{bind_some, chosen, guard_some}
use Rattle.term_forms.proofs.Hexes.{led_sound}
use Rattle.term_forms.proofs.WordTexts.{integer_sound, bracketed_sound, starts_parts}

-- behind its first byte c the text begins as the element that was found says
abbrev Takes : ℕ → List ℕ → Element × ℕ → Type 0
Takes c text found = (found.1 ≤ suc (length text)) × IsElem (take found.1 (c ∷ text)) found.0

one_more : (c : ℕ) (text : List ℕ) (n : ℕ) → take (n + 1) (c ∷ text) ≡ c ∷ take n text
one_more c text n = ap (λ k. take k (c ∷ text)) (add-one n)

small_takes : (text : List ℕ) (found : Element × ℕ) → small_front text ≡ Some found → Takes 73 text found
unfolding small_front
small_takes text found h =
    let step = bind_some (integer_len text) (λ n. Some (Small (take n text), n + 1)) found h in
    let is = integer_sound text step.0 step.1 in
    subst (Takes 73 text) (same_Some (Small (take step.0 text), step.0 + 1) found step.2)
    (omega (arith, is.0), (one_more 73 text step.0, is.1))

atom_led : (text : List ℕ) (n : ℕ) (more : List ℕ) → IsLed text n more → n ≤ length more → Takes 65 text (Atom (take n more), length text - length more + n + 1)
atom_led text n more led inside =
    let hex = led.0 in
    let size : length text ≡ length led.0 + suc (length more) = ap length led.2 ∙ length-append led.0 (colon ∷ more) in
    let len : length text - length more + n ≡ length led.0 + suc n = omega (arith, size) in
    let front : take (length text - length more + n) text ≡ led.0 ++ colon ∷ take n more
    = ap (λ k. take k text) len ∙ ap (λ t. take (length led.0 + suc n) t) led.2 ∙ take-append-add led.0 (colon ∷ more) (suc n) in
    let count : n ≡ length (take n more) = sym (length-take-le n more inside) in (
      omega (arith, size, inside),
      (take (length text - length more + n) text, one_more 65 text (length text - length more + n), (led.0, led.1 ∙ ap Some count, front)),
    )

atom_takes : (text : List ℕ) (found : Element × ℕ) → atom_front text ≡ Some found → Takes 65 text found
unfolding atom_front
atom_takes text found h =
    let step = bind_some (led_of text) (λ led. if nat_le led.0 (length led.1) then Some (Atom (take led.0 led.1), length text - length led.1 + led.0 + 1) else None) found h in
    let guard = guard_some (nat_le step.0.0 (length step.0.1)) (Atom (take step.0.0 step.0.1), length text - length step.0.1 + step.0.0 + 1) found step.2 in
    subst (Takes 65 text) guard.1 (atom_led text step.0.0 step.0.1 (led_sound text step.0.0 step.0.1 step.1) (leb-true step.0.0 (length step.0.1) guard.0))

pid_takes : (text : List ℕ) (found : Element × ℕ) → pid_front text ≡ Some found → Takes 80 text found
unfolding pid_front
pid_takes text found h =
    let step = bind_some (bracketed_len text) (λ n. Some (Pid (take n text), n + 1)) found h in
    let is = bracketed_sound text step.0 step.1 in
    subst (Takes 80 text) (same_Some (Pid (take step.0 text), step.0 + 1) found step.2)
    (omega (arith, is.0), (one_more 80 text step.0, is.1))

-- `p` may have `#Port` behind it, or not
port_skip : (text : List ℕ) (skip : ℕ) (word : List ℕ) (found : Element × ℕ) → text ≡ word ++ drop skip text → skip ≡ length word
    → ((t : List ℕ) (port : List ℕ) → t ≡ 112 ∷ (word ++ port) → (t ≡ 112 ∷ port) ⊎ (t ≡ 112 ∷ (port_word ++ port)))
    → (bracketed_len (drop skip text) >>= λ n. Some (Port (take n (drop skip text)), skip + n + 1)) ≡ Some found → Takes 112 text found
port_skip text skip word found split size either h =
    let rest = drop skip text in
    let step = bind_some (bracketed_len (drop skip text)) (λ n. Some (Port (take n (drop skip text)), skip + n + 1)) found h in
    let is = bracketed_sound (drop skip text) step.0 step.1 in
    let count : length text ≡ length word + length (drop skip text) = ap length split ∙ length-append word (drop skip text) in
    let front : take (skip + step.0) text ≡ word ++ take step.0 (drop skip text)
    = ap (λ k. take (k + step.0) text) size ∙ ap (λ t. take (length word + step.0) t) split ∙ take-append-add word (drop skip text) step.0 in
    let spelled : take (skip + step.0 + 1) (112 ∷ text) ≡ 112 ∷ (word ++ take step.0 (drop skip text)) = one_more 112 text (skip + step.0) ∙ ap (λ t. 112 ∷ t) front in
    subst (Takes 112 text) (same_Some (Port (take step.0 (drop skip text)), skip + step.0 + 1) found step.2)
    (omega (arith, count, is.0, size), (either (take (skip + step.0 + 1) (112 ∷ text)) (take step.0 (drop skip text)) spelled, is.1))

port_takes_by : (text : List ℕ) (found : Element × ℕ) (b : Bool) → starts_with nat_eq text port_word ≡ b
    → (bracketed_len (drop (if b then 5 else 0) text) >>= λ n. Some (Port (take n (drop (if b then 5 else 0) text)), (if b then 5 else 0) + n + 1)) ≡ Some found → Takes 112 text found
port_takes_by text found false e h = port_skip text 0 [] found refl refl (λ t port s. inl s) h
port_takes_by text found true e h = port_skip text 5 port_word found (starts_parts text port_word e) refl (λ t port s. inr s) h

port_takes : (text : List ℕ) (found : Element × ℕ) → port_front text ≡ Some found → Takes 112 text found
unfolding port_front
port_takes text found h = port_takes_by text found (starts_with nat_eq text port_word) refl h

ref_takes : (text : List ℕ) (found : Element × ℕ) → ref_front text ≡ Some found → Takes 72 text found
unfolding ref_front
ref_takes text found h =
    let step = bind_some (hex_number (take (prefix_len is_hex_digit (take 16 text)) text)) (λ address. Some (Ref address, prefix_len is_hex_digit (take 16 text) + 1)) found h in
    let inside : prefix_len is_hex_digit (take 16 text) ≤ length text = omega (arith, prefix_len-le-length is_hex_digit (take 16 text), length-take 16 text) in
    subst (Takes 72 text) (same_Some (Ref step.0, prefix_len is_hex_digit (take 16 text) + 1) found step.2)
    (omega (arith, inside), (take (prefix_len is_hex_digit (take 16 text)) text, one_more 72 text (prefix_len is_hex_digit (take 16 text)), step.1))

nil_takes : (text : List ℕ) (found : Element × ℕ) → Some (Nil, 1) ≡ Some found → Takes 78 text found
nil_takes text found h = subst (Takes 78 text) (same_Some (Nil, 1) found h) (omega arith, refl)

tagged : (c tag : ℕ) (text : List ℕ) (found : Element × ℕ) → (c == tag) ≡ true → Takes tag text found → Takes c text found
tagged c tag text found e h = subst (λ c. Takes c text found) (sym (eqb-true c tag e)) h

front_takes : (c : ℕ) (text : List ℕ) (found : Element × ℕ) → front (c ∷ text) ≡ Some found → Takes c text found
unfolding front
front_takes c text found h =
    elim (chosen (c == 78) (Some (Nil, 1)) _ (Some found) h) as (λ _. Takes c text found) [
      | inl p ↦ tagged c 78 text found p.0 (nil_takes text found p.1)
      | inr p ↦ elim (chosen (c == 73) (small_front text) _ (Some found) p.1) as (λ _. Takes c text found) [
        | inl q ↦ tagged c 73 text found q.0 (small_takes text found q.1)
        | inr q ↦ elim (chosen (c == 65) (atom_front text) _ (Some found) q.1) as (λ _. Takes c text found) [
          | inl r ↦ tagged c 65 text found r.0 (atom_takes text found r.1)
          | inr r ↦ elim (chosen (c == 80) (pid_front text) _ (Some found) r.1) as (λ _. Takes c text found) [
            | inl s ↦ tagged c 80 text found s.0 (pid_takes text found s.1)
            | inr s ↦ elim (chosen (c == 112) (port_front text) _ (Some found) s.1) as (λ _. Takes c text found) [
              | inl t ↦ tagged c 112 text found t.0 (port_takes text found t.1)
              | inr t ↦ elim (chosen (c == 72) (ref_front text) None (Some found) t.1) as (λ _. Takes c text found) [
                | inl u ↦ tagged c 72 text found u.0 (ref_takes text found u.1)
                | inr u ↦ absurd (let e : None ≡ Some found = u.1 in cc)
              ]
            ]
          ]
        ]
      ]
    ]

-- what is read is a part of the text, and spells the element
pub front_sound : (text : List ℕ) (e : Element) (n : ℕ) → front text ≡ Some (e, n) → (n ≤ length text) × IsElem (take n text) e
unfolding front
front_sound [] e n h = absurd (let none : None ≡ Some (e, n) = h in cc)
front_sound (c ∷ text) e n h = front_takes c text (e, n) h
