-- What is left of a text while it is read, and the elements that stand there.
use Rattle.std.proofs.Common.{◌≡◌, ℕ, zero, suc, ◌+◌, ◌-◌, ◌<◌, ◌≤◌, List, [], ◌∷◌, ◌++◌, length, drop, Option, Some, None, refl, sym, ◌∙◌, ap, arith, length-append, append_assoc}
use Rattle.std.specs.Prelude.{IfSome}
use Rattle.std.specs.Option.{option_map}
use Rattle.std.specs.Borrow.{Bor}
use Rattle.std.proofs.Math.Seq.{drop-append_seam}
use Rattle.term_forms.specs.Words.{colon, led_of}
use Rattle.term_forms.specs.Elements.{Element}
use Rattle.term_forms.specs.Places.{StandsAt}
use Rattle.term_forms.specs.Reading.{front, whole_of}
use Rattle.term_forms.specs.Seen.{number_rest}
use Rattle.term_forms.specs.Inner.Ends.{IsEnd}
use Rattle.term_forms.specs.ReadingForms.{until_of, joined_of}
use Rattle.term_forms.proofs.Hexes.{led_sound}
use Rattle.term_forms.proofs.FormParts.{until_sound, whole_sound}
use Rattle.term_forms.proofs.Joins.{joined_length, joined_within}
use Rattle.term_forms.proofs.OfElements.{front_whole}

pub end-within : (text rest : List ℕ) → IsEnd text rest → length rest ≤ length text
end-within text rest end = omega (arith, ap length end.split, length-append end.before rest)

pub end-behind : (text rest first behind : List ℕ) (stop : ℕ) → IsEnd text rest → rest ≡ first ++ stop ∷ behind → IsEnd text behind
end-behind text rest first behind stop end split = record {
  before = end.before ++ (first ++ stop ∷ []);
  split = end.split
      ∙ ap (λ t. end.before ++ t) (split ∙ sym (append_assoc first (stop ∷ []) behind))
      ∙ sym (append_assoc end.before (first ++ stop ∷ []) behind);
}

pub number-ends : (text rest : List ℕ) (found : Option (ℕ × Bor (List ℕ))) → IsEnd text rest → option_map number_rest found ≡ led_of rest → IfSome found (λ f. IsEnd text f.1.now)
number-ends text rest None end h = tt
number-ends text rest (Some f) end h = let led = led_sound rest f.0 f.1.now (sym h) in end-behind text rest led.0 f.1.now colon end led.2

begun_some : (rest : List ℕ) (e : Element) (len : ℕ) → front rest ≡ Some (e, len) → 0 < length rest
unfolding front
begun_some [] e len h = cc
begun_some (c ∷ rest) e len h = omega arith

-- what is read of the rest stands there in the text
stands : (text rest : List ℕ) (e : Element) (len : ℕ) → IsEnd text rest → front rest ≡ Some (e, len)
    → StandsAt text (record { at = length text - length rest; len = len; element = e })
stands text rest e len end h =
    let size : length text ≡ length end.before + length rest = ap length end.split ∙ length-append end.before rest in
    let some = begun_some rest e len h in
    let at : length text - length rest ≡ length end.before = omega (arith, size) in
    record {
      within = omega (arith, size, some);
      read = ap front (ap (λ n. drop n text) at ∙ ap (drop (length end.before)) end.split ∙ drop-append_seam end.before rest) ∙ h;
    }

pub until-stands : (text rest : List ℕ) (stop : ℕ) (e : Element) (behind : List ℕ) → IsEnd text rest → until_of stop rest ≡ Some (e, behind)
    → StandsAt text (record { at = length text - length rest; len = length rest - length behind - 1; element = e })
until-stands text rest stop e behind end h =
    let is = until_sound stop rest e behind h in
    let len : length is.0 ≡ length rest - length behind - 1 = omega (arith, ap length is.1, length-append is.0 (stop ∷ behind)) in
    stands text rest e (length rest - length behind - 1) end (is.3 ∙ ap (λ (n : ℕ). Some (e, n)) len)

pub whole-stands : (text rest : List ℕ) (e : Element) → IsEnd text rest → whole_of rest ≡ Some e
    → StandsAt text (record { at = length text - length rest; len = length rest; element = e })
whole-stands text rest e end h = stands text rest e (length rest) end (front_whole rest e (whole_sound rest e h))

-- no element is left
pub over : (rest : List ℕ) → length rest ≡ 0 → joined_of 0 rest ≡ Some []
unfolding joined_of
over [] none = refl
over (c ∷ rest) none = absurd (omega arith)

pub not-over : (rest : List ℕ) → (length rest ≡ 0 → ⊥) → joined_of 0 rest ≡ None
unfolding joined_of
not-over [] some = absurd (some refl)
not-over (c ∷ rest) some = refl

-- of no element none is left, whatever stands there
pub end-over : (rest : List ℕ) (count : ℕ) → count ≡ 0 → IfSome (joined_of count rest) (λ es. es ≡ [])
unfolding joined_of
end-over [] zero none = refl
end-over (c ∷ rest) zero none = tt
end-over rest (suc n) none = absurd (omega (arith, none))

-- there are no more elements than bytes
pub end-few : (text rest : List ℕ) (count : ℕ) → IsEnd text rest → IfSome (joined_of count rest) (λ es. length es ≤ length text)
end-few text rest count end = of (joined_of count rest) refl
  where
    of : (o : Option (List Element)) → joined_of count rest ≡ o → IfSome o (λ es. length es ≤ length text)
    of None e = tt
    of (Some es) e =
        let few = joined_within count rest es e in
        let many = joined_length count rest es e in
        let within = end-within text rest end in
        omega (arith, few, many, within)
