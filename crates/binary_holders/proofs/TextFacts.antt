-- To which binary a text refers, by what follows its address.
use Rattle.std.proofs.Common.{◌≡◌, ℕ, Bool, true, false, List, ◌++◌, Option, None, Some, refl, ◌∙◌, ap}
use Rattle.std.specs.Prelude.{codes}
use Rattle.std.specs.Option.{option_and_then, option_map}
use Rattle.dump_io.specs.Numbers.{hex_number}
use Rattle.binary_payloads.specs.declared.enc.Enc.{Enc}
use Rattle.term_forms.specs.Forms.{RefBin, SubBin}
use Rattle.term_forms.specs.ReadingForms.{binary_of, form_of, range_of}
use Rattle.term_forms.specs.Words.{led_of}
use Rattle.binary_holders.specs.declared.texts.Reference.{Reference}
use Rattle.binary_holders.specs.HeapReferences.{reference, referred}
use Rattle.binary_holders.specs.Inner.Lines.{range_reference, text_reference}

-- ---- a range

abbrev Range : Type 0
Range = ℕ × ℕ × ℕ

abbrev sized : ℕ → ℕ × List ℕ → Option Range
sized address offset = option_and_then (λ (size : ℕ). Some (address, offset.0, size)) (hex_number offset.1)

abbrev placed : ℕ × List ℕ → Option Range
placed address = option_and_then (sized address.0) (led_of address.1)

range-is : (range : List ℕ) → range_of range ≡ option_and_then placed (led_of range)
unfolding range_of
range-is range = refl

module _ (address : ℕ) (whole : Bool) (range : List ℕ) where
  abbrev ends : Option Range → Option Reference
  ends = option_map (λ (parts : Range). reference address whole parts.0)

  pub number-none : led_of range ≡ None → range_reference address whole range ≡ None
  number-none none = ap ends (range-is range ∙ ap (option_and_then placed) none)

  module _ (rest : List ℕ) (number : ℕ) (is : led_of range ≡ Some (number, rest)) where
    here : range_reference address whole range ≡ ends (placed (number, rest))
    here = ap ends (range-is range ∙ ap (option_and_then placed) is)

    pub offset-none : led_of rest ≡ None → range_reference address whole range ≡ None
    offset-none none = here ∙ ap (λ o. ends (option_and_then (sized number) o)) none

    module _ (size : List ℕ) (offset : ℕ) (behind : led_of rest ≡ Some (offset, size)) where
      there : range_reference address whole range ≡ ends (sized number (offset, size))
      there = here ∙ ap (λ o. ends (option_and_then (sized number) o)) behind

      pub sized-none : hex_number size ≡ None → range_reference address whole range ≡ None
      sized-none none = there ∙ ap (λ o. ends (option_and_then (λ (n : ℕ). Some (number, offset, n)) o)) none

      pub sized-some : (n : ℕ) → hex_number size ≡ Some n → range_reference address whole range ≡ Some (reference address whole number)
      sized-some n some = there ∙ ap (λ o. ends (option_and_then (λ (n : ℕ). Some (number, offset, n)) o)) some

-- ---- a form

read-whole : (address : ℕ) (o : Option Range) → referred address (option_and_then (λ (r : Range). Some (RefBin r.0 r.1 r.2)) o) ≡ option_map (λ (r : Range). reference address true r.0) o
read-whole address None = refl
read-whole address (Some r) = refl

read-part : (address : ℕ) (o : Option Range) → referred address (option_and_then (λ (r : Range). Some (SubBin r.0 r.1 r.2)) o) ≡ option_map (λ (r : Range). reference address false r.0) o
read-part address None = refl
read-part address (Some r) = refl

whole-read : (enc : Enc) (address : ℕ) (range : List ℕ) → referred address (form_of enc (codes "Yc" ++ range)) ≡ range_reference address true range
unfolding form_of binary_of
whole-read enc address range = read-whole address (range_of range)

part-read : (enc : Enc) (address : ℕ) (range : List ℕ) → referred address (form_of enc (codes "Ys" ++ range)) ≡ range_reference address false range
unfolding form_of binary_of
part-read enc address range = read-part address (range_of range)

module _ (enc : Enc) (text rest : List ℕ) (address : ℕ) (is : led_of text ≡ Some (address, rest)) where
  text-read : text_reference enc text ≡ referred address (form_of enc rest)
  text-read = ap (option_and_then (λ (led : ℕ × List ℕ). referred led.0 (form_of enc led.1))) is

  pub whole-spelled : (range : List ℕ) → rest ≡ codes "Yc" ++ range → text_reference enc text ≡ range_reference address true range
  whole-spelled range spelled = text-read ∙ ap (λ l. referred address (form_of enc l)) spelled ∙ whole-read enc address range

  pub part-spelled : (range : List ℕ) → rest ≡ codes "Ys" ++ range → text_reference enc text ≡ range_reference address false range
  part-spelled range spelled = text-read ∙ ap (λ l. referred address (form_of enc l)) spelled ∙ part-read enc address range
