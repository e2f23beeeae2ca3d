-- What the text of an element says of the element, by its first byte.
use Rattle.std.proofs.Common.{◌≡◌, ℕ, List, ◌∷◌, length, drop, Option, None, Some, refl, sym, ◌∙◌, ap, subst, arith, inl, inr}
use Rattle.std.specs.Prelude.{◌↔◌, IsSome}
use Rattle.std.proofs.lemmas.Option.{same_Some}
use Rattle.term_forms.specs.Elements.{Element, Nil, Small, Atom, Pid, Port, Ref, IsElem}
use Rattle.term_forms.specs.Reading.{whole_of}
use Rattle.dump_io.specs.Letters.{letter}
use Rattle.term_forms.specs.Words.{IsLed, led_of}

-- what is read of a whole text is the element that it spells
abbrev pub IsRead : Type 0
IsRead = (text : List ℕ) (e : Element) → (whole_of text ≡ Some e) ↔ IsElem text e

-- what leads a text is read
abbrev pub IsLedRead : Type 0
IsLedRead = (text : List ℕ) (n : ℕ) (rest : List ℕ) → (led_of text ≡ Some (n, rest)) ↔ IsLed text n rest

some-is : {X : Type 0} (o : Option X) → IsSome o → (x : X) × (o ≡ Some x)
some-is None is = cc
some-is (Some x) is = (x, refl)

small-is : (rest : List ℕ) (e : Element) → IsElem (73 ∷ rest) e → e ≡ Small rest
small-is rest Nil is = let c : 73 ≡ 78 = ap letter is in absurd (omega (arith, c))
small-is rest (Small integer) is = ap Small (sym (ap (drop 1) is.0))
small-is rest (Atom bytes) is = let c : 73 ≡ 65 = ap letter is.1 in absurd (omega (arith, c))
small-is rest (Pid pid) is = let c : 73 ≡ 80 = ap letter is.0 in absurd (omega (arith, c))
small-is rest (Port port) (inl short, is) = let c : 73 ≡ 112 = ap letter short in absurd (omega (arith, c))
small-is rest (Port port) (inr long, is) = let c : 73 ≡ 112 = ap letter long in absurd (omega (arith, c))
small-is rest (Ref address) is = let c : 73 ≡ 72 = ap letter is.1 in absurd (omega (arith, c))

pid-is : (rest : List ℕ) (e : Element) → IsElem (80 ∷ rest) e → e ≡ Pid rest
pid-is rest Nil is = let c : 80 ≡ 78 = ap letter is in absurd (omega (arith, c))
pid-is rest (Small integer) is = let c : 80 ≡ 73 = ap letter is.0 in absurd (omega (arith, c))
pid-is rest (Atom bytes) is = let c : 80 ≡ 65 = ap letter is.1 in absurd (omega (arith, c))
pid-is rest (Pid pid) is = ap Pid (sym (ap (drop 1) is.0))
pid-is rest (Port port) (inl short, is) = let c : 80 ≡ 112 = ap letter short in absurd (omega (arith, c))
pid-is rest (Port port) (inr long, is) = let c : 80 ≡ 112 = ap letter long in absurd (omega (arith, c))
pid-is rest (Ref address) is = let c : 80 ≡ 72 = ap letter is.1 in absurd (omega (arith, c))

atom-is : (rest : List ℕ) (e : Element) (n : ℕ) (name : List ℕ) → IsLedRead → IsElem (65 ∷ rest) e → led_of rest ≡ Some (n, name) → e ≡ Atom name
atom-is rest Nil n name led is found = let c : 65 ≡ 78 = ap letter is in absurd (omega (arith, c))
atom-is rest (Small integer) n name led is found = let c : 65 ≡ 73 = ap letter is.0 in absurd (omega (arith, c))
atom-is rest (Atom bytes) n name led is found =
    let same : rest ≡ is.0 = ap (drop 1) is.1 in
    let read : led_of rest ≡ Some (length bytes, bytes) = ap led_of same ∙ (led is.0 (length bytes) bytes).1 is.2 in
    ap (λ (led : ℕ × List ℕ). Atom led.1) (same_Some (length bytes, bytes) (n, name) (sym read ∙ found))
atom-is rest (Pid pid) n name led is found = let c : 65 ≡ 80 = ap letter is.0 in absurd (omega (arith, c))
atom-is rest (Port port) n name led (inl short, is) found = let c : 65 ≡ 112 = ap letter short in absurd (omega (arith, c))
atom-is rest (Port port) n name led (inr long, is) found = let c : 65 ≡ 112 = ap letter long in absurd (omega (arith, c))
atom-is rest (Ref address) n name led is found = let c : 65 ≡ 72 = ap letter is.1 in absurd (omega (arith, c))

-- the element that a whole text is known to spell, by its tag
by-tag : (tag c : ℕ) (rest : List ℕ) (e : Element) → IsRead → tag ≡ c → IsSome (whole_of (tag ∷ rest)) → ((other : Element) → IsElem (c ∷ rest) other → other ≡ e)
    → Some e ≡ whole_of (tag ∷ rest)
by-tag tag c rest e read same some one =
    let found = some-is (whole_of (tag ∷ rest)) some in
    let is : IsElem (c ∷ rest) found.0 = subst (λ t. IsElem (t ∷ rest) found.0) same ((read (tag ∷ rest) found.0).0 found.1) in
    ap Some (sym (one found.0 is)) ∙ sym found.1

pub small-read : (tag : ℕ) (rest : List ℕ) → IsRead → tag ≡ 73 → IsSome (whole_of (tag ∷ rest)) → Some (Small rest) ≡ whole_of (tag ∷ rest)
small-read tag rest read same some = by-tag tag 73 rest (Small rest) read same some (small-is rest)

pub pid-read : (tag : ℕ) (rest : List ℕ) → IsRead → tag ≡ 80 → IsSome (whole_of (tag ∷ rest)) → Some (Pid rest) ≡ whole_of (tag ∷ rest)
pid-read tag rest read same some = by-tag tag 80 rest (Pid rest) read same some (pid-is rest)

pub atom-read : (rest : List ℕ) (n : ℕ) (name : List ℕ) → IsRead → IsLedRead → IsSome (whole_of (65 ∷ rest)) → led_of rest ≡ Some (n, name)
    → Some (Atom name) ≡ whole_of (65 ∷ rest)
atom-read rest n name read led some found = by-tag 65 65 rest (Atom name) read refl some (λ other is. atom-is rest other n name led is found)
