-- Examples, computed.
use Rattle.std.proofs.Common.{◌≡◌, ℕ, true, false, List, [], ◌∷◌, None, Some, refl}
use Rattle.std.specs.Prelude.{codes}
use Rattle.std.specs.Fmt.{digits}
use Rattle.link_graph.specs.Requests.{Request}
use Rattle.root_views.specs.Roots.{BodyRoot, Info, Term}
use Rattle.term_forms.specs.Elements.{Nil, Ref}
use Rattle.wait_requests.specs.Held.{slots_before}
use Rattle.wait_requests.specs.References.{behind_first, has_words, tail_of}
use Rattle.wait_requests.specs.Waits.{asked_first}

-- the first number of a reference doesn't count, but it has one
behind-number : behind_first (codes "#Ref<4711.3.2.1>") ≡ Some (codes ".3.2.1>")
behind-number = refl

no-number : behind_first (codes "#Ref<.3.2.1>") ≡ None
no-number = refl

no-reference : behind_first (codes "<0.3.0>") ≡ None
no-reference = refl

-- the last word stands first, without zeros in front
abbrev words : List ℕ
words = 0 ∷ 0 ∷ 0 ∷ 1 ∷ 0 ∷ 0 ∷ 0 ∷ 2 ∷ 0 ∷ 0 ∷ 1 ∷ 3 ∷ []

last-first : tail_of words ≡ codes ".259.2.1>"
unfolding digits
last-first = refl

any-first : has_words words (codes "#Ref<0099999999999999999999.259.2.1>") ≡ true
unfolding digits
any-first = refl

zeros-in-front : has_words words (codes "#Ref<0.259.02.1>") ≡ false
unfolding digits
zeros-in-front = refl

one-more : has_words words (codes "#Ref<0.259.2.1.0>") ≡ false
unfolding digits
one-more = refl

-- slots count before the second word that is no term
abbrev slot : ℕ → BodyRoot
slot address = record { at = 0; label = []; content = Term (Ref address) }

abbrev word : BodyRoot
word = record { at = 0; label = []; content = Info (codes "x") }

abbrev other : BodyRoot
other = record { at = 0; label = []; content = Term Nil }

two-words : slots_before 2 (slot 1 ∷ word ∷ other ∷ slot 2 ∷ word ∷ slot 3 ∷ []) ≡ 1 ∷ 2 ∷ []
two-words = refl

-- a process that holds nothing waits for nobody
abbrev request : Request
request = record { target = codes "<0.1.0>"; reference = codes "#Ref<0.9.9.9>" }

none-held : asked_first [] (request ∷ []) ≡ None
none-held = refl
