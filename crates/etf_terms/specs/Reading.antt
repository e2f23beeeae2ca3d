-- The text of an external term, from its bytes alone.
use Rattle.std.specs.Prelude.{ℕ, suc, List, [], ◌∷◌, drop}
use Rattle.etf_terms.specs.Heads.{Head, kids}
use Rattle.etf_terms.specs.Layouts.{Layout, end, byte}
use Rattle.etf_terms.specs.Table.{head_layout, row}
use Rattle.etf_terms.specs.Terms.{Term, node, Terms, none, more}
use Rattle.etf_terms.specs.Text.{text}

-- the heads of terms that stand one after another, given what is left of the first
abbrev pub heads_from : Layout → List ℕ → List Head
heads_from (end head) [] = head ∷ []
heads_from (end head) (b ∷ bytes) = head ∷ heads_from (row b) bytes
heads_from (byte test next) [] = []
heads_from (byte test next) (b ∷ bytes) = heads_from (next b) bytes

-- the heads of terms that stand one after another; those within a term come after its own
abbrev pub heads_of : List ℕ → List Head
heads_of bytes = heads_from head_layout bytes

-- the first n of some terms
abbrev pub first_terms : ℕ → List Term → Terms
first_terms (suc n) (term ∷ terms) = more term (first_terms n terms)
first_terms n terms = none

-- a head takes as many of the terms after it as it says
abbrev pub take_terms : Head → List Term → List Term
take_terms head terms = node head (first_terms (kids head) terms) ∷ drop (kids head) terms

-- the terms of these heads
abbrev pub terms_of : List Head → List Term
terms_of [] = []
terms_of (head ∷ heads) = take_terms head (terms_of heads)

-- the text of the first of these terms
abbrev pub first_text : List Term → List ℕ
first_text [] = []
first_text (term ∷ terms) = text term

-- the text of the term after the first byte, which is 131
abbrev pub external_text : List ℕ → List ℕ
external_text bytes = first_text (terms_of (heads_of (drop 1 bytes)))
