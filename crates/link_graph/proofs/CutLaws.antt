-- The parts that are cut are those by the rule of cutting, and no others are.
use Rattle.std.proofs.Common.{◌≡◌, ℕ, ◌<◌, ◌==◌, Bool, true, false, List, [], ◌∷◌, ◌++◌, length, refl, sym, ◌∙◌, ap, arith, if◌then◌else◌}
use Rattle.std.specs.Prelude.{All}
use Rattle.std.proofs.lemmas.Bool.{eqb-true, and_parts, false_from_ne_true}
use Rattle.std.proofs.lemmas.List.Elements.{All-nil, All-cons, All-head, All-tail}
use Rattle.link_graph.specs.Entries.{gap, is_gap, led_by, cut, HasNoGap, joined, AreCutParts}

-- ---- what is cut keeps the rule
some-led_by : (c : ℕ) (parts : List (List ℕ)) → 0 < length (led_by c parts)
some-led_by c parts = grind arith

some-cut : (text : List ℕ) → 0 < length (cut text)
unfolding cut
some-cut text = grind (arith, some-led_by)

no_gap-nil : HasNoGap []
no_gap-nil [] rest e = cc
no_gap-nil (c ∷ front) rest e = cc

no_gap-one : (c : ℕ) → HasNoGap (c ∷ [])
no_gap-one c [] rest e = cc
no_gap-one c (d ∷ []) rest e = cc
no_gap-one c (d ∷ b ∷ front) rest e = cc

joined-gap : (parts : List (List ℕ)) → 0 < length parts → joined ([] ∷ parts) ≡ 44 ∷ 32 ∷ joined parts
joined-gap parts h = grind arith

at_pair : (c d : ℕ) (text : List ℕ) (b : Bool) → is_gap c d ≡ b → joined (cut text) ≡ text → joined (cut (d ∷ text)) ≡ d ∷ text
    → joined (if b then [] ∷ cut text else led_by c (cut (d ∷ text))) ≡ c ∷ d ∷ text
at_pair c d text b e behind others = grind (arith, joined-gap, some-cut)

joined-cut : (text : List ℕ) → joined (cut text) ≡ text
unfolding cut
joined-cut [] = refl
joined-cut (c ∷ []) = refl
joined-cut (c ∷ d ∷ text) = at_pair c d text (is_gap c d) refl (joined-cut text) (joined-cut (d ∷ text))

-- a byte in front of a first part that has no gap
no_gap-led : (c d : ℕ) (text part : List ℕ) (parts : List (List ℕ)) → is_gap c d ≡ false → joined (part ∷ parts) ≡ d ∷ text → HasNoGap part → HasNoGap (c ∷ part)
no_gap-led c d text part parts e together whole [] rest h = grind arith
no_gap-led c d text part parts e together whole (x ∷ front) rest h = whole front rest cc

whole-led_by : (c d : ℕ) (text : List ℕ) (parts : List (List ℕ)) → is_gap c d ≡ false → joined parts ≡ d ∷ text → All HasNoGap parts → All HasNoGap (led_by c parts)
whole-led_by c d text [] e together whole = All-cons HasNoGap (c ∷ []) [] (no_gap-one c) (All-nil HasNoGap)
whole-led_by c d text (part ∷ parts) e together whole =
    All-cons HasNoGap (c ∷ part) parts (no_gap-led c d text part parts e together (All-head HasNoGap part parts whole)) (All-tail HasNoGap part parts whole)

whole-pair : (c d : ℕ) (text : List ℕ) (b : Bool) → is_gap c d ≡ b → All HasNoGap (cut text) → All HasNoGap (cut (d ∷ text)) → All HasNoGap (if b then [] ∷ cut text else led_by c (cut (d ∷ text)))
whole-pair c d text true e behind others = All-cons HasNoGap [] (cut text) no_gap-nil behind
whole-pair c d text false e behind others = whole-led_by c d text (cut (d ∷ text)) e (joined-cut (d ∷ text)) others

whole-cut : (text : List ℕ) → All HasNoGap (cut text)
unfolding cut
whole-cut [] = All-cons HasNoGap [] [] no_gap-nil (All-nil HasNoGap)
whole-cut (c ∷ []) = All-cons HasNoGap (c ∷ []) [] (no_gap-one c) (All-nil HasNoGap)
whole-cut (c ∷ d ∷ text) = whole-pair c d text (is_gap c d) refl (whole-cut text) (whole-cut (d ∷ text))

pub AreCut-cut : (text : List ℕ) → AreCutParts text (cut text)
AreCut-cut text = record { some = some-cut text; together = joined-cut text; whole = whole-cut text }

-- ---- no other parts do
no_gap-tail : (c : ℕ) (text : List ℕ) → HasNoGap (c ∷ text) → HasNoGap text
no_gap-tail c text whole front rest e = whole (c ∷ front) rest (ap (λ t. c ∷ t) e)

no_gap-pair : (c d : ℕ) (text : List ℕ) → HasNoGap (c ∷ d ∷ text) → is_gap c d ≡ false
no_gap-pair c d text whole =
    false_from_ne_true (is_gap c d) (λ e.
    let parts = and_parts (c == 44) (d == 32) e in
    whole [] text (ap (λ x. x ∷ d ∷ text) (eqb-true c 44 parts.0) ∙ ap (λ x. 44 ∷ x ∷ text) (eqb-true d 32 parts.1)))

-- a part that ends the text
cut-one : (part : List ℕ) → HasNoGap part → cut part ≡ part ∷ []
unfolding cut
cut-one [] whole = refl
cut-one (c ∷ []) whole = refl
cut-one (c ∷ d ∷ part) whole =
    cc (no_gap-pair c d part whole, cut-one (d ∷ part) (no_gap-tail c (d ∷ part) whole))

not_space : (c : ℕ) → is_gap c 44 ≡ false
not_space c = grind arith

-- a part that a gap follows
cut-behind : (part rest : List ℕ) → HasNoGap part → cut (part ++ (gap ++ rest)) ≡ part ∷ cut rest
unfolding cut
cut-behind [] rest whole = refl
cut-behind (c ∷ []) rest whole = ap (λ b. if b then [] ∷ cut (32 ∷ rest) else led_by c (cut (44 ∷ 32 ∷ rest))) (not_space c)
cut-behind (c ∷ d ∷ part) rest whole =
    cc (no_gap-pair c d part whole, cut-behind (d ∷ part) rest (no_gap-tail c (d ∷ part) whole))

cut-joined : (parts : List (List ℕ)) → 0 < length parts → All HasNoGap parts → cut (joined parts) ≡ parts
cut-joined [] h whole = absurd (omega (arith, h))
cut-joined (part ∷ []) h whole = cut-one part (All-head HasNoGap part [] whole)
cut-joined (part ∷ next ∷ parts) h whole =
    cc (cut-behind part (joined (next ∷ parts)) (All-head HasNoGap part (next ∷ parts) whole), cut-joined (next ∷ parts) (omega arith) (All-tail HasNoGap part (next ∷ parts) whole))

pub AreCut-only : (text : List ℕ) (parts : List (List ℕ)) → AreCutParts text parts → parts ≡ cut text
AreCut-only text parts is = sym (cut-joined parts is.some is.whole) ∙ ap cut is.together
