-- The lines that have a text.
use Rattle.std.proofs.Common.{◌≡◌, ℕ, ◌==◌, Bool, true, false, cond, filter, List, [], ◌∷◌, length, All, refl, sym, ap, subst}
use Rattle.std.specs.Prelude.{nat_lt}
use Rattle.std.specs.List.{flat_map}
use Rattle.std.proofs.lemmas.Bool.{eqb-true}
use Rattle.std.proofs.lemmas.List.Elements.{All-nil, All-append, All-head, All-tail}
use Rattle.field_lines.specs.Lines.{TextLine, IsPart}
use Rattle.root_views.specs.Roots.{BodyRoot, has_text, IsInside}

pub text_kept : (l : TextLine) (ls : List TextLine) → has_text l ≡ true → filter has_text (l ∷ ls) ≡ l ∷ filter has_text ls
text_kept l ls h = ap (λ b. cond b (l ∷ filter has_text ls) (filter has_text ls)) h

pub text_passed : (l : TextLine) (ls : List TextLine) → has_text l ≡ false → filter has_text (l ∷ ls) ≡ filter has_text ls
text_passed l ls h = ap (λ b. cond b (l ∷ filter has_text ls) (filter has_text ls)) h

pub empty_text : (l : TextLine) → (length l.text == 0) ≡ true → has_text l ≡ false
empty_text l h = ap (nat_lt 0) (eqb-true (length l.text) 0 h)

-- the roots of lines stand where those of each line do
pub roots_inside : (body : List ℕ) (f : TextLine → List BodyRoot) → ((l : TextLine) → IsPart body l → has_text l ≡ true → All (IsInside body) (f l))
    → (ls : List TextLine) → All (IsPart body) ls → All (IsInside body) (flat_map f (filter has_text ls))
roots_inside body f each [] parts = All-nil (IsInside body)
roots_inside body f each (l ∷ ls) parts =
    of (has_text l) refl (roots_inside body f each ls (All-tail (IsPart body) l ls parts))
  where
    of : (b : Bool) → has_text l ≡ b → All (IsInside body) (flat_map f (filter has_text ls)) → All (IsInside body) (flat_map f (filter has_text (l ∷ ls)))
    of true e rest =
        subst (λ ks. All (IsInside body) (flat_map f ks)) (sym (text_kept l ls e))
        (All-append (IsInside body) (f l) (flat_map f (filter has_text ls)) (each l (All-head (IsPart body) l ls parts) e) rest)
    of false e rest = subst (λ ks. All (IsInside body) (flat_map f ks)) (sym (text_passed l ls e)) rest
