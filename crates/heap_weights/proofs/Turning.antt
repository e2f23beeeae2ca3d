-- What a walk does to the holder of a cell.
use Rattle.std.proofs.Common.{◌≡◌, ℕ, zero, suc, ◌+◌, ◌<◌, ◌⊎◌, ◌↔◌, Bool, true, false, List, [], ◌∷◌, map, refl, sym, ◌∙◌, ap, inl, inr, arith}
use Rattle.std.specs.Prelude.{slice_index_or}
use Rattle.std.proofs.lemmas.Bool.{eq-eqb, false≢true, ne_eqb}
use Rattle.cell_graphs.specs.Reached.{is_in}
use Rattle.heap_weights.specs.declared.holders.Holder.{Holder}
use Rattle.heap_weights.specs.declared.holders.Holder.TheVariants.{Nobody, Several, Part}
use Rattle.heap_weights.specs.Holders.{held_if, held_too, holder_at, is_held, is_several, label_of}
use Rattle.heap_weights.specs.Labels.{IsTurned, is_stop, marks_of}

-- ---- marks of holders

index-map : (f : Holder → Bool) (holders : List Holder) (n : ℕ) → f Nobody ≡ false → slice_index_or (map f holders) n false ≡ f (slice_index_or holders n Nobody)
index-map f [] zero none = sym none
index-map f [] (suc n) none = sym none
index-map f (holder ∷ holders) zero none = refl
index-map f (holder ∷ holders) (suc n) none = index-map f holders n none

pub marked-stop : (part : ℕ) (holders : List Holder) (n : ℕ) → is_in (marks_of part holders) n ≡ is_stop part (holder_at holders n)
marked-stop part holders n = index-map (is_stop part) holders n refl

-- ---- one turn

-- a part stops where it has come
pub stop-too : (part : ℕ) (holder : Holder) → is_stop part (held_too part holder) ≡ true
stop-too part Nobody = eq-eqb part part refl
stop-too part Several = refl
stop-too part (Part other) = refl

pub IsTurned-then : (part : ℕ) (a b c : Holder) → IsTurned part a b → IsTurned part b c → IsTurned part a c
IsTurned-then part a b c (inl same) (inl other) = inl (other ∙ same)
IsTurned-then part a b c (inl same) (inr (passed, came)) = inr (ap (is_stop part) (sym same) ∙ passed, came ∙ ap (held_too part) same)
IsTurned-then part a b c (inr (passed, came)) (inl other) = inr (passed, other ∙ came)
IsTurned-then part a b c (inr (passed, came)) (inr (again, more)) = absurd (false≢true (sym again ∙ ap (is_stop part) came ∙ stop-too part a))

-- ---- the whole walk

-- a part that hasn't walked yet stops only where several hold
pub stop-new : (part : ℕ) (holder : Holder) → label_of holder < part + 2 → is_stop part holder ≡ is_several holder
stop-new part Nobody less = refl
stop-new part Several less = refl
stop-new part (Part other) less = ne_eqb other part (λ same. omega (arith, less, same))

-- where a walk stops afterwards are the cells that several held, and those that the part reaches
abbrev pub IsEnded : ℕ → Bool → Holder → Holder → Type 0
IsEnded part reached before after = (is_stop part after ≡ true) ↔ ((is_several before ≡ true) ⊎ (reached ≡ true))

pub turned-held : (part : ℕ) (reached : Bool) (before after : Holder) → label_of before < part + 2 → IsTurned part before after → IsEnded part reached before after
    → after ≡ held_if reached part before
turned-held part true before after less (inr (passed, came)) ended = came
turned-held part true Several after less (inl same) ended = same
turned-held part true Nobody after less (inl same) ended = absurd (false≢true (ap (is_stop part) (sym same) ∙ ended.1 (inr refl)))
turned-held part true (Part other) after less (inl same) ended =
    absurd (false≢true (sym (stop-new part (Part other) less) ∙ ap (is_stop part) (sym same) ∙ ended.1 (inr refl)))
turned-held part false before after less (inl same) ended = same
turned-held part false before after less (inr (passed, came)) ended =
    elim (ended.0 (ap (is_stop part) came ∙ stop-too part before)) [
      | inl several ↦ absurd (false≢true (sym passed ∙ stop-new part before less ∙ several))
      | inr off ↦ absurd (false≢true off)
    ]

-- ---- what is held afterwards

pub held-parts : (reached : Bool) (part : ℕ) (holder : Holder) → is_held (held_if reached part holder) ≡ true → (is_held holder ≡ true) ⊎ (reached ≡ true)
held-parts true part holder is = inr refl
held-parts false part holder is = inl is

pub held-before : (reached : Bool) (part : ℕ) (holder : Holder) → is_held holder ≡ true → is_held (held_if reached part holder) ≡ true
held-before true part Nobody is = refl
held-before true part Several is = refl
held-before true part (Part other) is = refl
held-before false part holder is = is

pub held-now : (reached : Bool) (part : ℕ) (holder : Holder) → reached ≡ true → is_held (held_if reached part holder) ≡ true
held-now true part Nobody is = refl
held-now true part Several is = refl
held-now true part (Part other) is = refl
held-now false part holder is = absurd (false≢true is)

pub several-parts : (reached : Bool) (part : ℕ) (holder : Holder) → is_several (held_if reached part holder) ≡ true → (is_several holder ≡ true) ⊎ ((is_held holder ≡ true) × (reached ≡ true))
several-parts true part Nobody is = absurd (false≢true is)
several-parts true part Several is = inl refl
several-parts true part (Part other) is = inr (refl, refl)
several-parts false part holder is = inl is

pub several-before : (reached : Bool) (part : ℕ) (holder : Holder) → is_several holder ≡ true → is_several (held_if reached part holder) ≡ true
several-before true part Nobody is = absurd (false≢true is)
several-before true part Several is = refl
several-before true part (Part other) is = refl
several-before false part holder is = is

pub several-now : (reached : Bool) (part : ℕ) (holder : Holder) → is_held holder ≡ true → reached ≡ true → is_several (held_if reached part holder) ≡ true
several-now true part Nobody held is = absurd (false≢true held)
several-now true part Several held is = refl
several-now true part (Part other) held is = refl
several-now false part holder held is = absurd (false≢true is)

-- each part among the holders has had its walk, as has the new one
pub walked-more : (reached : Bool) (part : ℕ) (holder : Holder) → label_of holder < part + 2 → label_of (held_if reached part holder) < part + 1 + 2
walked-more true part Nobody less = omega arith
walked-more true part Several less = omega arith
walked-more true part (Part other) less = omega arith
walked-more false part holder less = omega (arith, less)
