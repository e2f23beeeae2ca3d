-- Between two walks, and what one walk leaves.
use Rattle.std.proofs.Common.{◌≡◌, ℕ, ◌+◌, ◌<◌, ◌⊎◌, ◌↔◌, Bool, true, [], length, sym, ◌∙◌, ap, subst, inl, inr, arith}
use Rattle.std.proofs.lemmas.Bool.{false≢true}
use Rattle.std.proofs.lemmas.List.{length-map}
use Rattle.cell_graphs.specs.Graphs.{Graph, LeadsWithin}
use Rattle.cell_graphs.specs.Reached.{IsIn, Reached, is_in}
use Rattle.cell_graphs.specs.Frontiers.{IsLooked, IsSettled}
use Rattle.cell_graphs.specs.Laws.Spreading.{looked-first, reached-root}
use Rattle.heap_weights.specs.declared.holders.Holder.TheVariants.{Nobody}
use Rattle.heap_weights.specs.Holders.{held_if, holder_at, is_held, is_several, label_of}
use Rattle.heap_weights.specs.Parts.{reached_at}
use Rattle.heap_weights.specs.Labels.{Labelling, Takes, Walks, frontier, is_stop}
use Rattle.heap_weights.specs.Inner.Labels.{IsRested, IsShut}
use Rattle.heap_weights.proofs.Reaching.{reached-both, reached-on}
use Rattle.heap_weights.proofs.Taking.{Walks-then}
use Rattle.heap_weights.proofs.Turning.{IsEnded, held-before, held-now, held-parts, marked-stop, several-before, several-now, several-parts, stop-new, turned-held, walked-more}

-- nobody holds a cell
pub IsRested-none : (graph : Graph) (labels : Labelling) → length labels.holders ≡ length graph → labels.reserved ≡ length graph → labels.waiting ≡ []
    → ((n : ℕ) → holder_at labels.holders n ≡ Nobody) → IsRested graph 0 labels
IsRested-none graph labels size room empty none = record {
  size = size;
  room = room;
  empty = empty;
  held = λ m n is leads. absurd (false≢true (ap is_held (sym (none m)) ∙ is));
  several = λ m n is leads. absurd (false≢true (ap is_several (sym (none m)) ∙ is));
  walked = λ n. let label : label_of (holder_at labels.holders n) ≡ 0 = ap label_of (none n) in omega (arith, label);
}

-- a part begins
pub IsRested-begin : (graph : Graph) (count : ℕ) (before labels : Labelling) → IsRested graph count before → labels.holders ≡ before.holders → labels.part ≡ count
    → labels.reserved ≡ before.reserved → labels.waiting ≡ [] → IsRested graph labels.part labels
IsRested-begin graph count before labels rested same part room empty =
    subst (λ k. IsRested graph k labels) (sym part) (record {
      size = ap length same ∙ rested.size;
      room = room ∙ rested.room;
      empty = empty;
      held = subst (λ holders. IsShut graph holders is_held) (sym same) rested.held;
      several = subst (λ holders. IsShut graph holders is_several) (sym same) rested.several;
      walked = subst (λ holders. (n : ℕ) → label_of (holder_at holders n) < count + 2) (sym same) rested.walked;
    })

module _ (graph : Graph) (within : LeadsWithin graph) (old : Labelling) (rested : IsRested graph old.part old) where
  -- a part that hasn't walked yet stops exactly where several hold
  stops-several : (n : ℕ) → IsIn (frontier old).marks n → is_several (holder_at old.holders n) ≡ true
  stops-several n is = sym (stop-new old.part (holder_at old.holders n) (rested.walked n)) ∙ sym (marked-stop old.part old.holders n) ∙ is

  several-stops : (n : ℕ) → is_several (holder_at old.holders n) ≡ true → IsIn (frontier old).marks n
  several-stops n is = marked-stop old.part old.holders n ∙ stop-new old.part (holder_at old.holders n) (rested.walked n) ∙ is

  pub settled-rested : IsSettled graph (frontier old)
  settled-rested = record {
    size = length-map old.holders (is_stop old.part) ∙ rested.size;
    room = rested.room;
    empty = rested.empty;
    closed = λ m n is leads. several-stops n (rested.several m n (stops-several m is) leads);
  }

  -- the first cells wait
  pub looked-root : (mid : Labelling) (P : ℕ → Type 0) → Takes old mid P → IsLooked graph (frontier mid)
  looked-root mid P takes = looked-first graph (frontier old) (frontier mid) P settled-rested takes.adds

  -- the part with this root has walked
  module _ (top : ℕ) (mid new : Labelling) (takes : Takes old mid (λ n. n ≡ top)) (walks : Walks mid new) (settled : IsSettled graph (frontier new))
      (reached : (n : ℕ) → IsIn (frontier new).marks n ↔ Reached graph (IsIn (frontier mid).marks) n) where
    abbrev reaches : ℕ → Bool
    reaches n = reached_at graph top n

    whole : Walks old new
    whole = Walks-then old mid new takes.walks walks

    in-new : (n : ℕ) → is_in (frontier new).marks n ≡ is_stop old.part (holder_at new.holders n)
    in-new n = marked-stop new.part new.holders n ∙ ap (λ part. is_stop part (holder_at new.holders n)) whole.part

    -- where the walk stops afterwards
    ended : (n : ℕ) → IsEnded old.part (reaches n) (holder_at old.holders n) (holder_at new.holders n)
    ended n =
        let from : IsIn (frontier new).marks n ↔ Reached graph (λ k. IsIn (frontier old).marks k ⊎ (k ≡ top)) n =
        reached-root graph (frontier old) (frontier mid) (λ k. k ≡ top) (frontier new).marks takes.adds reached n in
        let both : Reached graph (λ k. IsIn (frontier old).marks k ⊎ (k ≡ top)) n ↔ (IsIn (frontier old).marks n ⊎ (reaches n ≡ true)) =
        reached-both graph within top (IsIn (frontier old).marks) settled-rested.closed n in (
          λ stop. elim (both.0 (from.0 (in-new n ∙ stop))) [ inl was ↦ inl (stops-several n was) | inr is ↦ inr is ],
          λ is. sym (in-new n) ∙ from.1 (both.1 (elim is [ inl several ↦ inl (several-stops n several) | inr here ↦ inr here ])),
        )

    -- who holds a cell afterwards
    pub held-exact : (n : ℕ) → holder_at new.holders n ≡ held_if (reaches n) old.part (holder_at old.holders n)
    held-exact n = turned-held old.part (reaches n) (holder_at old.holders n) (holder_at new.holders n) (rested.walked n) (whole.turned n) (ended n)

    held-shut : IsShut graph new.holders is_held
    held-shut m n is leads =
        ap is_held (held-exact n)
        ∙ elim (held-parts (reaches m) old.part (holder_at old.holders m) (ap is_held (sym (held-exact m)) ∙ is)) [
          | inl was ↦ held-before (reaches n) old.part (holder_at old.holders n) (rested.held m n was leads)
          | inr here ↦ held-now (reaches n) old.part (holder_at old.holders n) (reached-on graph within top m n here leads)
        ]

    several-shut : IsShut graph new.holders is_several
    several-shut m n is leads =
        ap is_several (held-exact n)
        ∙ elim (several-parts (reaches m) old.part (holder_at old.holders m) (ap is_several (sym (held-exact m)) ∙ is)) [
          | inl was ↦ several-before (reaches n) old.part (holder_at old.holders n) (rested.several m n was leads)
          | inr both ↦ several-now (reaches n) old.part (holder_at old.holders n) (rested.held m n both.0 leads) (reached-on graph within top m n both.1 leads)
        ]

    walked-new : (n : ℕ) → label_of (holder_at new.holders n) < old.part + 1 + 2
    walked-new n = subst (λ h. label_of h < old.part + 1 + 2) (sym (held-exact n)) (walked-more (reaches n) old.part (holder_at old.holders n) (rested.walked n))

    pub IsRested-more : IsRested graph (old.part + 1) new
    IsRested-more = record {
      size = sym (length-map new.holders (is_stop new.part)) ∙ settled.size;
      room = whole.reserved ∙ rested.room;
      empty = settled.empty;
      held = held-shut;
      several = several-shut;
      walked = walked-new;
    }
