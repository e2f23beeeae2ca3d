-- The labels as numbers, and the list of the cells that wait as it is stored.
use Rattle.std.proofs.Common.{◌≡◌, ℕ, zero, suc, ◌<◌, true, false, nat_eq, List, [], ◌∷◌, ◌++◌, length, map, set, get_or, MatchOption, Option, None, Some, option_to_list, refl, sym, ◌∙◌, ap, subst, arith}
use Rattle.std.specs.Prelude.{IfSome, replicate, reverse}
use Rattle.std.proofs.lemmas.Bool.{eq-eqb, or_left}
use Rattle.std.proofs.lemmas.List.{get_or-map, get_or_read, length-map, length-reverse, map-set, reverse-append}
use Rattle.cell_graphs.specs.Frontiers.{IsTied, is_on}
use Rattle.cell_graphs.specs.Laws.Adding.{IsTied-none, IsTied-popped, IsTied-push, IsTied-room, reverse-push}
use Rattle.heap_weights.specs.declared.holders.Holder.{Holder}
use Rattle.heap_weights.specs.declared.holders.Holder.TheVariants.{Nobody}
use Rattle.heap_weights.specs.Holders.{held_too, holder_at, labelled}
use Rattle.heap_weights.specs.Labels.{Labelling, is_stop, marks_of}
use Rattle.heap_weights.specs.Inner.Labels.{pushed}
use Rattle.heap_weights.proofs.Taking.{marks-set}
use Rattle.heap_weights.proofs.Turning.{marked-stop}

-- ---- no cell is labelled

pub none-labelled : (cells n : ℕ) → holder_at (map labelled (replicate cells 0)) n ≡ Nobody
none-labelled zero zero = refl
none-labelled zero (suc n) = refl
none-labelled (suc cells) zero = refl
none-labelled (suc cells) (suc n) = none-labelled cells n

length-marks : (part : ℕ) (labels : List ℕ) → length (marks_of part (map labelled labels)) ≡ length labels
length-marks part labels = length-map (map labelled labels) (is_stop part) ∙ length-map labels labelled

pub tied-none : (labels : List ℕ) (capacity : ℕ) (waiting : List ℕ) → capacity ≡ length labels → waiting ≡ [] → IsTied (marks_of 0 (map labelled labels)) capacity (reverse waiting)
tied-none labels capacity waiting room none = IsTied-none (marks_of 0 (map labelled labels)) capacity waiting (room ∙ sym (length-marks 0 labels)) none

none-waits : (items : List ℕ) → reverse items ≡ [] → items ≡ []
none-waits [] none = refl
none-waits (c ∷ items) none = let none_there : length (reverse (c ∷ items)) ≡ 0 = ap length none in absurd (omega (arith, none_there, length-reverse (c ∷ items)))

-- another part begins
pub tied-begin : (labels : List ℕ) (part next capacity : ℕ) (items : List ℕ) → IsTied (marks_of part (map labelled labels)) capacity (reverse items) → reverse items ≡ []
    → IsTied (marks_of next (map labelled labels)) capacity (reverse items)
tied-begin labels part next capacity items tied none =
    IsTied-none (marks_of next (map labelled labels)) capacity items (tied.room ∙ length-marks part labels ∙ sym (length-marks next labels)) (none-waits items none)

module _ (labels : List ℕ) (part capacity : ℕ) where
  abbrev held : List Holder
  held = map labelled labels

  -- ---- a cell starts to wait

  module _ (items : List ℕ) (c : ℕ) (tied : IsTied (marks_of part held) capacity (reverse items)) (lt : c < length held) (passed : is_stop part (holder_at held c) ≡ false) where
    within : c < length (marks_of part held)
    within = let same : length (marks_of part held) ≡ length held = length-map held (is_stop part) in omega (arith, lt, same)

    off : get_or (marks_of part held) c false ≡ false
    off = marked-stop part held c ∙ passed

    pub push-room : length items < capacity
    push-room = IsTied-room (marks_of part held) capacity items c tied within off

    module _ (before label : ℕ) (read : before ≡ get_or labels c before) (turned : labelled label ≡ held_too part (labelled before)) (after : List ℕ) (room : ℕ) (items_are : after ≡ items ++ c ∷ [])
        (room_is : room ≡ capacity) where
      held-before : labelled before ≡ holder_at held c
      held-before =
          let inside : c < length labels = let same : length held ≡ length labels = length-map labels labelled in omega (arith, lt, same) in
          ap labelled (get_or_read labels c before inside read 0) ∙ sym (get_or-map labelled labels c 0 Nobody inside)

      held-set : map labelled (set labels c label) ≡ set held c (held_too part (holder_at held c))
      held-set = map-set labelled labels c label ∙ ap (λ h. set held c h) (turned ∙ ap (held_too part) held-before)

      pub push-tied : IsTied (marks_of part (map labelled (set labels c label))) room (reverse after)
      push-tied =
          subst (λ marks. IsTied marks room (reverse after)) (sym (ap (marks_of part) held-set ∙ marks-set part held c))
          (subst (λ r. IsTied (set (marks_of part held) c true) r (reverse after)) (sym room_is)
          (IsTied-push (marks_of part held) capacity (reverse items) (reverse after) c tied within off (ap reverse items_are ∙ reverse-push items c)))

      pub push-view : (let new : Labelling = record { holders = map labelled (set labels c label); part = part; reserved = room; waiting = reverse after } in new)
          ≡ pushed c (record { holders = held; part = part; reserved = capacity; waiting = reverse items })
      push-view =
          ap (λ hs. record { holders = hs; part = part; reserved = room; waiting = reverse after }) held-set
          ∙ ap (λ r. record { holders = set held c (held_too part (holder_at held c)); part = part; reserved = r; waiting = reverse after }) room_is
          ∙ ap (λ ws. record { holders = set held c (held_too part (holder_at held c)); part = part; reserved = capacity; waiting = ws }) (ap reverse items_are ∙ reverse-push items c)

  -- ---- a cell stops waiting

  module _ (before after : List ℕ) (popped : Option ℕ) (tied : IsTied (marks_of part held) capacity (reverse before)) (was : before ≡ after ++ option_to_list popped) where
    pub popped-within : MatchOption popped (reverse after ≡ []) (λ c. Unit {0}) → MatchOption popped (reverse after ≡ []) (λ c. c < length held)
    popped-within none =
        subst (λ count. MatchOption popped (reverse after ≡ []) (λ c. c < count)) (length-map held (is_stop part))
        (IsTied-popped (marks_of part held) capacity before after popped tied was none)

  pub popped-stopped : (before after : List ℕ) (popped : Option ℕ) → IsTied (marks_of part held) capacity (reverse before) → before ≡ after ++ option_to_list popped
      → IfSome popped (λ c. is_stop part (holder_at held c) ≡ true)
  popped-stopped before after None tied was = tt
  popped-stopped before after (Some c) tied was =
      let now : IsTied (marks_of part held) capacity (c ∷ reverse after) = subst (IsTied (marks_of part held) capacity) (ap reverse was ∙ reverse-append after (c ∷ [])) tied in
      sym (marked-stop part held c) ∙ now.marked c (or_left (nat_eq c c) (is_on c (reverse after)) (eq-eqb c c refl))
