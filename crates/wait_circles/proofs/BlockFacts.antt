-- That for which processes wait, counted at the first of them.
use Rattle.std.proofs.Common.{◌≡◌, ℕ, suc, ◌+◌, ◌<◌, inl, inr, Bool, true, false, cond, ◌||◌, List, [], ◌∷◌, ◌++◌, length, Option, None, Some, refl, sym, ◌∙◌, ap, ap₂, arith}
use Rattle.std.specs.Prelude.{filter_map, if◌then◌else◌, option_and_then, option_to_list, slice_index, slice_set}
use Rattle.std.specs.List.{list_any}
use Rattle.std.proofs.lemmas.Bool.{cases_eq, ne_eqb}
use Rattle.std.proofs.lemmas.List.{get_or-set_other, get_or-set_same, length-set}
use Rattle.std.proofs.lemmas.List.Elements.{filter_map-append}
use Rattle.std.proofs.lemmas.List.Folds.{list_any-append}
use Rattle.dump_io.specs.Laws.Lists.{filter_map-one}
use Rattle.wait_circles.specs.Steps.{upto}
use Rattle.wait_circles.specs.declared.blocker.Blocker.{Blocker}
use Rattle.wait_circles.specs.Inner.Blocking.{AreLeft, node_blocker}
use Rattle.wait_circles.specs.Inner.Leading.{CountsTokens, all_to, is_to, onto, tokens}
use Rattle.wait_circles.proofs.LeadFacts.{is-to, token-counts}

-- whether one of the first numbers leads there
abbrev any_before : List (Option ℕ) → ℕ → ℕ → Bool
any_before leads first v = list_any (λ q. is_to v (onto leads q)) (upto first)

or-with-false : (b : Bool) → (b || false) ≡ b
or-with-false true = refl
or-with-false false = refl

any-next : (leads : List (Option ℕ)) (first v : ℕ) → any_before leads (first + 1) v ≡ (any_before leads first v || is_to v (onto leads first))
any-next leads first v =
    ap (λ n. any_before leads n v) (let e : first + 1 ≡ suc first = omega arith in e)
    ∙ list_any-append (λ q. is_to v (onto leads q)) (upto first) (first ∷ [])
    ∙ ap (λ b. any_before leads first v || b) (or-with-false (is_to v (onto leads first)))

pub left-first : (leads : List (Option ℕ)) (counts : List ℕ) → CountsTokens leads counts (length leads) → AreLeft leads counts 0
left-first leads counts are = record { size = are.size; each = are.each }

-- a number that leads nowhere takes nothing
pub left-none : (leads : List (Option ℕ)) (counts : List ℕ) (first : ℕ) → AreLeft leads counts first → onto leads first ≡ None → AreLeft leads counts (first + 1)
left-none leads counts first left none = record {
  size = left.size;
  each = λ v inside.
      left.each v inside
      ∙ ap (λ b. if b then 0 else tokens leads v) (sym (any-next leads first v ∙ ap (λ b. any_before leads first v || b) (ap (is_to v) none) ∙ or-with-false (any_before leads first v)));
}

told-there : (k : ℕ) (b : Bool) → (if b || true then 0 else k) ≡ 0
told-there k true = refl
told-there k false = refl

pub left-more : (leads : List (Option ℕ)) (counts : List ℕ) (first w : ℕ) → AreLeft leads counts first → onto leads first ≡ Some w → w < length leads → AreLeft leads (slice_set counts w 0) (first + 1)
left-more leads counts first w left at below = record {
  size = length-set counts w 0 ∙ left.size;
  each = λ v inside.
      elim (cases_eq v w) [
        | inl same ↦
            ap (slice_index (slice_set counts w 0)) same ∙ get_or-set_same counts w 0 0 (omega (arith, below, left.size))
            ∙ sym (ap (λ b. if b then 0 else tokens leads v) (any-next leads first v ∙ ap (λ b. any_before leads first v || b) (is-to v (onto leads first) (at ∙ ap Some (sym same)))) ∙ told-there (tokens leads v) (any_before leads first v))
        | inr other ↦
            get_or-set_other counts w v 0 0 other ∙ left.each v inside
            ∙ ap (λ b. if b then 0 else tokens leads v) (sym (any-next leads first v ∙ ap (λ b. any_before leads first v || b) (ap (is_to v) at ∙ ne_eqb w v (λ same. other (sym same))) ∙ or-with-false (any_before leads first v)))
      ];
}

-- the blocker of a number to which others lead
abbrev pub blocker_of : List (Option ℕ) → ℕ → ℕ → Blocker
blocker_of leads first w = record { first = first; all = all_to leads w; direct = tokens leads w }

-- where the count of a number that some lead to is 0, one of the first leads there
module _ (leads : List (Option ℕ)) (counts : List ℕ) (first w : ℕ) (left : AreLeft leads counts first) (at : onto leads first ≡ Some w) (below : w < length leads) where
  abbrev some-blocker : ℕ → ℕ → Option Blocker
  some-blocker a d = Some (record { first = first; all = a; direct = d })

  some : 0 < tokens leads w
  some = token-counts leads first w at

  begins : (o : Option Blocker) → ◌≡◌ {A = Option Blocker} (cond (any_before leads first w) None (Some (blocker_of leads first w))) o → node_blocker leads first ≡ o
  begins o is = ap (option_and_then (λ v. cond (any_before leads first v) None (Some (blocker_of leads first v)))) at ∙ is

  pub blocker-none : (count : ℕ) → count ≡ slice_index counts w → count ≡ 0 → node_blocker leads first ≡ None
  blocker-none count is none = begins None (by (any_before leads first w) refl)
    where
      by : (b : Bool) → any_before leads first w ≡ b → ◌≡◌ {A = Option Blocker} (cond b None (Some (blocker_of leads first w))) None
      by true any = refl
      by false any = absurd (let e = left.each w below ∙ ap (λ b. if b then 0 else tokens leads w) any in omega (arith, some, is, none, e))

  pub blocker-some : (count all : ℕ) → count ≡ slice_index counts w → (count ≡ 0 → ⊥) → all ≡ all_to leads w → node_blocker leads first ≡ Some (record { first = first; all = all; direct = count })
  blocker-some count all is other same = begins (Some (record { first = first; all = all; direct = count })) (by (any_before leads first w) refl)
    where
      by : (b : Bool) → any_before leads first w ≡ b
          → ◌≡◌ {A = Option Blocker} (cond b None (Some (blocker_of leads first w))) (Some (record { first = first; all = all; direct = count }))
      by true any = absurd (other (is ∙ left.each w below ∙ ap (λ b. if b then 0 else tokens leads w) any))
      by false any =
          let direct : tokens leads w ≡ count = sym (left.each w below ∙ ap (λ b. if b then 0 else tokens leads w) any) ∙ sym is in
          ap₂ (λ a d. some-blocker a d) (sym same) direct

pub blockers-more : (leads : List (Option ℕ)) (first : ℕ) → filter_map (node_blocker leads) (upto (first + 1)) ≡ filter_map (node_blocker leads) (upto first) ++ option_to_list (node_blocker leads first)
blockers-more leads first =
    ap (λ n. filter_map (node_blocker leads) (upto n)) (let e : first + 1 ≡ suc first = omega arith in e)
    ∙ filter_map-append (node_blocker leads) (upto first) (first ∷ [])
    ∙ ap (λ l. filter_map (node_blocker leads) (upto first) ++ l) (filter_map-one (node_blocker leads) first)
