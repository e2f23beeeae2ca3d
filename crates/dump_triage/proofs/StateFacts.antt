-- States are counted in a tree, and each is taken from it once.
use Rattle.std.proofs.Common.{◌≡◌, ℕ, zero, suc, ◌+◌, ◌<◌, Bool, true, false, cond, List, length, take, Option, Some, None, refl, sym, ◌∙◌, ap, arith, add-one, if◌then◌else◌}
use Rattle.std.specs.Prelude.{slice_get, option_map, unwrap_or, nat_lt}
use Rattle.std.specs.BTreeMap.{BTreeMap, UpdatesBy}
use Rattle.std.specs.Cmp.Lexicographic.{slice_cmp}
use Rattle.std.specs.Ordering.{nat_cmp}
use Rattle.std.specs.Str.{bytes_eq}
use denote.Ref.{Bor}
use Rattle.std.proofs.lemmas.Bool.{cond_below}
use Rattle.std.proofs.lemmas.List.Sums.{sum_by_more, sum_by-take-le}
use Rattle.std.proofs.lemmas.Map.Text.{btree_map_updates_str}
use Rattle.std.proofs.lemmas.Option.{slice_get-map, slice_get_within, get_or_from_slice_get}
use Rattle.std.proofs.lemmas.Slice.Eq.{bytes_eq-Decides}
use Rattle.process_table.specs.Processes.{Process, process_at}
use Rattle.dump_triage.specs.Triage.{count_at_first, text_count, process_state_text, state_texts}
use Rattle.dump_triage.specs.Inner.States.{AreCounted, AreLeft, counted, unless_zero}
use Rattle.process_table.specs.Laws.{process_at-there}
use Rattle.dump_io.specs.Laws.Texts.{bytes_eq-refl, bytes_eq-swap}

pub state-there : (processes : List Process) (p : ℕ) → p < length processes → slice_get (state_texts processes) p ≡ Some (process_state_text (process_at processes p))
state-there processes p inside = slice_get-map process_state_text processes p ∙ ap (option_map process_state_text) (process_at-there processes p inside)

-- ---- how often a text stands in front of a place

-- a text counts once more behind a place where it stands, and any other as before
count-more : (texts : List (List ℕ)) (i : ℕ) (text other : List ℕ) → slice_get texts i ≡ Some text
    → text_count (take (i + 1) texts) other ≡ text_count (take i texts) other + cond (bytes_eq other text) 1 0
count-more texts i text other at =
    sum_by_more (λ t. cond (bytes_eq other t) 1 0) texts i text (slice_get_within texts i text at)
    ∙ ap (λ t. text_count (take i texts) other + cond (bytes_eq other t) 1 0) (get_or_from_slice_get texts i text text at)

count-here : (texts : List (List ℕ)) (i : ℕ) (text : List ℕ) → slice_get texts i ≡ Some text → text_count (take (i + 1) texts) text ≡ text_count (take i texts) text + 1
count-here texts i text at = count-more texts i text text at ∙ ap (λ b. text_count (take i texts) text + cond b 1 0) (bytes_eq-refl text)

count-there : (texts : List (List ℕ)) (i : ℕ) (text other : List ℕ) → slice_get texts i ≡ Some text → bytes_eq other text ≡ false
    → text_count (take (i + 1) texts) other ≡ text_count (take i texts) other
count-there texts i text other at apart =
    let more : text_count (take (i + 1) texts) other ≡ text_count (take i texts) other + 0 = count-more texts i text other at ∙ ap (λ b. text_count (take i texts) other + cond b 1 0) apart in
    omega (arith, more)

-- a text that stands at a place counts
count-some : (texts : List (List ℕ)) (i : ℕ) (text : List ℕ) → slice_get texts i ≡ Some text → 0 < text_count texts text
count-some texts i text at = omega (arith, count-here texts i text at, sum_by-take-le (λ t. cond (bytes_eq text t) 1 0) texts (i + 1))

-- ---- numbers that aren't 0

unless_zero-more : (n : ℕ) → unless_zero (n + 1) ≡ Some (n + 1)
unless_zero-more n = ap unless_zero (add-one n) ∙ ap Some (sym (add-one n))

unless_zero-some : (n : ℕ) → 0 < n → unless_zero n ≡ Some n
unless_zero-some zero some = absurd (omega (arith, some))
unless_zero-some (suc n) some = refl

zero-unless : (n : ℕ) → unwrap_or (unless_zero n) 0 ≡ n
zero-unless zero = refl
zero-unless (suc n) = refl

-- ---- the tree

-- a text more is counted
pub counted-more : (texts : List (List ℕ)) (i : ℕ) (text : List ℕ) (old new : BTreeMap (Bor (List ℕ)) ℕ) (number : ℕ) → slice_get texts i ≡ Some text
    → AreCounted old (take i texts) → number ≡ unwrap_or (counted old text) 0
    → UpdatesBy (λ x y. slice_cmp nat_cmp x.now y.now) (λ key. slice_cmp nat_cmp text key.now) old new (Some (number + 1)) → AreCounted new (take (i + 1) texts)
counted-more texts i text old new number at before is updates = record { each = each }
  where
    number_is : number ≡ text_count (take i texts) text
    number_is = is ∙ ap (λ o. unwrap_or o 0) (before.each text) ∙ zero-unless (text_count (take i texts) text)

    each : (other : List ℕ) → counted new other ≡ unless_zero (text_count (take (i + 1) texts) other)
    each other = btree_map_updates_str text old new (Some (number + 1)) updates other ∙ by (bytes_eq text other) refl
      where
        by : (b : Bool) → bytes_eq text other ≡ b → cond b (Some (number + 1)) (counted old other) ≡ unless_zero (text_count (take (i + 1) texts) other)
        by true e =
            let same : text ≡ other = (bytes_eq-Decides text other).0 e in
            ap (λ n. Some (n + 1)) number_is
            ∙ sym (unless_zero-more (text_count (take i texts) text))
            ∙ ap unless_zero (sym (count-here texts i text at))
            ∙ ap (λ t. unless_zero (text_count (take (i + 1) texts) t)) same
        by false e = before.each other ∙ ap unless_zero (sym (count-there texts i text other at (bytes_eq-swap other text ∙ e)))

-- what the tree has for the text at a place is its number, where it stands there first
pub left-here : (counts : BTreeMap (Bor (List ℕ)) ℕ) (texts : List (List ℕ)) (i : ℕ) (text : List ℕ) → slice_get texts i ≡ Some text → AreLeft counts texts i
    → counted counts text ≡ count_at_first texts (i, text)
left-here counts texts i text at are =
    are.each text
    ∙ ap (λ (o : Option ℕ). if nat_lt 0 (text_count (take i texts) text) then None else o) (unless_zero-some (text_count texts text) (count-some texts i text at))

-- a text is taken
pub left-more : (texts : List (List ℕ)) (i : ℕ) (text : List ℕ) (old new : BTreeMap (Bor (List ℕ)) ℕ) → slice_get texts i ≡ Some text → AreLeft old texts i
    → UpdatesBy (λ x y. slice_cmp nat_cmp x.now y.now) (λ key. slice_cmp nat_cmp text key.now) old new None → AreLeft new texts (i + 1)
left-more texts i text old new at before updates = record { each = each }
  where
    told : List ℕ → ℕ → Option ℕ
    told other n = if nat_lt 0 n then None else unless_zero (text_count texts other)

    told-more : (other : List ℕ) (n : ℕ) → told other (n + 1) ≡ None
    told-more other n = sym (cond_below 0 (n + 1) None (unless_zero (text_count texts other)) (omega arith))

    each : (other : List ℕ) → counted new other ≡ told other (text_count (take (i + 1) texts) other)
    each other = btree_map_updates_str text old new None updates other ∙ by (bytes_eq text other) refl
      where
        by : (b : Bool) → bytes_eq text other ≡ b → cond b None (counted old other) ≡ told other (text_count (take (i + 1) texts) other)
        by true e =
            let same : text ≡ other = (bytes_eq-Decides text other).0 e in
            sym (ap (told other) (ap (text_count (take (i + 1) texts)) (sym same) ∙ count-here texts i text at) ∙ told-more other (text_count (take i texts) text))
        by false e = before.each other ∙ ap (told other) (sym (count-there texts i text other at (bytes_eq-swap other text ∙ e)))
