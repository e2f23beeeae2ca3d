-- The entries of a heap's cells.
use Rattle.std.proofs.Common.{◌≡◌, ℕ, zero, suc, ◌+◌, ◌-◌, ◌*◌, ◌<◌, ◌≤◌, ◌==◌, ◌⊎◌, ⊎_elim, inl, inr, Bool, true, false, ltb, List, [], ◌∷◌, ◌++◌, length, get_or, map, Option, None, Some, if◌then◌else◌, refl, sym, ◌∙◌, ap, subst, arith, append-nil, length-append}
use Rattle.std.specs.Prelude.{All, IsSome, is_some}
use Rattle.std.specs.Option.{option_map, option_and_then, option_or, option_to_list}
use Rattle.std.specs.List.Sorted.{IsNonDecreasingBy, IsPartitionPoint}
use Rattle.std.proofs.lemmas.Bool.{true≢false, cases_lt, eq-eqb, eqb-true, ltb-true, ltb-false, ne_eqb}
use Rattle.std.proofs.lemmas.Bool.Decides.{eqb_tells}
use Rattle.std.proofs.lemmas.List.{get_or-map, length-map}
use Rattle.std.proofs.lemmas.List.Elements.{All-nil, All-push}
use Rattle.std.proofs.lemmas.List.Sorted.{IsNonDecreasingBy-push, IsNonDecreasingBy-short}
use Rattle.std.proofs.lemmas.Option.{none-some, same_Some, slice_get_past}
use Rattle.binary_payloads.specs.declared.enc.Enc.{Enc}
use Rattle.term_forms.specs.Forms.{HeapForm, RefBin, SubBin}
use Rattle.dump_sections.specs.Index.{Contents}
use Rattle.heap_cells.specs.Cells.{Cell, kind_of}
use Rattle.heap_cells.specs.HeapMap.{form_at}
use Rattle.binary_refs.specs.declared.entries.Entry.{Entry}
use Rattle.binary_refs.specs.Previews.{previews_of, preview_entry, by_number, stated, stating, binaries, entry_at, AreFor}
use Rattle.binary_refs.specs.Inner.Kinds.{refers}
use Rattle.dump_io.specs.Laws.Options.{or-none, is_some-map}

-- ---- looking entries up

-- the first entry with a number
pub entry-first : (es : List Entry) (n i : ℕ) (d : Entry) → ((k : ℕ) → k < i → (get_or es k d).cell ≡ n → ⊥) → i < length es → (get_or es i d).cell ≡ n
    → entry_at es n ≡ Some (get_or es i d)
entry-first [] n i d before inside is = absurd (omega (arith, inside))
entry-first (e ∷ es) n zero d before inside is = ap (λ b. if b then Some e else entry_at es n) (eq-eqb e.cell n is)
entry-first (e ∷ es) n (suc i) d before inside is =
    ap (λ b. if b then Some e else entry_at es n) (ne_eqb e.cell n (before 0 (omega arith)))
    ∙ entry-first es n i d (λ k less. before (suc k) (omega (arith, less))) (omega (arith, inside)) is

pub entry-none : (es : List Entry) (n : ℕ) (d : Entry) → ((k : ℕ) → k < length es → (get_or es k d).cell ≡ n → ⊥) → entry_at es n ≡ None
entry-none [] n d none = refl
entry-none (e ∷ es) n d none =
    ap (λ b. if b then Some e else entry_at es n) (ne_eqb e.cell n (none 0 (omega arith)))
    ∙ entry-none es n d (λ k less. none (suc k) (omega (arith, less)))

abbrev pub IsPointOf : List Entry → ℕ → ℕ → Type 0
IsPointOf es n at = IsPartitionPoint (λ (e : Entry). ltb e.cell n ≡ true) (λ (e : Entry). ltb e.cell n ≡ false) es at

no_entry : Entry
no_entry = record { cell = 0; size = 0; bytes = None }

front-differs : (es : List Entry) (n at k : ℕ) (d : Entry) → IsPointOf es n at → k < at → (get_or es k d).cell ≡ n → ⊥
front-differs es n at k d point before same = let less = ltb-true _ _ (point.0 k d (omega arith) before) in omega (arith, less, same)

is-not-none : {X : Type 0} (o : Option X) → IsSome o → o ≡ None → ⊥
is-not-none None some is = true≢false (sym some)
is-not-none (Some x) some is = none-some x (sym is)

pub point-within : (es : List Entry) (n at : ℕ) → IsPointOf es n at → IsSome (entry_at es n) → at < length es
point-within es n at point some = within (cases_lt at (length es))
  where
    within : (at < length es) ⊎ (length es ≤ at) → at < length es
    within (inl inside) = inside
    within (inr past) = absurd (is-not-none (entry_at es n) some (entry-none es n no_entry (λ k less same. front-differs es n at k no_entry point (omega (arith, less, past)) same)))

-- where the entry at the point has another number, none has this one
other-cell : (es : List Entry) (n at : ℕ) (d : Entry) → IsNonDecreasingBy (λ (e : Entry). e.cell) es → IsPointOf es n at → at < length es → ((get_or es at d).cell ≡ n → ⊥)
    → entry_at es n ≡ None
other-cell es n at d sorted point inside other = entry-none es n d (λ k less same. nowhere k less same (cases_lt k at))
  where
    nowhere : (k : ℕ) → k < length es → (get_or es k d).cell ≡ n → (k < at) ⊎ (at ≤ k) → ⊥
    nowhere k less same (inl earlier) = front-differs es n at k d point earlier same
    nowhere k less same (inr later) =
        let up = sorted at k d later less in
        let from = ltb-false _ _ (point.1 at d (omega arith) inside) in
        other (omega (arith, up, from, same))

-- the entry at the point is the one that is looked up
pub point-entry : (es : List Entry) (n at : ℕ) (d : Entry) → IsNonDecreasingBy (λ (e : Entry). e.cell) es → IsPointOf es n at → IsSome (entry_at es n) → at < length es
    → entry_at es n ≡ Some (get_or es at d)
point-entry es n at d sorted point some inside =
    ⊎_elim
    (λ same. entry-first es n at d (λ k before. front-differs es n at k d point before) inside same.1)
    (λ other. absurd (is-not-none (entry_at es n) some (other-cell es n at d sorted point inside other.1)))
    (eqb_tells (get_or es at d).cell n)

-- ---- what entries state

abbrev pub pair_at : List (ℕ × ℕ) → ℕ → Option (ℕ × ℕ)
pair_at [] n = None
pair_at (p ∷ ps) n = if p.0 == n then Some p else pair_at ps n

stating-at : (es : List Entry) (n : ℕ) → option_map stating (entry_at es n) ≡ pair_at (map stating es) n
stating-at [] n = refl
stating-at (e ∷ es) n =
    elim (e.cell == n) as (λ b. option_map stating (if b then Some e else entry_at es n) ≡ (if b then Some (stating e) else pair_at (map stating es) n)) [
      | true ↦ refl
      | false ↦ stating-at es n
    ]

pair-append : (xs ys : List (ℕ × ℕ)) (n : ℕ) → pair_at (xs ++ ys) n ≡ option_or (pair_at xs n) (pair_at ys n)
pair-append [] ys n = refl
pair-append (x ∷ xs) ys n =
    elim (x.0 == n) as (λ b. (if b then Some x else pair_at (xs ++ ys) n) ≡ option_or (if b then Some x else pair_at xs n) (pair_at ys n)) [
      | true ↦ refl
      | false ↦ pair-append xs ys n
    ]

-- a form states its cell's number
stated-number : (n : ℕ) (form : HeapForm) (p : ℕ × ℕ) → stated n form ≡ Some p → p.0 ≡ n
stated-number n (RefBin address offset size) p is = ap (λ (q : ℕ × ℕ). q.0) (sym (same_Some (n, size) p is))
stated-number n (SubBin address offset size) p is = ap (λ (q : ℕ × ℕ). q.0) (sym (same_Some (n, size) p is))
stated-number n form p is = absurd (none-some p is)

abbrev pub one_stated : List Cell → ℕ → Option (ℕ × ℕ)
one_stated cells n = option_and_then (stated n) (form_at cells n)

one-number : (cells : List Cell) (n : ℕ) (p : ℕ × ℕ) → one_stated cells n ≡ Some p → p.0 ≡ n
one-number cells n p is = by (form_at cells n) is
  where
    by : (o : Option HeapForm) → option_and_then (stated n) o ≡ Some p → p.0 ≡ n
    by None is = absurd (none-some p is)
    by (Some form) is = stated-number n form p is

-- of one pair at most
pair-one : (o : Option (ℕ × ℕ)) (n : ℕ) → ((p : ℕ × ℕ) → o ≡ Some p → p.0 ≡ n) → pair_at (option_to_list o) n ≡ o
pair-one None n numbered = refl
pair-one (Some p) n numbered = ap (λ b. if b then Some p else None) (eq-eqb p.0 n (numbered p refl))

pair-other : (o : Option (ℕ × ℕ)) (n k : ℕ) → ((p : ℕ × ℕ) → o ≡ Some p → p.0 ≡ n) → (n ≡ k → ⊥) → pair_at (option_to_list o) k ≡ None
pair-other None n k numbered other = refl
pair-other (Some p) n k numbered other = ap (λ b. if b then Some p else None) (ne_eqb p.0 k (λ same. other (sym (numbered p refl) ∙ same)))

-- the pair of a number among those of the first n cells
abbrev pub AreUpto : List Cell → ℕ → ℕ → Type 0
AreUpto cells n k = (k < n → pair_at (by_number stated cells n) k ≡ one_stated cells k) × (n ≤ k → pair_at (by_number stated cells n) k ≡ None)

pairs-step : (cells : List Cell) (n k : ℕ) → AreUpto cells n k → AreUpto cells (suc n) k
pairs-step cells n k so_far = (λ before. below before (cases_lt k n), above)
  where
    parts : pair_at (by_number stated cells (suc n)) k ≡ option_or (pair_at (by_number stated cells n) k) (pair_at (option_to_list (one_stated cells n)) k)
    parts = pair-append (by_number stated cells n) (option_to_list (one_stated cells n)) k

    apart : (n ≡ k → ⊥) → pair_at (by_number stated cells (suc n)) k ≡ pair_at (by_number stated cells n) k
    apart other =
        parts ∙ ap (option_or (pair_at (by_number stated cells n) k)) (pair-other (one_stated cells n) n k (one-number cells n) other)
        ∙ or-none (pair_at (by_number stated cells n) k)

    below : k < suc n → (k < n) ⊎ (n ≤ k) → pair_at (by_number stated cells (suc n)) k ≡ one_stated cells k
    below before (inl earlier) = apart (λ same. omega (arith, same, earlier)) ∙ so_far.0 earlier
    below before (inr later) =
        let here : n ≡ k = omega (arith, before, later) in
        parts ∙ ap (λ o. option_or o (pair_at (option_to_list (one_stated cells n)) k)) (so_far.1 later)
        ∙ subst (λ m. pair_at (option_to_list (one_stated cells n)) m ≡ one_stated cells m) here (pair-one (one_stated cells n) n (one-number cells n))

    above : suc n ≤ k → pair_at (by_number stated cells (suc n)) k ≡ None
    above past = apart (λ same. omega (arith, same, past)) ∙ so_far.1 (omega (arith, past))

pairs-upto : (cells : List Cell) (n k : ℕ) → AreUpto cells n k
pairs-upto cells zero k = (λ before. absurd (omega (arith, before)), λ past. refl)
pairs-upto cells (suc n) k = pairs-step cells n k (pairs-upto cells n k)

pub are-for : (cells : List Cell) (es : List Entry) → map stating es ≡ binaries cells → AreFor cells es
are-for cells es is n =
    sym (is_some-map stating (entry_at es n)) ∙ ap is_some (stating-at es n ∙ (ap (λ ps. pair_at ps n) is ∙ by (cases_lt n (length cells))))
  where
    by : (n < length cells) ⊎ (length cells ≤ n) → pair_at (binaries cells) n ≡ one_stated cells n
    by (inl inside) = (pairs-upto cells (length cells) n).0 inside
    by (inr past) = (pairs-upto cells (length cells) n).1 past ∙ sym (ap (λ o. option_and_then (stated n) (option_and_then (λ (c : Cell). c.form) o)) (slice_get_past cells n past))

-- ---- entries stand in the order of their cells

abbrev pub IsBelow : ℕ → ℕ × ℕ → Type 0
IsBelow n p = p.0 < n

below-more : (n : ℕ) (ps : List (ℕ × ℕ)) → All (IsBelow n) ps → All (IsBelow (suc n)) ps
below-more n ps below = λ k d inside. let less : (get_or ps k d).0 < n = below k d inside in omega (arith, less)

sorted-more : (n : ℕ) (ps : List (ℕ × ℕ)) (o : Option (ℕ × ℕ)) → ((p : ℕ × ℕ) → o ≡ Some p → p.0 ≡ n) → All (IsBelow n) ps → IsNonDecreasingBy (λ (p : ℕ × ℕ). p.0) ps
    → All (IsBelow (suc n)) (ps ++ option_to_list o) × IsNonDecreasingBy (λ (p : ℕ × ℕ). p.0) (ps ++ option_to_list o)
sorted-more n ps None numbered below sorted =
    (subst (All (IsBelow (suc n))) (sym (append-nil ps)) (below-more n ps below), subst (IsNonDecreasingBy (λ (p : ℕ × ℕ). p.0)) (sym (append-nil ps)) sorted)
sorted-more n ps (Some p) numbered below sorted =
    let here : p.0 ≡ n = numbered p refl in (
      All-push (IsBelow (suc n)) ps p (below-more n ps below) (omega (arith, here)),
      IsNonDecreasingBy-push (λ (q : ℕ × ℕ). q.0) ps p sorted (λ d some. let less : (get_or ps (length ps - 1) d).0 < n = below (length ps - 1) d (omega (arith, some)) in omega (arith, less, here)),
    )

sorted-upto : (cells : List Cell) (n : ℕ) → All (IsBelow n) (by_number stated cells n) × IsNonDecreasingBy (λ (p : ℕ × ℕ). p.0) (by_number stated cells n)
sorted-upto cells zero = (All-nil (IsBelow 0), IsNonDecreasingBy-short (λ (p : ℕ × ℕ). p.0) [] (omega arith))
sorted-upto cells (suc n) =
    let before = sorted-upto cells n in
    sorted-more n (by_number stated cells n) (one_stated cells n) (one-number cells n) before.0 before.1

pub entries-sorted : (cells : List Cell) (es : List Entry) → map stating es ≡ binaries cells → IsNonDecreasingBy (λ (e : Entry). e.cell) es
entries-sorted cells es is = λ i j d up inside.
    let sorted = subst (IsNonDecreasingBy (λ (p : ℕ × ℕ). p.0)) (sym is) (sorted-upto cells (length cells)).1 in
    let one = get_or-map stating es i d (stating d) (omega (arith, up, inside)) in
    let other = get_or-map stating es j d (stating d) inside in
    subst (λ (p : ℕ × ℕ). p.0 ≤ (stating (get_or es j d)).0) one
    (subst (λ (p : ℕ × ℕ). (get_or (map stating es) i (stating d)).0 ≤ p.0) other (sorted i j (stating d) up (omega (arith, inside, length-map es stating))))

-- ---- what the first cells give

pub by_number-more : {X : Type 0} (f : ℕ → HeapForm → Option X) (cells : List Cell) (n : ℕ)
    → by_number f cells (n + 1) ≡ by_number f cells n ++ option_to_list (option_and_then (f n) (form_at cells n))
by_number-more f cells n = let next : n + 1 ≡ suc n = omega arith in ap (by_number f cells) next

-- the bytes read for the first cells, and for one more
pub reads-more : (cells : List Cell) (n : ℕ) → 128 * length (by_number stated cells n) + 128 * length (option_to_list (one_stated cells n)) ≡ 128 * length (by_number stated cells (n + 1))
reads-more cells n =
    let parts = ap length (by_number-more stated cells n) ∙ length-append (by_number stated cells n) (option_to_list (one_stated cells n)) in
    omega (arith, parts)

rises : (cells : List Cell) (n more : ℕ) → length (by_number stated cells n) ≤ length (by_number stated cells (n + more))
rises cells n zero = let same : n + zero ≡ n = omega arith in subst (λ m. length (by_number stated cells n) ≤ length (by_number stated cells m)) (sym same) (omega arith)
rises cells n (suc more) =
    let next : n + suc more ≡ (n + more) + 1 = omega arith in
    let step = rises cells n more in
    let parts = ap length (by_number-more stated cells (n + more)) ∙ length-append (by_number stated cells (n + more)) (option_to_list (one_stated cells (n + more))) in
    subst (λ m. length (by_number stated cells n) ≤ length (by_number stated cells m)) (sym next) (omega (arith, step, parts))

-- what is read for the cells up to one of them is within what may be read for all
pub reads-upto : (cells : List Cell) (n : ℕ) → n < length cells
    → 128 * length (by_number stated cells n) + 128 * length (option_to_list (one_stated cells n)) ≤ 128 * length (binaries cells)
reads-upto cells n inside =
    let rest = length cells - (n + 1) in
    let all : (n + 1) + rest ≡ length cells = omega (arith, inside) in
    let up : length (by_number stated cells (n + 1)) ≤ length (binaries cells) =
    subst (λ m. length (by_number stated cells (n + 1)) ≤ length (by_number stated cells m)) all (rises cells (n + 1) rest) in
    omega (arith, reads-more cells n, up)

-- an entry that is looked up is that of the number
pub entry-cell : (es : List Entry) (n : ℕ) (e : Entry) → entry_at es n ≡ Some e → e.cell ≡ n
entry-cell [] n e is = absurd (none-some e is)
entry-cell (x ∷ es) n e is = by (x.cell == n) refl is (entry-cell es n e)
  where
    by : (b : Bool) → (x.cell == n) ≡ b → (if b then Some x else entry_at es n) ≡ Some e → (entry_at es n ≡ Some e → e.cell ≡ n) → e.cell ≡ n
    by true same found rest = ap (λ (f : Entry). f.cell) (sym (same_Some x e found)) ∙ eqb-true x.cell n same
    by false other found rest = rest found

-- ---- cells that refer to no binary

pub not-stated : (n : ℕ) (o : Option HeapForm) → refers (option_map kind_of o) ≡ false → option_and_then (stated n) o ≡ None
not-stated n None other = refl
not-stated n (Some (RefBin address offset size)) other = absurd (true≢false other)
not-stated n (Some (SubBin address offset size)) other = absurd (true≢false other)
not-stated n (Some form) other = refl

pub no-entry : (dump : List ℕ) (index : Contents) (enc : Enc) (cells : List Cell) (n : ℕ) (o : Option HeapForm) → refers (option_map kind_of o) ≡ false → option_and_then (preview_entry dump index enc cells n) o ≡ None
no-entry dump index enc cells n None other = refl
no-entry dump index enc cells n (Some (RefBin address offset size)) other = absurd (true≢false other)
no-entry dump index enc cells n (Some (SubBin address offset size)) other = absurd (true≢false other)
no-entry dump index enc cells n (Some form) other = refl

-- ---- heaps without a reference to a binary

stated-of : (dump : List ℕ) (index : Contents) (enc : Enc) (cells : List Cell) (n : ℕ) (form : HeapForm) → stated n form ≡ None → preview_entry dump index enc cells n form ≡ None
stated-of dump index enc cells n (RefBin address offset size) none = absurd (let e : Some (n, size) ≡ None = none in cc)
stated-of dump index enc cells n (SubBin address offset size) none = absurd (let e : Some (n, size) ≡ None = none in cc)
stated-of dump index enc cells n form none = refl

none-of : (dump : List ℕ) (index : Contents) (enc : Enc) (cells : List Cell) (n : ℕ) (o : Option HeapForm) → option_to_list (option_and_then (stated n) o) ≡ [] → option_to_list (option_and_then (preview_entry dump index enc cells n) o) ≡ []
none-of dump index enc cells n None none = refl
none-of dump index enc cells n (Some form) none = ap option_to_list (stated-of dump index enc cells n form (no-list (stated n form) none))
  where
    no-list : (o : Option (ℕ × ℕ)) → option_to_list o ≡ [] → o ≡ None
    no-list None e = refl
    no-list (Some x) e = absurd (let e : x ∷ [] ≡ [] = e in cc)

-- two lists of which nothing is left
both-none : {X : Type 0} (xs ys : List X) → xs ++ ys ≡ [] → (xs ≡ []) × (ys ≡ [])
both-none [] ys none = (refl, none)
both-none (x ∷ xs) ys none = absurd (let e : x ∷ (xs ++ ys) ≡ [] = none in cc)

upto-none : (dump : List ℕ) (index : Contents) (enc : Enc) (cells : List Cell) (n : ℕ) → by_number stated cells n ≡ [] → by_number (preview_entry dump index enc cells) cells n ≡ []
upto-none dump index enc cells zero none = refl
upto-none dump index enc cells (suc n) none =
    let parts = both-none (by_number stated cells n) (option_to_list (one_stated cells n)) none in
    ap (λ l. l ++ option_to_list (option_and_then (preview_entry dump index enc cells n) (form_at cells n))) (upto-none dump index enc cells n parts.0)
    ∙ none-of dump index enc cells n (form_at cells n) parts.1

-- where no cell refers to a binary there are no previews
pub no-previews : (dump : List ℕ) (index : Contents) (enc : Enc) (cells : List Cell) → binaries cells ≡ [] → previews_of dump index enc cells ≡ []
no-previews dump index enc cells none = upto-none dump index enc cells (length cells) none
