-- Each step of the writing, as one equation on what is still to come.
use Rattle.std.proofs.Common.{◌≡◌, ℕ, suc, ◌+◌, ◌<◌, ◌≤◌, ◌==◌, ◌⊎◌, ⊎_elim, Bool, true, false, cond, max, List, [], ◌∷◌, ◌++◌, length, Ok, Err, refl, sym, ap, ◌∙◌, subst, arith, append_assoc, append-nil, Bor}
use Rattle.std.proofs.lemmas.Bool.{true≢false}
use Rattle.std.proofs.lemmas.Bool.Decides.{eqb_tells}
use Rattle.dump_io.specs.Sinks.{SinkState, Puts, HasPutPart, GainedFront}
use Rattle.dump_io.specs.Laws.Puts.{HasPut-done, HasPutPart-next, HasPutPart-rest, Puts-behind, Puts-stopped}
use Rattle.etf_terms.specs.declared.stack.Kind.{Kind}
use Rattle.etf_terms.specs.declared.stack.Kind.TheVariants as kinds
use Rattle.etf_terms.specs.declared.stack.Entry.{Entry}
use Rattle.etf_terms.specs.Depth.{depth, deepest}
use Rattle.etf_terms.specs.Heads.{Head, kids}
use Rattle.etf_terms.specs.Terms.{Term, node, Terms, none, more, count, IsTerm, AreTerms}
use Rattle.etf_terms.specs.Text.{terms_kind, closing, own_text, inner, text}
use Rattle.etf_terms.specs.Inner.Parts.{head_of}
use Rattle.etf_terms.specs.Inner.Standing.{entry_of, entered, ended, next_of, Stands, Moves}
use Rattle.etf_terms.proofs.Firsts.{first-of, regroup, same-head, not-both, depth-own, no-terms}

-- ---- an entry that wants no more

pub record Closes (room : ℕ) (e : Entry) (es : List Entry) (rest to_come : List ℕ) : Type 0 where
  pub below : List ℕ
  pub splits : to_come ≡ closing e.kind e.kids ++ below
  pub stands : Stands room es rest below

pub closes : (room : ℕ) (e : Entry) (es : List Entry) (rest to_come : List ℕ) → e.kids ≤ e.next → Stands room (e ∷ es) rest to_come → Closes room e es rest to_come
closes room e es rest to_come ended (none, front, behind, below, r, are, counts, t, fits, s) =
    record { below = below; splits = t; stands = subst (λ l. Stands room es l below) (sym (r ∙ ap (λ l. l ++ behind) are)) s }
closes room e es rest to_come ended (more u us, front, behind, below, r, are, counts, t, fits, s) = absurd (omega (arith, ended, counts))

-- ---- an entry that wants one more

inner-none : (kind : Kind) (n i : ℕ) (ks : Terms) → count ks ≡ 0 → inner kind n i ks ≡ closing kind n
inner-none kind n i none e = refl
inner-none kind n i (more t ts) e = absurd (omega (arith, e))

-- a head that was read has terms, or it has none
enters-by : (room : ℕ) (t : Bool) (h : Head) (ks : Terms) (es : List Entry) (own others later : List ℕ) → ((t ≡ true) × (kids h ≡ 0)) ⊎ ((t ≡ false) × (kids h ≡ 0 → ⊥))
    → AreTerms own ks → count ks ≡ kids h → length es + depth (node h ks) ≤ room → Stands room es others later
    → (after : List ℕ) × (inner (terms_kind h) (kids h) 0 ks ++ later ≡ cond t (closing (terms_kind h) (kids h)) [] ++ after) × Stands room (cond t es (entry_of h ∷ es)) (own ++ others) after
enters-by room true h ks es own others later is are counts fits s =
    let leaf : kids h ≡ 0 = ⊎_elim (λ p. p.1) (λ p. absurd (true≢false p.0)) is in (
      later,
      ap (λ l. l ++ later) (inner-none (terms_kind h) (kids h) 0 ks (counts ∙ leaf)),
      subst (λ l. Stands room es (l ++ others) later) (sym (no-terms ks own (counts ∙ leaf) are)) s,
    )
enters-by room false h ks es own others later is are counts fits s =
    let some : kids h ≡ 0 → ⊥ = ⊎_elim (λ p. absurd (true≢false (sym p.0))) (λ p. p.1) is in
    let deep = depth-own h ks (λ e. some (sym counts ∙ e)) in
    let all : count ks + 0 ≡ kids h = omega (arith, counts) in
    let own_fits : suc (length es) + deepest ks ≤ room = omega (arith, fits, deep) in
    (inner (terms_kind h) (kids h) 0 ks ++ later, refl, (ks, own, others, later, refl, are, all, refl, own_fits, s))

record Opens (room : ℕ) (e : Entry) (es : List Entry) (rest to_come : List ℕ) : Type 0 where
  pub head : Head
  pub behind : List ℕ
  pub read : head_of rest ≡ Ok (head, behind)
  pub later : List ℕ
  pub splits : to_come ≡ (own_text e.kind e.kids e.next head ++ ended head) ++ later
  pub stands : Stands room (entered head (next_of e ∷ es)) behind later
  pub fits : 0 < kids head → suc (suc (length es)) ≤ room

opens : (room : ℕ) (e : Entry) (es : List Entry) (rest to_come : List ℕ) → e.next < e.kids → Stands room (e ∷ es) rest to_come → Opens room e es rest to_come
opens room e es rest to_come wants (none, front, behind, below, r, are, counts, t, fits, s) = absurd (omega (arith, wants, counts))
opens room e es rest to_come wants (more (node h ks) us, front, behind, below, r, are, counts, t, fits, s) =
    let f = first-of h ks us rest front behind r are in
    let left : count us + (e.next + 1) ≡ e.kids = omega (arith, counts) in
    let own_fits : suc (length es) + depth (node h ks) ≤ room = omega (arith, fits) in
    let others_fit : suc (length es) + deepest us ≤ room = omega (arith, fits) in
    let others_text = inner e.kind e.kids (e.next + 1) us ++ below in
    let own = own_text e.kind e.kids e.next h in
    let enters = enters-by room (kids h == 0) h ks (next_of e ∷ es) f.front (f.rest ++ behind) others_text (eqb_tells (kids h) 0) f.are_own f.count_own own_fits
    (us, f.rest, behind, below, refl, f.are_others, left, refl, others_fit, s) in
    record {
      head = h;
      behind = f.front ++ (f.rest ++ behind);
      read = f.read;
      later = enters.0;
      splits = t ∙ regroup own (inner (terms_kind h) (kids h) 0 ks) (inner e.kind e.kids (e.next + 1) us) below ∙ ap (λ l. own ++ l) enters.1 ∙ sym (append_assoc own (ended h) enters.0);
      stands = enters.2;
      fits = λ some.
          let deep = depth-own h ks (λ none_left. omega (arith, some, f.count_own, none_left)) in
          omega (arith, own_fits, deep);
    }

-- the same, where the head was read
pub opened : (room : ℕ) (e : Entry) (es : List Entry) (rest to_come : List ℕ) (h : Head) (behind : List ℕ) → e.next < e.kids → head_of rest ≡ Ok (h, behind) → Stands room (e ∷ es) rest to_come
    → (later : List ℕ) × (to_come ≡ (own_text e.kind e.kids e.next h ++ ended h) ++ later) × Stands room (entered h (next_of e ∷ es)) behind later
opened room e es rest to_come h behind wants read s =
    let o = opens room e es rest to_come wants s in
    let same = same-head rest o.head h o.behind behind o.read read in (
      o.later,
      o.splits ∙ ap (λ x. (own_text e.kind e.kids e.next x ++ ended x) ++ o.later) same.0,
      subst (λ x. Stands room (entered x (next_of e ∷ es)) behind o.later) same.0 (subst (λ l. Stands room (entered o.head (next_of e ∷ es)) l o.later) same.1 o.stands),
    )

-- there is room for it one of its terms further, and for the head if that has terms
pub room-for_next : (room : ℕ) (e : Entry) (es : List Entry) (rest to_come : List ℕ) → Stands room (e ∷ es) rest to_come → suc (length es) ≤ room
room-for_next room e es rest to_come s = omega (arith, s.8)

pub room-for_own : (room : ℕ) (e : Entry) (es : List Entry) (rest to_come : List ℕ) (h : Head) (behind : List ℕ) → e.next < e.kids → head_of rest ≡ Ok (h, behind) → Stands room (e ∷ es) rest to_come
    → 0 < kids h → suc (suc (length es)) ≤ room
room-for_own room e es rest to_come h behind wants read s some =
    let o = opens room e es rest to_come wants s in
    o.fits (subst (λ x. 0 < kids x) (sym (same-head rest o.head h o.behind behind o.read read).0) some)

pub not-off : (room : ℕ) (e : Entry) (es : List Entry) (rest to_come : List ℕ) (left : ℕ) → e.next < e.kids → head_of rest ≡ Err left → Stands room (e ∷ es) rest to_come → ⊥
not-off room e es rest to_come left wants off s =
    let o = opens room e es rest to_come wants s in not-both rest o.head o.behind left o.read off

pub entered-few : (h : Head) (es : List Entry) → length (entered h es) ≤ suc (length es)
entered-few h es = few (kids h == 0) where
  few : (t : Bool) → length (cond t es (entry_of h ∷ es)) ≤ suc (length es)
  few true = omega arith
  few false = omega arith

-- ---- the whole

-- before it is begun a term is the one that an entry of its own wants
abbrev pub root_entry : Entry
root_entry = record { kind = kinds.Plain; kids = 1; next = 0 }

pub stands-root : (t : Term) (bytes : List ℕ) (room : ℕ) → IsTerm bytes t → room ≡ suc (depth t) → Stands room (root_entry ∷ []) bytes (text t)
stands-root (node h ks) bytes room p exact = (
  more (node h ks) none,
  bytes,
  [],
  [],
  sym (append-nil bytes),
  (bytes, [], sym (append-nil bytes), p, refl),
  refl,
  sym (append-nil ((text (node h ks) ++ []) ++ []) ∙ append-nil (text (node h ks) ++ []) ∙ append-nil (text (node h ks)))
      ∙ ends,
  fits,
  (refl, refl),
) where
  ends : ((text (node h ks) ++ []) ++ []) ++ [] ≡ ((text (node h ks)) ++ []) ++ []
  ends = ap (λ l. (l ++ []) ++ []) (append-nil (text (node h ks)))

  fits : 1 + max (depth (node h ks)) 0 ≤ room
  fits = omega (arith, exact)

-- the innermost entry was taken off
pub stands-popped : (room same_room : ℕ) (entries entries_left : List Entry) (rest : List ℕ) {e : Entry} {to_come : List ℕ} → entries ≡ e ∷ entries_left → same_room ≡ room
    → Stands room entries rest to_come → Stands same_room (e ∷ entries_left) rest to_come
stands-popped room same_room entries entries_left rest {e} {to_come} top same s =
    subst (λ r. Stands r (e ∷ entries_left) rest to_come) (sym same) (subst (λ es. Stands room es rest to_come) top s)

-- ---- what is written

pub moves-ok : {T E : Type 0} {a b : SinkState} (bytes whole later : List ℕ) (room : ℕ) (es : List Entry) (rest : Bor (List ℕ)) (x : T)
    → Puts {E = E} a b bytes (Ok x) → whole ≡ bytes ++ later → Stands room es rest.now later → Moves {E = E} a b whole room es (Ok rest)
moves-ok bytes whole later room es rest x puts splits stands =
    record { later = puts.later; writes = (later, record { part = bytes; put = HasPut-done puts; splits = splits }, stands); failed = tt }

pub moves-err : {T E F : Type 0} {a b : SinkState} (bytes whole later : List ℕ) (room : ℕ) (es : List Entry) (e : E) (d : F)
    → Puts {T = T} a b bytes (Err e) → whole ≡ bytes ++ later → Moves a b whole room es (Err d)
moves-err {T} {E} {F} {a} {b} bytes whole later room es e d puts splits =
    let broken : Puts {T = T} {E = E} a b (bytes ++ later) (Err e) = Puts-stopped later refl puts in
    record { later = puts.later; writes = subst (GainedFront a b) (sym splits) broken.writes.front; failed = puts.failed }

-- a move behind those that went well
pub moves-on : {E : Type 0} {a b c : SinkState} (whole later : List ℕ) (room : ℕ) (es : List Entry) (rest : Bor (List ℕ)) → HasPutPart a b whole later
    → Moves {E = E} b c later room es (Ok rest) → (to_come : List ℕ) × HasPutPart a c whole to_come × Stands room es rest.now to_come
moves-on whole later room es rest part move =
    (move.writes.0, HasPutPart-next whole later move.writes.0 part move.writes.1, move.writes.2)

-- one that failed
pub moves-broken : {T E F : Type 0} {a b c : SinkState} (whole later : List ℕ) (room : ℕ) (es : List Entry) (e : E) (d : F) → HasPutPart a b whole later
    → Moves b c later room es (Err e) → Puts {T = T} a c whole (Err d)
moves-broken {T} {E} {F} {a} {b} {c} whole later room es e d part move =
    let broken : Puts {T = T} {E = F} b c later (Err d) = record { later = move.later; writes = record { whole = tt; front = move.writes }; failed = move.failed } in
    HasPutPart-rest whole later (Err d) part broken
