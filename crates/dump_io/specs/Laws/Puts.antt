-- Texts that are written one after another.
use Rattle.std.proofs.Common.{◌≡◌, ℕ, zero, suc, ◌+◌, ◌≤◌, List, [], ◌∷◌, ◌++◌, length, take, drop, Option, None, Some, Result, Ok, Err, refl, sym, ◌∙◌, ap, subst, append_assoc, append-nil, arith, length-append, slice_get}
use Rattle.std.specs.Prelude.{IsErr}
use Rattle.std.specs.List.{flat_map}
use Rattle.std.proofs.lemmas.List.{take-append-le, take_all}
use Rattle.std.proofs.Math.Seq.{take-append-add}
use Rattle.dump_io.specs.Sinks.{SinkState, grown, GainsFront, WritesAll, Puts, HasPut, HasPutPart}

-- two texts in a row are one text, and an empty text changes nothing
pub grown-grown : (w : Option (List ℕ)) (xs ys : List ℕ) → grown (grown w xs) ys ≡ grown w (xs ++ ys)
grown-grown None xs ys = refl
grown-grown (Some zs) xs ys = ap Some (append_assoc zs xs ys)

pub grown-nil : (w : Option (List ℕ)) → grown w [] ≡ w
grown-nil None = refl
grown-nil (Some zs) = ap Some (append-nil zs)

-- a text after another
pub grown-next : (w v u : Option (List ℕ)) (xs ys : List ℕ) → v ≡ grown w xs → u ≡ grown v ys → u ≡ grown w (xs ++ ys)
grown-next w v u xs ys first second = second ∙ ap (λ z. grown z ys) first ∙ grown-grown w xs ys

-- a text that breaks off, after one that is whole and before another
front-within : (w v u : Option (List ℕ)) (front bytes more : List ℕ) → v ≡ grown w front → GainsFront v u bytes → GainsFront w u (front ++ (bytes ++ more))
front-within w v u front bytes more first cut =
    record {
      count = length front + cut.count;
      short = omega (arith, cut.short, length-append front (bytes ++ more), length-append bytes more);
      front = cut.front ∙ ap (λ z. grown z (take cut.count bytes)) first ∙ grown-grown w front (take cut.count bytes)
          ∙ ap (λ l. grown w l) (ap (λ l. front ++ l) (sym (take-append-le cut.count bytes more (omega (arith, cut.short)))) ∙ sym (take-append-add front (bytes ++ more) cut.count));
    }

front-behind : (w v u : Option (List ℕ)) (front bytes : List ℕ) → v ≡ grown w front → GainsFront v u bytes → GainsFront w u (front ++ bytes)
front-behind w v u front bytes first cut = subst (λ l. GainsFront w u (front ++ l)) (append-nil bytes) (front-within w v u front bytes [] first cut)

front-before : (w u : Option (List ℕ)) (bytes more : List ℕ) → GainsFront w u bytes → GainsFront w u (bytes ++ more)
front-before w u bytes more cut = front-within w w u [] bytes more (sym (grown-nil w)) cut

-- What is written, whatever fails and wherever it goes: into a sink, or into a vector as `Some` of its items.

-- nothing to write
pub WritesAll-none : {T E : Type 0} {w : Option (List ℕ)} {x : T} → WritesAll {E = E} w w [] (Ok x)
WritesAll-none {w = w} = record { whole = sym (grown-nil w); front = tt }

-- a text after one that was written whole
pub WritesAll-then : {T U E F : Type 0} {w v u : Option (List ℕ)} {xs ys : List ℕ} {x : U} {r : Result T E}
    → WritesAll {E = F} w v xs (Ok x) → WritesAll v u ys r → WritesAll w u (xs ++ ys) r
WritesAll-then {w = w} {v = v} {u = u} {xs = xs} {ys = ys} {r = Ok y} first second =
    record { whole = grown-next w v u xs ys first.whole second.whole; front = tt }
WritesAll-then {w = w} {v = v} {u = u} {xs = xs} {ys = ys} {r = Err e} first second =
    record { whole = tt; front = front-behind w v u xs ys first.whole second.front }

-- a text that broke off, before one that wasn't begun
pub WritesAll-stopped : {T U E F : Type 0} {w u : Option (List ℕ)} {xs : List ℕ} {e : F} {r : Result T E} (more : List ℕ)
    → IsErr r → WritesAll {T = U} w u xs (Err e) → WritesAll w u (xs ++ more) r
WritesAll-stopped {r = Ok y} more failed broken = cc
WritesAll-stopped {w = w} {u = u} {xs = xs} {r = Err e} more failed broken =
    record { whole = tt; front = front-before w u xs more broken.front }

-- a failure that is passed on
pub WritesAll-failed : {T U E F : Type 0} {w u : Option (List ℕ)} {xs : List ℕ} {e : F} {r : Result T E}
    → IsErr r → WritesAll {T = U} w u xs (Err e) → WritesAll w u xs r
WritesAll-failed {r = Ok y} failed broken = cc
WritesAll-failed {r = Err e} failed broken = record { whole = tt; front = broken.front }

-- Calls on a sink in a row: their `Puts` are joined to one.

-- a text that was put is put in any form of it
pub Puts-as : {T E : Type 0} {a b : SinkState} {xs ys : List ℕ} {r : Result T E} → xs ≡ ys → Puts a b xs r → Puts a b ys r
Puts-as {a = a} {b = b} {r = r} same puts = subst (λ l. Puts a b l r) same puts

-- a call after one that succeeded
pub Puts-then : {T U E F : Type 0} {a b c : SinkState} {xs ys : List ℕ} {x : U} {r : Result T E}
    → Puts {E = F} a b xs (Ok x) → Puts b c ys r → Puts a c (xs ++ ys) r
Puts-then {r = Ok y} first second =
    record { later = omega (arith, first.later, second.later); writes = WritesAll-then first.writes second.writes; failed = tt }
Puts-then {r = Err e} first second =
    record {
      later = omega (arith, first.later, second.later);
      writes = WritesAll-then first.writes second.writes;
      failed = omega (arith, first.later, second.failed);
    }

-- a call that failed, before one that wasn't begun
pub Puts-stopped : {T U E F : Type 0} {a b : SinkState} {xs : List ℕ} {e : F} {r : Result T E} (more : List ℕ)
    → IsErr r → Puts {T = U} a b xs (Err e) → Puts a b (xs ++ more) r
Puts-stopped {r = Ok y} more failed broken = cc
Puts-stopped {r = Err e} more failed broken =
    record { later = broken.later; writes = WritesAll-stopped more failed broken.writes; failed = broken.failed }

-- What several successful calls have put, as the invariant of a loop states it.

-- nothing has been put yet
pub HasPut-none : {a : SinkState} → HasPut a a []
HasPut-none {a = a} = record { later = omega arith; gained = sym (grown-nil a.written) }

-- a text that was put by several calls is put in any form of it
pub HasPut-as : {a b : SinkState} {xs ys : List ℕ} → xs ≡ ys → HasPut a b xs → HasPut a b ys
HasPut-as {a = a} {b = b} same put = subst (HasPut a b) same put

-- a call that succeeded has put its text
pub HasPut-done : {T E : Type 0} {a b : SinkState} {xs : List ℕ} {x : T} → Puts {E = E} a b xs (Ok x) → HasPut a b xs
HasPut-done puts = record { later = puts.later; gained = puts.writes.whole }

-- what several calls have put, and what further calls have put behind it, is one text in a row
pub HasPut-both : {a b c : SinkState} {xs ys : List ℕ} → HasPut a b xs → HasPut b c ys → HasPut a c (xs ++ ys)
HasPut-both {a = a} {b = b} {c = c} {xs = xs} {ys = ys} first second =
    record { later = omega (arith, first.later, second.later); gained = grown-next a.written b.written c.written xs ys first.gained second.gained }

-- after several calls that succeeded one more puts its text behind theirs
pub HasPut-then : {T E : Type 0} {a b c : SinkState} {xs ys : List ℕ} {x : T} → HasPut a b xs → Puts {E = E} b c ys (Ok x) → HasPut a c (xs ++ ys)
HasPut-then first second = HasPut-both first (HasPut-done second)

-- several calls that succeeded have put their texts as one call does that succeeds
pub HasPut-whole : {T E : Type 0} {a b : SinkState} {xs : List ℕ} {x : T} → HasPut a b xs → Puts {E = E} a b xs (Ok x)
HasPut-whole put = record { later = put.later; writes = record { whole = put.gained; front = tt }; failed = tt }

-- a call after several that succeeded puts its text behind theirs, or breaks off in it
pub Puts-behind : {T E : Type 0} {a b c : SinkState} {xs ys : List ℕ} {r : Result T E} → HasPut a b xs → Puts b c ys r → Puts a c (xs ++ ys) r
Puts-behind {a = a} {b = b} {xs = xs} first second =
    let done : Puts {T = Unit {0}} {E = Unit {0}} a b xs (Ok tt) = HasPut-whole first in Puts-then done second

-- nothing was put of a text yet
pub HasPutPart-none : {a : SinkState} (whole : List ℕ) → HasPutPart a a whole whole
HasPutPart-none whole = record { part = []; put = HasPut-none; splits = refl }

-- a part behind a part
pub HasPutPart-next : {a b c : SinkState} (whole later last : List ℕ) → HasPutPart a b whole later → HasPutPart b c later last → HasPutPart a c whole last
HasPutPart-next whole later last first second =
    record {
      part = first.part ++ second.part;
      put = HasPut-both first.put second.put;
      splits = first.splits ∙ ap (λ l. first.part ++ l) second.splits ∙ sym (append_assoc first.part second.part last);
    }

-- a call that puts the rest of a text, behind a part that was put, puts the whole text
pub HasPutPart-rest : {T E : Type 0} {a b c : SinkState} (whole later : List ℕ) (r : Result T E) → HasPutPart a b whole later → Puts b c later r → Puts a c whole r
HasPutPart-rest whole later r part puts = Puts-as (sym part.splits) (Puts-behind part.put puts)

-- a text of which nothing is still to come has been put
pub HasPutPart-whole : {T E : Type 0} {a b : SinkState} (whole : List ℕ) (x : T) → HasPutPart a b whole [] → Puts {E = E} a b whole (Ok x)
HasPutPart-whole whole x part = Puts-as (sym (append-nil part.part) ∙ sym part.splits) (HasPut-whole part.put)

-- A text for each element of a list: the texts before a place, the one at it, and those after it.

pub flat_map-at : {X : Type 0} (text : X → List ℕ) (xs : List X) (i : ℕ) (x : X) → slice_get xs i ≡ Some x
    → flat_map text xs ≡ flat_map text (take i xs) ++ (text x ++ flat_map text (drop (suc i) xs))
flat_map-at text [] i x is = cc
flat_map-at text (y ∷ xs) zero x is = let same : y ≡ x = cc in ap (λ z. text z ++ flat_map text xs) same
flat_map-at text (y ∷ xs) (suc i) x is =
    ap (λ l. text y ++ l) (flat_map-at text xs i x is) ∙ sym (append_assoc (text y) (flat_map text (take i xs)) (text x ++ flat_map text (drop (suc i) xs)))

-- the texts of one more element
pub flat_map-more : {X : Type 0} (text : X → List ℕ) (xs : List X) (i : ℕ) (x : X) → slice_get xs i ≡ Some x
    → flat_map text (take (i + 1) xs) ≡ flat_map text (take i xs) ++ text x
flat_map-more text [] i x is = cc
flat_map-more text (y ∷ xs) zero x is = let same : y ≡ x = cc in ap (λ z. text z ++ []) same ∙ append-nil (text x)
flat_map-more text (y ∷ xs) (suc i) x is = grind (arith, flat_map-more text xs i x is, append_assoc)

-- the text at a place is put after those before it
pub HasPut-more : {X T E : Type 0} {a b c : SinkState} {y : T} (text : X → List ℕ) (xs : List X) (i : ℕ) (x : X) → slice_get xs i ≡ Some x
    → HasPut a b (flat_map text (take i xs)) → Puts {E = E} b c (text x) (Ok y) → HasPut a c (flat_map text (take (i + 1) xs))
HasPut-more {a = a} {c = c} text xs i x is so_far next =
    subst (HasPut a c) (sym (flat_map-more text xs i x is)) (HasPut-then so_far next)

-- if the text at a place breaks off behind those before it, so does the text of the whole list
pub Puts-broken : {X T U E F : Type 0} {a b c : SinkState} {e : F} {r : Result T E} (text : X → List ℕ) (xs : List X) (i : ℕ) (x : X) → slice_get xs i ≡ Some x
    → HasPut a b (flat_map text (take i xs)) → IsErr r → Puts {T = U} b c (text x) (Err e) → Puts a c (flat_map text xs) r
Puts-broken {a = a} {c = c} {r = r} text xs i x is so_far failed broken =
    subst (λ l. Puts a c l r) (sym (flat_map-at text xs i x is))
    (Puts-behind so_far (Puts-stopped (flat_map text (drop (suc i) xs)) failed broken))

-- if the texts of all elements of a list were put, the text of the list was
pub Puts-all : {X T E : Type 0} {a b : SinkState} {y : T} (text : X → List ℕ) (xs : List X) (i : ℕ) → length xs ≤ i
    → HasPut a b (flat_map text (take i xs)) → Puts {E = E} a b (flat_map text xs) (Ok y)
Puts-all text xs i none so_far = HasPut-whole (HasPut-as (ap (λ l. flat_map text l) (take_all i xs none)) so_far)
