-- A text for each of a list, appended one behind the other.
use Rattle.std.proofs.Common.{◌≡◌, ℕ, zero, suc, ◌+◌, ◌-◌, ◌≤◌, List, ◌++◌, length, take, drop, Option, Some, Result, Ok, Err, sym, ◌∙◌, ap, subst, append_assoc, append-nil, add-zero, arith, slice_get}
use Rattle.std.specs.Prelude.{IsErr, OnOk}
use Rattle.std.specs.List.{flat_map, range_with_len}
use Rattle.std.proofs.lemmas.List.{take_all}
use Rattle.std.proofs.lemmas.List.Concat.{flat_map-append}
use Rattle.dump_io.specs.Sinks.{WritesAll}
use Rattle.dump_io.specs.Laws.Puts.{WritesAll-then, WritesAll-stopped, flat_map-at, flat_map-more}
use Rattle.dump_write.specs.Written.{line, lines_of}

-- the text was appended whole
abbrev pub Appended : Option (List ℕ) → Option (List ℕ) → List ℕ → Type 0
Appended before after text = WritesAll {T = Unit {0}} {E = Unit {0}} before after text (Ok tt)

-- the text at a place is appended behind those before it
pub Appended-more : {X T E : Type 0} {w v u : Option (List ℕ)} {y : T} (text : X → List ℕ) (xs : List X) (i : ℕ) (x : X) → slice_get xs i ≡ Some x
    → Appended w v (flat_map text (take i xs)) → WritesAll {E = E} v u (text x) (Ok y) → Appended w u (flat_map text (take (i + 1) xs))
Appended-more {w = w} {u = u} text xs i x is so_far next =
    subst (Appended w u) (sym (flat_map-more text xs i x is)) (WritesAll-then so_far (record { whole = next.whole; front = tt }))

-- it breaks off, and so all do
pub Appended-broken : {X T U E F : Type 0} {w v u : Option (List ℕ)} {e : F} {r : Result T E} (text : X → List ℕ) (xs : List X) (i : ℕ) (x : X) → slice_get xs i ≡ Some x
    → Appended w v (flat_map text (take i xs)) → IsErr r → WritesAll {T = U} v u (text x) (Err e) → WritesAll w u (flat_map text xs) r
Appended-broken {w = w} {u = u} {r = r} text xs i x is so_far failed broken =
    subst (λ l. WritesAll w u l r) (sym (flat_map-at text xs i x is))
    (WritesAll-then so_far (WritesAll-stopped (flat_map text (drop (suc i) xs)) failed broken))

-- none is left
pub Appended-all : {X T E : Type 0} {w u : Option (List ℕ)} {y : T} (text : X → List ℕ) (xs : List X) (i : ℕ) → length xs ≤ i
    → Appended w u (flat_map text (take i xs)) → WritesAll {E = E} w u (flat_map text xs) (Ok y)
Appended-all {T = T} {E = E} {w = w} {u = u} {y = y} text xs i none so_far =
    subst (λ l. WritesAll {T = T} {E = E} w u (flat_map text l) (Ok y)) (take_all i xs none) (record { whole = so_far.whole; front = tt })

-- Lines behind others, where only their end counts.

-- lines behind lines
pub lines_behind : (old mid new : List ℕ) (done more : List (List ℕ)) → mid ≡ old ++ lines_of done → new ≡ mid ++ lines_of more → new ≡ old ++ lines_of (done ++ more)
lines_behind old mid new done more first second =
    second ∙ ap (λ l. l ++ lines_of more) first ∙ append_assoc old (lines_of done) (lines_of more) ∙ ap (λ l. old ++ l) (sym (flat_map-append line done more))

pub lines_then : {T E : Type 0} (old mid new : List ℕ) (done more : List (List ℕ)) (r : Result T E)
    → mid ≡ old ++ lines_of done → OnOk r (new ≡ mid ++ lines_of more) → OnOk r (new ≡ old ++ lines_of (done ++ more))
lines_then old mid new done more (Ok x) first second = lines_behind old mid new done more first second
lines_then old mid new done more (Err e) first second = tt

-- the texts for one number more
flat_map-range : (texts : ℕ → List (List ℕ)) (first n : ℕ)
    → flat_map texts (range_with_len first (suc n)) ≡ flat_map texts (range_with_len first n) ++ texts (first + n)
flat_map-range texts first zero = append-nil (texts first) ∙ ap texts (sym (add-zero first))
flat_map-range texts first (suc n) =
    ap (λ l. texts first ++ l) (flat_map-range texts (first + 1) n)
    ∙ sym (append_assoc (texts first) (flat_map texts (range_with_len (first + 1) n)) (texts (first + 1 + n)))
    ∙ ap (λ m. flat_map texts (range_with_len first (suc n)) ++ texts m) (let e : first + 1 + n ≡ first + suc n = omega arith in e)

-- the lines for the numbers from 1 up to i, behind those up to the one before it
pub lines_more : (old now new : List ℕ) (texts : ℕ → List (List ℕ)) (i last : ℕ) → 1 ≤ i → last ≡ i
    → now ≡ old ++ lines_of (flat_map texts (range_with_len 1 (i - 1))) → new ≡ now ++ lines_of (texts i)
    → new ≡ old ++ lines_of (flat_map texts (range_with_len 1 last))
lines_more old now new texts i last some same first second =
    let before = flat_map texts (range_with_len 1 (i - 1)) in
    let count : last ≡ suc (i - 1) = omega (arith, some, same) in
    let here : 1 + (i - 1) ≡ i = omega (arith, some) in
    lines_behind old now new before (texts i) first second
    ∙ ap (λ l. old ++ lines_of l) (ap (λ m. before ++ texts m) (sym here) ∙ sym (flat_map-range texts 1 (i - 1)) ∙ ap (λ m. flat_map texts (range_with_len 1 m)) (sym count))
