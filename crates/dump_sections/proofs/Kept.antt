-- Headers that are kept with their texts in one pool.
use Rattle.std.proofs.Common.{◌≡◌, ℕ, zero, suc, ◌-◌, ◌<◌, ◌≤◌, List, [], ◌∷◌, ◌++◌, length, take, get_or, slice_get, Some, refl, sym, ◌∙◌, ap, arith, length-append}
use Rattle.std.specs.List.{between}
use Rattle.std.proofs.lemmas.List.{drop_at, take_all, map-append}
use Rattle.std.proofs.lemmas.Option.{slice_get-map, slice_get-get_or}
use Rattle.dump_io.specs.Lines.{Header}
use Rattle.dump_io.specs.Laws.Lists.{between-grown}
use Rattle.dump_sections.specs.declared.headers.Head.{Head}
use Rattle.dump_sections.specs.Inner.Headers.{header_in, headers_in, AreWithin}

pub headers_in-grown : (pool text : List ℕ) (heads : List Head) → AreWithin (length pool) heads → headers_in (pool ++ text) heads ≡ headers_in pool heads
headers_in-grown pool text [] within = refl
headers_in-grown pool text (head ∷ heads) within = grind (arith, headers_in-grown pool text heads within.2, between-grown)

pub AreWithin-more : (m n : ℕ) (heads : List Head) → m ≤ n → AreWithin m heads → AreWithin n heads
AreWithin-more m n [] more within = tt
AreWithin-more m n (head ∷ heads) more within = (within.0, omega (arith, within.1), AreWithin-more m n heads more within.2)

pub AreWithin-push : (n : ℕ) (heads : List Head) (head : Head) → AreWithin n heads → head.from ≤ head.upto → head.upto ≤ n → AreWithin n (heads ++ head ∷ [])
AreWithin-push n [] head within ordered inside = (ordered, inside, tt)
AreWithin-push n (first ∷ heads) head within ordered inside = (within.0, within.1, AreWithin-push n heads head within.2 ordered inside)

pub AreWithin-at : (n : ℕ) (heads : List Head) (i : ℕ) (d : Head) → AreWithin n heads → i < length heads → ((get_or heads i d).from ≤ (get_or heads i d).upto) × ((get_or heads i d).upto ≤ n)
AreWithin-at n [] i d within inside = absurd (omega arith)
AreWithin-at n (head ∷ heads) zero d within inside = (within.0, within.1)
AreWithin-at n (head ∷ heads) (suc i) d within inside = AreWithin-at n heads i d within.2 (omega arith)

-- the text that was put behind the pool
between-behind : (pool text : List ℕ) (upto : ℕ) → upto ≡ length (pool ++ text) → between (length pool) upto (pool ++ text) ≡ text
between-behind pool text upto e =
    ap (take (upto - length pool)) (drop_at pool text (length pool) refl) ∙ take_all (upto - length pool) text (omega (arith, length-append pool text))

pub headers_in-push : (pool text : List ℕ) (heads : List Head) (at body from upto : ℕ) → AreWithin (length pool) heads → from ≡ length pool → upto ≡ length (pool ++ text)
    → (let head : Head = record { at = at; body = body; from = from; upto = upto } in let header : Header = record { at = at; body = body; text = text } in
    headers_in (pool ++ text) (heads ++ head ∷ []) ≡ headers_in pool heads ++ header ∷ [])
headers_in-push pool text heads at body from upto within begin_is end_is = grind (arith, between-behind, map-append, headers_in-grown)

-- the header at a place
pub headers_in-at : (pool : List ℕ) (heads : List Head) (i : ℕ) (head : Head) → i < length heads → head ≡ get_or heads i head
    → slice_get (headers_in pool heads) i ≡ Some (header_in pool head)
headers_in-at pool heads i head inside is =
    slice_get-map (header_in pool) heads i ∙ ap (Rattle.std.specs.Prelude.option_map (header_in pool)) (slice_get-get_or heads i head inside ∙ ap Some (sym is))
