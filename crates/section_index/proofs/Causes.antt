-- The refusal of a header, by the headers that stand before it.
use Rattle.std.proofs.lemmas.Grind.{common_steps}
use Rattle.std.proofs.Common.{◌≡◌, ℕ, zero, suc, ◌+◌, ◌-◌, ◌<◌, ◌≤◌, Bool, true, false, cond, List, [], ◌∷◌, ◌++◌, length, Option, None, Some, refl, sym, ◌∙◌, ap, subst, arith, nat_lt, nat_le, append_assoc, append-nil}
use Rattle.std.specs.Prelude.{All, filter, slice_get}
use Rattle.std.specs.Option.{option_map}
use Rattle.std.proofs.lemmas.Bool.{cond-true, cond-false, lt-ltb, le-ltb, le-leb, lt-leb}
use Rattle.std.proofs.lemmas.List.Elements.{All-cons, All-filter, All-head, All-tail, All-weaker, filter-append}
use Rattle.std.proofs.lemmas.List.Sums.{sum_by_push, sum_by-cons}
use Rattle.dump_io.specs.Limits.{Numbers}
use Rattle.dump_io.specs.Lines.{Header, headers}
use Rattle.line_source.specs.Streams.{too_long}
use Rattle.line_source.specs.Feeding.{first_too_long}
use Rattle.section_index.specs.declared.opening.OpenFault.{OpenFault}
use Rattle.section_index.specs.declared.opening.OpenFault.TheVariants.{HeaderTooLong, TooManySections, HeadersTooLarge}
use Rattle.section_index.specs.Opening.{long_header, surplus_header, text_bytes, headers_upto, headers_over, large_headers, fault_place, earlier, header_fault}
use Rattle.section_index.proofs.Rising.{AreRising, rising-right, rising-apart, headers-rising}
use Rattle.dump_io.specs.Laws.Lists.{filter-all, filter-none}

-- a refusal, if any, names a header at this offset or behind it
abbrev pub IsFrom : ℕ → Option OpenFault → Type 0
IsFrom at None = Unit {0}
IsFrom at (Some fault) = at ≤ fault_place fault

earlier-first : (first : OpenFault) (second : Option OpenFault) → IsFrom (fault_place first) second → earlier (Some first) second ≡ Some first
earlier-first first second from = grind (arith, cond-false, le-ltb)

earlier-second : (first : Option OpenFault) (second : OpenFault) → IsFrom (fault_place second + 1) first → earlier first (Some second) ≡ Some second
earlier-second first second from = grind arith

from-if : (q : Bool) (at : ℕ) (first second : OpenFault) → at ≤ fault_place first → at ≤ fault_place second → IsFrom at (cond q (Some second) (Some first))
from-if q at first second a b = grind arith

earlier-from : (at : ℕ) (first second : Option OpenFault) → IsFrom at first → IsFrom at second → IsFrom at (earlier first second)
earlier-from at first second a b = grind arith

-- the refusals of one kind, by the place of a header
pub element-from : {X : Type 0} (place : X → ℕ) (fault : X → OpenFault) → ((x : X) → fault_place (fault x) ≡ place x) → (at n : ℕ) (xs : List X)
    → All (λ x. at ≤ place x) xs → IsFrom at (option_map fault (slice_get xs n))
element-from place fault same at n [] all = tt
element-from place fault same at zero (x ∷ xs) all = grind (arith, All-head)
element-from place fault same at (suc n) (x ∷ xs) all = element-from place fault same at n xs (All-tail (λ x. at ≤ place x) x xs all)

-- what stands behind a front
slice_get-behind : {X : Type 0} (front rest : List X) (n : ℕ) → length front ≤ n → slice_get (front ++ rest) n ≡ slice_get rest (n - length front)
slice_get-behind [] rest n le = ap (slice_get rest) (let e : n ≡ n - 0 = omega arith in e)
slice_get-behind (x ∷ front) rest zero le = absurd (omega arith)
slice_get-behind (x ∷ front) rest (suc n) le = grind (arith, slice_get-behind front rest n (omega (arith, le)))

surplus-from : (at : ℕ) (limits : Numbers) (front rest : List Header) → length front ≤ limits.sections → All (λ h. at ≤ h.at) rest → IsFrom at (surplus_header (front ++ rest) limits)
surplus-from at limits front rest few all =
    subst (λ o. IsFrom at (option_map (λ (h : Header). TooManySections h.at) o)) (sym (slice_get-behind front rest limits.sections few))
    (element-from (λ (h : Header). h.at) (λ h. TooManySections h.at) (λ h. refl) at (limits.sections - length front) rest all)

surplus-here : (limits : Numbers) (front more : List Header) (next : Header) → length front ≡ limits.sections → surplus_header (front ++ next ∷ more) limits ≡ Some (TooManySections next.at)
surplus-here limits front more next full = grind (arith, slice_get-behind)

bytes-if : (q : Bool) (h : Header) (some all : List Header) → text_bytes some ≤ text_bytes all → text_bytes (cond q (h ∷ some) some) ≤ text_bytes (h ∷ all)
bytes-if q h some all le = grind (arith, common_steps, sum_by-cons)

-- some of the headers have no more bytes than all
bytes-some : (p : Header → Bool) (hs : List Header) → text_bytes (filter p hs) ≤ text_bytes hs
bytes-some p [] = omega arith
bytes-some p (h ∷ hs) = bytes-if (p h) h (filter p hs) hs (bytes-some p hs)

upto-none : (at : ℕ) (hs : List Header) → All (λ h. at < h.at) hs → headers_upto at hs ≡ []
upto-none at hs all = grind (arith, filter-none, All-weaker, lt-leb)

upto-all : (at : ℕ) (hs : List Header) → All (λ h. h.at ≤ at) hs → headers_upto at hs ≡ hs
upto-all at hs all = grind (arith, filter-all, All-weaker, le-leb)

-- a front whose texts have room has no header that is over
front-fits : (pool : ℕ) (front rest : List Header) → AreRising (front ++ rest) → text_bytes front ≤ pool
    → All (λ h. nat_lt pool (text_bytes (headers_upto h.at (front ++ rest))) ≡ false) front
front-fits pool front rest rising room = grind (arith, All-weaker, filter-append, upto-none, append-nil, le-ltb, bytes-some, rising-apart)

over-behind : (pool : ℕ) (front rest : List Header) → AreRising (front ++ rest) → text_bytes front ≤ pool
    → headers_over pool (front ++ rest) ≡ filter (λ h. nat_lt pool (text_bytes (headers_upto h.at (front ++ rest)))) rest
over-behind pool front rest rising room = grind (arith, filter-append, filter-none, front-fits)

large-from : (at : ℕ) (limits : Numbers) (front rest : List Header) → AreRising (front ++ rest) → text_bytes front ≤ limits.pool → All (λ h. at ≤ h.at) rest
    → IsFrom at (large_headers (front ++ rest) limits)
large-from at limits front rest rising room all =
    let test : Header → Bool = λ h. nat_lt limits.pool (text_bytes (headers_upto h.at (front ++ rest))) in
    subst (λ hs. IsFrom at (option_map (λ (h : Header). HeadersTooLarge h.at) (slice_get hs 0))) (sym (over-behind limits.pool front rest rising room))
    (element-from (λ (h : Header). h.at) (λ h. HeadersTooLarge h.at) (λ h. refl) at 0 (filter test rest) (All-filter test (λ h. at ≤ h.at) rest all))

large-here : (limits : Numbers) (front more : List Header) (next : Header) → AreRising (front ++ next ∷ more) → text_bytes front ≤ limits.pool
    → limits.pool < text_bytes front + length next.text → large_headers (front ++ next ∷ more) limits ≡ Some (HeadersTooLarge next.at)
large-here limits front more next rising room over =
    let hs = front ++ next ∷ more in
    let size : Header → ℕ = λ h. length h.text in
    let test : Header → Bool = λ h. nat_lt limits.pool (text_bytes (headers_upto h.at hs)) in
    let before : All (λ (h : Header). h.at ≤ next.at) front =
    All-weaker (λ (h : Header). All (λ (x : Header). h.at < x.at) (next ∷ more)) (λ h. h.at ≤ next.at)
    (λ h all. let lt : h.at < next.at = All-head (λ (x : Header). h.at < x.at) next more all in omega (arith, lt)) front (rising-apart front (next ∷ more) rising) in
    let behind : All (λ (x : Header). next.at < x.at) more = (rising-right front (next ∷ more) rising).0 in
    let rest : headers_upto next.at (next ∷ more) ≡ next ∷ [] =
    cond-true (nat_le next.at next.at) _ _ (le-leb next.at next.at (omega arith)) ∙ ap (λ r. next ∷ r) (upto-none next.at more behind) in
    let upto : headers_upto next.at hs ≡ front ++ next ∷ [] =
    cc (filter-append (λ (x : Header). nat_le x.at next.at) front (next ∷ more), upto-all next.at front before) in
    let bytes : text_bytes (front ++ next ∷ []) ≡ text_bytes front + length next.text = sum_by_push size front next in
    let passes : test next ≡ true =
    ap (λ r. nat_lt limits.pool (text_bytes r)) upto ∙ lt-ltb limits.pool (text_bytes (front ++ next ∷ [])) (omega (arith, over, bytes)) in
    ap (λ r. option_map (λ (h : Header). HeadersTooLarge h.at) (slice_get r 0))
    (over-behind limits.pool front (next ∷ more) rising room ∙ cond-true (test next) _ _ passes)

large-none : (limits : Numbers) (hs : List Header) → text_bytes hs ≤ limits.pool → large_headers hs limits ≡ None
large-none limits hs room = grind (arith, le-ltb, bytes-some, filter-none)

surplus-none : (limits : Numbers) (hs : List Header) → length hs ≤ limits.sections → surplus_header hs limits ≡ None
surplus-none limits hs few = ap (option_map (λ (h : Header). TooManySections h.at)) (Rattle.std.proofs.lemmas.Option.slice_get_past hs limits.sections few)

-- the refusals of the whole
pub fault-long : (bytes : List ℕ) (limits : Numbers) (at : ℕ) (front rest : List Header) → headers bytes ≡ front ++ rest → length front ≤ limits.sections
    → text_bytes front ≤ limits.pool → All (λ h. at ≤ h.at) rest → first_too_long limits.header bytes ≡ Some at → header_fault bytes limits ≡ Some (HeaderTooLong at)
fault-long bytes limits at front rest all few room behind first =
    let rising : AreRising (front ++ rest) = subst AreRising all (headers-rising bytes) in
    cc (earlier-first (HeaderTooLong at) (earlier (surplus_header (front ++ rest) limits) (large_headers (front ++ rest) limits)) (earlier-from at (surplus_header (front ++ rest) limits) (large_headers (front ++ rest) limits) (surplus-from at limits front rest few behind) (large-from at limits front rest rising room behind)))

long-from : (bytes : List ℕ) (limits : Numbers) (at : ℕ) → All (λ long. at < long) (too_long limits.header bytes) → IsFrom (at + 1) (long_header bytes limits)
long-from bytes limits at all =
    element-from (λ (k : ℕ). k) (λ k. HeaderTooLong k) (λ k. refl) (at + 1) 0 (too_long limits.header bytes)
    (All-weaker (λ long. at < long) (λ long. at + 1 ≤ long) (λ long lt. omega (arith, lt)) (too_long limits.header bytes) all)

-- the next header and those behind it
next-from : (front more : List Header) (next : Header) → AreRising (front ++ next ∷ more) → All (λ h. next.at ≤ h.at) (next ∷ more)
next-from front more next rising = grind (arith, All-cons, All-weaker, rising-right)

pub fault-surplus : (bytes : List ℕ) (limits : Numbers) (front more : List Header) (next : Header) → headers bytes ≡ front ++ next ∷ more → length front ≡ limits.sections
    → text_bytes front ≤ limits.pool → All (λ long. next.at < long) (too_long limits.header bytes) → header_fault bytes limits ≡ Some (TooManySections next.at)
fault-surplus bytes limits front more next all full room long =
    let hs = front ++ next ∷ more in
    let rising : AreRising hs = subst AreRising all (headers-rising bytes) in
    cc (
      surplus-here limits front more next full,
      earlier-first (TooManySections next.at) (large_headers hs limits) (large-from next.at limits front (next ∷ more) rising room (next-from front more next rising)),
      earlier-second (long_header bytes limits) (TooManySections next.at) (long-from bytes limits next.at long),
    )

pub fault-large : (bytes : List ℕ) (limits : Numbers) (front more : List Header) (next : Header) → headers bytes ≡ front ++ next ∷ more → length front < limits.sections
    → text_bytes front ≤ limits.pool → limits.pool < text_bytes front + length next.text → All (λ long. next.at < long) (too_long limits.header bytes)
    → header_fault bytes limits ≡ Some (HeadersTooLarge next.at)
fault-large bytes limits front more next all few room over long =
    let hs = front ++ next ∷ more in
    let rising : AreRising hs = subst AreRising all (headers-rising bytes) in
    let longer = front ++ next ∷ [] in
    let behind : All (λ h. next.at + 1 ≤ h.at) more =
    All-weaker (λ (h : Header). next.at < h.at) (λ h. next.at + 1 ≤ h.at) (λ h lt. omega (arith, lt)) more (rising-right front (next ∷ more) rising).0 in
    let size : length longer ≡ length front + 1 = Rattle.std.proofs.lemmas.List.length_push front next in
    let later : IsFrom (next.at + 1) (surplus_header hs limits) =
    subst (λ r. IsFrom (next.at + 1) (surplus_header r limits)) (append_assoc front (next ∷ []) more)
    (surplus-from (next.at + 1) limits longer more (omega (arith, few, size)) behind) in
    cc (
      large-here limits front more next rising room over,
      earlier-second (surplus_header hs limits) (HeadersTooLarge next.at) later,
      earlier-second (long_header bytes limits) (HeadersTooLarge next.at) (long-from bytes limits next.at long),
    )

pub fault-none : (bytes : List ℕ) (limits : Numbers) → length (headers bytes) ≤ limits.sections → text_bytes (headers bytes) ≤ limits.pool → too_long limits.header bytes ≡ []
    → header_fault bytes limits ≡ None
fault-none bytes limits few room short = grind (arith, surplus-none, large-none)
