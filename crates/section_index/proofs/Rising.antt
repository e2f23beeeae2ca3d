-- The headers of a dump begin one behind another.
use Rattle.std.proofs.Common.{◌≡◌, ℕ, ◌+◌, ◌<◌, ◌≤◌, Bool, not, cond, List, [], ◌∷◌, ◌++◌, length, map, refl, arith, nat_lt}
use Rattle.std.specs.Prelude.{All, filter}
use Rattle.std.proofs.lemmas.Bool.{le-ltb, ltb-false, not-true}
use Rattle.std.proofs.lemmas.List.Elements.{All-nil, All-cons, All-head, All-tail, All-weaker, filter_passes}
use Rattle.dump_io.specs.Lines.{raw_lines, Line, lines_from, is_header, Header, header_of, headers}
use Rattle.dump_io.specs.Laws.Lines.{AreLines-raw}
use Rattle.line_source.specs.Streams.{headers_before}
use Rattle.dump_io.specs.Laws.Lists.{filter-all, filter-none}

abbrev pub AreRising : List Header → Type 0
AreRising [] = Unit {0}
AreRising (h ∷ hs) = All (λ x. h.at < x.at) hs × AreRising hs

abbrev headers_of : ℕ → List (List ℕ) → List Header
headers_of n raws = map header_of (filter (λ line. is_header line.raw) (lines_from n raws))

from-if : (q : Bool) (n : ℕ) (raw : List ℕ) (ls : List Line) → All (λ h. n ≤ h.at) (map header_of ls)
    → All (λ h. n ≤ h.at) (map header_of (cond q (record { at = n; raw = raw } ∷ ls) ls))
from-if q n raw ls all = grind arith

headers_of-from : (n : ℕ) (raws : List (List ℕ)) → All (λ h. n ≤ h.at) (headers_of n raws)
headers_of-from n [] = All-nil (λ h. n ≤ h.at)
headers_of-from n (raw ∷ raws) = grind (arith, headers_of-from (n + length raw) raws)

rising-if : (q : Bool) (n : ℕ) (raw : List ℕ) (ls : List Line) → All (λ h. n < h.at) (map header_of ls) → AreRising (map header_of ls)
    → AreRising (map header_of (cond q (record { at = n; raw = raw } ∷ ls) ls))
rising-if q n raw ls all rising = grind arith

headers_of-rising : (n : ℕ) (raws : List (List ℕ)) → All (λ raw. 0 < length raw) raws → AreRising (headers_of n raws)
headers_of-rising n [] some = tt
headers_of-rising n (raw ∷ raws) some = grind (
  arith,
  headers_of-rising (n + length raw) raws (All-tail (λ raw. 0 < length raw) raw raws some),
  All-head,
  rising-if,
  All-weaker,
  headers_of-from,
  All-tail,
)

pub headers-rising : (bytes : List ℕ) → AreRising (headers bytes)
headers-rising bytes = headers_of-rising 0 (raw_lines bytes) (AreLines-raw bytes).some

-- parts of a rising list
All-left : {X : Type 0} (P : X → Type 0) (xs ys : List X) → All P (xs ++ ys) → All P xs
All-left P [] ys all = All-nil P
All-left P (x ∷ xs) ys all = All-cons P x xs (All-head P x (xs ++ ys) all) (All-left P xs ys (All-tail P x (xs ++ ys) all))

pub All-right : {X : Type 0} (P : X → Type 0) (xs ys : List X) → All P (xs ++ ys) → All P ys
All-right P [] ys all = all
All-right P (x ∷ xs) ys all = All-right P xs ys (All-tail P x (xs ++ ys) all)

pub rising-left : (xs ys : List Header) → AreRising (xs ++ ys) → AreRising xs
rising-left [] ys rising = tt
rising-left (x ∷ xs) ys rising = (All-left (λ h. x.at < h.at) xs ys rising.0, rising-left xs ys rising.1)

pub rising-right : (xs ys : List Header) → AreRising (xs ++ ys) → AreRising ys
rising-right [] ys rising = rising
rising-right (x ∷ xs) ys rising = rising-right xs ys rising.1

pub rising-apart : (xs ys : List Header) → AreRising (xs ++ ys) → All (λ h. All (λ x. h.at < x.at) ys) xs
rising-apart [] ys rising = All-nil (λ h. All (λ x. h.at < x.at) ys)
rising-apart (x ∷ xs) ys rising =
    All-cons (λ h. All (λ x. h.at < x.at) ys) x xs (All-right (λ h. x.at < h.at) xs ys rising.0) (rising-apart xs ys rising.1)

-- a rising list is cut at an offset
abbrev pub headers_from : ℕ → List Header → List Header
headers_from at hs = filter (λ h. not (nat_lt h.at at)) hs

pub headers_from-at : (at : ℕ) (hs : List Header) → All (λ h. at ≤ h.at) (headers_from at hs)
headers_from-at at hs = grind (arith, All-weaker, ltb-false, not-true, filter_passes)

cut-if : (q : Bool) (at : ℕ) (h : Header) (hs : List Header) → nat_lt h.at at ≡ q → AreRising (h ∷ hs) → hs ≡ headers_before at hs ++ headers_from at hs
    → h ∷ hs ≡ cond q (h ∷ headers_before at hs) (headers_before at hs) ++ cond (not q) (h ∷ headers_from at hs) (headers_from at hs)
cut-if q at h hs e rising rest = grind (arith, ltb-false, All-weaker, le-ltb, filter-all, filter-none)

pub cut-at : (at : ℕ) (hs : List Header) → AreRising hs → hs ≡ headers_before at hs ++ headers_from at hs
cut-at at [] rising = refl
cut-at at (h ∷ hs) rising = cut-if (nat_lt h.at at) at h hs refl rising (cut-at at hs rising.1)
