-- What more bytes bring to a stream begins behind what the stream has.
use Rattle.std.proofs.Common.{◌≡◌, ℕ, ◌+◌, ◌-◌, ◌<◌, ◌≤◌, List, [], ◌∷◌, ◌++◌, length, Some, sym, ◌∙◌, ap, subst, length-append, arith}
use Rattle.std.specs.Prelude.{All, slice_get}
use Rattle.std.proofs.lemmas.List.Elements.{All-head, All-append, All-weaker}
use Rattle.dump_io.specs.Lines.{Header}
use Rattle.line_source.specs.Streams.{LastLine, ended, last_line, ended_headers, open_headers, new_headers}
use Rattle.line_source.specs.Feeding.{first_too_long}
use Rattle.line_source.specs.Growth.{TooLongGrows}
use Rattle.line_source.proofs.Walk.{last_by, heard_by, long_by, open_by, open_headers-walk, last_line-walk, ended_headers-walk, too_long-walk}
use Rattle.line_source.proofs.Pieces.{last_line-append, too_long-append, held, held-by, held-line, Lies, heard_by-lies, long_by-from, new_headers-walk, long_by-upto}

pub TooLongGrows-all : (limit : ℕ) (s more : List ℕ) → TooLongGrows limit s more
TooLongGrows-all limit s more =
    let later = long_by limit (length s) (last_line s) more in
    let from : All (λ at. length s - held (last_line s) ≤ at) later = long_by-from limit (length s) (last_line s) more (held-line s) in
    let same : held (last_line s) ≡ held (last_by ended s) = ap held (last_line-walk s) in
    let lies : All (Lies 0 0 (0 + length s - held (last_by ended s))) (ended_headers s) =
    subst (λ hs. All (Lies 0 0 (0 + length s - held (last_by ended s))) hs) (sym (ended_headers-walk s)) (heard_by-lies 0 ended s (omega arith)) in
    record {
      later = later;
      all = too_long-append limit s more;
      behind =
          All-weaker (Lies 0 0 (0 + length s - held (last_by ended s))) (λ h. All (λ at. h.at < at) later)
          (λ h lie. All-weaker (λ at. length s - held (last_line s) ≤ at) (λ at. h.at < at)
          (λ at le. omega (arith, lie.some, lie.upto, same, le)) later from)
          (ended_headers s) lies;
    }

first-upto : (m at : ℕ) (ats : List ℕ) → All (λ at. at ≤ m) ats → slice_get ats 0 ≡ Some at → at ≤ m
first-upto m at [] all is = cc
first-upto m at (a ∷ ats) all is = grind (arith, All-head)

first-before-start : (limit at : ℕ) (s : List ℕ) → first_too_long limit s ≡ Some at → at ≤ length s - held (last_line s)
first-before-start limit at s first =
    let same : held (last_line s) ≡ held (last_by ended s) = ap held (last_line-walk s) in
    let upto : at ≤ 0 + length s - held (last_by ended s) =
    first-upto (0 + length s - held (last_by ended s)) at (long_by limit 0 ended s) (long_by-upto limit 0 ended s)
    (ap (λ ats. slice_get ats 0) (sym (too_long-walk limit s)) ∙ first) in
    omega (arith, upto, same)

open_by-from : (n m : ℕ) (l : LastLine) → m ≤ n - held l → All (λ h. m ≤ h.at) (open_by n l)
open_by-from n m l le = grind arith

-- the headers that more bytes bring begin behind the first line that is too long
pub later-after : (limit at : ℕ) (s more : List ℕ) → first_too_long limit s ≡ Some at → All (λ h. at ≤ h.at) (new_headers s more ++ open_headers (s ++ more))
later-after limit at s more first =
    let upto : at ≤ length s - held (last_line s) = first-before-start limit at s first in
    let all : List ℕ = s ++ more in
    let same : held (last_line all) ≡ held (last_by (last_line s) more) = ap held (last_line-append s more) in
    let grows : held (last_by (last_line s) more) ≤ held (last_line s) + length more = held-by (last_line s) more in
    let size : length all ≡ length s + length more = length-append s more in
    let new : All (λ h. at ≤ h.at) (new_headers s more) =
    subst (λ hs. All (λ (h : Header). at ≤ h.at) hs) (sym (new_headers-walk s more))
    (All-weaker (Lies (length s - held (last_line s)) (length s) (length s + length more - held (last_by (last_line s) more))) (λ h. at ≤ h.at)
    (λ h lies. omega (arith, upto, lies.begins)) (heard_by (length s) (last_line s) more) (heard_by-lies (length s) (last_line s) more (held-line s))) in
    let open' : All (λ h. at ≤ h.at) (open_headers all) =
    subst (λ hs. All (λ (h : Header). at ≤ h.at) hs) (sym (open_headers-walk all))
    (open_by-from (length all) at (last_line all) (omega (arith, upto, same, grows, size, held-line s))) in
    All-append (λ h. at ≤ h.at) (new_headers s more) (open_headers all) new open'
