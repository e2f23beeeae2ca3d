-- A piece taken in two parts.
use Rattle.std.proofs.Common.{◌≡◌, ℕ, ◌+◌, ◌-◌, ◌≤◌, true, List, [], ◌∷◌, ◌++◌, length, take, drop, Option, None, Some, sym, ◌∙◌, ap, append_assoc, length-append, arith, nat_lt}
use Rattle.std.specs.Prelude.{All, slice_get}
use Rattle.std.proofs.lemmas.Bool.{lt-ltb}
use Rattle.std.proofs.lemmas.List.{take_rest, take-append-drop, take-take, drop-take}
use Rattle.std.proofs.lemmas.List.Elements.{All-weaker, All-head, filter-append}
use Rattle.dump_io.specs.Lines.{Header}
use Rattle.line_source.specs.Streams.{last_line, new_headers, headers_before, too_long}
use Rattle.line_source.specs.declared.header_sink.RefusedHeader.{RefusedHeader}
use Rattle.line_source.specs.declared.scan_fault.ScanFault.{ScanFault}
use Rattle.line_source.specs.declared.scan_fault.ScanFault.TheVariants.{HeaderTooLong, Stop}
use Rattle.line_source.specs.Feeding.{first_too_long}
use Rattle.line_source.specs.Inner.Ends.{EndsTooLong, EndsRefused, Ends}
use Rattle.line_source.specs.Receiver.{stop_value}
use Rattle.line_source.proofs.Walk.{last_by, heard_by, long_by}
use Rattle.line_source.proofs.Pieces.{Lies, held, held-line, last_line-append, too_long-append, heard_by-lies, long_by-from, new_headers-walk, new_headers-append}
use Rattle.dump_io.specs.Laws.Lists.{filter-all}

-- two parts of the bytes, and the rest
pub two_parts : (bytes : List ℕ) (d n : ℕ) → take d bytes ++ take n (take (length bytes - d) (drop d bytes)) ≡ take (d + n) bytes
two_parts bytes d n =
    cc (take_rest bytes d, drop-take d n bytes, take-take d (d + n) bytes (omega arith), take-append-drop d (take (d + n) bytes))

pub both_parts : (bytes : List ℕ) (d : ℕ) → take d bytes ++ take (length bytes - d) (drop d bytes) ≡ bytes
both_parts bytes d = ap (λ r. take d bytes ++ r) (take_rest bytes d) ∙ take-append-drop d bytes

first-from : (n at : ℕ) (ats : List ℕ) → All (λ at. n ≤ at) ats → slice_get ats 0 ≡ Some at → n ≤ at
first-from n at [] all is = cc
first-from n at (a ∷ ats) all is = grind (arith, All-head)

-- the first line that is too long is the last line of what was right before, or begins later
pub long-from : (limit : ℕ) (s p : List ℕ) (at : ℕ) → too_long limit s ≡ [] → first_too_long limit (s ++ p) ≡ Some at
    → length s - held (last_line s) ≤ at
long-from limit s p at short first =
    let longs : too_long limit (s ++ p) ≡ long_by limit (length s) (last_line s) p =
    too_long-append limit s p ∙ ap (λ ls. ls ++ long_by limit (length s) (last_line s) p) short in
    first-from (length s - held (last_line s)) at (long_by limit (length s) (last_line s) p)
    (long_by-from limit (length s) (last_line s) p (held-line s)) (sym (ap (λ ls. slice_get ls 0) longs) ∙ first)

-- it begins behind each header that was heard before
before-all : (limit : ℕ) (s a b : List ℕ) (at : ℕ) → too_long limit (s ++ a) ≡ [] → first_too_long limit ((s ++ a) ++ b) ≡ Some at
    → headers_before at (new_headers s a) ≡ new_headers s a
before-all limit s a b at short first =
    let line = last_line s in
    let hs = heard_by (length s) line a in
    let high = length s + length a - held (last_by line a) in
    let sum : length (s ++ a) ≡ length s + length a = length-append s a in
    let same : held (last_line (s ++ a)) ≡ held (last_by line a) = ap held (last_line-append s a) in
    let from : length (s ++ a) - held (last_line (s ++ a)) ≤ at = long-from limit (s ++ a) b at short first in
    cc (new_headers-walk s a, filter-all (λ h. nat_lt h.at at) hs (All-weaker (Lies (length s - held line) (length s) high) (λ h. nat_lt h.at at ≡ true) (λ h lies. lt-ltb h.at at (omega (arith, lies.some, lies.upto, from, sum, same))) hs (heard_by-lies (length s) line a (held-line s))))

EndsTooLong-later : (limit : ℕ) (s a b : List ℕ) (before middle after : List Header) (at : ℕ) → too_long limit (s ++ a) ≡ []
    → middle ≡ before ++ new_headers s a → EndsTooLong limit (s ++ a) b middle after at → EndsTooLong limit s (a ++ b) before after at
EndsTooLong-later limit s a b before middle after at short heard ends = record {
  first = ap (first_too_long limit) (sym (append_assoc s a b)) ∙ ends.first;
  heard =
      cc (ends.heard, append_assoc before (new_headers s a) (headers_before at (new_headers (s ++ a) b)), before-all limit s a b at short ends.first, filter-append (λ h. nat_lt h.at at) (new_headers s a) (new_headers (s ++ a) b), new_headers-append s a b);
}

pub EndsRefused-later : (limit : ℕ) (s a b : List ℕ) (before middle after : List Header) (stop : Option RefusedHeader)
    → middle ≡ before ++ new_headers s a → EndsRefused limit (s ++ a) b middle after stop → EndsRefused limit s (a ++ b) before after stop
EndsRefused-later limit s a b before middle after stop heard ends = grind (arith, new_headers-append, append_assoc)

pub Ends-later : (limit : ℕ) (s a b : List ℕ) (before middle after : List Header) (stop : Option RefusedHeader) (fault : ScanFault) → too_long limit (s ++ a) ≡ []
    → middle ≡ before ++ new_headers s a → Ends limit (s ++ a) b middle after stop fault → Ends limit s (a ++ b) before after stop fault
Ends-later limit s a b before middle after stop (HeaderTooLong at) short heard ends = EndsTooLong-later limit s a b before middle after at short heard ends
Ends-later limit s a b before middle after stop (Stop value) short heard ends = EndsRefused-later limit s a b before middle after stop heard ends

pub new_headers-none : (s : List ℕ) → new_headers s [] ≡ []
new_headers-none s = new_headers-walk s []

pub refused-none : (stop : Option RefusedHeader) → stop_value stop ≡ None → stop ≡ None
refused-none stop is = grind arith
