-- What a piece adds to the stream before it.
use Rattle.std.proofs.Common.{◌≡◌, ℕ, suc, ◌+◌, ◌-◌, ◌<◌, ◌≤◌, Bool, true, false, List, [], ◌∷◌, ◌++◌, length, sym, ◌∙◌, ap, subst, length-append, arith, if◌then◌else◌, nat_lt}
use Rattle.std.specs.Prelude.{All}
use Rattle.std.proofs.lemmas.Bool.{lt-ltb, le-ltb}
use Rattle.std.proofs.lemmas.List.{length_push}
use Rattle.std.proofs.lemmas.List.Elements.{All-nil, All-append, All-weaker, filter-append}
use Rattle.dump_io.specs.Lines.{Header}
use Rattle.line_source.specs.Streams.{LastLine, ended, plain, header, last_line, ended_headers, new_headers, too_long}
use Rattle.line_source.proofs.Walk.{step, heard_at, long_at, last_by, heard_by, long_by, last_by-append, heard_by-append, long_by-append, last_line-walk, ended_headers-walk, too_long-walk}
use Rattle.dump_io.specs.Laws.Lists.{filter-all, filter-none}

pub last_line-append : (s p : List ℕ) → last_line (s ++ p) ≡ last_by (last_line s) p
last_line-append s p = grind (arith, last_line-walk, last_by-append)

pub ended_headers-append : (s p : List ℕ) → ended_headers (s ++ p) ≡ ended_headers s ++ heard_by (length s) (last_line s) p
ended_headers-append s p = grind (arith, ended_headers-walk, heard_by-append, last_line-walk)

pub too_long-append : (limit : ℕ) (s p : List ℕ) → too_long limit (s ++ p) ≡ too_long limit s ++ long_by limit (length s) (last_line s) p
too_long-append limit s p = grind (arith, too_long-walk, long_by-append, last_line-walk)

-- how many bytes of a header line have come
abbrev pub held : LastLine → ℕ
held ended = 0
held plain = 0
held (header t) = length t

held-push : (q : Bool) (t : List ℕ) (b : ℕ) → held (if q then ended else header (t ++ b ∷ [])) ≤ length t + 1
held-push q t b = grind (arith, length_push)

pub held-step : (l : LastLine) (b : ℕ) → held (step l b) ≤ held l + 1
held-step l b = grind (arith, held-push)

pub held-by : (l : LastLine) (p : List ℕ) → held (last_by l p) ≤ held l + length p
held-by l [] = omega arith
held-by l (b ∷ bs) = omega (arith, held-step l b, held-by (step l b) bs)

pub held-line : (s : List ℕ) → held (last_line s) ≤ length s
held-line s = grind (arith, last_line-walk, held-by)

-- a header that is heard between two offsets: its line begins at `from` or later, its LF stands at `low`
-- or later, and ends by `high`
pub record Lies (from low high : ℕ) (h : Header) : Type 0 where
  pub begins : from ≤ h.at
  pub some : h.at < h.body
  pub above : low < h.body
  pub upto : h.body ≤ high

Lies-wider : (from low high from' low' high' : ℕ) → from' ≤ from → low' ≤ low → high ≤ high' → (h : Header) → Lies from low high h → Lies from' low' high' h
Lies-wider from low high from' low' high' p q r h lies = grind arith

heard_at-lies : (n : ℕ) (l : LastLine) (b : ℕ) → held l ≤ n → All (Lies (n - held l) n (n + 1 - held (step l b))) (heard_at n l b)
heard_at-lies n l b fits = grind arith

pub heard_by-lies : (n : ℕ) (l : LastLine) (p : List ℕ) → held l ≤ n → All (Lies (n - held l) n (n + length p - held (last_by l p))) (heard_by n l p)
heard_by-lies n l [] fits = All-nil (Lies (n - held l) n (n + 0 - held l))
heard_by-lies n l (b ∷ bs) fits =
    let after = step l b in
    let more : held after ≤ held l + 1 = held-step l b in
    let last : held (last_by after bs) ≤ held after + length bs = held-by after bs in
    let high = n + suc (length bs) - held (last_by after bs) in
    All-append (Lies (n - held l) n high) (heard_at n l b) (heard_by (n + 1) after bs)
    (All-weaker (Lies (n - held l) n (n + 1 - held after)) (Lies (n - held l) n high)
    (Lies-wider (n - held l) n (n + 1 - held after) (n - held l) n high (omega arith) (omega arith) (omega (arith, more, last, fits)))
    (heard_at n l b) (heard_at-lies n l b fits))
    (All-weaker (Lies (n + 1 - held after) (n + 1) (n + 1 + length bs - held (last_by after bs))) (Lies (n - held l) n high)
    (Lies-wider (n + 1 - held after) (n + 1) (n + 1 + length bs - held (last_by after bs)) (n - held l) n high
    (omega (arith, more, fits)) (omega arith) (omega arith))
    (heard_by (n + 1) after bs) (heard_by-lies (n + 1) after bs (omega (arith, more, fits))))

long_at-from : (limit n : ℕ) (l : LastLine) → All (λ at. n - held l ≤ at) (long_at limit n l)
long_at-from limit n l = grind arith

pub long_by-from : (limit n : ℕ) (l : LastLine) (p : List ℕ) → held l ≤ n → All (λ at. n - held l ≤ at) (long_by limit n l p)
long_by-from limit n l [] fits = All-nil (λ at. n - held l ≤ at)
long_by-from limit n l (b ∷ bs) fits =
    let after = step l b in
    let more : held after ≤ held l + 1 = held-step l b in
    let wider : (at : ℕ) → n + 1 - held after ≤ at → n - held l ≤ at = λ at le. omega (arith, le, more, fits) in
    All-append (λ at. n - held l ≤ at) (long_at limit (n + 1) after) (long_by limit (n + 1) after bs)
    (All-weaker (λ at. n + 1 - held after ≤ at) (λ at. n - held l ≤ at) wider (long_at limit (n + 1) after) (long_at-from limit (n + 1) after))
    (All-weaker (λ at. n + 1 - held after ≤ at) (λ at. n - held l ≤ at) wider (long_by limit (n + 1) after bs)
    (long_by-from limit (n + 1) after bs (omega (arith, more, fits))))

-- a line that is too long is the last line, or begins before it
long_at-upto : (limit n m : ℕ) (l : LastLine) → n - held l ≤ m → All (λ at. at ≤ m) (long_at limit n l)
long_at-upto limit n m l fits = grind arith

pub long_by-upto : (limit n : ℕ) (l : LastLine) (p : List ℕ) → All (λ at. at ≤ n + length p - held (last_by l p)) (long_by limit n l p)
long_by-upto limit n l [] = All-nil (λ at. at ≤ n + 0 - held l)
long_by-upto limit n l (b ∷ bs) =
    let after = step l b in
    let last : held (last_by after bs) ≤ held after + length bs = held-by after bs in
    let high = n + suc (length bs) - held (last_by after bs) in
    All-append (λ at. at ≤ high) (long_at limit (n + 1) after) (long_by limit (n + 1) after bs)
    (long_at-upto limit (n + 1) high after (omega (arith, last)))
    (All-weaker (λ at. at ≤ n + 1 + length bs - held (last_by after bs)) (λ at. at ≤ high) (λ at le. omega (arith, le))
    (long_by limit (n + 1) after bs) (long_by-upto limit (n + 1) after bs))

pub new_headers-walk : (s p : List ℕ) → new_headers s p ≡ heard_by (length s) (last_line s) p
new_headers-walk s p =
    let n = length s in
    let old = ended_headers s in
    let new = heard_by n (last_line s) p in
    let test : Header → Bool = λ h. nat_lt n h.body in
    let old_lies : All (Lies 0 0 (0 + n - held (last_by ended s))) old =
    subst (λ hs. All (Lies 0 0 (0 + n - held (last_by ended s))) hs) (sym (ended_headers-walk s)) (heard_by-lies 0 ended s (omega arith)) in
    let old_fails : All (λ h. test h ≡ false) old =
    All-weaker (Lies 0 0 (0 + n - held (last_by ended s))) (λ h. test h ≡ false) (λ h lies. le-ltb n h.body (omega (arith, lies.upto))) old old_lies in
    let new_passes : All (λ h. test h ≡ true) new =
    All-weaker (Lies (n - held (last_line s)) n (n + length p - held (last_by (last_line s) p))) (λ h. test h ≡ true)
    (λ h lies. lt-ltb n h.body lies.above) new (heard_by-lies n (last_line s) p (held-line s)) in
    cc (ended_headers-append s p, filter-append test old new, filter-none test old old_fails, filter-all test new new_passes)

pub ended_headers-grow : (s p : List ℕ) → ended_headers (s ++ p) ≡ ended_headers s ++ new_headers s p
ended_headers-grow s p = ended_headers-append s p ∙ ap (λ hs. ended_headers s ++ hs) (sym (new_headers-walk s p))

pub new_headers-append : (s a b : List ℕ) → new_headers s (a ++ b) ≡ new_headers s a ++ new_headers (s ++ a) b
new_headers-append s a b =
    cc (new_headers-walk s (a ++ b), heard_by-append (length s) (last_line s) a b, new_headers-walk s a, last_line-append s a, length-append s a, new_headers-walk (s ++ a) b)
