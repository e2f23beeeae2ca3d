-- The lines of a stream, byte by byte: what is known of the last line, and what each byte adds.
use Rattle.std.proofs.Common.{◌≡◌, ℕ, suc, ◌+◌, ◌-◌, Bool, true, false, not, ◌&&◌, cond, List, [], ◌∷◌, ◌++◌, length, take, drop, map, refl, sym, ◌∙◌, ap, append_assoc, append-nil, arith, if◌then◌else◌, ◌==◌, nat_eq, nat_lt}
use Rattle.std.specs.Prelude.{filter, fold}
use Rattle.std.specs.List.{ends_with}
use Rattle.std.proofs.lemmas.Bool.{cond-true, cond-false}
use Rattle.std.proofs.lemmas.List.{drop_at, length_push}
use Rattle.dump_io.specs.Lines.{lf, cr, equals_sign, lines_after, raw_lines, Line, lines_from, text_of, is_header, Header, header_of, headers}
use Rattle.line_source.specs.Laws.{text_of-open}
use Rattle.line_source.specs.Streams.{has_lf, begins_with_equals, line_kind, LastLine, ended, plain, header, last_line, ended_headers, open_headers, too_long, is_too_long, length_before_lf}

-- what is known of the last line after one more byte
abbrev pub step : LastLine → ℕ → LastLine
step ended b = if b == lf then ended else (if b == equals_sign then header (b ∷ []) else plain)
step plain b = if b == lf then ended else plain
step (header t) b = if b == lf then ended else header (t ++ b ∷ [])

-- the header that ends with the byte at place n
abbrev pub heard_at : ℕ → LastLine → ℕ → List Header
heard_at n ended b = []
heard_at n plain b = []
heard_at n (header t) b = if b == lf then record { at = n - length t; body = n + 1; text = text_of (t ++ lf ∷ []) } ∷ [] else []

-- the line that becomes too long with the byte before place n
abbrev pub long_at : ℕ → ℕ → LastLine → List ℕ
long_at limit n ended = []
long_at limit n plain = []
long_at limit n (header t) = if length t == limit + 1 then (n - length t) ∷ [] else []

-- the same over a piece
abbrev pub last_by : LastLine → List ℕ → LastLine
last_by l [] = l
last_by l (b ∷ bs) = last_by (step l b) bs

abbrev pub heard_by : ℕ → LastLine → List ℕ → List Header
heard_by n l [] = []
heard_by n l (b ∷ bs) = heard_at n l b ++ heard_by (n + 1) (step l b) bs

abbrev pub long_by : ℕ → ℕ → LastLine → List ℕ → List ℕ
long_by limit n l [] = []
long_by limit n l (b ∷ bs) = long_at limit (n + 1) (step l b) ++ long_by limit (n + 1) (step l b) bs

pub last_by-append : (l : LastLine) (xs ys : List ℕ) → last_by l (xs ++ ys) ≡ last_by (last_by l xs) ys
last_by-append l [] ys = refl
last_by-append l (b ∷ bs) ys = last_by-append (step l b) bs ys

pub heard_by-append : (n : ℕ) (l : LastLine) (xs ys : List ℕ)
    → heard_by n l (xs ++ ys) ≡ heard_by n l xs ++ heard_by (n + length xs) (last_by l xs) ys
heard_by-append n l [] ys = ap (λ k. heard_by k l ys) (omega arith)
heard_by-append n l (b ∷ bs) ys = grind (arith, heard_by-append (n + 1) (step l b) bs ys)

pub long_by-append : (limit n : ℕ) (l : LastLine) (xs ys : List ℕ)
    → long_by limit n l (xs ++ ys) ≡ long_by limit n l xs ++ long_by limit (n + length xs) (last_by l xs) ys
long_by-append limit n l [] ys = ap (λ k. long_by limit k l ys) (omega arith)
long_by-append limit n l (b ∷ bs) ys = grind (arith, long_by-append limit (n + 1) (step l b) bs ys)

-- raw lines behind the bytes of a line that has no LF
abbrev pub lines_behind : List ℕ → List (List ℕ) → List (List ℕ)
lines_behind [] ls = ls
lines_behind (c ∷ t) [] = (c ∷ t) ∷ []
lines_behind (c ∷ t) (l ∷ ls) = ((c ∷ t) ++ l) ∷ ls

-- the bytes of a line that has no LF yet
pub record IsOpen (t : List ℕ) : Type 0 where
  pub before : (s : List ℕ) → raw_lines (t ++ s) ≡ lines_behind t (raw_lines s)
  pub no_lf : has_lf t ≡ false

pub IsOpen-nil : IsOpen []
IsOpen-nil = record { before = λ s. refl; no_lf = refl }

lines_behind-after : (t : List ℕ) (b : ℕ) (ls : List (List ℕ)) → lines_behind t (lines_after b ls) ≡ lines_behind (t ++ b ∷ []) ls
lines_behind-after t b ls = grind (arith, append_assoc)

raw_lines-lf : (b : ℕ) (s : List ℕ) → (b == lf) ≡ true → raw_lines (b ∷ s) ≡ (b ∷ []) ∷ raw_lines s
raw_lines-lf b s e = cond-true (b == lf) _ _ e

-- the last byte tells whether there is an LF
eqb-turned : (b : ℕ) → (nat_eq lf b && true) ≡ (b == lf)
eqb-turned b = grind arith

last_part : (t : List ℕ) (b : ℕ) → drop (length (t ++ b ∷ []) - 1) (t ++ b ∷ []) ≡ b ∷ []
last_part t b = drop_at t (b ∷ []) (length (t ++ b ∷ []) - 1) (omega (arith, length_push t b))

pub has_lf-push : (t : List ℕ) (b : ℕ) → has_lf (t ++ b ∷ []) ≡ (b == lf)
has_lf-push t b = rw (last_part t b) (eqb-turned b)

pub IsOpen-push : (t : List ℕ) (b : ℕ) → IsOpen t → (b == lf) ≡ false → IsOpen (t ++ b ∷ [])
IsOpen-push t b is e = grind (arith, append_assoc, lines_behind-after, has_lf-push)

-- a line that has no LF yet, by its bytes
abbrev pub open_kind : List ℕ → LastLine
open_kind [] = ended
open_kind (c ∷ t) = if c == equals_sign then header (c ∷ t) else plain

pub begins-head : (c : ℕ) (t : List ℕ) → begins_with_equals (c ∷ t) ≡ (c == equals_sign)
begins-head c t = grind arith

pub step-lf : (l : LastLine) (b : ℕ) → (b == lf) ≡ true → step l b ≡ ended
step-lf l b e = grind arith

pub open_kind-push : (t : List ℕ) (b : ℕ) → (b == lf) ≡ false → open_kind (t ++ b ∷ []) ≡ step (open_kind t) b
open_kind-push t b e = grind arith

lines_behind-lf : (t : List ℕ) (b : ℕ) (ls : List (List ℕ)) → lines_behind t ((b ∷ []) ∷ ls) ≡ (t ++ b ∷ []) ∷ ls
lines_behind-lf t b ls = grind arith

pub raw_lines-ends : (t : List ℕ) (b : ℕ) (s : List ℕ) → IsOpen t → (b == lf) ≡ true → raw_lines (t ++ b ∷ s) ≡ (t ++ b ∷ []) ∷ raw_lines s
raw_lines-ends t b s is e = is.before (b ∷ s) ∙ ap (lines_behind t) (raw_lines-lf b s e) ∙ lines_behind-lf t b (raw_lines s)

-- ---- the last line, where it lacks its LF
last-none : (t : List ℕ) → has_lf t ≡ false → fold (λ _ raw. line_kind raw) ended (lines_behind t []) ≡ open_kind t
last-none t e = grind arith

-- the headers whose lines have their LF
abbrev pub ended_of : List Line → List Header
ended_of ls = map header_of (filter (λ line. is_header line.raw && has_lf line.raw) ls)

abbrev pub line_at : ℕ → List ℕ → Line
line_at n raw = record { at = n; raw = raw }

pub eqb-lf : (b : ℕ) → (b == lf) ≡ true → b ≡ lf
eqb-lf b e = grind arith

begins-take : (c m : ℕ) (t : List ℕ) → begins_with_equals (take (suc m) (c ∷ t)) ≡ (c == equals_sign)
begins-take c m t = begins-head c (take m t)

text_of-lf : (raw : List ℕ) → has_lf raw ≡ true → ends_with nat_eq raw (cr ∷ lf ∷ []) ≡ false → text_of raw ≡ take (length raw - 1) raw
text_of-lf raw e other = cond-false (ends_with nat_eq raw (cr ∷ lf ∷ [])) _ _ other ∙ cond-true (has_lf raw) _ _ e

text_of-cr : (raw : List ℕ) → ends_with nat_eq raw (cr ∷ lf ∷ []) ≡ true → text_of raw ≡ take (length raw - 2) raw
text_of-cr raw e = cond-true (ends_with nat_eq raw (cr ∷ lf ∷ [])) _ _ e

is_header-short : (c : ℕ) → is_header (c ∷ lf ∷ []) ≡ (c == equals_sign)
is_header-short c = grind arith

is_header-long : (q : Bool) (c d : ℕ) (t : List ℕ) → ends_with nat_eq (c ∷ d ∷ (t ++ lf ∷ [])) (cr ∷ lf ∷ []) ≡ q
    → is_header (c ∷ d ∷ (t ++ lf ∷ [])) ≡ (c == equals_sign)
is_header-long true c d t e =
    let raw = c ∷ d ∷ (t ++ lf ∷ []) in
    let size : length raw - 2 ≡ suc (length t) = omega (arith, length_push t lf) in
    ap begins_with_equals (text_of-cr raw e ∙ ap (λ k. take k raw) size) ∙ begins-take c (length t) (d ∷ (t ++ lf ∷ []))
is_header-long false c d t e =
    let raw = c ∷ d ∷ (t ++ lf ∷ []) in
    let size : length raw - 1 ≡ suc (suc (length t)) = omega (arith, length_push t lf) in
    ap begins_with_equals (text_of-lf raw (has_lf-push (c ∷ d ∷ t) lf) e ∙ ap (λ k. take k raw) size) ∙ begins-take c (suc (length t)) (d ∷ (t ++ lf ∷ []))

pub is_header-ended : (c : ℕ) (t : List ℕ) → is_header (c ∷ (t ++ lf ∷ [])) ≡ (c == equals_sign)
is_header-ended c [] = is_header-short c
is_header-ended c (d ∷ t) = is_header-long (ends_with nat_eq (c ∷ d ∷ (t ++ lf ∷ [])) (cr ∷ lf ∷ [])) c d t refl

-- the headers that are heard at the end of an open line
heard_by_open : (q : Bool) (n c : ℕ) (t : List ℕ) (rest : List Header) →
    cond q (header_of (line_at n (c ∷ (t ++ lf ∷ []))) ∷ rest) rest
    ≡ heard_at (n + length (c ∷ t)) (if q then header (c ∷ t) else plain) lf ++ rest
heard_by_open q n c t rest = grind (arith, length_push)

pub and-true : (q : Bool) → (q && true) ≡ q
and-true q = grind arith

pub ended_of-cons : (q : Bool) (line : Line) (rest : List Line) →
    map header_of (cond q (line ∷ filter (λ line. is_header line.raw && has_lf line.raw) rest) (filter (λ line. is_header line.raw && has_lf line.raw) rest))
    ≡ cond q (header_of line ∷ ended_of rest) (ended_of rest)
ended_of-cons q line rest = grind arith

ended_of-lf : (n : ℕ) (t : List ℕ) (rest : List Line) → ended_of (line_at n (t ++ lf ∷ []) ∷ rest) ≡ heard_at (n + length t) (open_kind t) lf ++ ended_of rest
ended_of-lf n [] rest = refl
ended_of-lf n (c ∷ t) rest =
    let whole : (is_header (c ∷ (t ++ lf ∷ [])) && has_lf (c ∷ (t ++ lf ∷ []))) ≡ (c == equals_sign) =
    ap (λ q. q && has_lf (c ∷ (t ++ lf ∷ []))) (is_header-ended c t) ∙ ap (λ q. (c == equals_sign) && q) (has_lf-push (c ∷ t) lf) ∙ and-true (c == equals_sign) in
    cc (ended_of-cons (is_header (c ∷ (t ++ lf ∷ [])) && has_lf (c ∷ (t ++ lf ∷ []))) (line_at n (c ∷ (t ++ lf ∷ []))) rest, heard_by_open (c == equals_sign) n c t (ended_of rest))

pub ended_of-none : (n : ℕ) (t : List ℕ) → has_lf t ≡ false → ended_of (lines_from n (lines_behind t [])) ≡ []
ended_of-none n t e = grind arith

heard_at-other : (n : ℕ) (l : LastLine) (b : ℕ) → (b == lf) ≡ false → heard_at n l b ≡ []
heard_at-other n l b e = grind arith

-- the lines that are too long
abbrev pub long_of : ℕ → List Line → List ℕ
long_of limit ls = map (λ line. line.at) (filter (λ line. is_too_long limit line.raw) ls)

-- an open line that is too long already
abbrev pub long_open : ℕ → ℕ → List ℕ → List ℕ
long_open limit n t = if begins_with_equals t && nat_lt limit (length t) then n ∷ [] else []

long_of-cons : (limit : ℕ) (q : Bool) (line : Line) (rest : List Line) →
    map (λ line. line.at) (cond q (line ∷ filter (λ line. is_too_long limit line.raw) rest) (filter (λ line. is_too_long limit line.raw) rest))
    ≡ (if q then line.at ∷ [] else []) ++ long_of limit rest
long_of-cons limit q line rest = grind arith

long_of-none : (limit n : ℕ) (t : List ℕ) → has_lf t ≡ false → long_of limit (lines_from n (lines_behind t [])) ≡ long_open limit n t
long_of-none limit n t e = grind arith

begins-push : (c : ℕ) (t : List ℕ) (b : ℕ) → begins_with_equals ((c ∷ t) ++ b ∷ []) ≡ begins_with_equals (c ∷ t)
begins-push c t b = begins-head c (t ++ b ∷ []) ∙ sym (begins-head c t)

long_of-lf : (limit n : ℕ) (t : List ℕ) (rest : List Line) → long_of limit (line_at n (t ++ lf ∷ []) ∷ rest) ≡ long_open limit n t ++ long_of limit rest
long_of-lf limit n [] rest = refl
long_of-lf limit n (c ∷ t) rest =
    let raw = c ∷ (t ++ lf ∷ []) in
    let size : length_before_lf raw ≡ length (c ∷ t) = cond-true (has_lf raw) _ _ (has_lf-push (c ∷ t) lf) ∙ omega (arith, length_push t lf) in
    cc (long_of-cons limit (is_too_long limit raw) (line_at n raw) rest, begins-push c t lf)

long_by_one : (q : Bool) (limit n m : ℕ) →
    (if q && nat_lt limit (m + 1) then n ∷ [] else [])
    ≡ (if q && nat_lt limit m then n ∷ [] else []) ++ (if q then (if (m + 1) == limit + 1 then n ∷ [] else []) else [])
long_by_one q limit n m = grind arith

long_at-kind : (q : Bool) (limit n : ℕ) (t : List ℕ) → long_at limit (n + length t) (if q then header t else plain) ≡ (if q then (if length t == limit + 1 then n ∷ [] else []) else [])
long_at-kind q limit n t = grind arith

long_start : (q : Bool) (limit n : ℕ) →
    (if q && nat_lt limit 1 then n ∷ [] else []) ≡ (if q then (if 1 == limit + 1 then n ∷ [] else []) else [])
long_start q limit n = grind arith

long_open-push : (limit n : ℕ) (t : List ℕ) (b : ℕ) → (b == lf) ≡ false
    → long_open limit n (t ++ b ∷ []) ≡ long_open limit n t ++ long_at limit (n + length t + 1) (step (open_kind t) b)
long_open-push limit n [] b e =
    let from : n + 1 ≡ n + 0 + 1 = omega arith in
    cc (begins-head b [], long_start (b == equals_sign) limit n, long_at-kind (b == equals_sign) limit n (b ∷ []), open_kind-push [] b e)
long_open-push limit n (c ∷ t) b e =
    let size : length (c ∷ (t ++ b ∷ [])) ≡ length (c ∷ t) + 1 = length_push (c ∷ t) b in
    let place : n + length (c ∷ (t ++ b ∷ [])) ≡ n + length (c ∷ t) + 1 = omega (arith, size) in
    cc (begins-head c (t ++ b ∷ []), long_by_one (c == equals_sign) limit n (length (c ∷ t)), begins-head c t, long_at-kind (c == equals_sign) limit n (c ∷ (t ++ b ∷ [])), open_kind-push (c ∷ t) b e)

-- the header whose line lacks its LF
abbrev pub open_of : List Line → List Header
open_of ls = map header_of (filter (λ line. is_header line.raw && not (has_lf line.raw)) ls)

abbrev pub open_by : ℕ → LastLine → List Header
open_by n ended = []
open_by n plain = []
open_by n (header t) = record { at = n - length t; body = n; text = t } ∷ []

open_of-cons : (q : Bool) (line : Line) (rest : List Line) →
    map header_of (cond q (line ∷ filter (λ line. is_header line.raw && not (has_lf line.raw)) rest) (filter (λ line. is_header line.raw && not (has_lf line.raw)) rest))
    ≡ cond q (header_of line ∷ open_of rest) (open_of rest)
open_of-cons q line rest = grind arith

open_by-kind : (q : Bool) (n : ℕ) (t : List ℕ) → cond q (record { at = n; body = n + length t; text = t } ∷ []) [] ≡ open_by (n + length t + 0) (if q then header t else plain)
open_by-kind q n t = grind arith

open-last : (n : ℕ) (t : List ℕ) → has_lf t ≡ false → open_of (lines_from n (lines_behind t [])) ≡ open_by (n + length t + 0) (open_kind t)
open-last n [] e = refl
open-last n (c ∷ t) e =
    let raw = c ∷ t in
    let text : text_of raw ≡ raw = text_of-open raw e in
    cc (open_of-cons (is_header raw && not (has_lf raw)) (line_at n raw) [], and-true (is_header raw), begins-head c t, open_by-kind (c == equals_sign) n raw)

open_of-ended : (n : ℕ) (t : List ℕ) (b : ℕ) (rest : List Line) → (b == lf) ≡ true → open_of (line_at n (t ++ b ∷ []) ∷ rest) ≡ open_of rest
open_of-ended n t b rest e = grind (arith, has_lf-push)

-- all headers
abbrev pub all_of : List Line → List Header
all_of ls = map header_of (filter (λ line. is_header line.raw) ls)

all_of-cons : (q : Bool) (line : Line) (rest : List Line) →
    map header_of (cond q (line ∷ filter (λ line. is_header line.raw) rest) (filter (λ line. is_header line.raw) rest)) ≡ cond q (header_of line ∷ all_of rest) (all_of rest)
all_of-cons q line rest = grind arith

split-last : (n : ℕ) (t : List ℕ) → has_lf t ≡ false → all_of (lines_from n (lines_behind t [])) ≡ open_of (lines_from n (lines_behind t []))
split-last n t e = grind arith

split-cond : (q : Bool) (h : Header) (xs ys zs : List Header) → xs ≡ ys ++ zs → cond q (h ∷ xs) xs ≡ cond q (h ∷ ys) ys ++ zs
split-cond q h xs ys zs e = grind arith

split-ended : (n : ℕ) (t : List ℕ) (b : ℕ) (rest : List Line) → (b == lf) ≡ true → all_of rest ≡ ended_of rest ++ open_of rest
    → all_of (line_at n (t ++ b ∷ []) ∷ rest) ≡ ended_of (line_at n (t ++ b ∷ []) ∷ rest) ++ open_of (line_at n (t ++ b ∷ []) ∷ rest)
split-ended n t b rest e later =
    let raw = t ++ b ∷ [] in
    let h = header_of (line_at n raw) in
    cc (all_of-cons (is_header raw) (line_at n raw) rest, split-cond (is_header raw) h (all_of rest) (ended_of rest) (open_of rest) later, has_lf-push t b, and-true (is_header raw), ended_of-cons (is_header raw && has_lf raw) (line_at n raw) rest, open_of-ended n t b rest e)

-- ---- what the lines of open bytes, and of those behind them, come to byte by byte
pub record AreWalked (n : ℕ) (t s : List ℕ) (ls : List Line) : Type 0 where
  pub last : fold (λ _ raw. line_kind raw) ended (raw_lines (t ++ s)) ≡ last_by (open_kind t) s
  pub heard : ended_of ls ≡ heard_by (n + length t) (open_kind t) s
  pub long : (limit : ℕ) → long_of limit ls ≡ long_open limit n t ++ long_by limit (n + length t) (open_kind t) s
  pub left : open_of ls ≡ open_by (n + length t + length s) (last_by (open_kind t) s)
  pub all : all_of ls ≡ ended_of ls ++ open_of ls

-- lines that begin with these bytes
abbrev lines_with : ℕ → List ℕ → List ℕ → List Line
lines_with n t s = lines_from n (raw_lines (t ++ s))

walked-nil : (n : ℕ) (t : List ℕ) → IsOpen t → AreWalked n t [] (lines_with n t [])
walked-nil n t is =
    let behind : raw_lines (t ++ []) ≡ lines_behind t [] = is.before [] in
    record {
      last = cc (last-none t is.no_lf);
      heard = cc (ended_of-none n t is.no_lf);
      long = λ limit. cc (long_of-none limit n t is.no_lf, append-nil (long_open limit n t));
      left = cc (open-last n t is.no_lf);
      all = cc (split-last n t is.no_lf, ended_of-none n t is.no_lf);
    }

walked-lf : (n : ℕ) (t : List ℕ) (b : ℕ) (s : List ℕ) → IsOpen t → (b == lf) ≡ true
    → (let from = n + length (t ++ b ∷ []) in AreWalked from [] s (lines_with from [] s)) → AreWalked n t (b ∷ s) (lines_with n t (b ∷ s))
walked-lf n t b s is e fresh =
    let at_lf : b ≡ lf = eqb-lf b e in
    let from = n + length (t ++ b ∷ []) in
    let next : from + 0 ≡ n + length t + 1 = omega (arith, length_push t b) in
    let end : from + 0 + length s ≡ n + length t + suc (length s) = omega (arith, length_push t b) in
    let first = raw_lines-ends t b s is e in
    let after = step-lf (open_kind t) b e in
    let rest = lines_with from [] s in
    record {
      last = cc (first, after, has_lf-push t b, fresh.last);
      heard = cc (first, after, ended_of-lf n t rest, fresh.heard);
      long = λ limit. cc (first, after, long_of-lf limit n t rest, fresh.long limit);
      left = cc (first, after, open_of-ended n t b rest e, fresh.left);
      all = cc (first, split-ended n t b rest e fresh.all);
    }

walked-other : (n : ℕ) (t : List ℕ) (b : ℕ) (s : List ℕ) → (b == lf) ≡ false → AreWalked n (t ++ b ∷ []) s (lines_with n (t ++ b ∷ []) s)
    → AreWalked n t (b ∷ s) (lines_with n t (b ∷ s))
walked-other n t b s e longer =
    let next : n + length (t ++ b ∷ []) ≡ n + length t + 1 = omega (arith, length_push t b) in
    let end : n + length (t ++ b ∷ []) + length s ≡ n + length t + suc (length s) = omega (arith, length_push t b) in
    let same = append_assoc t (b ∷ []) s in
    let kind = open_kind-push t b e in
    let after = step (open_kind t) b in
    record {
      last = cc (same, kind, longer.last);
      heard = cc (same, kind, longer.heard, heard_at-other (n + length t) (open_kind t) b e);
      long = λ limit. cc (same, kind, longer.long limit, long_open-push limit n t b e, append_assoc (long_open limit n t) (long_at limit (n + length t + 1) after) (long_by limit (n + length t + 1) after s));
      left = cc (same, kind, longer.left);
      all = cc (same, longer.all);
    }

walk : (n : ℕ) (t s : List ℕ) → IsOpen t → AreWalked n t s (lines_with n t s)
walk n t [] is = walked-nil n t is
walk n t (b ∷ s) is =
    elim (b == lf) as (λ q. (b == lf) ≡ q → AreWalked n t (b ∷ s) (lines_with n t (b ∷ s))) [
      | true ↦ λ e. walked-lf n t b s is e (walk (n + length (t ++ b ∷ [])) [] s IsOpen-nil)
      | false ↦ λ e. walked-other n t b s e (walk n (t ++ b ∷ []) s (IsOpen-push t b is e))
    ] refl

-- a whole stream
pub last_line-walk : (s : List ℕ) → last_line s ≡ last_by ended s
last_line-walk s = (walk 0 [] s IsOpen-nil).last

pub ended_headers-walk : (s : List ℕ) → ended_headers s ≡ heard_by 0 ended s
ended_headers-walk s = (walk 0 [] s IsOpen-nil).heard

pub too_long-walk : (limit : ℕ) (s : List ℕ) → too_long limit s ≡ long_by limit 0 ended s
too_long-walk limit s = (walk 0 [] s IsOpen-nil).long limit

pub open_headers-walk : (s : List ℕ) → open_headers s ≡ open_by (length s) (last_line s)
open_headers-walk s =
    let size : 0 + 0 + length s ≡ length s = omega arith in
    cc ((walk 0 [] s IsOpen-nil).left, last_line-walk s)

pub headers-split : (s : List ℕ) → headers s ≡ ended_headers s ++ open_headers s
headers-split s = (walk 0 [] s IsOpen-nil).all
