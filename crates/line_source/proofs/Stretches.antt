-- Stretches of the stream in which no header begins, and the bytes of one header line.
use Rattle.std.proofs.Common.{◌≡◌, ℕ, zero, suc, ◌+◌, ◌-◌, ◌≤◌, Bool, true, false, not, ◌&&◌, List, [], ◌∷◌, ◌++◌, length, take, get_or, refl, sym, ◌∙◌, ap, append_assoc, append-nil, arith, if◌then◌else◌, ◌==◌, nat_le, nat_lt}
use Rattle.std.proofs.lemmas.Bool.{cond-false, not-true}
use Rattle.std.proofs.lemmas.List.{length_push, get_or-take, length-take-le}
use Rattle.memchr.specs.Find.{Nowhere}
use Rattle.dump_io.specs.Lines.{lf}
use Rattle.dump_io.specs.Laws.LineFeeds.{lacks_lf, lacks_lf-head, lacks_lf-tail}
use Rattle.line_source.specs.Streams.{LastLine, ended, plain, header}
use Rattle.line_source.specs.Inner.Starts.{begins_line, BeginsHeader}
use Rattle.line_source.proofs.Walk.{step, heard_at, long_at, last_by, heard_by, long_by}

-- a last line that is no header's
abbrev pub other_line : Bool → LastLine
other_line begun = if begun then plain else ended

step-quiet : (begun : Bool) (b : ℕ) (bs : List ℕ) → Nowhere (BeginsHeader begun (b ∷ bs)) 0 (length (b ∷ bs)) → step (other_line begun) b ≡ other_line (not (b == lf))
step-quiet begun b bs quiet = grind arith

begins_line-suc : (begun : Bool) (bytes : List ℕ) (j : ℕ) → begins_line begun bytes (suc j) ≡ (get_or bytes j 0 == lf)
begins_line-suc begun bytes j = grind arith

begins-next : (begun : Bool) (b : ℕ) (bs : List ℕ) (k : ℕ) → BeginsHeader (not (b == lf)) bs k → BeginsHeader begun (b ∷ bs) (suc k)
begins-next begun b bs k begins = grind arith

Nowhere-next : (begun : Bool) (b : ℕ) (bs : List ℕ) → Nowhere (BeginsHeader begun (b ∷ bs)) 0 (length (b ∷ bs)) → Nowhere (BeginsHeader (not (b == lf)) bs) 0 (length bs)
Nowhere-next begun b bs quiet k low high begins = quiet (suc k) (omega arith) (omega (arith, high)) (begins-next begun b bs k begins)

heard_at-quiet : (n : ℕ) (begun : Bool) (b : ℕ) → heard_at n (other_line begun) b ≡ []
heard_at-quiet n begun b = grind arith

long_at-quiet : (limit n : ℕ) (begun : Bool) → long_at limit n (other_line begun) ≡ []
long_at-quiet limit n begun = grind arith

pub heard_by-quiet : (n : ℕ) (begun : Bool) (p : List ℕ) → Nowhere (BeginsHeader begun p) 0 (length p) → heard_by n (other_line begun) p ≡ []
heard_by-quiet n begun [] quiet = refl
heard_by-quiet n begun (b ∷ bs) quiet =
    cc (heard_at-quiet n begun b, step-quiet begun b bs quiet, heard_by-quiet (n + 1) (not (b == lf)) bs (Nowhere-next begun b bs quiet))

pub long_by-quiet : (limit n : ℕ) (begun : Bool) (p : List ℕ) → Nowhere (BeginsHeader begun p) 0 (length p) → long_by limit n (other_line begun) p ≡ []
long_by-quiet limit n begun [] quiet = refl
long_by-quiet limit n begun (b ∷ bs) quiet =
    cc (step-quiet begun b bs quiet, long_at-quiet limit (n + 1) (not (b == lf)), long_by-quiet limit (n + 1) (not (b == lf)) bs (Nowhere-next begun b bs quiet))

-- the line after such a stretch, by its last byte
pub last_by-quiet : (begun : Bool) (b : ℕ) (bs : List ℕ) → Nowhere (BeginsHeader begun (b ∷ bs)) 0 (length (b ∷ bs))
    → last_by (other_line begun) (b ∷ bs) ≡ other_line (not (get_or (b ∷ bs) (length bs) 0 == lf))
last_by-quiet begun b [] quiet = step-quiet begun b [] quiet
last_by-quiet begun b (c ∷ cs) quiet =
    ap (λ l. last_by l (c ∷ cs)) (step-quiet begun b (c ∷ cs) quiet) ∙ last_by-quiet (not (b == lf)) c cs (Nowhere-next begun b (c ∷ cs) quiet)

step-header : (t : List ℕ) (b : ℕ) → (b == lf) ≡ false → step (header t) b ≡ header (t ++ b ∷ [])
step-header t b e = cond-false (b == lf) _ _ e

-- more bytes of a header line
pub last_by-header : (t x : List ℕ) → lacks_lf x ≡ true → last_by (header t) x ≡ header (t ++ x)
last_by-header t [] e = ap header (sym (append-nil t))
last_by-header t (b ∷ bs) e = grind (arith, last_by-header (t ++ b ∷ []) bs (lacks_lf-tail b bs e), append_assoc)

pub heard_by-header : (n : ℕ) (t x : List ℕ) → lacks_lf x ≡ true → heard_by n (header t) x ≡ []
heard_by-header n t [] e = refl
heard_by-header n t (b ∷ bs) e = grind (arith, heard_by-header (n + 1) (t ++ b ∷ []) bs (lacks_lf-tail b bs e))

-- whether the limit is passed within m bytes behind k others
abbrev pub passes : ℕ → ℕ → ℕ → Bool
passes limit k m = nat_le k limit && nat_lt limit (k + m)

passes-more : (limit k m n : ℕ) → (if (k + 1) == limit + 1 then n ∷ [] else []) ++ (if passes limit (k + 1) m then n ∷ [] else [])
    ≡ (if passes limit k (suc m) then n ∷ [] else [])
passes-more limit k m n = grind arith

passes-none : (limit k n : ℕ) → [] ≡ (if passes limit k 0 then n ∷ [] else [])
passes-none limit k n = grind arith

pub long_by-header : (limit n : ℕ) (t x : List ℕ) → length t ≤ n → lacks_lf x ≡ true
    → long_by limit n (header t) x ≡ (if passes limit (length t) (length x) then (n - length t) ∷ [] else [])
long_by-header limit n t [] fits e = passes-none limit (length t) (n - length t)
long_by-header limit n t (b ∷ bs) fits e =
    let size : length (t ++ b ∷ []) ≡ length t + 1 = length_push t b in
    let same : n + 1 - length (t ++ b ∷ []) ≡ n - length t = omega (arith, size) in
    cc (step-header t b (lacks_lf-head b bs e), long_by-header limit (n + 1) (t ++ b ∷ []) bs (omega (arith, size, fits)) (lacks_lf-tail b bs e), passes-more limit (length t) (length bs) (n - length t))

-- the line after a stretch in which no header begins
pub last_by-stretch : (begun : Bool) (p : List ℕ) (m : ℕ) → length p ≡ suc m → Nowhere (BeginsHeader begun p) 0 (length p)
    → last_by (other_line begun) p ≡ other_line (not (get_or p m 0 == lf))
last_by-stretch begun [] m e quiet = absurd (omega (arith, e))
last_by-stretch begun (b ∷ bs) m e quiet = grind (arith, last_by-quiet)

-- the bytes before the first place at which a header begins
pub Nowhere-front : (begun : Bool) (p : List ℕ) (n : ℕ) → n ≤ length p → Nowhere (BeginsHeader begun p) 0 n
    → Nowhere (BeginsHeader begun (take n p)) 0 (length (take n p))
Nowhere-front begun p n fits quiet k low high begins = grind (arith, length-take-le, get_or-take)

-- a line has ended where a header begins
pub last_by-start : (begun : Bool) (p : List ℕ) (n : ℕ) → n ≤ length p → Nowhere (BeginsHeader begun p) 0 n → begins_line begun p n ≡ true
    → last_by (other_line begun) (take n p) ≡ ended
last_by-start begun p zero fits quiet start = ap other_line (not-true begun start)
last_by-start begun p (suc j) fits quiet start =
    let q = take (suc j) p in
    cc (last_by-stretch begun q j (length-take-le (suc j) p fits) (Nowhere-front begun p (suc j) fits quiet), get_or-take (suc j) p j 0 (omega arith), begins_line-suc begun p j)
