-- Laws of the lines of a body, each with its proof, for the proofs of callers.
use Rattle.std.proofs.Common.{◌≡◌, ℕ, ◌+◌, ◌-◌, ◌<◌, ◌==◌, ◌⊎◌, inl, inr, Bool, true, false, List, [], ◌∷◌, ◌++◌, length, take, drop, map, if◌then◌else◌, refl, sym, ◌∙◌, ap, subst, append_assoc, arith, length-append}
use Rattle.std.specs.Prelude.{◌≢◌}
use Rattle.std.specs.List.{concat}
use Rattle.std.proofs.lemmas.Bool.Decides.{eqb_tells}
use Rattle.std.proofs.lemmas.List.{map-append, take-append-le}
use Rattle.std.proofs.lemmas.List.Elements.{All-head, All-tail, All-take}
use Rattle.std.proofs.Math.Seq.{take-length}
use Rattle.dump_io.specs.Lines.{lf, lines_after, lines_from, raw_lines, Line}
use Rattle.dump_io.specs.Laws.Lines.{raw_lines-inner, raw_lines-one, AreLines-raw}
use Rattle.body_lines.specs.Lines.{cut, cut_lines, lines_at, one_line, AreWhole, HasNoLf}

-- ---- bytes without an LF

-- bytes in front of the first line
abbrev pub join : List ℕ → List (List ℕ) → List (List ℕ)
join front [] = front ∷ []
join front (line ∷ lines) = (front ++ line) ∷ lines

after-one : (c : ℕ) (lines : List (List ℕ)) → lines_after c lines ≡ join (c ∷ []) lines
after-one c [] = refl
after-one c (line ∷ lines) = refl

after-more : (c : ℕ) (front : List ℕ) (lines : List (List ℕ)) → lines_after c (join front lines) ≡ join (c ∷ front) lines
after-more c front [] = refl
after-more c front (line ∷ lines) = refl

-- bytes without an LF go to the front of the first of the lines after them
pub lines-join : (c : ℕ) (front rest : List ℕ) → HasNoLf (c ∷ front) → raw_lines ((c ∷ front) ++ rest) ≡ join (c ∷ front) (raw_lines rest)
lines-join c [] rest none = raw_lines-inner c rest (All-head (λ b. b ≢ lf) c [] none) ∙ after-one c (raw_lines rest)
lines-join c (d ∷ front) rest none =
    raw_lines-inner c ((d ∷ front) ++ rest) (All-head (λ b. b ≢ lf) c (d ∷ front) none)
    ∙ ap (lines_after c) (lines-join d front rest (All-tail (λ b. b ≢ lf) c (d ∷ front) none))
    ∙ after-more c (d ∷ front) (raw_lines rest)

pub lines-first : (front rest line : List ℕ) (later : List (List ℕ)) → HasNoLf front → raw_lines rest ≡ line ∷ later → raw_lines (front ++ rest) ≡ (front ++ line) ∷ later
lines-first [] rest line later none is = is
lines-first (c ∷ front) rest line later none is = lines-join c front rest none ∙ ap (join (c ∷ front)) is

-- ---- whole lines

after-append : (c : ℕ) (line : List ℕ) (lines more : List (List ℕ)) → lines_after c ((line ∷ lines) ++ more) ≡ lines_after c (line ∷ lines) ++ more
after-append c line lines more = refl

ended-some : (front : List ℕ) → (line : List ℕ) × (lines : List (List ℕ)) × (raw_lines (front ++ lf ∷ []) ≡ line ∷ lines)
ended-some [] = (lf ∷ [], [], refl)
ended-some (c ∷ front) = by (eqb_tells c lf) (ended-some front)
  where
    by : ((c == lf ≡ true) × (c ≡ lf)) ⊎ ((c == lf ≡ false) × (c ≢ lf)) → (line : List ℕ) × (lines : List (List ℕ)) × (raw_lines (front ++ lf ∷ []) ≡ line ∷ lines)
        → (line : List ℕ) × (lines : List (List ℕ)) × (raw_lines (c ∷ (front ++ lf ∷ [])) ≡ line ∷ lines)
    by (inl same) rest =
        (c ∷ [], raw_lines (front ++ lf ∷ []), ap (λ b. if b then (c ∷ []) ∷ raw_lines (front ++ lf ∷ []) else lines_after c (raw_lines (front ++ lf ∷ []))) same.0)
    by (inr other) rest = (c ∷ rest.0, rest.1, raw_lines-inner c (front ++ lf ∷ []) other.1 ∙ ap (lines_after c) rest.2)

lines-whole : (front more : List ℕ) → raw_lines (front ++ lf ∷ more) ≡ raw_lines (front ++ lf ∷ []) ++ raw_lines more
lines-whole [] more = refl
lines-whole (c ∷ front) more = by (eqb_tells c lf) (lines-whole front more) (ended-some front)
  where
    by : ((c == lf ≡ true) × (c ≡ lf)) ⊎ ((c == lf ≡ false) × (c ≢ lf)) → raw_lines (front ++ lf ∷ more) ≡ raw_lines (front ++ lf ∷ []) ++ raw_lines more
        → (line : List ℕ) × (lines : List (List ℕ)) × (raw_lines (front ++ lf ∷ []) ≡ line ∷ lines)
        → raw_lines (c ∷ (front ++ lf ∷ more)) ≡ raw_lines (c ∷ (front ++ lf ∷ [])) ++ raw_lines more
    by (inl same) rest some =
        ap (λ b. if b then (c ∷ []) ∷ raw_lines (front ++ lf ∷ more) else lines_after c (raw_lines (front ++ lf ∷ more))) same.0
        ∙ ap (λ l. (c ∷ []) ∷ l) rest
        ∙ sym (ap (λ b. (if b then (c ∷ []) ∷ raw_lines (front ++ lf ∷ []) else lines_after c (raw_lines (front ++ lf ∷ []))) ++ raw_lines more) same.0)
    by (inr other) rest some =
        raw_lines-inner c (front ++ lf ∷ more) other.1
        ∙ ap (lines_after c) (rest ∙ ap (λ l. l ++ raw_lines more) some.2)
        ∙ after-append c some.0 some.1 (raw_lines more)
        ∙ sym (ap (λ l. l ++ raw_lines more) (raw_lines-inner c (front ++ lf ∷ []) other.1 ∙ ap (lines_after c) some.2))

pub AreWhole-none : AreWhole []
AreWhole-none = record { lines = λ more. refl }

-- bytes that end in LF
pub AreWhole-ended : (front : List ℕ) → AreWhole (front ++ lf ∷ [])
AreWhole-ended front = record { lines = λ more. ap raw_lines (append_assoc front (lf ∷ []) more) ∙ lines-whole front more }

pub AreWhole-then : (xs ys : List ℕ) → AreWhole xs → AreWhole ys → AreWhole (xs ++ ys)
AreWhole-then xs ys first second = record {
  lines = λ more.
      ap raw_lines (append_assoc xs ys more) ∙ first.lines (ys ++ more) ∙ ap (λ l. raw_lines xs ++ l) (second.lines more)
      ∙ sym (append_assoc (raw_lines xs) (raw_lines ys) (raw_lines more)) ∙ ap (λ l. l ++ raw_lines more) (sym (first.lines ys));
}

raw-some : (c : ℕ) (bytes : List ℕ) → (line : List ℕ) × (later : List (List ℕ)) × (raw_lines (c ∷ bytes) ≡ line ∷ later)
raw-some c bytes = by (eqb_tells c lf) (raw_lines bytes) refl
  where
    by : ((c == lf ≡ true) × (c ≡ lf)) ⊎ ((c == lf ≡ false) × (c ≢ lf)) → (rest : List (List ℕ)) → raw_lines bytes ≡ rest
        → (line : List ℕ) × (later : List (List ℕ)) × (raw_lines (c ∷ bytes) ≡ line ∷ later)
    by (inl same) rest is = (c ∷ [], raw_lines bytes, ap (λ b. if b then (c ∷ []) ∷ raw_lines bytes else lines_after c (raw_lines bytes)) same.0)
    by (inr other) [] is = (c ∷ [], [], raw_lines-inner c bytes other.1 ∙ ap (lines_after c) is)
    by (inr other) (line ∷ later) is = (c ∷ line, later, raw_lines-inner c bytes other.1 ∙ ap (lines_after c) is)

-- whole lines behind bytes without an LF, which belong to the first of them
pub AreWhole-behind : (front bytes : List ℕ) → HasNoLf front → 0 < length bytes → AreWhole bytes → AreWhole (front ++ bytes)
AreWhole-behind front [] free some whole = absurd (omega (arith, some))
AreWhole-behind front (c ∷ bytes) free some whole =
    let first = raw-some c bytes in record {
      lines = λ more.
          ap raw_lines (append_assoc front (c ∷ bytes) more)
          ∙ lines-first front ((c ∷ bytes) ++ more) first.0 (first.1 ++ raw_lines more) free (whole.lines more ∙ ap (λ l. l ++ raw_lines more) first.2)
          ∙ ap (λ l. l ++ raw_lines more) (sym (lines-first front (c ∷ bytes) first.0 first.1 free first.2));
    }

-- behind the first line stand the others
pub raws-behind : (bytes raw : List ℕ) (raws : List (List ℕ)) → raw_lines bytes ≡ raw ∷ raws → raw_lines (drop (length raw) bytes) ≡ raws
raws-behind [] raw raws is = let no : [] ≡ raw ∷ raws = is in cc
raws-behind (c ∷ bytes) raw raws is = by (raw_lines bytes) refl (raws-behind bytes) (c == lf) is
  where
    by : (later : List (List ℕ)) → raw_lines bytes ≡ later → ((line : List ℕ) (lines : List (List ℕ)) → raw_lines bytes ≡ line ∷ lines → raw_lines (drop (length line) bytes) ≡ lines)
        → (b : Bool) → (if b then (c ∷ []) ∷ raw_lines bytes else lines_after c (raw_lines bytes)) ≡ raw ∷ raws → raw_lines (drop (length raw) (c ∷ bytes)) ≡ raws
    by later at rest true same =
        let first : c ∷ [] ≡ raw = cc in
        let left : raw_lines bytes ≡ raws = cc in
        ap (λ r. raw_lines (drop (length r) (c ∷ bytes))) (sym first) ∙ left
    by [] at rest false same =
        let now : (c ∷ []) ∷ [] ≡ raw ∷ raws = ap (lines_after c) (sym at) ∙ same in
        let first : c ∷ [] ≡ raw = cc in
        let left : [] ≡ raws = cc in
        ap (λ r. raw_lines (drop (length r) (c ∷ bytes))) (sym first) ∙ at ∙ left
    by (line ∷ lines) at rest false same =
        let now : (c ∷ line) ∷ lines ≡ raw ∷ raws = ap (lines_after c) (sym at) ∙ same in
        let first : c ∷ line ≡ raw = cc in
        let left : lines ≡ raws = cc in
        ap (λ r. raw_lines (drop (length r) (c ∷ bytes))) (sym first) ∙ rest line lines at ∙ left

-- ---- what is heard of lines

lines_from-append : (at : ℕ) (xs ys : List (List ℕ)) → lines_from at (xs ++ ys) ≡ lines_from at xs ++ lines_from (at + length (concat xs)) ys
lines_from-append at [] ys = (let e : at ≡ at + 0 = omega arith in ap (λ n. lines_from n ys) e)
lines_from-append at (x ∷ xs) ys =
    let place : at + length x + length (concat xs) ≡ at + length (x ++ concat xs) = omega (arith, length-append x (concat xs)) in
    let line : Line = record { at = at; raw = x } in
    ap (λ l. line ∷ l) (lines_from-append (at + length x) xs ys ∙ ap (λ n. lines_from (at + length x) xs ++ lines_from n ys) place)

-- the lines of bytes behind whole lines stand behind the lines of these
pub lines_at-whole : (at : ℕ) (bytes more : List ℕ) → AreWhole bytes → lines_at at (bytes ++ more) ≡ lines_at at bytes ++ lines_at (at + length bytes) more
lines_at-whole at bytes more whole =
    let size : length (concat (raw_lines bytes)) ≡ length bytes = ap length (AreLines-raw bytes).together in
    ap (lines_from at) (whole.lines more)
    ∙ lines_from-append at (raw_lines bytes) (raw_lines more)
    ∙ ap (λ n. lines_at at bytes ++ lines_at (at + n) more) size

pub cut_lines-whole : (kept at : ℕ) (bytes more : List ℕ) → AreWhole bytes → cut_lines kept at (bytes ++ more) ≡ cut_lines kept at bytes ++ cut_lines kept (at + length bytes) more
cut_lines-whole kept at bytes more whole =
    ap (map (cut kept)) (lines_at-whole at bytes more whole) ∙ map-append (cut kept) (lines_at at bytes) (lines_at (at + length bytes) more)

-- bytes without an LF are one line, if there are any
pub cut_lines-open : (kept at : ℕ) (bytes : List ℕ) → 0 < length bytes → HasNoLf bytes
    → cut_lines kept at bytes ≡ one_line at (take kept bytes) (length bytes)
cut_lines-open kept at bytes some free =
    ap (λ l. map (cut kept) (lines_from at l)) (raw_lines-one bytes some (All-take (λ c. c ≢ lf) (length bytes - 1) bytes free))

-- bytes without an LF, and an LF behind them, are one line
pub cut_lines-ended : (kept at : ℕ) (bytes : List ℕ) → HasNoLf bytes
    → cut_lines kept at (bytes ++ lf ∷ []) ≡ one_line at (take kept (bytes ++ lf ∷ [])) (length (bytes ++ lf ∷ []))
cut_lines-ended kept at bytes free =
    let size : length (bytes ++ lf ∷ []) - 1 ≡ length bytes = omega (arith, length-append bytes (lf ∷ [])) in
    let front : take (length (bytes ++ lf ∷ []) - 1) (bytes ++ lf ∷ []) ≡ bytes =
    ap (λ n. take n (bytes ++ lf ∷ [])) size ∙ take-append-le (length bytes) bytes (lf ∷ []) (omega arith) ∙ take-length bytes in
    ap (λ l. map (cut kept) (lines_from at l)) (raw_lines-one (bytes ++ lf ∷ []) (omega (arith, length-append bytes (lf ∷ []))) (subst HasNoLf (sym front) free))
