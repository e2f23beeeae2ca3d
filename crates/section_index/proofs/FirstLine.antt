-- The first line, by the first LF.
use Rattle.std.proofs.lemmas.Grind.{common_steps}
use Rattle.std.proofs.Common.{◌≡◌, ℕ, suc, ◌+◌, ◌-◌, ◌<◌, ◌≤◌, Bool, true, false, not, cond, ltb, List, [], ◌∷◌, ◌++◌, length, take, drop, get_or, Option, MatchOption, None, Some, refl, sym, ◌∙◌, ap, append_assoc, append-nil, length-append, arith, if◌then◌else◌, ◌==◌, nat_eq}
use Rattle.std.specs.List.{position, position_or_len}
use Rattle.std.specs.Cmp.Lexicographic.{pointwise}
use Rattle.std.proofs.lemmas.Bool.{cond-true, cond-false, ltb-true, ltb-false, eqb-true}
use Rattle.std.proofs.lemmas.List.{drop_at, length_push, take_all, take-append-drop, drop_more, length-take-le}
use Rattle.std.proofs.lemmas.List.Sums.{passes_at_first}
use Rattle.dump_io.specs.Lines.{lf, text_of}
use Rattle.dump_io.specs.Laws.LineFeeds.{lacks_lf, lacks_lf-head, lacks_lf-tail}
use Rattle.line_source.specs.Laws.{text_of-open}
use Rattle.line_source.specs.Streams.{has_lf, length_before_lf}
use Rattle.dump_sections.specs.Versions.{first_line}
use Rattle.section_index.specs.Inner.Beginning.{is_lf}

-- the place of the first LF, if there is one
abbrev pub IsFirstLf : List ℕ → Option ℕ → Type 0
IsFirstLf bytes place =
    MatchOption place (lacks_lf bytes ≡ true)
    (λ k. (k < length bytes) × (lacks_lf (take k bytes) ≡ true) × (bytes ≡ take k bytes ++ lf ∷ drop (k + 1) bytes))

lacks-if : (q : Bool) (c : ℕ) (bytes : List ℕ) (n : ℕ) → not (c == lf) ≡ q → lacks_lf (take n bytes) ≡ true → lacks_lf (take (cond q (1 + n) 0) (c ∷ bytes)) ≡ true
lacks-if q c bytes n e rest = grind arith

lacks-front : (bytes : List ℕ) → lacks_lf (take (position_or_len is_lf bytes) bytes) ≡ true
lacks-front [] = refl
lacks-front (c ∷ bytes) = lacks-if (not (c == lf)) c bytes (position_or_len is_lf bytes) refl (lacks-front bytes)

first-if : (q : Bool) (bytes : List ℕ) → ltb (position_or_len is_lf bytes) (length bytes) ≡ q → IsFirstLf bytes (cond q (Some (position_or_len is_lf bytes)) None)
first-if true bytes e =
    let k = position_or_len is_lf bytes in
    let inside : k < length bytes = ltb-true k (length bytes) e in
    let here : get_or bytes k 0 ≡ lf = eqb-true (get_or bytes k 0) lf (passes_at_first is_lf bytes 0 inside) in (
      inside,
      lacks-front bytes,
      sym (take-append-drop k bytes) ∙ ap (λ r. take k bytes ++ r) (drop_more bytes k 0 inside ∙ ap (λ c. c ∷ drop (k + 1) bytes) here),
    )
first-if false bytes e =
    let k = position_or_len is_lf bytes in
    ap lacks_lf (sym (take_all k bytes (ltb-false k (length bytes) e))) ∙ lacks-front bytes

pub IsFirstLf-position : (bytes : List ℕ) → IsFirstLf bytes (position is_lf bytes)
IsFirstLf-position bytes = first-if (ltb (position_or_len is_lf bytes) (length bytes)) bytes refl

pub first_line-behind : (line more : List ℕ) → lacks_lf line ≡ true → first_line (line ++ more) ≡ line ++ first_line more
first_line-behind [] more lacks = refl
first_line-behind (c ∷ line) more lacks = grind (arith, first_line-behind line more (lacks_lf-tail c line lacks))

last-if : (c : ℕ) → (c == lf) ≡ false → pointwise nat_eq (lf ∷ []) (c ∷ []) ≡ false
last-if c e = grind arith

has_lf-open : (line : List ℕ) → lacks_lf line ≡ true → has_lf line ≡ false
has_lf-open [] lacks = refl
has_lf-open (c ∷ []) lacks = last-if c (lacks_lf-head c [] lacks)
has_lf-open (c ∷ d ∷ line) lacks =
    let e : length (c ∷ d ∷ line) - 1 ≡ suc (length (d ∷ line) - 1) = omega arith in
    ap (λ n. pointwise nat_eq (lf ∷ []) (drop n (c ∷ d ∷ line))) e ∙ has_lf-open (d ∷ line) (lacks_lf-tail c (d ∷ line) lacks)

has_lf-ended : (line : List ℕ) → has_lf (line ++ lf ∷ []) ≡ true
has_lf-ended line = grind (arith, drop_at, length_push)

-- a first line with its LF
pub first_line-ended : (bytes more : List ℕ) (end : ℕ) → bytes ≡ take end bytes ++ lf ∷ drop (end + 1) bytes → lacks_lf (take end bytes) ≡ true
    → first_line (bytes ++ more) ≡ take end bytes ++ lf ∷ []
first_line-ended bytes more end parts lacks = grind (arith, append_assoc, first_line-behind)

pub before-ended : (line : List ℕ) → length_before_lf (line ++ lf ∷ []) ≡ length line
before-ended line = grind (arith, cond-true, has_lf-ended, length_push)

-- a first line without LF is all
pub first_line-open : (bytes : List ℕ) → lacks_lf bytes ≡ true → first_line (bytes ++ []) ≡ bytes
first_line-open bytes lacks = first_line-behind bytes [] lacks ∙ append-nil bytes

pub before-open : (line : List ℕ) → lacks_lf line ≡ true → length_before_lf line ≡ length line
before-open line lacks = cond-false (has_lf line) _ _ (has_lf-open line lacks)

pub text-open : (line : List ℕ) → lacks_lf line ≡ true → text_of line ≡ line
text-open line lacks = text_of-open line (has_lf-open line lacks)

before-if : (q : Bool) (m n : ℕ) → m + 1 ≤ n → m ≤ (if q then n - 1 else n)
before-if q m n le = grind arith

-- a first line that begins with these bytes has no fewer before its LF
pub before-behind : (line more : List ℕ) → lacks_lf line ≡ true → length line ≤ length_before_lf (line ++ more)
before-behind line more lacks = grind (arith, common_steps, append-nil, before-open, before-if, length-append)

-- a first line that is longer than a limit
pub long-ended : (bytes more : List ℕ) (end limit : ℕ) → IsFirstLf bytes (Some end) → limit < end → limit < length_before_lf (first_line (bytes ++ more))
long-ended bytes more end limit found over = grind (arith, common_steps, first_line-ended, length-take-le, before-ended)

pub long-open : (bytes more : List ℕ) (limit : ℕ) → IsFirstLf bytes None → limit < length bytes → limit < length_before_lf (first_line (bytes ++ more))
long-open bytes more limit lacks over = grind (arith, first_line-behind, before-behind)
