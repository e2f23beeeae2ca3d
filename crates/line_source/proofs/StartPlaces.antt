-- Where headers begin within a part of the stream.
use Rattle.std.proofs.Common.{◌≡◌, ℕ, ◌+◌, ◌-◌, ◌≤◌, Bool, false, List, length, take, drop, get_or, length-drop, ◌∙◌, ap, subst, arith, ⊎_elim}
use Rattle.std.proofs.lemmas.Bool.{cases_lt, eq-eqb}
use Rattle.std.proofs.lemmas.List.{get_or-drop, take_rest}
use Rattle.memchr.specs.Find.{Nowhere, Passes, is_byte}
use Rattle.dump_io.specs.Lines.{equals_sign}
use Rattle.line_source.specs.Inner.Starts.{begins_line, BeginsHeader}

-- no equals sign stands in the m bytes from place `from` on
pub Nowhere-more : (begun : Bool) (bytes : List ℕ) (from m : ℕ) → Nowhere (BeginsHeader begun bytes) 0 from
    → Nowhere (Passes (is_byte equals_sign) (take (length bytes - from) (drop from bytes))) 0 m → Nowhere (BeginsHeader begun bytes) 0 (from + m)
Nowhere-more begun bytes from m first second k low high begins =
    ⊎_elim (λ below. first k low below begins)
    (λ above.
    let hay = take (length bytes - from) (drop from bytes) in
    let place : from + (k - from) ≡ k = omega (arith, above) in
    let read : get_or hay (k - from) 0 ≡ get_or bytes k 0 =
    ap (λ l. get_or l (k - from) 0) (take_rest bytes from) ∙ get_or-drop from bytes (k - from) 0 ∙ ap (λ j. get_or bytes j 0) place in
    second (k - from) (omega arith) (omega (arith, above, high)) (eq-eqb (get_or hay (k - from) 0) equals_sign (read ∙ begins.0)))
    (cases_lt k from)

-- the first equals sign
pub found-reads : (bytes : List ℕ) (from found : ℕ) → Passes (is_byte equals_sign) (take (length bytes - from) (drop from bytes)) found
    → get_or bytes (from + found) 0 ≡ equals_sign
found-reads bytes from found passes = grind (arith, take_rest, get_or-drop)

-- it begins no line
pub Nowhere-past : (begun : Bool) (bytes : List ℕ) (n : ℕ) → Nowhere (BeginsHeader begun bytes) 0 n → begins_line begun bytes n ≡ false
    → Nowhere (BeginsHeader begun bytes) 0 (n + 1)
Nowhere-past begun bytes n first other k low high begins = grind arith

-- a part of the bytes to their end
pub length-rest : (bytes : List ℕ) (from : ℕ) → length (take (length bytes - from) (drop from bytes)) ≡ length bytes - from
length-rest bytes from = ap length (take_rest bytes from) ∙ length-drop from bytes

pub Nowhere-end : (begun : Bool) (bytes : List ℕ) (from : ℕ) → from ≤ length bytes → Nowhere (BeginsHeader begun bytes) 0 from
    → Nowhere (Passes (is_byte equals_sign) (take (length bytes - from) (drop from bytes))) 0 (length (take (length bytes - from) (drop from bytes)))
    → Nowhere (BeginsHeader begun bytes) 0 (length bytes)
Nowhere-end begun bytes from fits first second =
    let whole : from + length (take (length bytes - from) (drop from bytes)) ≡ length bytes = omega (arith, length-rest bytes from) in
    subst (λ n. Nowhere (BeginsHeader begun bytes) 0 n) whole (Nowhere-more begun bytes from (length (take (length bytes - from) (drop from bytes))) first second)
