-- A text by the place of its last colon.
use Rattle.std.proofs.Common.{◌≡◌, ℕ, ◌<◌, ◌+◌, ◌-◌, ◌≤◌, true, false, not, List, length, take, drop, get_or, ◌∙◌, ap, arith}
use Rattle.std.specs.List.{before_last, after_last, suffix_len}
use Rattle.std.proofs.lemmas.Bool.{false_from_ne_true}
use Rattle.std.proofs.lemmas.List.Elements.{All-from_get_or}
use Rattle.std.proofs.lemmas.List.Folds.{list_any_none, list_any_at}
use Rattle.std.proofs.lemmas.List.Sums.{suffix_len_is}
use Rattle.memchr.specs.Find.{Passes, is_byte, Nowhere}
use Rattle.dump_io.specs.Colons.{is_colon, has_colon}

pub no_colon : (text : List ℕ) → Nowhere (Passes (is_byte 58) text) 0 (length text) → has_colon text ≡ false
no_colon text none = list_any_none is_colon text (All-from_get_or (λ c. is_colon c ≡ false) text 0 (λ i l. false_from_ne_true _ (none i (omega arith) l)))

-- a colon at this place and none behind it
pub last_colon : (text : List ℕ) (k : ℕ) → k < length text → Nowhere (Passes (is_byte 58) text) (k + 1) (length text) → Passes (is_byte 58) text k
    → (has_colon text ≡ true) × (before_last is_colon text ≡ take k text) × (after_last is_colon text ≡ drop (k + 1) text)
last_colon text k fits none here =
    let other : (j : ℕ) → k + 1 ≤ j → j < length text → not (is_colon (get_or text j 0)) ≡ true =
    λ j low high. ap not (false_from_ne_true (is_colon (get_or text j 0)) (none j low high)) in
    let place : k + 1 - 1 ≡ k = omega arith in
    let stop : 0 < k + 1 → not (is_colon (get_or text (k + 1 - 1) 0)) ≡ false = λ _. ap (λ j. not (is_colon (get_or text j 0))) place ∙ ap not here in
    let tail : suffix_len (λ c. not (is_colon c)) text ≡ length text - (k + 1) = suffix_len_is (λ c. not (is_colon c)) text (k + 1) 0 (omega (arith, fits)) other stop in
    let before : length text - suffix_len (λ c. not (is_colon c)) text - 1 ≡ k = omega (arith, tail, fits) in
    let behind : length text - suffix_len (λ c. not (is_colon c)) text ≡ k + 1 = omega (arith, tail, fits) in
    (list_any_at is_colon text k 0 fits here, ap (λ n. take n text) before, ap (λ n. drop n text) behind)
