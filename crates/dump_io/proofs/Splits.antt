-- A text by the place of its first colon.
use Rattle.std.proofs.Common.{◌≡◌, ℕ, ◌<◌, ◌+◌, true, false, List, length, take, drop, ◌∙◌, ap, arith}
use Rattle.std.specs.List.{position_or_len}
use Rattle.std.proofs.lemmas.Bool.{false_from_ne_true}
use Rattle.std.proofs.lemmas.List.{take_all}
use Rattle.std.proofs.lemmas.List.Elements.{All-from_get_or}
use Rattle.std.proofs.lemmas.List.Folds.{list_any_none, list_any_at}
use Rattle.std.proofs.lemmas.List.Sums.{position_or_len_is}
use Rattle.memchr.specs.Find.{Passes, is_byte, Nowhere}
use Rattle.dump_io.specs.Colons.{is_colon, has_colon, before_colon, after_colon}

-- no colon
pub has_colon-none : (text : List ℕ) → Nowhere (Passes (is_byte 58) text) 0 (length text) → (has_colon text ≡ false) × (before_colon text ≡ text)
has_colon-none text none =
    let place : position_or_len is_colon text ≡ length text =
    position_or_len_is is_colon text (length text) 0 (omega arith) (λ i l. false_from_ne_true _ (none i (omega arith) l)) (λ lt. absurd (omega (arith, lt))) in (
      list_any_none is_colon text (All-from_get_or (λ c. is_colon c ≡ false) text 0 (λ i l. false_from_ne_true _ (none i (omega arith) l))),
      ap (λ n. take n text) place ∙ take_all (length text) text (omega arith),
    )

-- a colon at this place and none before it
pub has_colon-at : (text : List ℕ) (k : ℕ) → k < length text → Nowhere (Passes (is_byte 58) text) 0 k → Passes (is_byte 58) text k
    → (has_colon text ≡ true) × (before_colon text ≡ take k text) × (after_colon text ≡ drop (k + 1) text)
has_colon-at text k fits none here = grind (arith, position_or_len_is, false_from_ne_true, list_any_at)
