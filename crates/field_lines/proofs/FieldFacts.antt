-- A field by the place of its colon, and the place of a value.
use Rattle.std.proofs.Common.{◌≡◌, ℕ, ◌+◌, ◌-◌, ◌≤◌, ◌==◌, true, false, List, [], ◌∷◌, length, take, drop, None, Some, if◌then◌else◌, refl, sym, ◌∙◌, ap, subst, length-drop, drop_of_length-le, ⊎_elim, arith}
use Rattle.std.specs.Prelude.{unwrap_or, find, cond, slice_range}
use Rattle.std.specs.List.{position_or_len}
use Rattle.std.proofs.lemmas.Bool.{cases_lt}
use Rattle.std.proofs.lemmas.List.{drop-drop, drop-take}
use Rattle.std.proofs.Math.Seq.{drop-length}
use Rattle.dump_io.specs.Colons.{is_colon}
use Rattle.field_lines.specs.Fields.{space_byte, without_space, value_of, has_key, place_of}
use Rattle.field_lines.specs.Lines.{TextLine, IsPart}
use Rattle.field_lines.specs.declared.shapes.FieldAt.{FieldAt}

-- ---- a value ends its text
pub record IsEnd (text value : List ℕ) : Type 0 where
  pub within : length value ≤ length text
  pub ends : drop (length text - length value) text ≡ value

IsEnd-drop : (n : ℕ) (text : List ℕ) → n ≤ length text → IsEnd text (drop n text)
IsEnd-drop n text fits =
    let len : length (drop n text) ≡ length text - n = length-drop n text in
    let count : length text - length (drop n text) ≡ n = omega (arith, len) in
    record { within = omega (arith, len); ends = ap (λ k. drop k text) count }

IsEnd-past : (n : ℕ) (text : List ℕ) → length text ≤ n → IsEnd text (drop n text)
IsEnd-past n text past =
    let none : drop n text ≡ [] = drop_of_length-le text past in
    let all : length text - length {A = ℕ} [] ≡ length text = omega arith in
    record {
      within = subst (λ l. length l ≤ length text) (sym none) (omega arith);
      ends = ap (λ l. drop (length text - length l) text) none ∙ ap (λ n. drop n text) all ∙ drop-length text ∙ sym none;
    }

IsEnd-then : (a b c : List ℕ) → IsEnd a b → IsEnd b c → IsEnd a c
IsEnd-then a b c first next =
    let count : length a - length c ≡ (length a - length b) + (length b - length c) = omega (arith, first.within, next.within) in
    record {
      within = omega (arith, first.within, next.within);
      ends = ap (λ n. drop n a) count ∙ sym (drop-drop (length b - length c) (length a - length b) a) ∙ ap (drop (length b - length c)) first.ends ∙ next.ends;
    }

IsEnd-without_space : (bytes : List ℕ) → IsEnd bytes (without_space bytes)
IsEnd-without_space [] = record { within = omega arith; ends = refl }
IsEnd-without_space (c ∷ bytes) =
    elim (c == space_byte) as (λ b. IsEnd (c ∷ bytes) (if b then bytes else c ∷ bytes)) [
      | true ↦ (let one : length (c ∷ bytes) - length bytes ≡ 1 = omega arith in
          record { within = omega arith; ends = ap (λ n. drop n (c ∷ bytes)) one })
      | false ↦ (let zero : length (c ∷ bytes) - length (c ∷ bytes) ≡ 0 = omega arith in
          record { within = omega arith; ends = ap (λ n. drop n (c ∷ bytes)) zero })
    ]

pub IsEnd-value : (text : List ℕ) → IsEnd text (value_of text)
IsEnd-value text =
    let n = position_or_len is_colon text + 1 in
    IsEnd-then text (drop n text) (value_of text)
    (⊎_elim (λ l. IsEnd-past n text (omega (arith, l))) (λ l. IsEnd-drop n text l) (cases_lt (length text) n))
    (IsEnd-without_space (drop n text))

-- ---- a field's first colon stands after its key
-- ---- the place of a value in its body
pub place-found : (key : List ℕ) (line : TextLine) (field : FieldAt) → Some field ≡ (if has_key key line then Some (place_of line) else None)
    → (has_key key line ≡ true) × (field ≡ place_of line)
place-found key line field =
    elim (has_key key line) as (λ b. Some field ≡ (if b then Some (place_of line) else None) → (b ≡ true) × (field ≡ place_of line)) [
      | true ↦ λ e. (refl, ap (λ o. unwrap_or o field) e)
      | false ↦ λ e. absurd (cc e)
    ]

pub place-missed : (key : List ℕ) (line : TextLine) → None ≡ (if has_key key line then Some (place_of line) else None) → has_key key line ≡ false
place-missed key line =
    elim (has_key key line) as (λ b. None ≡ (if b then Some (place_of line) else None) → b ≡ false) [
      | true ↦ λ e. absurd (cc e)
      | false ↦ λ e. refl
    ]

-- in front of the lines that are left stands a line that has the key, or one that hasn't
pub find-here : (key : List ℕ) (line : TextLine) (left rest : List TextLine) → left ≡ line ∷ rest → has_key key line ≡ true → find (has_key key) left ≡ Some line
find-here key line left rest e has = ap (find (has_key key)) e ∙ ap (λ b. cond b (Some line) (find (has_key key) rest)) has

pub find-later : (key : List ℕ) (line : TextLine) (left rest : List TextLine) → left ≡ line ∷ rest → has_key key line ≡ false → find (has_key key) left ≡ find (has_key key) rest
find-later key line left rest e has = ap (find (has_key key)) e ∙ ap (λ b. cond b (Some line) (find (has_key key) rest)) has

-- a part of a body whose text ends in a value has the value at its place
pub IsWithin-place : (body : List ℕ) (line : TextLine) → IsPart body line
    → ((place_of line).at ≤ (place_of line).from) × ((place_of line).from ≤ (place_of line).upto) × ((place_of line).upto ≤ length body)
IsWithin-place body line part =
    let value = (IsEnd-value line.text).within in
    (omega (arith, value), omega arith, part.within)

pub slice-place : (body : List ℕ) (line : TextLine) → IsPart body line → slice_range body (place_of line).from (place_of line).upto ≡ value_of line.text
slice-place body line part =
    let text = line.text in
    let value = value_of text in
    let is = IsEnd-value text in
    let skipped : (place_of line).from ≡ line.at + (length text - length value) = omega (arith, is.within) in
    let size : (place_of line).upto - (place_of line).from ≡ length value = omega (arith, is.within) in
    let whole : take (length text) (drop line.at body) ≡ text = ap (λ n. take n (drop line.at body)) (sum-less line.at (length text)) ∙ part.stands in
    let split : length text - length value + length value ≡ length text = omega (arith, is.within) in
    ap (λ n. take n (drop (place_of line).from body)) size
    ∙ ap (λ n. take (length value) (drop n body)) skipped
    ∙ ap (take (length value)) (sym (drop-drop (length text - length value) line.at body))
    ∙ sym (drop-take (length text - length value) (length value) (drop line.at body))
    ∙ ap (λ n. drop (length text - length value) (take n (drop line.at body))) split
    ∙ ap (drop (length text - length value)) whole
    ∙ is.ends
  where
    sum-less : (m n : ℕ) → n ≡ m + n - m
    sum-less m n = omega arith
