-- The lines of a body are parts of it.
use Rattle.std.proofs.Common.{◌≡◌, ℕ, ◌+◌, ◌-◌, ◌≤◌, true, false, List, [], ◌∷◌, ◌++◌, length, take, drop, if◌then◌else◌, ◌∙◌, ap, subst, append_assoc, length-append, arith}
use Rattle.std.specs.Prelude.{All, map, nat_eq}
use Rattle.std.specs.List.{concat, ends_with}
use Rattle.std.proofs.lemmas.List.{length-take-le, take-append-le}
use Rattle.std.proofs.lemmas.List.Elements.{All-nil, All-cons}
use Rattle.std.proofs.Math.Seq.{take-length, drop-append_seam}
use Rattle.dump_io.specs.Lines.{lf, cr, raw_lines, text_of, lines_from}
use Rattle.dump_io.specs.Laws.Lines.{AreLines-raw}
use Rattle.field_lines.specs.Lines.{text_line, text_lines, IsPart}

-- ---- each line's text stands at its place
-- a text is a front of its raw line
record IsFront (raw text : List ℕ) : Type 0 where
  within : length text ≤ length raw
  front : take (length text) raw ≡ text

take-front : (n : ℕ) (raw : List ℕ) → n ≤ length raw → IsFront raw (take n raw)
take-front n raw fits =
    let len : length (take n raw) ≡ n = length-take-le n raw fits in
    record { within = omega (arith, len); front = ap (λ k. take k raw) len }

text_of-front : (raw : List ℕ) → IsFront raw (text_of raw)
text_of-front raw =
    elim (ends_with nat_eq raw (cr ∷ lf ∷ [])) as (λ b. IsFront raw (if b then take (length raw - 2) raw else (if ends_with nat_eq raw (lf ∷ []) then take (length raw - 1) raw else raw))) [
      | true ↦ take-front (length raw - 2) raw (omega arith)
      | false ↦ elim (ends_with nat_eq raw (lf ∷ [])) as (λ b. IsFront raw (if b then take (length raw - 1) raw else raw)) [
        | true ↦ take-front (length raw - 1) raw (omega arith)
        | false ↦ record { within = omega arith; front = take-length raw }
      ]
    ]

IsPart-front : (front raw rest : List ℕ) → IsPart (front ++ (raw ++ rest)) (record { at = length front; text = text_of raw })
IsPart-front front raw rest =
    let text = text_of raw in
    let is = text_of-front raw in
    let lens : length (front ++ (raw ++ rest)) ≡ length front + (length raw + length rest) = length-append front (raw ++ rest) ∙ ap (λ n. length front + n) (length-append raw rest) in
    let count : length front + length text - length front ≡ length text = omega arith in
    record {
      within = omega (arith, lens, is.within);
      stands = ap (λ n. take n (drop (length front) (front ++ (raw ++ rest)))) count
          ∙ ap (λ l. take (length text) l) (drop-append_seam front (raw ++ rest))
          ∙ take-append-le (length text) raw rest is.within
          ∙ is.front;
    }

parts_from : (front : List ℕ) (raws : List (List ℕ)) → All (IsPart (front ++ concat raws)) (map text_line (lines_from (length front) raws))
parts_from front [] = All-nil (IsPart (front ++ []))
parts_from front (raw ∷ raws) =
    let body = front ++ (raw ++ concat raws) in
    let next : All (IsPart (front ++ raw ++ concat raws)) (map text_line (lines_from (length (front ++ raw)) raws)) = parts_from (front ++ raw) raws in
    let same : All (IsPart body) (map text_line (lines_from (length (front ++ raw)) raws)) =
    subst (λ l. All (IsPart l) (map text_line (lines_from (length (front ++ raw)) raws))) (append_assoc front raw (concat raws)) next in
    let moved : All (IsPart body) (map text_line (lines_from (length front + length raw) raws)) =
    subst (λ n. All (IsPart body) (map text_line (lines_from n raws))) (length-append front raw) same in
    All-cons (IsPart body) (record { at = length front; text = text_of raw }) (map text_line (lines_from (length front + length raw) raws))
    (IsPart-front front raw (concat raws)) moved

pub parts : (body : List ℕ) → All (IsPart body) (text_lines body)
parts body = subst (λ b. All (IsPart b) (text_lines body)) (AreLines-raw body).together (parts_from [] (raw_lines body))
