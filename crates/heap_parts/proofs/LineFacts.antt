-- A line that is appended to whole lines gives one cell more, if it is a heap line; and the text of a line has no LF.
use Rattle.std.proofs.Common.{◌≡◌, ◌⊎◌, inl, inr, ℕ, suc, ◌+◌, ◌-◌, nat_eq, Bool, true, false, if◌then◌else◌, List, [], ◌∷◌, ◌++◌, length, take, drop, map, refl, sym, ◌∙◌, ap, append_assoc, length-append, arith, ◌<◌, ◌≤◌, get_or, get_or-take, slice_get, unwrap_or, subst, take-take, drop-cons, true≢false}
use Rattle.std.specs.Prelude.{◌≢◌, All}
use Rattle.std.specs.List.{filter_map, cons_option, ends_with}
use Rattle.std.specs.Option.{option_to_list}
use Rattle.std.proofs.lemmas.Bool.{cases_lt}
use Rattle.std.proofs.lemmas.List.{drop_all, length-take-le}
use Rattle.std.proofs.lemmas.List.Elements.{All-from_get_or, All-head, All-nil, All-tail, All-take, All-push, filter_map-append}
use Rattle.std.proofs.Math.Seq.{drop-append_seam, take-append_seam}
use Rattle.dump_io.specs.Laws.Lists.{filter_map-one}
use Rattle.dump_io.specs.Lines.{lf, cr, lines_after, raw_lines, lines_from, text_of, HasLfLast}
use Rattle.dump_io.specs.Laws.Lines.{AreLines-raw, raw_lines-inner}
use Rattle.body_lines.specs.Laws.{AreWhole-ended, AreWhole-then}
use Rattle.field_lines.specs.Lines.{text_line}
use Rattle.binary_payloads.specs.declared.enc.Enc.{Enc}
use Rattle.heap_cells.specs.Cells.{Cell, cell_of, line_cells}
use Rattle.body_lines.specs.Lines.{HasNoLf, AreWhole}
use Rattle.heap_parts.specs.Places.{first_raw, text_cell, ended_text}

-- ---- bytes and lines

-- bytes without an LF, and an LF, are one line
one-line : (front : List ℕ) → HasNoLf front → raw_lines (front ++ lf ∷ []) ≡ (front ++ lf ∷ []) ∷ []
one-line [] none = refl
one-line (c ∷ front) none =
    raw_lines-inner c (front ++ lf ∷ []) (All-head (λ b. b ≢ lf) c front none) ∙ ap (lines_after c) (one-line front (All-tail (λ b. b ≢ lf) c front none))

-- ---- the cells of lines, wherever they stand

-- the cells of the heap lines among raw lines
abbrev raw_cells : Enc → List (List ℕ) → List Cell
raw_cells enc raws = filter_map (λ raw. text_cell enc (text_of raw)) raws

cells-raw : (enc : Enc) (at : ℕ) (raws : List (List ℕ)) → filter_map (cell_of enc) (map text_line (lines_from at raws)) ≡ raw_cells enc raws
cells-raw enc at [] = refl
cells-raw enc at (raw ∷ raws) = ap (cons_option (text_cell enc (text_of raw))) (cells-raw enc (at + length raw) raws)

-- ---- the text of a line that is written

-- whatever it ends in, a text with CR and LF behind it has the same text
text-ended : (text : List ℕ) → text_of (text ++ cr ∷ lf ∷ []) ≡ text
text-ended text =
    let raw = text ++ cr ∷ lf ∷ [] in
    let count : length raw - 2 ≡ length text = omega (arith, length-append text (cr ∷ lf ∷ [])) in
    let end : drop (length raw - 2) raw ≡ cr ∷ lf ∷ [] = ap (λ n. drop n raw) count ∙ drop-append_seam text (cr ∷ lf ∷ []) in
    let ends : ends_with nat_eq raw (cr ∷ lf ∷ []) ≡ true = rw end refl in
    ap (λ b. if b then take (length raw - 2) raw else (if ends_with nat_eq raw (lf ∷ []) then take (length raw - 1) raw else raw)) ends
    ∙ ap (λ n. take n raw) count ∙ take-append_seam text (cr ∷ lf ∷ [])

no_lf-cr : (text : List ℕ) → HasNoLf text → HasNoLf (text ++ cr ∷ [])
no_lf-cr text none = All-push (λ c. c ≢ lf) text cr none (λ same. let no : 13 ≡ 10 = same in omega (arith, no))

-- ---- one more line

line-cells : (enc : Enc) (text : List ℕ) → HasNoLf text → raw_cells enc (raw_lines (text ++ cr ∷ lf ∷ [])) ≡ option_to_list (text_cell enc text)
line-cells enc text none =
    ap (λ bytes. raw_cells enc (raw_lines bytes)) (sym (append_assoc text (cr ∷ []) (lf ∷ [])))
    ∙ ap (raw_cells enc) (one-line (text ++ cr ∷ []) (no_lf-cr text none))
    ∙ filter_map-one (λ raw. text_cell enc (text_of raw)) ((text ++ cr ∷ []) ++ lf ∷ [])
    ∙ ap (λ raw. option_to_list (text_cell enc (text_of raw))) (append_assoc text (cr ∷ []) (lf ∷ []))
    ∙ ap (λ t. option_to_list (text_cell enc t)) (text-ended text)

pub cells-pushed : (enc : Enc) (lines text : List ℕ) → AreWhole lines → HasNoLf text
    → line_cells enc (lines ++ ended_text text) ≡ line_cells enc lines ++ option_to_list (text_cell enc text)
cells-pushed enc lines text whole no_lf =
    let line = ended_text text in
    cells-raw enc 0 (raw_lines (lines ++ line))
    ∙ ap (raw_cells enc) (whole.lines line)
    ∙ filter_map-append (λ raw. text_cell enc (text_of raw)) (raw_lines lines) (raw_lines line)
    ∙ ap (λ cells. cells ++ raw_cells enc (raw_lines line)) (sym (cells-raw enc 0 (raw_lines lines)))
    ∙ ap (λ cells. line_cells enc lines ++ cells) (line-cells enc text no_lf)

pub whole-pushed : (lines text : List ℕ) → AreWhole lines → AreWhole (lines ++ ended_text text)
whole-pushed lines text whole =
    AreWhole-then lines (ended_text text) whole
    (subst AreWhole (append_assoc text (cr ∷ []) (lf ∷ [])) (AreWhole-ended (text ++ cr ∷ [])))

-- ---- a text has no LF

-- a raw line that doesn't end in LF has none
whole-free : (raw : List ℕ) → HasLfLast raw → ends_with nat_eq raw (lf ∷ []) ≡ false → HasNoLf raw
whole-free raw inside unended = All-from_get_or (λ c. c ≢ lf) raw 0 (λ i l same. by i l same (cases_lt i (length raw - 1)))
  where
    by : (i : ℕ) → i < length raw → get_or raw i 0 ≡ lf → (i < length raw - 1) ⊎ (length raw - 1 ≤ i) → ⊥
    by i l same (inl before) = inside i 0 (omega (arith, before, length-take-le (length raw - 1) raw (omega (arith, l)))) (get_or-take (length raw - 1) raw i 0 before ∙ same)
    by i l same (inr last) =
        let here : length raw - 1 ≡ i = omega (arith, l, last) in
        let past : drop (suc i) raw ≡ [] = drop_all (suc i) raw (omega (arith, here, l)) in
        let rest : drop (length raw - 1) raw ≡ lf ∷ [] = ap (λ n. drop n raw) here ∙ drop-cons raw i 0 l ∙ ap (λ c. c ∷ drop (suc i) raw) same ∙ ap (λ m. lf ∷ m) past in
        let ends : ends_with nat_eq raw (lf ∷ []) ≡ true = rw rest refl in
        true≢false (sym ends ∙ unended)

text-free : (raw : List ℕ) → HasLfLast raw → HasNoLf (text_of raw)
text-free raw inside = by (ends_with nat_eq raw (cr ∷ lf ∷ [])) (ends_with nat_eq raw (lf ∷ [])) refl
  where
    by : (both one : Bool) → ends_with nat_eq raw (lf ∷ []) ≡ one → HasNoLf (if both then take (length raw - 2) raw else (if one then take (length raw - 1) raw else raw))
    by true one is = subst HasNoLf (take-take (length raw - 2) (length raw - 1) raw (omega arith)) (All-take (λ c. c ≢ lf) (length raw - 2) (take (length raw - 1) raw) inside)
    by false true is = inside
    by false false is = whole-free raw inside is

pub first-free : (bytes : List ℕ) → HasNoLf (text_of (first_raw bytes))
first-free bytes = by (raw_lines bytes) (AreLines-raw bytes).lf_last
  where
    by : (raws : List (List ℕ)) → All HasLfLast raws → HasNoLf (text_of (unwrap_or (slice_get raws 0) []))
    by [] all = All-nil (λ c. c ≢ lf)
    by (raw ∷ raws) all = text-free raw (All-head HasLfLast raw raws all)
