-- The lines of the cells of a heap: what is known by them of its tuples and lists.
use Rattle.std.proofs.Common.{◌≡◌, ◌⊎◌, inl, inr, ℕ, suc, ◌+◌, ◌-◌, ◌<◌, ◌≤◌, ◌==◌, Bool, true, false, if◌then◌else◌, List, [], ◌∷◌, ◌++◌, length, drop, map, Option, None, Some, refl, sym, ◌∙◌, ap, ap₂, subst, arith}
use Rattle.std.specs.Prelude.{All}
use Rattle.std.specs.List.{cons_option, filter_map, list_any}
use Rattle.std.specs.Option.{option_and_then, option_map}
use Rattle.std.proofs.lemmas.Bool.{cases_lt}
use Rattle.std.proofs.lemmas.List.Elements.{All-head, All-tail}
use Rattle.binary_payloads.specs.declared.enc.Enc.{Enc}
use Rattle.dump_io.specs.Lines.{Line, lines_from, text_of}
use Rattle.field_lines.specs.Lines.{text_line}
use Rattle.heap_cells.specs.Cells.{Cell, cell_of, first_cells, kind_of, spelled_cell}
use Rattle.heap_cells.specs.Places.{placed_line}
use Rattle.heap_skeleton.specs.Skeletons.{SkeletonMap, first_places}
use Rattle.term_forms.specs.Forms.{HeapForm, Cons, Tuple}
use Rattle.term_forms.specs.ReadingForms.{form_of}
use Rattle.term_forms.specs.Words.{led_of}
use Rattle.tuple_fronts.specs.Fronts.{listed}
use Rattle.tuple_fronts.specs.Inner.Hearing.{is_listed, is_listed_kind, known_elements, known_of, left_behind, line_of, listed_elements}
use Rattle.tuple_fronts.proofs.RunFacts.{left-line, left-none, taken-line}

known-form : (enc : Enc) (form : Option HeapForm) (raw : List ℕ) (led : ℕ × List ℕ) → led_of (text_of raw) ≡ Some led → form_of enc led.1 ≡ form
    → known_elements enc (is_listed_kind (option_map kind_of form)) raw ≡ Some (listed form)
known-form enc None raw led is form_is = refl
known-form enc (Some (Tuple es)) raw led is form_is =
    ap (λ o. option_and_then (λ (led : ℕ × List ℕ). listed_elements (form_of enc led.1)) o) is ∙ ap listed_elements form_is
known-form enc (Some (Cons head tail)) raw led is form_is =
    ap (λ o. option_and_then (λ (led : ℕ × List ℕ). listed_elements (form_of enc led.1)) o) is ∙ ap listed_elements form_is
known-form enc (Some form) raw led is form_is = refl

-- ---- the cells of lines and where these begin

abbrev pub cells_from : Enc → ℕ → List (List ℕ) → List Cell
cells_from enc at raws = filter_map (cell_of enc) (map text_line (lines_from at raws))

abbrev pub places_from : ℕ → ℕ → List (List ℕ) → List (ℕ × ℕ)
places_from base at raws = filter_map (placed_line base) (map text_line (lines_from at raws))

-- these are the lines and forms of the cells from a number on
abbrev pub AreAt : SkeletonMap → (ℕ → Option HeapForm) → ℕ → List Cell → List ℕ → Type 0
AreAt s form number [] [] = Unit {0}
AreAt s form number (cell ∷ cells) (line ∷ lines) = (line_of s number ≡ line) × (form number ≡ cell.form) × AreAt s form (suc number) cells lines
AreAt s form number cells lines = ⊥

-- no line begins before an offset
abbrev AllFrom : ℕ → List ℕ → Type 0
AllFrom bound [] = Unit {0}
AllFrom bound (line ∷ lines) = (bound ≤ line) × AllFrom bound lines

-- numbers that ascend, from one on and below another
abbrev pub IsWithin : ℕ → ℕ → List ℕ → Type 0
IsWithin from end [] = Unit {0}
IsWithin from end (n ∷ ns) = (from ≤ n) × (n < end) × IsWithin (suc n) end ns

places-bound : (bound base at : ℕ) (seen : List ℕ) (raws : List (List ℕ)) → bound ≤ base + at → AllFrom bound (first_places seen (places_from base at raws))
places-bound bound base at seen [] low = tt
places-bound bound base at seen (raw ∷ raws) low =
    by (λ seen. places-bound bound base (at + length raw) seen raws (omega (arith, low))) (led_of (text_of raw))
  where
    by : ((seen : List ℕ) → AllFrom bound (first_places seen (places_from base (at + length raw) raws))) → (led : Option (ℕ × List ℕ))
        → AllFrom bound (first_places seen (cons_option (option_map (λ led. (led.0, base + at)) led) (places_from base (at + length raw) raws)))
    by later None = later seen
    by later (Some led) =
        elim (list_any (λ address. address == led.0) seen) as (λ b. AllFrom bound (if b then first_places (seen ++ led.0 ∷ []) (places_from base (at + length raw) raws)
        else (base + at) ∷ first_places (seen ++ led.0 ∷ []) (places_from base (at + length raw) raws))) [
          | true ↦ later (seen ++ led.0 ∷ [])
          | false ↦ (low, later (seen ++ led.0 ∷ []))
        ]

line-bound : (s : SkeletonMap) (form : ℕ → Option HeapForm) (number : ℕ) (cells : List Cell) (lines : List ℕ) (bound n : ℕ) → AreAt s form number cells lines → AllFrom bound lines → number ≤ n
    → n < number + length cells → bound ≤ line_of s n
line-bound s form number [] lines bound n are low from upto = absurd (omega (arith, from, upto))
line-bound s form number (cell ∷ cells) [] bound n are low from upto = absurd are
line-bound s form number (cell ∷ cells) (line ∷ lines) bound n are low from upto = by (cases_lt number n) (line-bound s form (suc number) cells lines bound n are.2 low.1)
  where
    by : (number < n) ⊎ (n ≤ number) → (suc number ≤ n → n < suc number + length cells → bound ≤ line_of s n) → bound ≤ line_of s n
    by (inl less) later = later (omega (arith, less)) (omega (arith, upto))
    by (inr most) later =
        let here : n ≡ number = omega (arith, most, from) in
        let at : line_of s n ≡ line = ap (line_of s) here ∙ are.0 in
        omega (arith, low.0, at)

-- ---- what is found by lines

-- all these cells are found by lines, and of each what its form has is known
pub record AreFound (s : SkeletonMap) (enc : Enc) (form : ℕ → Option HeapForm) (lines : List Line) (numbers : List ℕ) : Type 0 where
  pub left : left_behind s lines numbers ≡ []
  pub known : known_of s enc lines numbers ≡ map (λ n. Some (listed (form n))) numbers

found-none : (s : SkeletonMap) (enc : Enc) (form : ℕ → Option HeapForm) (lines : List Line) → AreFound s enc form lines []
found-none s enc form lines = let none = left-none s enc lines in record { left = none.0; known = none.1 }

found-skip : (s : SkeletonMap) (enc : Enc) (form : ℕ → Option HeapForm) (at : ℕ) (raw : List ℕ) (lines : List Line) (n : ℕ) (numbers : List ℕ) → at + length raw ≤ line_of s n
    → AreFound s enc form lines (n ∷ numbers) → AreFound s enc form (record { at = at; raw = raw } ∷ lines) (n ∷ numbers)
found-skip s enc form at raw lines n numbers behind found =
    let left = left-line s enc at raw n numbers behind in
    record {
      left = ap (left_behind s lines) left.0 ∙ found.left;
      known = ap₂ (λ k l. k ++ known_of s enc lines l) left.1 left.0 ∙ found.known;
    }

found-take : (s : SkeletonMap) (enc : Enc) (form : ℕ → Option HeapForm) (at : ℕ) (raw : List ℕ) (lines : List Line) (n : ℕ) (numbers : List ℕ) → line_of s n ≡ at → 0 < length raw
    → known_elements enc (is_listed s n) raw ≡ Some (listed (form n)) → AreFound s enc form lines numbers → AreFound s enc form (record { at = at; raw = raw } ∷ lines) (n ∷ numbers)
found-take s enc form at raw lines n numbers here some known found =
    let took = taken-line s enc at raw n numbers (omega (arith, here, some)) in
    let start : line_of s n - at ≡ 0 = omega (arith, here) in
    record {
      left = ap (left_behind s lines) took.0 ∙ found.left;
      known =
          ap₂ (λ k l. k ++ known_of s enc lines l) took.1 took.0
          ∙ ap₂ (λ k l. k ∷ l) (ap (λ k. known_elements enc (is_listed s n) (drop k raw)) start ∙ known) found.known;
    }

-- the cells of lines are found by them: of those with the same address the first
pub section-found : (s : SkeletonMap) (enc : Enc) (form : ℕ → Option HeapForm) (base at line : ℕ) (seen : List ℕ) (raws : List (List ℕ)) (number end : ℕ) (numbers : List ℕ)
    → ((n : ℕ) → is_listed s n ≡ is_listed_kind (option_map kind_of (form n))) → line ≡ base + at → All (λ raw. 0 < length raw) raws
    → AreAt s form number (first_cells seen (cells_from enc at raws)) (first_places seen (places_from base at raws)) → end ≡ number + length (first_cells seen (cells_from enc at raws))
    → IsWithin number end numbers → AreFound s enc form (lines_from line raws) numbers
section-found s enc form base at line seen raws number end [] tuples line_is some are end_is within = found-none s enc form (lines_from line raws)
section-found s enc form base at line seen [] number end (n ∷ numbers) tuples line_is some are end_is within = absurd (omega (arith, within.0, within.1, end_is))
section-found s enc form base at line seen (raw ∷ raws) number end (n ∷ numbers) tuples line_is some are end_is within =
    by (led_of (text_of raw)) refl are end_is
    (λ seen number numbers are end_is within. section-found s enc form base (at + length raw) (line + length raw) seen raws number end numbers tuples (omega (arith, line_is))
    (All-tail (λ l. 0 < length l) raw raws some) are end_is within)
  where
    by : (led : Option (ℕ × List ℕ)) → led_of (text_of raw) ≡ led
        → AreAt s form number (first_cells seen (cons_option (option_map (spelled_cell enc) led) (cells_from enc (at + length raw) raws)))
        (first_places seen (cons_option (option_map (λ led. (led.0, base + at)) led) (places_from base (at + length raw) raws)))
        → end ≡ number + length (first_cells seen (cons_option (option_map (spelled_cell enc) led) (cells_from enc (at + length raw) raws)))
        → ((seen : List ℕ) (number : ℕ) (numbers : List ℕ) → AreAt s form number (first_cells seen (cells_from enc (at + length raw) raws)) (first_places seen (places_from base (at + length raw) raws))
        → end ≡ number + length (first_cells seen (cells_from enc (at + length raw) raws)) → IsWithin number end numbers → AreFound s enc form (lines_from (line + length raw) raws) numbers)
        → AreFound s enc form (lines_from line (raw ∷ raws)) (n ∷ numbers)
    by None is are end_is later =
        let bound = places-bound (line + length raw) base (at + length raw) seen raws (omega (arith, line_is)) in
        let behind = line-bound s form number (first_cells seen (cells_from enc (at + length raw) raws)) (first_places seen (places_from base (at + length raw) raws)) (line + length raw) n are bound within.0
        (omega (arith, within.1, end_is)) in
        found-skip s enc form line raw (lines_from (line + length raw) raws) n numbers behind (later seen number (n ∷ numbers) are end_is within)
    by (Some led) is are end_is later = if-seen (list_any (λ address. address == led.0) seen) are end_is
      where
        if-seen : (b : Bool)
            → AreAt s form number (if b then first_cells (seen ++ led.0 ∷ []) (cells_from enc (at + length raw) raws) else spelled_cell enc led ∷ first_cells (seen ++ led.0 ∷ []) (cells_from enc (at + length raw) raws))
            (if b then first_places (seen ++ led.0 ∷ []) (places_from base (at + length raw) raws) else (base + at) ∷ first_places (seen ++ led.0 ∷ []) (places_from base (at + length raw) raws))
            → end ≡ number + length (if b then first_cells (seen ++ led.0 ∷ []) (cells_from enc (at + length raw) raws) else spelled_cell enc led ∷ first_cells (seen ++ led.0 ∷ []) (cells_from enc (at + length raw) raws))
            → AreFound s enc form (lines_from line (raw ∷ raws)) (n ∷ numbers)
        if-seen true are end_is =
            let bound = places-bound (line + length raw) base (at + length raw) (seen ++ led.0 ∷ []) raws (omega (arith, line_is)) in
            let behind = line-bound s form number (first_cells (seen ++ led.0 ∷ []) (cells_from enc (at + length raw) raws)) (first_places (seen ++ led.0 ∷ []) (places_from base (at + length raw) raws)) (line + length raw) n are bound within.0
            (omega (arith, within.1, end_is)) in
            found-skip s enc form line raw (lines_from (line + length raw) raws) n numbers behind (later (seen ++ led.0 ∷ []) number (n ∷ numbers) are end_is within)
        if-seen false are end_is = by-number (cases_lt number n)
          where
            by-number : (number < n) ⊎ (n ≤ number) → AreFound s enc form (lines_from line (raw ∷ raws)) (n ∷ numbers)
            by-number (inl less) =
                let bound = places-bound (line + length raw) base (at + length raw) (seen ++ led.0 ∷ []) raws (omega (arith, line_is)) in
                let behind = line-bound s form (suc number) (first_cells (seen ++ led.0 ∷ []) (cells_from enc (at + length raw) raws)) (first_places (seen ++ led.0 ∷ []) (places_from base (at + length raw) raws)) (line + length raw) n are.2 bound (omega (arith, less))
                (omega (arith, within.1, end_is)) in
                found-skip s enc form line raw (lines_from (line + length raw) raws) n numbers behind
                (later (seen ++ led.0 ∷ []) (suc number) (n ∷ numbers) are.2 (omega (arith, end_is)) (omega (arith, less), within.1, within.2))
            by-number (inr most) =
                let here : n ≡ number = omega (arith, most, within.0) in
                let at_line : line_of s n ≡ line = ap (line_of s) here ∙ are.0 ∙ sym line_is in
                let form_is : form n ≡ form_of enc led.1 = ap form here ∙ are.1 in
                let known : known_elements enc (is_listed s n) raw ≡ Some (listed (form n)) =
                ap (λ b. known_elements enc b raw) (tuples n) ∙ known-form enc (form n) raw led is (sym form_is) in
                let next : suc n ≡ suc number = ap suc here in
                found-take s enc form line raw (lines_from (line + length raw) raws) n numbers at_line (All-head (λ l. 0 < length l) raw raws some) known
                (later (seen ++ led.0 ∷ []) (suc number) numbers are.2 (omega (arith, end_is)) (subst (λ k. IsWithin k end numbers) next within.2))
