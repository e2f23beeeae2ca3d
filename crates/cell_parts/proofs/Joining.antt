-- The parts of a list of elements to which one more is added.
use Rattle.std.proofs.Common.{◌≡◌, ℕ, zero, suc, ◌+◌, ◌≤◌, ◌==◌, ◌||◌, Bool, true, false, List, [], ◌∷◌, ◌++◌, length, map, take, Option, None, Some, refl, sym, ◌∙◌, ap, subst, inl, inr, arith, length-append, append-nil}
use Rattle.std.specs.Prelude.{filter, if◌then◌else◌}
use Rattle.std.specs.List.{cons_option, enumerate_from, filter_map, list_any}
use Rattle.std.specs.Option.{option_and_then, option_map, option_map_or}
use Rattle.std.proofs.lemmas.Bool.{cases_eq, eq-eqb, eqb-true, ne_eqb, or_parts}
use Rattle.std.proofs.lemmas.List.{take-append-le}
use Rattle.std.proofs.lemmas.List.Elements.{filter-append, filter_map-append}
use Rattle.std.proofs.lemmas.List.Folds.{list_any-append}
use Rattle.std.proofs.lemmas.Option.{none-some, same_Some}
use Rattle.std.proofs.Math.Bool.{or_assoc, or-true}
use Rattle.std.proofs.Math.Seq.{take-append_seam}
use Rattle.dump_io.specs.Laws.Lists.{enumerate-push}
use Rattle.cell_parts.specs.Parts.{ArePartsOf, CellPart, CellParts, PartElement, is_for, part_at, parts_made}
use Rattle.cell_parts.proofs.Keeping.{counted-none}
use Rattle.cell_parts.specs.Inner.Joining.{cell_at, counted, is_of, joined, part_alone, with_element}

-- the part, with one element more if that leads to it
abbrev counted_by : Option ℕ → CellPart → CellPart
counted_by None part = part
counted_by (Some cell) part = counted cell part

abbrev part_with : ℕ → ℕ → PartElement → CellPart
part_with cell elements x = record { cell = cell; elements = elements; at = x.at; label = x.label }

swap : (a b : ℕ) → (a == b) ≡ (b == a)
swap a b = elim (cases_eq a b) [
  | inl same ↦ eq-eqb a b same ∙ sym (eq-eqb b a (sym same))
  | inr other ↦ ne_eqb a b other ∙ sym (ne_eqb b a (λ same. other (sym same)))
]

-- ---- the elements of a part

count-more : (es : List PartElement) (e : PartElement) (d : ℕ) (x : PartElement)
    → part_with d (length (filter (is_for d) (es ++ e ∷ []))) x ≡ counted_by e.lead (part_with d (length (filter (is_for d) es)) x)
count-more es e d x =
    ap (λ n. part_with d n x) (ap length (filter-append (is_for d) es (e ∷ [])) ∙ length-append (filter (is_for d) es) (filter (is_for d) (e ∷ [])))
    ∙ by e.lead
  where
    n : ℕ
    n = length (filter (is_for d) es)

    one : (b : Bool) (cell : ℕ) → (d == cell) ≡ b → part_with d (n + length (if b then e ∷ [] else [])) x ≡ counted cell (part_with d n x)
    one true cell is = ap (λ c. if c then part_with d (n + 1) x else part_with d n x) (sym is)
    one false cell is =
        let none : n + 0 ≡ n = omega arith in
        ap (λ k. part_with d k x) none ∙ ap (λ c. if c then part_with d (n + 1) x else part_with d n x) (sym is)

    by : (o : Option ℕ) → part_with d (n + length (if option_map_or (λ m. m == d) o false then e ∷ [] else [])) x ≡ counted_by o (part_with d n x)
    by None = let none : n + 0 ≡ n = omega arith in ap (λ k. part_with d k x) none
    by (Some cell) = one (cell == d) cell (swap d cell)

-- an element that stood there before makes the same part, or counts one more
part-more : (es : List PartElement) (e : PartElement) (i : ℕ) (x : PartElement) → i ≤ length es
    → part_at (es ++ e ∷ []) (i, x) ≡ option_map (counted_by e.lead) (part_at es (i, x))
part-more es e i x within = by x.lead
  where
    told : (d : ℕ) (b : Bool) → (if b then None else Some (part_with d (length (filter (is_for d) (es ++ e ∷ []))) x))
        ≡ option_map (counted_by e.lead) (if b then None else Some (part_with d (length (filter (is_for d) es)) x))
    told d true = refl
    told d false = ap Some (count-more es e d x)

    by : (o : Option ℕ)
        → option_and_then (λ d. if list_any (is_for d) (take i (es ++ e ∷ [])) then None else Some (part_with d (length (filter (is_for d) (es ++ e ∷ []))) x)) o
        ≡ option_map (counted_by e.lead) (option_and_then (λ d. if list_any (is_for d) (take i es) then None else Some (part_with d (length (filter (is_for d) es)) x)) o)
    by None = refl
    by (Some d) =
        ap (λ xs. if list_any (is_for d) xs then None else Some (part_with d (length (filter (is_for d) (es ++ e ∷ []))) x)) (take-append-le i es (e ∷ []) within)
        ∙ told d (list_any (is_for d) (take i es))

cons-map : (f : CellPart → CellPart) (o : Option CellPart) (parts : List CellPart) → cons_option (option_map f o) (map f parts) ≡ map f (cons_option o parts)
cons-map f None parts = refl
cons-map f (Some part) parts = refl

parts-before : (es : List PartElement) (e : PartElement) (n : ℕ) (xs : List PartElement) → n + length xs ≤ length es
    → filter_map (part_at (es ++ e ∷ [])) (enumerate_from n xs) ≡ map (counted_by e.lead) (filter_map (part_at es) (enumerate_from n xs))
parts-before es e n [] within = refl
parts-before es e n (x ∷ xs) within =
    ap (λ o. cons_option o (filter_map (part_at (es ++ e ∷ [])) (enumerate_from (n + 1) xs))) (part-more es e n x (omega (arith, within)))
    ∙ ap (cons_option (option_map (counted_by e.lead) (part_at es (n, x)))) (parts-before es e (n + 1) xs (omega (arith, within)))
    ∙ cons-map (counted_by e.lead) (part_at es (n, x)) (filter_map (part_at es) (enumerate_from (n + 1) xs))

-- ---- a part has the cell if an element leads there

or-none : (a : Bool) → (a || false) ≡ a
or-none true = refl
or-none false = refl

any-from : (c : ℕ) (all pre xs : List PartElement) → all ≡ pre ++ xs
    → (list_any (is_for c) pre || list_any (is_of c) (filter_map (part_at all) (enumerate_from (length pre) xs))) ≡ list_any (is_for c) all
any-from c all pre [] is = or-none (list_any (is_for c) pre) ∙ ap (list_any (is_for c)) (sym (append-nil pre) ∙ sym is)
any-from c all pre (x ∷ xs) is =
    by x.lead refl
    ∙ ap (λ b. b || list_any (is_of c) rest) (ap (λ b. list_any (is_for c) pre || b) (sym (or-none (is_for c x))) ∙ sym (list_any-append (is_for c) pre (x ∷ [])))
    ∙ ap (λ n. list_any (is_for c) (pre ++ x ∷ []) || list_any (is_of c) (filter_map (part_at all) (enumerate_from n xs))) (sym (length-append pre (x ∷ [])))
    ∙ any-from c all (pre ++ x ∷ []) xs (is ∙ split pre)
  where
    split : (ps : List PartElement) → ps ++ (x ∷ xs) ≡ (ps ++ x ∷ []) ++ xs
    split [] = refl
    split (p ∷ ps) = ap (λ l. p ∷ l) (split ps)

    rest : List CellPart
    rest = filter_map (part_at all) (enumerate_from (length pre + 1) xs)

    before : take (length pre) all ≡ pre
    before = ap (take (length pre)) is ∙ take-append_seam pre (x ∷ xs)

    -- a part that was there before has the cell too, if the element leads there
    again : (d : ℕ) (b r : Bool) → (d == c) ≡ b → list_any (is_for d) pre ≡ true → (list_any (is_for c) pre || r) ≡ ((list_any (is_for c) pre || b) || r)
    again d true r same there =
        let here : list_any (is_for c) pre ≡ true = subst (λ k. list_any (is_for k) pre ≡ true) (eqb-true d c same) there in
        ap (λ a. a || r) here ∙ sym (ap (λ a. (a || true) || r) here)
    again d false r same there = ap (λ a. a || r) (sym (or-none (list_any (is_for c) pre)))

    told : (d : ℕ) (b : Bool) → list_any (is_for d) pre ≡ b
        → (list_any (is_for c) pre || list_any (is_of c) (cons_option (if b then None else Some (part_with d (length (filter (is_for d) all)) x)) rest))
        ≡ ((list_any (is_for c) pre || (d == c)) || list_any (is_of c) rest)
    told d true there = again d (d == c) (list_any (is_of c) rest) refl there
    told d false there = sym (or_assoc (list_any (is_for c) pre) (d == c) (list_any (is_of c) rest))

    by : (o : Option ℕ) → x.lead ≡ o
        → (list_any (is_for c) pre || list_any (is_of c) (cons_option
        (option_and_then (λ d. if list_any (is_for d) (take (length pre) all) then None else Some (part_with d (length (filter (is_for d) all)) x)) o) rest))
        ≡ ((list_any (is_for c) pre || option_map_or (λ m. m == c) o false) || list_any (is_of c) rest)
    by None lead = ap (λ b. b || list_any (is_of c) rest) (sym (or-none (list_any (is_for c) pre)))
    by (Some d) lead =
        ap (λ ps. list_any (is_for c) pre || list_any (is_of c) (cons_option (if list_any (is_for d) ps then None else Some (part_with d (length (filter (is_for d) all)) x)) rest)) before
        ∙ told d (list_any (is_for d) pre) refl

pub any-part : (c : ℕ) (es : List PartElement) → list_any (is_of c) (parts_made es) ≡ list_any (is_for c) es
any-part c es = any-from c es [] es refl

-- ---- one more element

none-filtered : (d : ℕ) (es : List PartElement) → list_any (is_for d) es ≡ false → length (filter (is_for d) es) ≡ 0
none-filtered d [] none = refl
none-filtered d (x ∷ es) none =
    let parts = or_parts (is_for d x) (list_any (is_for d) es) none in
    ap (λ b. length (if b then x ∷ filter (is_for d) es else filter (is_for d) es)) parts.0 ∙ none-filtered d es parts.1

map-same : (parts : List CellPart) → map (counted_by None) parts ≡ parts
map-same [] = refl
map-same (part ∷ parts) = ap (λ ps. part ∷ ps) (map-same parts)

module _ (es : List PartElement) (e : PartElement) where
  -- what the element itself makes
  part-last : (c : ℕ) → e.lead ≡ Some c
      → cons_option (part_at (es ++ e ∷ []) (length es, e)) [] ≡ (if list_any (is_of c) (parts_made es) then [] else part_alone c e.at e.label ∷ [])
  part-last c is =
      ap (λ o. cons_option (option_and_then (λ d. if list_any (is_for d) (take (length es) (es ++ e ∷ [])) then None else Some (part_with d (length (filter (is_for d) (es ++ e ∷ []))) e)) o) []) is
      ∙ ap (λ xs. cons_option (if list_any (is_for c) xs then None else Some (part_with c (length (filter (is_for c) (es ++ e ∷ []))) e)) []) (take-append_seam es (e ∷ []))
      ∙ by (list_any (is_for c) es) refl
      ∙ ap (λ b. if b then [] else part_alone c e.at e.label ∷ []) (sym (any-part c es))
    where
      by : (b : Bool) → list_any (is_for c) es ≡ b
          → cons_option (if b then None else Some (part_with c (length (filter (is_for c) (es ++ e ∷ []))) e)) [] ≡ (if b then [] else part_alone c e.at e.label ∷ [])
      by true there = refl
      by false there =
          let here : is_for c e ≡ true = ap (λ o. option_map_or (λ m. m == c) o false) is ∙ eq-eqb c c refl in
          let one : length (filter (is_for c) (es ++ e ∷ [])) ≡ 1 =
          ap length (filter-append (is_for c) es (e ∷ [])) ∙ length-append (filter (is_for c) es) (filter (is_for c) (e ∷ []))
          ∙ ap (λ n. n + length (filter (is_for c) (e ∷ []))) (none-filtered c es there)
          ∙ ap (λ b. 0 + length (if b then e ∷ [] else [])) here in
          ap (λ n. part_with c n e ∷ []) one

  parts-split : parts_made (es ++ e ∷ []) ≡ map (counted_by e.lead) (parts_made es) ++ cons_option (part_at (es ++ e ∷ []) (length es, e)) []
  parts-split =
      ap (filter_map (part_at (es ++ e ∷ []))) (enumerate-push 0 es e ∙ ap (λ n. enumerate_from 0 es ++ (n, e) ∷ []) place)
      ∙ filter_map-append (part_at (es ++ e ∷ [])) (enumerate_from 0 es) ((length es, e) ∷ [])
      ∙ ap (λ ps. ps ++ cons_option (part_at (es ++ e ∷ []) (length es, e)) []) (parts-before es e 0 es (omega arith))
    where
      place : 0 + length es ≡ length es
      place = omega arith

  pub parts-more : parts_made (es ++ e ∷ []) ≡ with_element e (parts_made es)
  parts-more = parts-split ∙ by e.lead refl
    where
      by : (o : Option ℕ) → e.lead ≡ o
          → map (counted_by o) (parts_made es) ++ cons_option (part_at (es ++ e ∷ []) (length es, e)) [] ≡ option_map_or (λ cell. joined cell e.at e.label (parts_made es)) o (parts_made es)
      by None is =
          ap (λ o. map (counted_by None) (parts_made es) ++ cons_option (option_and_then (λ d. if list_any (is_for d) (take (length es) (es ++ e ∷ [])) then None else Some (part_with d (length (filter (is_for d) (es ++ e ∷ []))) e)) o) []) is
          ∙ append-nil (map (counted_by None) (parts_made es)) ∙ map-same (parts_made es)
      by (Some c) is = ap (λ ps. map (counted c) (parts_made es) ++ ps) (part-last c is)

-- ---- as one call adds it

any-there : (cell i : ℕ) (parts : List CellPart) → cell_at parts i ≡ Some cell → list_any (is_of cell) parts ≡ true
any-there cell zero [] is = absurd (none-some cell is)
any-there cell (suc i) [] is = absurd (none-some cell is)
any-there cell zero (part ∷ parts) is = ap (λ b. b || list_any (is_of cell) parts) (eq-eqb part.cell cell (same_Some part.cell cell is))
any-there cell (suc i) (part ∷ parts) is = ap (λ b. is_of cell part || b) (any-there cell i parts is) ∙ or-true (is_of cell part)

-- a part has the cell
pub joined-there : (cell at : ℕ) (label : List ℕ) (i : ℕ) (parts : List CellPart) → cell_at parts i ≡ Some cell → map (counted cell) parts ≡ joined cell at label parts
joined-there cell at label i parts is =
    sym (ap (λ b. map (counted cell) parts ++ (if b then [] else part_alone cell at label ∷ [])) (any-there cell i parts is) ∙ append-nil (map (counted cell) parts))

-- no part has it
pub joined-new : (cell at : ℕ) (label : List ℕ) (parts : List CellPart) → list_any (is_of cell) parts ≡ false → parts ++ part_alone cell at label ∷ [] ≡ joined cell at label parts
joined-new cell at label parts none =
    sym (ap (λ b. map (counted cell) parts ++ (if b then [] else part_alone cell at label ∷ [])) none ∙ ap (λ ps. ps ++ part_alone cell at label ∷ []) (counted-none cell parts none))

-- they are the parts of one element more
pub are-more : (es : List PartElement) (e : PartElement) (old : CellParts) (parts : List CellPart) (cells elements : ℕ) → ArePartsOf es old → parts ≡ with_element e old.parts → elements ≡ old.elements + 1
    → ArePartsOf (es ++ e ∷ []) (record { cells = cells; elements = elements; parts = parts })
are-more es e old parts cells elements are is count = record {
  count = omega (arith, count, are.count, length-append es (e ∷ []));
  parts = is ∙ ap (with_element e) are.parts ∙ sym (parts-more es e);
}
