-- One more part is kept.
use Rattle.std.proofs.Common.{◌≡◌, ℕ, ◌+◌, ◌<◌, ◌≤◌, ◌^◌, false, All, List, [], ◌∷◌, ◌++◌, length, set, sym, ◌∙◌, ap, subst, arith}
use Rattle.std.specs.List.{list_any}
use Rattle.std.proofs.lemmas.List.{length-append}
use Rattle.std.proofs.lemmas.List.Elements.{All-push}
use Rattle.dump_io.specs.Laws.Lists.{range-last}
use Rattle.cell_parts.specs.Parts.{CellPart, CellParts}
use Rattle.cell_parts.specs.Inner.Joining.{is_of, part_alone}
use Rattle.cell_parts.specs.Inner.Keeping.{AreKept, part_in, parts_in}
use Rattle.cell_parts.specs.declared.parts.Kept.{Kept}
use Rattle.cell_parts.proofs.Keeping.{not-there, numbered-more, parts-longer, parts-more}

fits-more : (labels label : List ℕ) (kept : List Kept) → All (λ (k : Kept). k.from + k.size ≤ length labels) kept → All (λ (k : Kept). k.from + k.size ≤ length (labels ++ label)) kept
fits-more labels label kept all k d within = omega (arith, all k d within, length-append labels label)

module _ (places cells : List ℕ) (kept : List Kept) (labels : List ℕ) (are : AreKept places cells kept labels)
    (c at : ℕ) (label : List ℕ) (few : length cells + 2 < 2 ^ 32) (within : c < length places) (new : list_any (is_of c) (parts_in labels cells kept) ≡ false) where
  abbrev one : Kept
  one = record { elements = 1; at = at; from = length labels; size = length label }

  are-more : AreKept (set places c (length cells + 1)) (cells ++ c ∷ []) (kept ++ one ∷ []) (labels ++ label)
  are-more = record {
    same = omega (arith, length-append cells (c ∷ []), length-append kept (one ∷ []), are.same);
    few = omega (arith, length-append cells (c ∷ []), few);
    within =
        All-push (λ (k : Kept). k.from + k.size ≤ length (labels ++ label)) kept one (fits-more labels label kept are.within)
        (omega (arith, length-append labels label));
    placed = numbered-more places cells c are.placed within (not-there labels cells kept c are.same new);
  }

  parts-are : parts_in (labels ++ label) (cells ++ c ∷ []) (kept ++ one ∷ []) ≡ parts_in labels cells kept ++ part_alone c at label ∷ []
  parts-are =
      parts-more (labels ++ label) cells kept c one are.same
      ∙ ap (λ ps. ps ++ part_in (labels ++ label) c one ∷ []) (parts-longer labels label cells kept are.within)
      ∙ ap (λ text. parts_in labels cells kept ++ part_alone c at text ∷ []) (range-last labels label)

  module _ (after_cells after_labels : List ℕ) (after_kept : List Kept) (from size number : ℕ) (from_is : from ≡ length labels) (size_is : size ≡ length label)
      (cells_are : after_cells ≡ cells ++ c ∷ []) (kept_are : after_kept ≡ kept ++ (let k : Kept = record { elements = 1; at = at; from = from; size = size } in k) ∷ [])
      (labels_are : after_labels ≡ labels ++ label) (number_is : number ≡ length cells + 1) where
    kept-one : after_kept ≡ kept ++ one ∷ []
    kept-one =
        kept_are
        ∙ ap (λ f. kept ++ (let k : Kept = record { elements = 1; at = at; from = f; size = size } in k) ∷ []) from_is
        ∙ ap (λ s. kept ++ (let k : Kept = record { elements = 1; at = at; from = length labels; size = s } in k) ∷ []) size_is

    pub kept-more : AreKept (set places c number) after_cells after_kept after_labels
    kept-more =
        subst (λ n. AreKept (set places c n) after_cells after_kept after_labels) (sym number_is)
        (subst (λ cs. AreKept (set places c (length cells + 1)) cs after_kept after_labels) (sym cells_are)
        (subst (λ ks. AreKept (set places c (length cells + 1)) (cells ++ c ∷ []) ks after_labels) (sym kept-one)
        (subst (λ ls. AreKept (set places c (length cells + 1)) (cells ++ c ∷ []) (kept ++ one ∷ []) ls) (sym labels_are) are-more)))

    pub parts-pushed : parts_in after_labels after_cells after_kept ≡ parts_in labels cells kept ++ part_alone c at label ∷ []
    parts-pushed =
        ap (λ ls. parts_in ls after_cells after_kept) labels_are
        ∙ ap (λ cs. parts_in (labels ++ label) cs after_kept) cells_are
        ∙ ap (λ ks. parts_in (labels ++ label) (cells ++ c ∷ []) ks) kept-one
        ∙ parts-are

-- the value with other parts
pub value-with : (v : CellParts) (places places_after : List ℕ) (elements : ℕ) (before parts : List CellPart) (f : List CellPart → List CellPart)
    → (let now : CellParts = record { cells = length places; elements = elements; parts = before } in now) ≡ v → length places_after ≡ length places → parts ≡ f before
    → (let now : CellParts = record { cells = length places_after; elements = elements; parts = parts } in now) ≡ record v { parts = f v.parts }
value-with v places places_after elements before parts f is size are =
    ap (λ n. let now : CellParts = record { cells = n; elements = elements; parts = parts } in now) size
    ∙ ap (λ ps. let now : CellParts = record { cells = length places; elements = elements; parts = ps } in now) are
    ∙ ap (λ (w : CellParts). record w { parts = f w.parts }) is
