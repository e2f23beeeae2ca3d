use Rattle.std.proofs.Common.{◌≡◌, ◌-◌, ℕ, List, Option, Some, None, All, length, sym, ◌∙◌, ap, subst, arith, take, drop}
use Rattle.std.proofs.lemmas.List.{length-drop, take_all}
use Rattle.std.proofs.lemmas.Option.{get_or_from_slice_get, slice_get_within}
use Rattle.std.specs.List.{slice_get}
use Rattle.section_rows.specs.Rows.{IsBoundedCell, Kept}
use Rattle.section_rows.specs.Shown.{shown_cell}
use Rattle.section_rows.specs.Inner.Places.{cell_in, text_len}
use Rattle.section_rows.proofs.Cells.{cells_in-read}
use Rattle.section_rows.proofs.store.kept_at.Goals as goal

bounded_at : (cells : List (Option Kept)) (c : ℕ) (cell : Option Kept) → All IsBoundedCell cells → slice_get cells c ≡ Some cell → IsBoundedCell cell
bounded_at cells c cell bounded is =
    subst IsBoundedCell (get_or_from_slice_get cells c cell cell is) (bounded c cell (slice_get_within cells c cell is))

-- the texts from a place on, where they are a part of all
rest_of : (texts : List ℕ) (from n : ℕ) → from ≡ n → take (length texts - from) (drop from texts) ≡ drop n texts
rest_of texts from n same = take_all (length texts - from) (drop from texts) (omega (arith, length-drop from texts)) ∙ ap (λ k. drop k texts) same

pub returns-in_err-place : goal.returns-in_err-place
returns-in_err-place c =
    cells_in-read c.args.base c.args.texts.now c.args.places.now c.args.c None c.requires.place c.in_err-place.was
    ∙ ap (λ cell. Some (shown_cell cell)) (sym c.from_residual.ensures)

pub kept-requires-clause-bounded : goal.kept-requires-clause-bounded
kept-requires-clause-bounded c =
    let place = c.in_ok-place.place in
    let texts = rest_of c.args.texts.now c.text_len-from.result (text_len (take c.args.c c.args.places.now)) c.text_len-from.ensures in
    subst (λ ts. IsBoundedCell (cell_in c.args.base ts (Some place))) (sym texts)
    (bounded_at _ c.args.c _ c.requires.bounded (cells_in-read c.args.base c.args.texts.now c.args.places.now c.args.c (Some place) c.requires.place c.in_ok-place.was))

pub returns : goal.returns
returns c =
    let place = c.in_ok-place.place in
    let texts = rest_of c.args.texts.now c.text_len-from.result (text_len (take c.args.c c.args.places.now)) c.text_len-from.ensures in
    cells_in-read c.args.base c.args.texts.now c.args.places.now c.args.c (Some place) c.requires.place c.in_ok-place.was
    ∙ ap (λ ts. Some (cell_in c.args.base ts (Some place))) (sym texts) ∙ ap Some (sym c.kept.ensures)
