-- Rows that are put one behind another.
use Rattle.std.proofs.Common.{◌≡◌, ℕ, ◌+◌, ◌-◌, List, [], ◌∷◌, ◌++◌, length, take, drop, map, get_or, Option, All, refl, sym, ◌∙◌, ap, subst, arith, length-append}
use Rattle.std.specs.List.{between}
use Rattle.std.proofs.lemmas.List.{drop-append-le, drop_at, take_all, length-drop, map-append}
use Rattle.std.proofs.lemmas.List.Elements.{All-head, All-tail, All-nil, All-cons, All-push, All-map}
use Rattle.std.proofs.lemmas.List.Edits.{length-between}
use Rattle.section_rows.specs.declared.store.Place.{Place}
use Rattle.section_rows.specs.declared.store.Head.{Head}
use Rattle.section_rows.specs.declared.store.Store.{Store}
use Rattle.section_rows.specs.Rows.{IsBoundedCell, Kept, Row}
use Rattle.section_rows.specs.Inner.Places.{text_len, cells_in, places_of, row_in, rows_in, IsWithin, AreWithin, HasGained, Gained}
use Rattle.section_rows.proofs.Cells.{cells_in-more, length-cells_in}
use Rattle.dump_io.specs.Laws.Lists.{between-grown}

-- what was put behind a list
between-behind : {X : Type 0} (xs more : List X) (from count : ℕ) → from ≡ length xs → length more ≡ count → between from (from + count) (xs ++ more) ≡ more
between-behind xs more from count start all =
    ap (take (from + count - from)) (drop_at xs more from (sym start)) ∙ take_all (from + count - from) more (omega (arith, all))

module _ (width : ℕ) (places more : List (Option Place)) (pool texts : List ℕ) where
  places_of-more : (head : Head) → IsWithin width places pool head → places_of width (places ++ more) head ≡ places_of width places head
  places_of-more head within = between-grown places more head.places (head.places + width) (omega arith) within.places_there

  -- what stands behind a row changes none of it
  row_in-more : (head : Head) → IsWithin width places pool head → row_in width (places ++ more) (pool ++ texts) head ≡ row_in width places pool head
  row_in-more head within =
      let row : List (Option Kept) → Row = λ cells. record { at = head.at; cells = cells } in
      ap (λ ps. row (cells_in head.at (drop head.texts (pool ++ texts)) ps)) (places_of-more head within)
      ∙ ap (λ ts. row (cells_in head.at ts (places_of width places head))) (drop-append-le head.texts pool texts (omega (arith, within.texts_there)))
      ∙ ap row (cells_in-more head.at (drop head.texts pool) texts (places_of width places head) (omega (arith, within.texts_there, length-drop head.texts pool)))

  IsWithin-more : (head : Head) → IsWithin width places pool head → IsWithin width (places ++ more) (pool ++ texts) head
  IsWithin-more head within = record {
    places_there = omega (arith, within.places_there, length-append places more);
    texts_there = omega (arith, within.texts_there, ap text_len (places_of-more head within), length-append pool texts);
    bounded = subst (λ (row : Row). All IsBoundedCell row.cells) (sym (row_in-more head within)) within.bounded;
  }

  rows-more : (heads : List Head) → All (IsWithin width places pool) heads → map (row_in width (places ++ more) (pool ++ texts)) heads ≡ map (row_in width places pool) heads
  rows-more [] within = refl
  rows-more (head ∷ heads) within =
      ap (λ row. row ∷ map (row_in width (places ++ more) (pool ++ texts)) heads) (row_in-more head (All-head (IsWithin width places pool) head heads within))
      ∙ ap (λ rows. row_in width places pool head ∷ rows) (rows-more heads (All-tail (IsWithin width places pool) head heads within))

  AreWithin-more : (heads : List Head) → All (IsWithin width places pool) heads → All (IsWithin width (places ++ more) (pool ++ texts)) heads
  AreWithin-more [] within = All-nil (IsWithin width (places ++ more) (pool ++ texts))
  AreWithin-more (head ∷ heads) within =
      All-cons (IsWithin width (places ++ more) (pool ++ texts)) head heads
      (IsWithin-more head (All-head (IsWithin width places pool) head heads within))
      (AreWithin-more heads (All-tail (IsWithin width places pool) head heads within))

-- the row that was put behind them
module _ (before after : Store) (head : Head) (cells : List (Option Kept)) (kept : after.width ≡ before.width) (all : before.width ≡ length cells)
    (g : Gained head.at before.places.items after.places.items before.pool.items after.pool.items cells)
    (texts_at : head.texts ≡ length before.pool.items) (places_at : head.places ≡ length before.places.items) where
  own_places : places_of after.width after.places.items head ≡ g.places
  own_places =
      ap (between head.places (head.places + after.width)) g.more_places
      ∙ between-behind before.places.items g.places head.places after.width places_at (omega (arith, kept, all, ap length g.shown, length-cells_in head.at g.texts g.places))

  own_texts : drop head.texts after.pool.items ≡ g.texts
  own_texts = ap (drop head.texts) g.more_texts ∙ drop_at before.pool.items g.texts head.texts (sym texts_at)

  own_cells : cells_in head.at (drop head.texts after.pool.items) (places_of after.width after.places.items head) ≡ cells
  own_cells =
      ap (λ ps. cells_in head.at (drop head.texts after.pool.items) ps) own_places ∙ ap (λ ts. cells_in head.at ts g.places) own_texts ∙ g.shown

  own_within : IsWithin after.width after.places.items after.pool.items head
  own_within = record {
    places_there = omega (arith, places_at, kept, all, ap length g.shown, length-cells_in head.at g.texts g.places, ap length g.more_places, length-append before.places.items g.places);
    texts_there = omega (arith, texts_at, g.exact, ap text_len own_places, ap length g.more_texts, length-append before.pool.items g.texts);
    bounded = subst (All IsBoundedCell) (sym own_cells) g.bounded;
  }

  pub HasGained-push : AreWithin before → after.heads.items ≡ before.heads.items ++ head ∷ [] → HasGained before after (let row : Row = record { at = head.at; cells = cells } in row)
  HasGained-push within heads =
      let shown = row_in after.width after.places.items after.pool.items in
      let inside : Head → Type 0 = IsWithin after.width after.places.items after.pool.items in
      let w = before.width in
      let ps = before.places.items in
      let ts = before.pool.items in
      let old : map shown before.heads.items ≡ rows_in before =
      ap (λ n. map (row_in n after.places.items after.pool.items) before.heads.items) kept
      ∙ ap (λ l. map (row_in w l after.pool.items) before.heads.items) g.more_places
      ∙ ap (λ l. map (row_in w (ps ++ g.places) l) before.heads.items) g.more_texts
      ∙ rows-more w ps g.places ts g.texts before.heads.items within in
      let still : All inside before.heads.items =
      subst (λ n. All (IsWithin n after.places.items after.pool.items) before.heads.items) (sym kept)
      (subst (λ l. All (IsWithin w l after.pool.items) before.heads.items) (sym g.more_places)
      (subst (λ l. All (IsWithin w (ps ++ g.places) l) before.heads.items) (sym g.more_texts)
      (AreWithin-more w ps g.places ts g.texts before.heads.items within))) in
      record {
        width = kept;
        rows =
            ap (map shown) heads
            ∙ map-append shown before.heads.items (head ∷ [])
            ∙ ap (λ rows. rows ++ shown head ∷ []) old
            ∙ ap (λ cs. rows_in before ++ (let row : Row = record { at = head.at; cells = cs } in row) ∷ []) own_cells;
        within = subst (All inside) (sym heads) (All-push inside before.heads.items head still own_within);
      }

-- each row has a cell for each column
pub rows_in-even : (store : Store) → AreWithin store → All (λ (row : Row). length row.cells ≡ store.width) (rows_in store)
rows_in-even store within =
    All-map (λ (row : Row). length row.cells ≡ store.width) (row_in store.width store.places.items store.pool.items) store.heads.items
    (λ k d inside. let head = get_or store.heads.items k d in
    length-cells_in head.at (drop head.texts store.pool.items) (places_of store.width store.places.items head)
    ∙ length-between store.places.items head.places (head.places + store.width) (within k d inside).places_there ∙ omega arith)

pub rows_in-bounded : (store : Store) → AreWithin store → All (λ (row : Row). All IsBoundedCell row.cells) (rows_in store)
rows_in-bounded store within =
    All-map (λ (row : Row). All IsBoundedCell row.cells) (row_in store.width store.places.items store.pool.items) store.heads.items
    (λ k d inside. (within k d inside).bounded)
