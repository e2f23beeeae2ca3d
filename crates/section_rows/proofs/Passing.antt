-- A pass over the lines of a body.
use Rattle.std.proofs.Common.{◌≡◌, ℕ, suc, ◌+◌, ◌<◌, ◌≤◌, List, [], ◌∷◌, ◌++◌, length, map, get_or, Option, None, All, refl, sym, ◌∙◌, ap, subst, ⊎_elim, arith}
use Rattle.std.specs.Option.{option_or}
use Rattle.std.proofs.lemmas.Bool.{cases_lt}
use Rattle.std.proofs.lemmas.List.{get_or_append_left, get_or_push}
use Rattle.std.proofs.lemmas.List.Elements.{All-from_get_or}
use Rattle.field_lines.specs.Lines.{TextLine, text_lines}
use Rattle.dump_sections.specs.Sections.{Section}
use Rattle.section_rows.specs.declared.columns.Kept.{Kept as LentKept}
use Rattle.section_rows.specs.declared.columns.Column.{Column as LentColumn}
use Rattle.section_rows.specs.declared.columns.Column.TheVariants.{Tag}
use Rattle.section_rows.specs.Rows.{Kept, Column, tag, id, field, starting, id_kept, column_cell}
use Rattle.section_rows.specs.Shown.{shown_cell, shown_column}
use Rattle.section_rows.specs.Inner.Passing.{own_cell, later_cell, IsSettled, AreSettled, IsOver, AreOver}
use Rattle.section_rows.specs.Inner.Places.{HasRoom}
use Rattle.dump_io.specs.Laws.Options.{or-none}

-- ---- one column
-- before the first line
pub settled-own : (s : Section) (body : List ℕ) (column : Column) → HasRoom s.at (own_cell s column) → IsSettled s body column (text_lines body) (own_cell s column)
settled-own s body tag room = record { value = refl; room = room }
settled-own s body id room = record { value = sym (or-none (id_kept s)); room = room }
settled-own s body (field key) room = record { value = refl; room = room }
settled-own s body (starting one other) room = record { value = refl; room = room }

later-none : (base : ℕ) (column : Column) → later_cell base [] column ≡ None
later-none base tag = refl
later-none base id = refl
later-none base (field key) = refl
later-none base (starting one other) = refl

-- ---- all columns
-- the first columns have looked at the line, the others haven't
pub record AreHalfway (s : Section) (body : List ℕ) (columns : List LentColumn) (line : TextLine) (left : List TextLine) (n : ℕ) (cells : List (Option LentKept)) : Type 0 where
  pub passed : (k : ℕ) → k < n → IsSettled s body (shown_column (get_or columns k Tag)) left (shown_cell (get_or cells k None))
  pub others : (k : ℕ) → n ≤ k → k < length columns → IsSettled s body (shown_column (get_or columns k Tag)) (line ∷ left) (shown_cell (get_or cells k None))

module _ (s : Section) (body : List ℕ) (columns : List LentColumn) (line : TextLine) (left : List TextLine) where
  pub halfway-all : (n : ℕ) (cells : List (Option LentKept)) → length columns ≤ n → length cells ≡ length columns → AreHalfway s body columns line left n cells
      → AreSettled s body columns left cells
  halfway-all n cells all count half = record {
    count = count;
    each = λ k inside. half.passed k (omega (arith, inside, all));
  }

  pub halfway-more : (n : ℕ) (before after : List (Option LentKept)) → ((k : ℕ) → (k ≡ n → ⊥) → get_or after k None ≡ get_or before k None)
      → IsSettled s body (shown_column (get_or columns n Tag)) left (shown_cell (get_or after n None))
      → AreHalfway s body columns line left n before → AreHalfway s body columns line left (n + 1) after
  halfway-more n before after kept here half = record {
    passed = λ k below.
        ⊎_elim
        (λ less. subst (λ o. IsSettled s body (shown_column (get_or columns k Tag)) left (shown_cell o)) (sym (kept k (λ e. absurd (omega (arith, less, e))))) (half.passed k less))
        (λ more. let e : n ≡ k = omega (arith, below, more) in
        subst (λ j. IsSettled s body (shown_column (get_or columns j Tag)) left (shown_cell (get_or after j None))) e here)
        (cases_lt k n);
    others = λ k above inside.
        subst (λ o. IsSettled s body (shown_column (get_or columns k Tag)) (line ∷ left) (shown_cell o)) (sym (kept k (λ e. absurd (omega (arith, above, e)))))
        (half.others k (omega (arith, above)) inside);
  }

-- one column more gets no other cell
pub over-more : (columns : List LentColumn) (n : ℕ) (before after : List (Option LentKept)) → ((k : ℕ) → (k ≡ n → ⊥) → get_or after k None ≡ get_or before k None)
    → IsOver (shown_column (get_or columns n Tag)) (shown_cell (get_or after n None))
    → ((k : ℕ) → k < n → IsOver (shown_column (get_or columns k Tag)) (shown_cell (get_or before k None)))
    → (k : ℕ) → k < n + 1 → IsOver (shown_column (get_or columns k Tag)) (shown_cell (get_or after k None))
over-more columns n before after kept here all k below =
    ⊎_elim
    (λ less. subst (λ o. IsOver (shown_column (get_or columns k Tag)) (shown_cell o)) (sym (kept k (λ e. absurd (omega (arith, less, e))))) (all k less))
    (λ more. let e : n ≡ k = omega (arith, below, more) in
    subst (λ j. IsOver (shown_column (get_or columns j Tag)) (shown_cell (get_or after j None))) e here)
    (cases_lt k n)

-- one cell more before the first line
pub own-more : (s : Section) (columns : List LentColumn) (n : ℕ) (cells : List (Option LentKept)) (cell : Option LentKept) → length cells ≡ n
    → shown_cell cell ≡ own_cell s (shown_column (get_or columns n Tag)) → HasRoom s.at (shown_cell cell)
    → ((body : List ℕ) (k : ℕ) → k < n → IsSettled s body (shown_column (get_or columns k Tag)) (text_lines body) (shown_cell (get_or cells k None)))
    → (body : List ℕ) (k : ℕ) → k < n + 1 → IsSettled s body (shown_column (get_or columns k Tag)) (text_lines body) (shown_cell (get_or (cells ++ cell ∷ []) k None))
own-more s columns n cells cell count is room all body k below =
    ⊎_elim
    (λ less. subst (λ o. IsSettled s body (shown_column (get_or columns k Tag)) (text_lines body) (shown_cell o))
    (sym (get_or_append_left cells (cell ∷ []) None k (omega (arith, less, count)))) (all body k less))
    (λ more. let e : n ≡ k = omega (arith, below, more) in
    subst (λ j. IsSettled s body (shown_column (get_or columns j Tag)) (text_lines body) (shown_cell (get_or (cells ++ cell ∷ []) j None))) e
    (subst (λ o. IsSettled s body (shown_column (get_or columns n Tag)) (text_lines body) (shown_cell o)) (sym (get_or_push cells cell None n count))
    (subst (IsSettled s body (shown_column (get_or columns n Tag)) (text_lines body)) (sym is)
    (settled-own s body (shown_column (get_or columns n Tag)) (subst (HasRoom s.at) is room)))))
    (cases_lt k n)

-- ---- the cells at the end
by-place : (f : Column → Option Kept) (columns : List LentColumn) (cells : List (Option LentKept)) → length cells ≡ length columns
    → ((k : ℕ) → k < length columns → shown_cell (get_or cells k None) ≡ f (shown_column (get_or columns k Tag)))
    → map shown_cell cells ≡ map f (map shown_column columns)
by-place f [] [] count each = refl
by-place f [] (cell ∷ cells) count each = absurd (omega (arith, count))
by-place f (column ∷ columns) [] count each = absurd (omega (arith, count))
by-place f (column ∷ columns) (cell ∷ cells) count each =
    ap (λ o. o ∷ map shown_cell cells) (each 0 (omega arith))
    ∙ ap (λ os. f (shown_column column) ∷ os) (by-place f columns cells (omega (arith, count)) (λ k inside. each (suc k) (omega (arith, inside))))

module _ (s : Section) (body : List ℕ) (columns : List LentColumn) (cells : List (Option LentKept)) where
  -- once no line is left
  pub cells-whole : (left : List TextLine) → left ≡ [] → AreSettled s body columns left cells → map shown_cell cells ≡ map (column_cell s body) (map shown_column columns)
  cells-whole left none all =
      by-place (column_cell s body) columns cells all.count (λ k inside.
      let column = shown_column (get_or columns k Tag) in
      let cell = shown_cell (get_or cells k None) in
      sym ((all.each k inside).value ∙ ap (λ ls. option_or cell (later_cell s.body ls column)) none
      ∙ ap (option_or cell) (later-none s.body column) ∙ or-none cell))

  -- or once no line that is left matters
  pub cells-over : (left : List TextLine) → AreOver columns cells → AreSettled s body columns left cells → map shown_cell cells ≡ map (column_cell s body) (map shown_column columns)
  cells-over left over all =
      by-place (column_cell s body) columns cells all.count (λ k inside. sym ((all.each k inside).value ∙ (over k inside).stays s.body left))

  pub cells-room : (left : List TextLine) → AreSettled s body columns left cells → All (λ (cell : Option LentKept). HasRoom s.at (shown_cell cell)) cells
  cells-room left all =
      All-from_get_or (λ (cell : Option LentKept). HasRoom s.at (shown_cell cell)) cells None (λ k inside. (all.each k (omega (arith, inside, all.count))).room)
