-- The row at a place of a table.
use Rattle.std.proofs.Common.{◌≡◌, ℕ, ◌<◌, [], length, sym, subst}
use Rattle.std.proofs.lemmas.Option.{unwrap_or-slice_get}
use Rattle.std.proofs.lemmas.List.Elements.{All-get_or}
use Rattle.section_rows.specs.Rows.{Table, row_at, AreEven}

-- a row of an even table has a cell for each column
pub even-row : (table : Table) (i : ℕ) → AreEven table → i < length table.rows → length (row_at table.rows i).cells ≡ table.width
even-row table i even within =
    subst (λ row. length row.cells ≡ table.width) (sym (unwrap_or-slice_get table.rows i (record { at = 0; cells = [] })))
    (All-get_or (λ row. length row.cells ≡ table.width) table.rows i (record { at = 0; cells = [] }) within even)
