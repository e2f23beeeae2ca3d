-- The tables of a dump.
use Rattle.std.specs.Prelude.{◌≡◌, ℕ, ◌<◌, List, length, map, filter, All}
use Rattle.dump_sections.specs.Index.{Contents, sections_in}
use Rattle.dump_sections.specs.Sections.{Section, sections}
use Rattle.dump_sections.specs.Loading.{sections_at}
use Rattle.section_rows.specs.Rows.{Table, rows_of}
use Rattle.table_sections.specs.declared.kinds.TableKind.{TableKind}
use Rattle.table_sections.specs.Kinds.{columns_of, lists}

-- the sections of a table, in dump order
abbrev pub listed : TableKind → List Section → List Section
listed kind sections = filter (lists kind) sections

-- the table of the bytes of a dump
abbrev pub table_of : TableKind → List ℕ → Table
table_of kind bytes = record {
  width = length (columns_of kind);
  rows = rows_of bytes (columns_of kind) (listed kind (sections bytes));
}

-- the places, from 0, of the sections of a dump that a table lists
pub record TablePlaces : Type 0 where
  pub kind : TableKind
  pub places : List ℕ

-- these places are those of the index's sections that the table lists
pub record AreListed (index : Contents) (found : TablePlaces) : Type 0 where
  pub listed : sections_at index found.places ≡ listed found.kind (sections_in index)
  pub within : All (λ i. i < length index.headers) found.places

-- the rows are those of the index's sections, whatever their cells are
pub record IsTableOver (kind : TableKind) (index : Contents) (table : Table) : Type 0 where
  pub width : table.width ≡ length (columns_of kind)
  pub places : map (λ row. row.at) table.rows ≡ map (λ s. s.at) (listed kind (sections_in index))
