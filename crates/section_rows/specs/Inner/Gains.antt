-- Loading rows one after another.
use Rattle.std.specs.Prelude.{◌≡◌, ℕ, ◌+◌, List, drop, take}
use Rattle.dump_io.specs.Dumps.{Now}
use Rattle.dump_sections.specs.Bodies.{IsBodyOf}
use Rattle.dump_sections.specs.Sections.{Section}
use Rattle.section_rows.specs.declared.loaded_rows.Split.{Split}
use Rattle.section_rows.specs.declared.store.Store.{Store}
use Rattle.section_rows.specs.Rows.{Column, row_of, AreRowsOf}
use Rattle.section_rows.specs.Inner.Places.{HasGained, AreWithin, rows_in}

-- the store has gained the row of a section with this body
pub record GainsRow (now : Now) (columns : List Column) (s : Section) (before after : Store) : Type 0 where
  pub body : List ℕ
  pub is_body : IsBodyOf now s body
  pub gained : HasGained before after (row_of columns s body)

-- the store has the rows of these sections
pub record HoldsRows (now : Now) (columns : List Column) (sections : List Section) (store : Store) : Type 0 where
  pub within : AreWithin store
  pub shown : AreRowsOf now columns sections (record { width = store.width; rows = rows_in store })

-- two tables take the rows of so many columns: the first has the cells of the first columns, and the second the others
pub record IsSplit (first count : ℕ) (split : Split) : Type 0 where
  pub width : split.first.width ≡ first
  pub rest : first + split.second.width ≡ count
  pub within : AreWithin split.first
  pub rest_within : AreWithin split.second

-- both tables have the rows of these sections
pub record HoldsSplit (now : Now) (first : ℕ) (columns : List Column) (sections : List Section) (split : Split) : Type 0 where
  pub fronts : HoldsRows now (take first columns) sections split.first
  pub others : HoldsRows now (drop first columns) sections split.second
