-- The first sections of a tag.
use Rattle.std.specs.Prelude.{ℕ, List}
use Rattle.dump_sections.specs.Index.{Contents}

-- the tag whose sections are looked up by their ids, and the index that has them
pub record Firsts : Type 0 where
  pub tag : List ℕ
  pub index : Contents
