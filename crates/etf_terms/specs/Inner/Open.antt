-- The heads whose terms are being written.
use Rattle.std.specs.Prelude.{ℕ, List}
use Rattle.etf_terms.specs.declared.stack.Entry.{Entry}

-- how many there is room for, and the heads from the innermost outwards
pub record Open : Type 0 where
  pub room : ℕ
  pub entries : List Entry
