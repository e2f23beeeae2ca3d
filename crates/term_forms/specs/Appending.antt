-- Texts that are appended to a vector.
use Rattle.std.specs.Prelude.{ℕ, List, Some, Result}
use Rattle.std.specs.Global.{Vec}
use Rattle.dump_io.specs.Sinks.{WritesAll}

-- the text was appended on `Ok`, and a proper prefix of it on `Err`
abbrev pub Appends : {T E : Type 0} → Vec ℕ → Vec ℕ → List ℕ → Result T E → Type 0
Appends before after text result = WritesAll (Some before.items) (Some after.items) text result
