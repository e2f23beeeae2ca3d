-- When bytes aren't read.
use Rattle.std.specs.Prelude.{ℕ, List}
use Rattle.etf_terms.specs.declared.ext.ExtFault.{ExtFault}
use Rattle.etf_terms.specs.declared.ext.ExtFault.TheVariants as faults
use Rattle.etf_terms.specs.Terms.{Term, IsExternal}
use Rattle.etf_terms.specs.Place.{IsPlace}

-- what a fault says of bytes: they aren't 131 and one term, and cease
-- to begin one at this place; or they are, and memory is lacking
abbrev pub IsFault : ExtFault → List ℕ → Type 0
IsFault (faults.Bad at) bytes = ((term : Term) → IsExternal bytes term → ⊥) × IsPlace bytes at
IsFault faults.Memory bytes = (term : Term) × IsExternal bytes term
