-- The letters with which the texts of forms begin.
use Rattle.std.specs.Prelude.{◌≢◌, ℕ, codes}
use Rattle.dump_io.specs.Letters.{letter}

-- the letter is none with which a form that has elements begins
abbrev pub IsPlainTag : ℕ → Type 0
IsPlainTag tag = (tag ≢ letter (codes "l")) × (tag ≢ letter (codes "t")) × (tag ≢ letter (codes "M"))
