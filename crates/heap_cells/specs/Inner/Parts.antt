-- Parts of a text that consists of two bodies, one after the other.
use Rattle.std.specs.Prelude.{ℕ, ◌<◌, ◌≤◌}

-- from one place up to another, within the text and within
-- one of the bodies, the second of which begins at the seam
pub record IsPart (seam size from upto : ℕ) : Type 0 where
  pub ordered : from ≤ upto
  pub within : upto ≤ size
  pub one_body : from < seam → upto ≤ seam
