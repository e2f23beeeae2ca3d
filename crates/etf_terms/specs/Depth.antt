-- How deeply terms nest.
use Rattle.std.specs.Prelude.{ℕ, suc, max}
use Rattle.etf_terms.specs.Terms.{Term, node, Terms, none, more}

abbrev mutual
  -- how many terms that have terms after their heads lie one within another
  pub depth : Term → ℕ
  depth (node head none) = 0
  depth (node head (more term terms)) = suc (max (depth term) (deepest terms))

  -- the depth of the deepest of some terms
  pub deepest : Terms → ℕ
  deepest none = 0
  deepest (more term terms) = max (depth term) (deepest terms)
