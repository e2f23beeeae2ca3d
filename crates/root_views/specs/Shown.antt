-- Some of the roots of a body.
use Rattle.std.specs.Prelude.{ℕ, ◌+◌, ◌<◌, ◌^◌, List, drop, length, take}
use Rattle.root_views.specs.Kinds.{roots_in}
use Rattle.root_views.specs.Roots.{BodyRoot}
use Rattle.root_views.specs.declared.kinds.RootKind.{RootKind}

-- the elements of a list from a place on, from 0, at most so many
abbrev pub some_of : {X : Type 0} → ℕ → ℕ → List X → List X
some_of first most xs = take most (drop first xs)

-- some of the roots of a body, and how many it has
pub record SomeRoots : Type 0 where
  pub shown : List BodyRoot
  pub count : ℕ

-- the roots of a body from a place on, from 0, at most so many, and how many it has in all
abbrev pub shown_roots : RootKind → ℕ → ℕ → List ℕ → SomeRoots
shown_roots kind first most body = record { shown = some_of first most (roots_in kind body); count = length (roots_in kind body) }

-- the offset in the file of a root of a body that begins at this one is a number of 64 bits
abbrev pub IsPlaced : ℕ → BodyRoot → Type 0
IsPlaced from root = from + root.at < 2 ^ 64
