-- The roots of bytes that stand in a file.
use Rattle.std.specs.Prelude.{ℕ, ◌+◌, List, map}
use Rattle.root_views.specs.Kinds.{roots_in}
use Rattle.root_views.specs.Roots.{BodyRoot}
use Rattle.root_views.specs.declared.kinds.RootKind.{RootKind}

-- the root with its offset counted from so many bytes before
abbrev pub placed : ℕ → BodyRoot → BodyRoot
placed at root = record root { at = at + root.at }

-- the roots of bytes that stand at an offset of the file, with their offsets there
abbrev pub placed_roots : RootKind → ℕ → List ℕ → List BodyRoot
placed_roots kind at bytes = map (placed at) (roots_in kind bytes)
