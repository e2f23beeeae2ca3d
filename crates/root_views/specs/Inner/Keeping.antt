-- The roots that are kept, with their lines.
use Rattle.std.specs.Prelude.{◌≡◌, ℕ, ◌-◌, ◌<◌, ◌≤◌, ◌^◌, List, [], ◌++◌, length, map, slice_index_or, All}
use Rattle.std.specs.List.{between}
use Rattle.root_views.specs.Kinds.{roots_in}
use Rattle.root_views.specs.Roots.{BodyRoot, Unread}
use Rattle.root_views.specs.declared.kinds.RootKind.{RootKind}
use Rattle.root_views.specs.declared.kept_roots.KeptRoot.{KeptRoot}
use Rattle.root_views.specs.declared.kept_roots.KeptRoots.{KeptRoots}

-- the root with its offset in the file counted from another offset there
abbrev pub counted_from : ℕ → BodyRoot → BodyRoot
counted_from from root = record root { at = root.at - from }

-- the roots with their offsets in the file counted from another offset there
abbrev pub all_counted_from : ℕ → List BodyRoot → List BodyRoot
all_counted_from from roots = map (counted_from from) roots

-- the line of a kept root
abbrev pub kept_line : List ℕ → KeptRoot → List ℕ
kept_line lines one = between one.start one.end lines

-- past the last root
abbrev pub no_root : BodyRoot
no_root = record { at = 0; label = []; content = Unread }

-- a kept root, with its offset in the file
abbrev pub kept_one : RootKind → List ℕ → KeptRoot → BodyRoot
kept_one kind lines one = record (slice_index_or (roots_in kind (kept_line lines one)) one.place no_root) { at = one.at }

-- all kept roots
abbrev pub kept_all : KeptRoots → List BodyRoot
kept_all kept = map (kept_one kept.kind kept.lines.items) kept.roots.items

-- a kept root stands in its line, which is kept, and its offset is a number of 64 bits
pub record IsKept (kind : RootKind) (lines : List ℕ) (one : KeptRoot) : Type 0 where
  pub ordered : one.start ≤ one.end
  pub within : one.end ≤ length lines
  pub stands : one.place < length (roots_in kind (kept_line lines one))
  pub small : one.at < 2 ^ 64

-- each kept root stands in its line, which is kept, and its offset is a number of 64 bits
pub record AreKept (kept : KeptRoots) : Type 0 where
  pub each : All (IsKept kept.kind kept.lines.items) kept.roots.items

-- a line stands among the kept lines between two places
pub record HasLine (lines : List ℕ) (start upto : ℕ) (raw : List ℕ) : Type 0 where
  pub ordered : start ≤ upto
  pub within : upto ≤ length lines
  pub stands : between start upto lines ≡ raw

-- these roots were kept behind those that were there
pub record Keeps (old new : KeptRoots) (roots : List BodyRoot) : Type 0 where
  pub kind : new.kind ≡ old.kind
  pub all : kept_all new ≡ kept_all old ++ roots
