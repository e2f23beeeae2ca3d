-- Hearing the roots of lines.
use Rattle.std.specs.Prelude.{◌≡◌, ℕ, ◌+◌, ◌-◌, List, ◌++◌, length}
use Rattle.std.specs.List.{flat_map}
use Rattle.dump_io.specs.Lines.{Line}
use Rattle.root_views.specs.Roots.{BodyRoot}
use Rattle.root_views.specs.declared.kinds.RootKind.{RootKind}
use Rattle.root_views.specs.declared.root_sink.RootSink.{RootSink}
use Rattle.root_views.specs.Shown.{some_of}
use Rattle.root_views.specs.Inner.Keeping.{kept_all, AreKept}
use Rattle.root_views.specs.Placed.{placed_roots}

-- the roots of lines, with their offsets in the file
abbrev pub roots_of_lines : RootKind → List Line → List BodyRoot
roots_of_lines kind lines = flat_map (λ line. placed_roots kind line.at line.raw) lines

-- the roots that the sink keeps can be read again
abbrev pub IsReady : RootSink → Type 0
IsReady sink = AreKept sink.kept

-- these roots were counted, and those of them kept that are asked for
pub record Takes (old new : RootSink) (roots : List BodyRoot) : Type 0 where
  pub kind : new.kept.kind ≡ old.kept.kind
  pub first : new.first ≡ old.first
  pub most : new.most ≡ old.most
  pub count : new.count ≡ old.count + length roots
  pub kept : kept_all new.kept ≡ kept_all old.kept
      ++ some_of (old.first - old.count) (old.most - length old.kept.roots.items) roots

-- the roots of these lines were counted, and those of them kept that are asked for
abbrev pub TakesLines : RootSink → RootSink → List Line → Type 0
TakesLines old new lines = Takes old new (roots_of_lines old.kept.kind lines)

-- of these roots, all that were heard, the sink has those from a place on, at most so many, and their number
pub record Took (first most : ℕ) (roots : List BodyRoot) (sink : RootSink) : Type 0 where
  pub count : sink.count ≡ length roots
  pub kept : kept_all sink.kept ≡ some_of first most roots
