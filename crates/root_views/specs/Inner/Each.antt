-- Hearing roots one by one.
use Rattle.std.specs.Prelude.{◌≡◌, List}
use Rattle.dump_io.specs.Lines.{Line}
use Rattle.body_lines.specs.Hearing.{Hears}
use Rattle.root_views.specs.Roots.{BodyRoot}
use Rattle.root_views.specs.declared.each_root.ByRoot.{ByRoot}
use Rattle.root_views.specs.Inner.Hearing.{roots_of_lines}

-- through the same reference a sink heard the roots of these lines
pub record HearsThrough {S : Type 0} (hears : S → S → List BodyRoot → Type 0) (old new : ByRoot S) (lines : List Line) : Type 0 where
  pub kind : new.kind ≡ old.kind
  pub same_reference : new.sink.ghost_name ≡ old.sink.ghost_name
  pub heard : Hears hears old.sink.now new.sink.now (roots_of_lines old.kind lines)
