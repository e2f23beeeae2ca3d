-- The roots of a body that are still to come, whatever its kind.
use Rattle.std.specs.Prelude.{List}
use Rattle.root_views.specs.Roots.{BodyRoot}
use Rattle.root_views.specs.declared.kinds.Coming.{Coming}
use Rattle.root_views.specs.declared.kinds.Coming.TheVariants.{Stack, Dict, Mail}

abbrev pub roots_to_come : Coming → List BodyRoot
roots_to_come (Stack roots) = roots
roots_to_come (Dict roots) = roots
roots_to_come (Mail roots) = roots
