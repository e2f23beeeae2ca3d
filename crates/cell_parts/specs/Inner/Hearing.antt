-- Hearing the roots of a process.
use Rattle.std.specs.Prelude.{◌≡◌, ℕ, List, ◌++◌, Option}
use Rattle.dump_io.specs.Dumps.{Now, IfTold}
use Rattle.dump_sections.specs.Sections.{Section}
use Rattle.root_views.specs.Roots.{BodyRoot}
use Rattle.root_views.specs.declared.kinds.RootKind.{RootKind}
use Rattle.cell_parts.specs.Parts.{ArePartsOf, CellParts, PartElement}
use Rattle.cell_parts.specs.Roots.{all_roots, roots_at, roots_elements}
use Rattle.cell_parts.specs.declared.roots.RootParts.{RootParts}
use Rattle.cell_parts.specs.Over.{IsOver}

-- the parts are of as many cells as the skeleton has
abbrev pub IsReady : RootParts → Type 0
IsReady roots = IsOver roots.skeleton.now roots.parts

-- whatever elements made the parts before, these elements came behind them
abbrev pub GainsElements : CellParts → CellParts → List PartElement → Type 0
GainsElements old new more = (elements : List PartElement) → ArePartsOf elements old → ArePartsOf (elements ++ more) new

-- the elements of these roots came behind those that made the parts before
pub record Gains (old new : RootParts) (roots : List BodyRoot) : Type 0 where
  pub skeleton : new.skeleton ≡ old.skeleton
  pub parts : GainsElements old.parts new.parts (roots_elements old.skeleton.now.addresses roots)

-- the elements of the roots in a section of what is open came behind those that made the parts before
pub record GainsSection (now : Now) (kind : RootKind) (found : Option Section) (old new : RootParts) : Type 0 where
  pub skeleton : new.skeleton ≡ old.skeleton
  pub parts : IfTold now (λ dump. GainsElements old.parts new.parts
      (roots_elements old.skeleton.now.addresses (roots_at dump kind found)))

-- the elements of all roots of the process with this pid came behind those that made the parts before
pub record GainsAll (now : Now) (sections : List Section) (pid : List ℕ) (old new : RootParts) : Type 0 where
  pub skeleton : new.skeleton ≡ old.skeleton
  pub parts : IfTold now (λ dump. GainsElements old.parts new.parts
      (roots_elements old.skeleton.now.addresses (all_roots dump sections pid)))
