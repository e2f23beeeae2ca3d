-- The elements among the roots of a process that are weighed. Offsets are of the file.
use Rattle.std.specs.Prelude.{ℕ, ◌==◌, List, map, ◌++◌, Option, None}
use Rattle.std.specs.List.{flat_map, position}
use Rattle.dump_sections.specs.Bodies.{body_in, body_start}
use Rattle.dump_sections.specs.Sections.{Section}
use Rattle.term_forms.specs.Elements.{Element, Ref}
use Rattle.root_views.specs.Roots.{BodyRoot, term_in}
use Rattle.root_views.specs.Sections.{root_section}
use Rattle.root_views.specs.declared.kinds.RootKind.{RootKind}
use Rattle.root_views.specs.declared.kinds.RootKind.TheVariants.{Stack, Dict, Mail}
use Rattle.root_views.specs.Placed.{placed_roots}
use Rattle.cell_parts.specs.Parts.{PartElement}

-- the cell to which an element leads, if one of these addresses is that of its reference
abbrev pub lead_to : List ℕ → Element → Option ℕ
lead_to addresses (Ref address) = position (λ a. a == address) addresses
lead_to addresses e = None

-- what is weighed of a root: its element, if it is a term
abbrev pub root_elements : List ℕ → BodyRoot → List PartElement
root_elements addresses root = map (λ e. record { lead = lead_to addresses e; at = root.at; label = root.label }) (term_in root.content)

-- what is weighed of several roots: the elements of those that are terms
abbrev pub roots_elements : List ℕ → List BodyRoot → List PartElement
roots_elements addresses roots = flat_map (root_elements addresses) roots

-- the roots of a kind in a section of a dump; a missing section has none
abbrev pub roots_at : List ℕ → RootKind → Option Section → List BodyRoot
roots_at dump kind found = placed_roots kind (body_start found) (body_in dump found)

-- the roots of the process with this pid: of its stack, its dictionary and its mailbox
abbrev pub all_roots : List ℕ → List Section → List ℕ → List BodyRoot
all_roots dump sections pid =
    (roots_at dump Stack (root_section Stack pid sections) ++ roots_at dump Dict (root_section Dict pid sections))
    ++ roots_at dump Mail (root_section Mail pid sections)
