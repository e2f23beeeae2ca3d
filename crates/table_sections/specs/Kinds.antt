-- The kinds of tables: which sections each lists, and with which columns.
use Rattle.std.specs.Prelude.{ℕ, Bool, List, [], ◌∷◌, codes}
use Rattle.std.specs.List.{list_any}
use Rattle.dump_sections.specs.Lookups.{has_tag}
use Rattle.dump_sections.specs.Sections.{Section}
use Rattle.section_rows.specs.Rows.{Column, tag, id, field, starting}
use Rattle.table_sections.specs.declared.kinds.TableKind.{TableKind}
use Rattle.table_sections.specs.declared.kinds.TableKind.TheVariants.{Ets, Ports, PortUses, Nodes, Mods}

-- the tags of the sections that a table lists
abbrev pub tags_of : TableKind → List (List ℕ)
tags_of Ets = codes "ets" ∷ []
tags_of Ports = codes "port" ∷ []
tags_of PortUses = codes "port" ∷ []
tags_of Nodes = codes "visible_node" ∷ codes "hidden_node" ∷ codes "not_connected" ∷ []
tags_of Mods = codes "mod" ∷ []

-- the columns of a table, after the offset of the section
abbrev pub columns_of : TableKind → List Column
columns_of Ets = id ∷ field (codes "Table") ∷ field (codes "Name") ∷ field (codes "Objects") ∷ field (codes "Words") ∷ []
columns_of Ports = id ∷ field (codes "Connected") ∷ field (codes "Links") ∷ field (codes "Registered as") ∷ []
columns_of PortUses = id ∷ starting (codes "Port controls ") (codes "Port is ") ∷ []
columns_of Nodes = tag ∷ id ∷ field (codes "Name") ∷ field (codes "Controller") ∷ field (codes "Creation") ∷ []
columns_of Mods = id ∷ field (codes "Current size") ∷ field (codes "Old size") ∷ []

-- whether a table of this kind lists the section
abbrev pub lists : TableKind → Section → Bool
lists kind s = list_any (λ t. has_tag t s.text) (tags_of kind)
