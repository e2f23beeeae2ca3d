-- The tables of worked dumps, which the checker computes.
use Rattle.std.proofs.Common.{◌≡◌, ℕ, List, [], ◌∷◌, Option, None, Some, map, refl}
use Rattle.std.specs.Prelude.{codes}
use Rattle.section_rows.specs.Rows.{Row, text_in}
use Rattle.table_sections.specs.declared.kinds.TableKind.TheVariants.{Ets, Nodes}
use Rattle.table_sections.specs.Fields.{section_fields}
use Rattle.table_sections.specs.Tables.{table_of}

-- what a row shows: its offset, and the texts of its cells
abbrev shown : Row → ℕ × List (Option (List ℕ))
shown row = (row.at, map text_in row.cells)

-- an absent id and an absent field are told from an empty one
ets_rows : map shown (table_of Ets (codes "=erl_crash_dump:0.5\n=ets\n=ets:a\nTable: t\nName:\n=ets_x:b\n=end\n")).rows
    ≡ (20, None ∷ None ∷ None ∷ None ∷ None ∷ []) ∷ (25, Some (codes "a") ∷ Some (codes "t") ∷ Some [] ∷ None ∷ None ∷ []) ∷ []
ets_rows = refl

-- the nodes come in dump order, not tag by tag
node_rows : map shown (table_of Nodes (codes "=erl_crash_dump:0.5\n=hidden_node:1\nName: b\n=visible_node:2\nCreation: 3\n")).rows
    ≡ (20, Some (codes "hidden_node") ∷ Some (codes "1") ∷ Some (codes "b") ∷ None ∷ None ∷ [])
    ∷ (43, Some (codes "visible_node") ∷ Some (codes "2") ∷ None ∷ None ∷ Some (codes "3") ∷ []) ∷ []
node_rows = refl

-- each section with the tag counts, with an id or without one, and its first field
field_rows : map shown (section_fields (codes "port") (codes "Slot") (codes "=erl_crash_dump:0.5\n=port:a\nSlot: 1\nSlot: 2\n=port\nSlots: 3\n=ports:b\nSlot: 4\n=port:a\nSlot:\n"))
    ≡ (20, Some (codes "a") ∷ Some (codes "1") ∷ []) ∷ (44, None ∷ None ∷ []) ∷ (76, Some (codes "a") ∷ Some [] ∷ []) ∷ []
field_rows = refl
