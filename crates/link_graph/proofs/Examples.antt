-- The definitions of entries at worked examples, which the checker computes.
use Rattle.std.proofs.Common.{◌≡◌, true, false, [], ◌∷◌, None, Some, map, refl}
use Rattle.std.specs.Prelude.{codes}
use Rattle.link_graph.specs.Texts.{behind, before, inside, at_first_dot, is_pair, is_triple, is_pid, is_local, is_port, is_reference, is_braced}
use Rattle.link_graph.specs.Kinds.{Link, LinkPort, To, ToPort, ToName, From, FromPort, Other}
use Rattle.link_graph.specs.Reading.{at_last_comma, parties, to_kind, from_kind, monitor_kind, entry_kind}
use Rattle.link_graph.specs.Entries.{cut, list_parts}

-- a pid has three numbers
pids : map is_pid (codes "<0.1.0>" ∷ codes "<71.23.456>" ∷ codes "<0.1>" ∷ codes "<0.1.0.2>" ∷ codes "<0..1>" ∷ codes "<0.1.0" ∷ codes "0.1.0" ∷ [])
    ≡ true ∷ true ∷ false ∷ false ∷ false ∷ false ∷ false ∷ []
unfolding behind before inside at_first_dot is_pair is_triple is_pid
pids = refl

-- the first number of a local pid is `0` and nothing else
local_pids : map is_local (codes "<0.1.0>" ∷ codes "<00.1.0>" ∷ codes "<71.23.456>" ∷ codes "<0.1>" ∷ [])
    ≡ true ∷ false ∷ false ∷ false ∷ []
unfolding behind before inside at_first_dot is_pair is_triple is_pid is_local
local_pids = refl

-- a port and a reference have digits and dots in any order, one at least
ports : map is_port (codes "#Port<0.3>" ∷ codes "#Port<.>" ∷ codes "#Port<>" ∷ codes "#port<0.3>" ∷ codes "#Port<0.x>" ∷ [])
    ≡ true ∷ true ∷ false ∷ false ∷ false ∷ []
unfolding behind before inside is_port
ports = refl

references : map is_reference (codes "#Ref<0.1.2.3>" ∷ codes "#Ref<>" ∷ codes "#Ref<0,1>" ∷ codes "#Port<0.1>" ∷ [])
    ≡ true ∷ false ∷ false ∷ false ∷ []
unfolding behind before inside is_reference
references = refl

-- one entry of each kind
kinds : map entry_kind (codes "<0.7.0>" ∷ codes "#Port<0.3>" ∷ codes "{to,<0.1.0>,#Ref<0.9>}" ∷ codes "{to,#Port<0.3>,#Ref<0.9>}" ∷ codes "{to,{q,n@h},#Ref<0.9>}" ∷ codes "{from,<0.1.0>,#Ref<0.9>}" ∷ codes "{from,#Port<0.3>,#Ref<0.9>}" ∷ [])
    ≡ Link (codes "<0.7.0>") ∷ LinkPort ∷ To (codes "<0.1.0>") (codes "#Ref<0.9>") ∷ ToPort ∷ ToName (codes "#Ref<0.9>") ∷ From (codes "<0.1.0>") (codes "#Ref<0.9>") ∷ FromPort ∷ []
unfolding behind before inside at_first_dot is_pair is_triple is_pid is_port is_reference is_braced at_last_comma parties to_kind from_kind monitor_kind entry_kind
kinds = refl

-- a name may hold braces and commas, and nothing that lacks a part is a monitor
other_kinds : map entry_kind (codes "{to,{},{,},#Ref<0.9>}" ∷ codes "{to,{q},#Ref<0.9>" ∷ codes "{to,q,#Ref<0.9>}" ∷ codes "{to,<0.1.0>}" ∷ codes "{from,{q},#Ref<0.9>}" ∷ codes "{to,<0.1.0>,<0.2.0>}" ∷ codes "x" ∷ [] ∷ [])
    ≡ ToName (codes "#Ref<0.9>") ∷ Other ∷ Other ∷ Other ∷ Other ∷ Other ∷ Other ∷ Other ∷ []
unfolding behind before inside at_first_dot is_pair is_triple is_pid is_port is_reference is_braced at_last_comma parties to_kind from_kind monitor_kind entry_kind
other_kinds = refl

-- a list is cut at each comma with a space behind it
parts : list_parts 0 (codes "[a,b, , c,, d]")
    ≡ Some (record { at = 1; text = codes "a,b" } ∷ record { at = 6; text = [] } ∷ record { at = 8; text = codes "c," } ∷ record { at = 12; text = codes "d" } ∷ [])
unfolding behind before inside cut
parts = refl

-- a list may be empty, and what isn't closed is none
lists : map (list_parts 0) (codes "[]" ∷ codes "[" ∷ codes "]" ∷ codes "[a" ∷ codes "" ∷ codes "[a] " ∷ [])
    ≡ Some [] ∷ None ∷ None ∷ None ∷ None ∷ None ∷ []
unfolding behind before inside cut
lists = refl
