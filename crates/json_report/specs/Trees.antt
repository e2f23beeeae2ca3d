-- The findings of an audit as one JSON value. The keys of each
-- object are in the order of their bytes. Offsets are of the file.
use Rattle.std.specs.Prelude.{ℕ, List, [], ◌∷◌, ◌++◌, length, map, decimal, codes, encode_utf8_all}
use Rattle.serde_json.specs.Data.{Data, number, unsigned, string, array, object, Items, Members, no_members, member}
use Rattle.serde_json.specs.View.{items_of}
use Rattle.serde_json.specs.Written.{compact_text}
use Rattle.dump_sections.specs.declared.index.State.{State}
use Rattle.dump_sections.specs.declared.index.State.TheVariants.{Whole, TruncatedIn}
use Rattle.dump_sections.specs.Bodies.{section_at}
use Rattle.dump_sections.specs.Index.{Contents, dump_state}
use Rattle.process_table.specs.Processes.{Process}
use Rattle.dump_audit.specs.FindingViews.{Named, Partner, Monitor, Count, Counts, View, view_of}
use Rattle.dump_audit.specs.Findings.{Audit, findings}
use Rattle.dump_audit.specs.declared.finding.Finding.{Finding}

-- ---- values

-- the UTF-8 of a text of the dump, each byte of which is the character with that number
abbrev pub characters : List ℕ → List ℕ
characters bytes = encode_utf8_all bytes

-- a text of the dump as a value
abbrev pub text : List ℕ → Data
text bytes = string (characters bytes)

-- a number
abbrev pub num : ℕ → Data
num n = number (unsigned n)

-- members in this order
abbrev pub members : List (List ℕ × Data) → Members
members [] = no_members
members ((key, value) ∷ rest) = member key value (members rest)

-- ---- the object of a finding

-- the numbers and pids that a finding names, where their keys stand before its kind
abbrev pub named_before : Named → List (List ℕ × Data)
named_before (Count messages) = (codes "count", num messages) ∷ []
named_before (Counts stated found) = (codes "found", num found) ∷ []
named_before named = []

-- the numbers and pids that a finding names, where their keys stand behind its process
abbrev pub named_behind : Named → List (List ℕ × Data)
named_behind (Partner pid) = (codes "q", text pid) ∷ []
named_behind (Monitor pid reference) = (codes "q", text pid) ∷ (codes "ref", text reference) ∷ []
named_behind (Counts stated found) = (codes "stated", num stated) ∷ []
named_behind named = []

-- the members of the object of a finding
abbrev pub view_members : View → List (List ℕ × Data)
view_members v = (codes "at", num v.at) ∷ (named_before v.named
    ++ (codes "kind", string v.word) ∷ (codes "other", num v.other) ∷ (codes "p", text v.pid) ∷ named_behind v.named)

-- the object of a finding
abbrev pub finding_object : List Process → Finding → Data
finding_object ps finding = object (members (view_members (view_of ps finding)))

-- ---- the tree

-- the text on a dump's state: that it is whole, or the offset
-- and the header's text of the section in which it is truncated
abbrev pub state_text : Contents → State → List ℕ
state_text index Whole = codes "whole"
state_text index (TruncatedIn last) =
    codes "truncated " ++ (decimal (section_at index last).at ++ (codes " " ++ characters (section_at index last).text))

-- an object with the number of findings, their objects and the state
abbrev pub tree_object : ℕ → Items → List ℕ → Data
tree_object count objects state = object (members (
    (codes "count", num count) ∷ (codes "findings", array objects) ∷ (codes "state", string state) ∷ []))

-- the tree of these findings, in their order, on a dump with these sections and processes
abbrev pub finding_tree : Contents → List Process → List Finding → Data
finding_tree index processes found =
    tree_object (length found) (items_of (map (finding_object processes) found)) (state_text index (dump_state index.headers))

-- the tree of an audit
abbrev pub audit_tree : Audit → Data
audit_tree a = finding_tree a.index a.processes (findings a)

-- the text of a tree and an LF
abbrev pub json_text : Data → List ℕ
json_text tree = compact_text tree ++ codes "\n"

-- the text of the tree of findings and an LF
abbrev pub findings_text : Contents → List Process → List Finding → List ℕ
findings_text index processes found = json_text (finding_tree index processes found)
