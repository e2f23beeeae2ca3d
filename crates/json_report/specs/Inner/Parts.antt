-- What a tree is made of.
use Rattle.std.specs.Prelude.{ℕ, List, length, map}
use Rattle.serde_json.specs.Data.{Data}
use Rattle.serde_json.specs.View.{items_of}
use Rattle.process_table.specs.Processes.{Process}
use Rattle.dump_audit.specs.declared.finding.Finding.{Finding}
use Rattle.json_report.specs.Trees.{finding_object, tree_object}

-- the processes, what was found of them, and the text on the state of the dump
pub record Parts : Type 0 where
  pub processes : List Process
  pub found : List Finding
  pub state : List ℕ

-- the processes, what was found of them, and the text on the state of the dump, as one value
abbrev pub parts : List Process → List Finding → List ℕ → Parts
parts processes found state = record { processes = processes; found = found; state = state }

-- the tree of the findings among the processes, with the state of the dump
abbrev pub tree_of : Parts → Data
tree_of p = tree_object (length p.found) (items_of (map (finding_object p.processes) p.found)) p.state
