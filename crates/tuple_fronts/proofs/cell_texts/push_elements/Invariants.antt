use Rattle.std.proofs.Common.{◌≡◌, ◌++◌, map, take}
use Rattle.tuple_fronts.specs.Shapes.{comma_list}
use Rattle.tuple_fronts.specs.CellTexts.{element_text}
use Rattle.tuple_fronts.proofs.cell_texts.push_elements.Given as goal

-- the elements so far were written
abbrev pub invariant-loop-place : goal.invariant-loop-place
invariant-loop-place l = l.text.items ≡ l.fn.text.items ++ comma_list (take l.place (map (element_text l.pids l.skeleton l.tuples) l.front))
