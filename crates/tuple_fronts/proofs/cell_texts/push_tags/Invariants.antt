use Rattle.std.proofs.Common.{◌≡◌, ◌++◌, take}
use Rattle.tuple_fronts.specs.Shapes.{comma_list, tags_with}
use Rattle.tuple_fronts.proofs.cell_texts.push_tags.Given as goal

-- the elements so far were written
abbrev pub invariant-loop-place : goal.invariant-loop-place
invariant-loop-place l = l.text.items ≡ l.fn.text.items ++ comma_list (take l.place (tags_with l.pids l.front))
