use Rattle.std.proofs.Common.{◌≡◌, map, take}
use Rattle.term_forms.specs.Seen.{element}
use Rattle.term_text.specs.Reach.{root_elements}
use Rattle.heap_commands.proofs.peek.terms_of.Given as goal

-- the elements of the roots so far
abbrev pub invariant-loop-i : goal.invariant-loop-i
invariant-loop-i l = map element l.terms.items ≡ root_elements (take l.i l.roots.shown)
