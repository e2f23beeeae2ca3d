use Rattle.std.proofs.Common.{◌-◌}
use Rattle.heap_levels.specs.Inner.Descent.{IsDescending}
use Rattle.heap_levels.specs.declared.levels.Subject.TheVariants as of
use Rattle.heap_levels.proofs.descending.descend.Given as goal

-- so many levels may follow
abbrev pub invariant-loop-level : goal.invariant-loop-level
invariant-loop-level l = IsDescending (19 - l._level) l.most l.skeleton l.total (of.OfKind l.fn.kind) l.fn.first l.found l.subject l.parts
