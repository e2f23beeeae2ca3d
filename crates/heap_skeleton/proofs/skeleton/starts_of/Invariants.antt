use Rattle.std.proofs.Common.{◌≡◌, take}
use Rattle.heap_skeleton.specs.Inner.Shown.{starts_of}
use Rattle.heap_skeleton.proofs.skeleton.starts_of.Given as goal

-- those of the first parts
abbrev pub invariant-loop-part : goal.invariant-loop-part
invariant-loop-part l = l.starts.items ≡ starts_of (take l.part-index l.parts)
