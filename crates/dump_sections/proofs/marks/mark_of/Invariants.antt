use Rattle.std.proofs.Common.{◌≡◌, take}
use Rattle.dump_sections.specs.Inner.Marks.{mark_of}
use Rattle.dump_sections.proofs.marks.mark_of.Given as goal

-- the bytes before `byte` are taken in
abbrev pub invariant-loop-byte : goal.invariant-loop-byte
invariant-loop-byte l = l.mark ≡ mark_of (take l.byte-index l.tag)
