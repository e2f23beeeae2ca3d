use Rattle.std.proofs.Common.{◌≡◌, ◌++◌}
use Rattle.dump_write.specs.Made.{messages_section}
use Rattle.dump_write.specs.Written.{lines_of}
use Rattle.dump_write.proofs.made.put_messages_section.Given as goal

-- the messages so far are appended
abbrev pub invariant-loop : goal.invariant-loop
invariant-loop l = l.into.items ≡ l.fn.into.items ++ lines_of (messages_section l.i l.counter)
