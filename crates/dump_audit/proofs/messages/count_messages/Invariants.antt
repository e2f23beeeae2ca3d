use Rattle.std.proofs.Common.{◌≡◌, length, map, take}
use Rattle.dump_io.specs.Dumps.{IfTold, ReadsAtMost}
use Rattle.dump_audit.specs.Mailboxes.{mail_of}
use Rattle.dump_audit.specs.Inner.Mailboxes.{mails_length}
use Rattle.dump_audit.proofs.messages.count_messages.Given as goal

-- the messages of the mailboxes so far were counted
abbrev pub invariant-loop-place : goal.invariant-loop-place
invariant-loop-place g l =
    let places = take l.place-index l.places in
    record {
      reads : ReadsAtMost (g.D.Dumps.state l.initial.dumps) (g.D.Dumps.state l.dumps) (mails_length l.index places);
      counts : IfTold (g.D.Dumps.state l.initial.dumps).now (λ bytes. l.counts.items ≡ map (mail_of bytes l.index) places);
      all : length l.counts.items ≡ l.place-index;
    }
