-- Hearing the messages of a mailbox.
use Rattle.std.specs.Prelude.{◌≡◌, List, ◌++◌, length, Option}
use Rattle.dump_io.specs.Dumps.{Now, IfTold}
use Rattle.dump_sections.specs.Sections.{Section}
use Rattle.root_views.specs.Roots.{BodyRoot}
use Rattle.message_shapes.specs.Messages.{roots_in_mail}
use Rattle.message_shapes.specs.Inner.Telling.{roots_told, AreCells}
use Rattle.message_shapes.specs.declared.mail_sink.MailSink.{MailSink}

-- the messages that were heard refer to cells of the skeleton
abbrev pub IsReady : MailSink → Type 0
IsReady sink = AreCells (length sink.skeleton.now.leads) sink.heard

-- the messages among these roots came behind those before
pub record Tells (old new : MailSink) (roots : List BodyRoot) : Type 0 where
  pub skeleton : new.skeleton ≡ old.skeleton
  pub pids : new.pids ≡ old.pids
  pub heard : new.heard ≡ old.heard ++ roots_told old.pids old.skeleton.now.addresses roots

-- the messages among the roots in a section of what is open were told behind those before
pub record TellsSection (now : Now) (found : Option Section) (old new : MailSink) : Type 0 where
  pub skeleton : new.skeleton ≡ old.skeleton
  pub heard : IfTold now (λ dump.
      new.heard ≡ old.heard ++ roots_told old.pids old.skeleton.now.addresses (roots_in_mail dump found))
