-- What is heard of a mailbox.
use Rattle.std.proofs.Common.{◌≡◌, ℕ, List, [], ◌++◌, Option, refl, sym, ◌∙◌, ap, ap₂, append-nil}
use Rattle.std.specs.List.{between}
use Rattle.body_lines.specs.Hearing.{HearsBody}
use Rattle.dump_io.specs.Dumps.{Now}
use Rattle.dump_sections.specs.Bodies.{body_in, body_start}
use Rattle.dump_sections.specs.Sections.{Section}
use Rattle.root_views.specs.Placed.{placed_roots}
use Rattle.root_views.specs.declared.kinds.RootKind.TheVariants.{Mail}
use Rattle.message_shapes.specs.Inner.Hearing.{Tells, TellsSection}
use Rattle.message_shapes.specs.Inner.Telling.{roots_told}
use Rattle.message_shapes.specs.declared.mail_sink.MailSink.{MailSink}

-- no root was heard
Tells-none : (sink : MailSink) → Tells sink sink []
Tells-none sink = record { skeleton = refl; pids = refl; heard = sym (append-nil sink.heard) }

-- what a sink heard of the body of a section
pub section-tells : (old new : MailSink) (now : Now) (from upto : ℕ) (found : Option Section) → from ≡ body_start found → ((dump : List ℕ) → between from upto dump ≡ body_in dump found)
    → HearsBody Tells (placed_roots Mail) old new from upto now → TellsSection now found old new
section-tells old new now from upto found start body hears =
    let tells = hears.heard.later old [] (Tells-none old) in record {
      skeleton = tells.skeleton;
      heard = λ dump is. tells.heard ∙ ap (λ roots. old.heard ++ roots_told old.pids old.skeleton.now.addresses roots) (hears.are dump is ∙ ap₂ (placed_roots Mail) start (body dump));
    }
