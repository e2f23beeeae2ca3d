use Rattle.root_views.proofs.MailFacts.{mail_inside}
use Rattle.root_views.proofs.mailboxes.mail.Goals as goal

pub returns-clause-inside : goal.returns-clause-inside
returns-clause-inside c = mail_inside c.args.body.now c.lines.result c.lines.ensures.parts
