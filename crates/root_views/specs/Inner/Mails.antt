-- The roots of one line of a mailbox.
use Rattle.std.specs.Prelude.{List, ◌∷◌}
use Rattle.std.specs.Option.{option_map, option_to_list}
use Rattle.root_views.specs.Roots.{BodyRoot}
use Rattle.root_views.specs.Seen.{root}
use Rattle.root_views.specs.declared.mails.Mail.{Mail}

-- a message, followed by its token
abbrev pub mail_list : Mail → List BodyRoot
mail_list mail = root mail.message ∷ option_to_list (option_map root mail.token)
