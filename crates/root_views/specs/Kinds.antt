-- The kinds of bodies that hold roots of a process.
use Rattle.std.specs.Prelude.{ℕ, List, codes}
use Rattle.root_views.specs.Roots.{BodyRoot, stack_roots, dict_roots, mail_roots}
use Rattle.root_views.specs.declared.kinds.RootKind.{RootKind}
use Rattle.root_views.specs.declared.kinds.RootKind.TheVariants.{Stack, Dict, Mail}

-- the tag of the sections with roots of a kind
abbrev pub roots_tag : RootKind → List ℕ
roots_tag Stack = codes "proc_stack"
roots_tag Dict = codes "proc_dictionary"
roots_tag Mail = codes "proc_messages"

-- the roots of a body of this kind
abbrev pub roots_in : RootKind → List ℕ → List BodyRoot
roots_in Stack body = stack_roots body
roots_in Dict body = dict_roots body
roots_in Mail body = mail_roots body
