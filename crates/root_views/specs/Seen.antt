-- What contracts see of a root: its value, regardless of where it lies in memory.
use Rattle.term_forms.specs.Seen.{element}
use Rattle.root_views.specs.Roots.{Content, Term, Info, Dist, Unread, BodyRoot}
use Rattle.root_views.specs.declared.roots.Root.{Root}
use Rattle.root_views.specs.declared.roots.What.{What}
use Rattle.root_views.specs.declared.roots.What.TheVariants as what

-- what a root is
abbrev pub content : What → Content
content (what.Term e) = Term (element e)
content (what.Info text) = Info text.now
content (what.Dist text) = Dist text.now
content what.Unread = Unread

-- the value of a root
abbrev pub root : Root → BodyRoot
root r = record { at = r.at; label = r.label.now; content = content r.what }
