-- Where the texts of a kind are in the text of an entry.
use Rattle.std.specs.Prelude.{◌≡◌, ℕ, ◌+◌, ◌-◌, ◌≤◌, List, length}
use Rattle.std.specs.List.{between}
use Rattle.link_graph.specs.Kinds.{Kind, Link, LinkPort, To, ToPort, ToName, From, FromPort, Other}
use Rattle.link_graph.specs.Reading.{entry_kind}
use Rattle.link_graph.specs.declared.listed.Layout.{Layout}
use Rattle.link_graph.specs.declared.listed.Layout.TheVariants as layout

-- the reference, which stands before the closing `}`
abbrev pub reference_in : ℕ → List ℕ → List ℕ
reference_in size text = between (length text - 1 - size) (length text - 1) text

-- the partner, which stands after the opening and before the comma of the reference
abbrev pub partner_in : ℕ → ℕ → List ℕ → List ℕ
partner_in opening size text = between opening (length text - 2 - size) text

-- the layout of the texts of a kind
abbrev pub layout_of : Kind → Layout
layout_of (Link pid) = layout.Link
layout_of LinkPort = layout.LinkPort
layout_of (To pid reference) = layout.To (length reference)
layout_of ToPort = layout.ToPort
layout_of (ToName reference) = layout.ToName (length reference)
layout_of (From pid reference) = layout.From (length reference)
layout_of FromPort = layout.FromPort
layout_of Other = layout.Other

-- the kind of a text with this layout: `{to,` has four bytes and `{from,` six
abbrev pub laid_out : Layout → List ℕ → Kind
laid_out layout.Link text = Link text
laid_out layout.LinkPort text = LinkPort
laid_out (layout.To size) text = To (partner_in 4 size text) (reference_in size text)
laid_out layout.ToPort text = ToPort
laid_out (layout.ToName size) text = ToName (reference_in size text)
laid_out (layout.From size) text = From (partner_in 6 size text) (reference_in size text)
laid_out layout.FromPort text = FromPort
laid_out layout.Other text = Other

-- how many bytes a text with this layout has at least
abbrev pub least_size : Layout → ℕ
least_size (layout.To size) = size + 6
least_size (layout.ToName size) = size + 1
least_size (layout.From size) = size + 8
least_size _ = 0

-- the layout is that of the text's kind
pub record IsLaidOut (layout : Layout) (text : List ℕ) : Type 0 where
  pub kind : laid_out layout text ≡ entry_kind text
  pub room : least_size layout ≤ length text
