-- The beginning of a `binary` section's body.
use Rattle.std.specs.Prelude.{◌≡◌, ℕ, ◌≤◌, List, drop, Option, IfSome}
use Rattle.std.specs.Option.{option_map}
use Rattle.term_forms.specs.Words.{led_of}
use Rattle.binary_refs.specs.declared.leads.Lead.{Lead}

-- the length with which a body begins, and the characters after it
abbrev pub led_by : List ℕ → Lead → ℕ × List ℕ
led_by body lead = (lead.length, drop lead.chars body)

-- this is how the body begins, with a length, or `None` if it begins with none
abbrev pub IsLeadOf : List ℕ → Option Lead → Type 0
IsLeadOf body lead = option_map (led_by body) lead ≡ led_of body

-- the lead of a body, if it has one, ends within this many bytes
abbrev pub IsLeadWithin : ℕ → Option Lead → Type 0
IsLeadWithin size lead = IfSome lead (λ lead. lead.chars ≤ size)
