use Rattle.std.proofs.Common.{◌≡◌, ℕ, ◌<◌, false, [], get_or}
use Rattle.dump_sections.specs.Index.{sections_in}
use Rattle.dump_sections.specs.Inner.Wanted.{is_wanted}
use Rattle.dump_sections.specs.Sections.{section}
use Rattle.dump_sections.proofs.lookups.position.Given as goal

-- none of the sections before `i` is wanted
abbrev pub invariant-loop-i : goal.invariant-loop-i
invariant-loop-i l = (k : ℕ) → k < l.i → is_wanted l.wanted (get_or (sections_in l.index) k (section 0 0 0 [])).text ≡ false
