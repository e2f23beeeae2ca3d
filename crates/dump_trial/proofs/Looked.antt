-- What is looked up among the first sections of a tag.
use Rattle.std.proofs.Common.{◌≡◌, ℕ, ◌<◌, List, length, Option, ◌∙◌, ap, subst}
use Rattle.std.specs.Prelude.{IfSome}
use Rattle.dump_sections.specs.Bodies.{section_in}
use Rattle.dump_sections.specs.Index.{Contents, sections_in}
use Rattle.dump_sections.specs.Lookups.{first_named}
use Rattle.dump_sections.specs.Firsts.{Firsts}
use Rattle.dump_trial.specs.Inner.Finding.{firsts}

-- the section of an id is at this place, which is one of the index
abbrev pub IsLooked : List ℕ → Option ℕ → Firsts → Type 0
IsLooked id place f = (section_in f.index place ≡ first_named f.tag id (sections_in f.index)) × IfSome place (λ i. i < length f.index.headers)

-- it is the same in the index that is shown
pub looked : (index shown : Contents) (tag id : List ℕ) (found : Firsts) (place : Option ℕ) → found ≡ firsts index tag → index ≡ shown → IsLooked id place found → IsLooked id place (firsts shown tag)
looked index shown tag id found place is same at = subst (IsLooked id place) (is ∙ ap (λ i. firsts i tag) same) at
