-- The sections of a dump that was cut off.
use Rattle.std.specs.Prelude.{◌≡◌, ℕ, ◌-◌, List, length, take, map, count_by, nat_lt}
use Rattle.dump_sections.specs.Sections.{Section}

-- the sections of a prefix of this many bytes, beside those of the whole dump: as many as begin within
-- the prefix; all but the last are those of the whole, and the last begins where it does in the whole
pub record AreCutSections (front whole : List Section) (size : ℕ) : Type 0 where
  pub count : length front ≡ count_by (λ section. nat_lt section.at size) whole
  pub all_but_last : take (length front - 1) front ≡ take (length front - 1) whole
  pub places : map (λ section. section.at) front ≡ take (length front) (map (λ section. section.at) whole)
