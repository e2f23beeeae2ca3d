-- Counting tags one after another.
use Rattle.std.specs.Prelude.{◌≡◌, ℕ, ◌+◌, false, List, [], ◌∷◌, map, All, Option, None, Some, option_map, if◌then◌else◌}
use Rattle.std.specs.BTreeMap.{BTreeMap, get_by}
use Rattle.std.specs.Str.{bytes_eq}
use denote.Ref.{Bor}
use Rattle.dump_sections.specs.declared.tags.TagCount.{TagCount}
use Rattle.dump_sections.specs.Inner.Marks.{mark_cmp}
use Rattle.dump_sections.specs.Tags.{tag_counts}

-- the counts that are stored
abbrev pub counts_of : List TagCount → List (List ℕ × ℕ)
counts_of counts = map (λ count. (count.tag.items, count.count)) counts

-- counts with one more for a tag, which is added at the end if it is new
abbrev pub one_more : List ℕ → List (List ℕ × ℕ) → List (List ℕ × ℕ)
one_more tag [] = (tag, 1) ∷ []
one_more tag (pair ∷ pairs) = if bytes_eq tag pair.0 then (pair.0, pair.1 + 1) ∷ pairs else pair ∷ one_more tag pairs

-- the place of a tag among counts
abbrev pub place_in : List ℕ → List (List ℕ × ℕ) → Option ℕ
place_in tag [] = None
place_in tag (pair ∷ pairs) = if bytes_eq tag pair.0 then Some 0 else option_map (λ n. n + 1) (place_in tag pairs)

-- no two of the counts have the same tag
abbrev pub AreApart : List (List ℕ × ℕ) → Type 0
AreApart [] = Unit {0}
AreApart (pair ∷ pairs) = All (λ other. bytes_eq pair.0 other.0 ≡ false) pairs × AreApart pairs

-- the tree has the place of each tag among the counts
abbrev pub AreNumbered : BTreeMap (ℕ × Bor (List ℕ)) ℕ → List (List ℕ × ℕ) → Type 0
AreNumbered numbers counts = (tag : List ℕ) → get_by (mark_cmp tag) numbers ≡ place_in tag counts

-- the counts are those of these tags, and each tag is found
pub record IsCounted (numbers : BTreeMap (ℕ × Bor (List ℕ)) ℕ) (counts : List (List ℕ × ℕ)) (tags : List (List ℕ)) : Type 0 where
  pub counted : counts ≡ tag_counts tags
  pub numbered : AreNumbered numbers counts
