-- How fronts are kept: the texts of all their elements in one pool.
use Rattle.std.specs.Prelude.{◌≡◌, ℕ, ◌+◌, ◌-◌, ◌≤◌, ◌==◌, slice_index, slice_index_or, if◌then◌else◌, List, [], ◌∷◌, ◌++◌, length, map, take, slice_range, unwrap_or, IfSome, Option, Some}
use Rattle.term_forms.specs.Elements.{Element, Nil}
use Rattle.term_forms.specs.Reading.{whole_of}
use Rattle.tuple_fronts.specs.declared.kept.Kept.{Kept}

-- lists one behind the other
abbrev pub joined : {X : Type 0} → List (List X) → List X
joined [] = []
joined (list ∷ lists) = list ++ joined lists

-- where each of these lists ends, if they stand one behind the other from a place on
abbrev pub ends_from : {X : Type 0} → ℕ → List (List X) → List ℕ
ends_from at [] = []
ends_from at (list ∷ lists) = (at + length list) ∷ ends_from (at + length list) lists

-- the parts of a list that end at these places, the first of which begins at a place
abbrev pub parts_from : {X : Type 0} → ℕ → List X → List ℕ → List (List X)
parts_from at xs [] = []
parts_from at xs (end ∷ ends) = slice_range xs at end ∷ parts_from end xs ends

-- the element that a text spells
abbrev pub read_element : List ℕ → Element
read_element text = unwrap_or (whole_of text) Nil

-- the fronts that are kept in these vectors
abbrev pub shown_fronts : List ℕ → List ℕ → List ℕ → List (List Element)
shown_fronts texts ends lasts = map (map read_element) (parts_from 0 (parts_from 0 texts ends) lasts)

-- the vectors hold these fronts, and behind them the elements of one that isn't ended
pub record Holds (fronts : List (List Element)) (begun : List Element) (texts ends lasts : List ℕ) : Type 0 where
  pub front_texts : List (List (List ℕ))
  pub begun_texts : List (List ℕ)
  pub texts_are : texts ≡ joined (joined front_texts ++ begun_texts)
  pub ends_are : ends ≡ ends_from 0 (joined front_texts ++ begun_texts)
  pub lasts_are : lasts ≡ ends_from 0 front_texts
  pub spelled : map (map whole_of) front_texts ≡ map (map Some) fronts
  pub begun_spelled : map whole_of begun_texts ≡ map Some begun

-- of a cell of which the elements are known, if they are, these are the first so many
pub record IsFrontOf (most : ℕ) (known : Option (List Element)) (front : List Element) : Type 0 where
  pub few : length front ≤ most
  pub are : IfSome known (λ elements. front ≡ take most elements)

-- the fronts of several cells, in order
abbrev pub AreFrontsOf : ℕ → List (Option (List Element)) → List (List Element) → Type 0
AreFrontsOf most [] [] = Unit {0}
AreFrontsOf most (known ∷ more) (front ∷ fronts) = IsFrontOf most known front × AreFrontsOf most more fronts
AreFrontsOf most knowns fronts = ⊥

-- fronts are kept of which this is known, and behind them the elements of one that isn't ended
pub record IsKeptWith (knowns : List (Option (List Element))) (begun : List Element) (kept : Kept) : Type 0 where
  pub fronts : List (List Element)
  pub holds : Holds fronts begun kept.texts.items kept.ends.items kept.lasts.items
  pub are : AreFrontsOf kept.most knowns fronts

-- fronts are kept of which this is known
abbrev pub IsKept : List (Option (List Element)) → Kept → Type 0
IsKept knowns kept = IsKeptWith knowns [] kept

-- behind what was kept fronts of which this is known are kept too
pub record Keeps (old new : Kept) (knowns : List (Option (List Element))) : Type 0 where
  pub most : new.most ≡ old.most
  pub later : (before : List (Option (List Element))) → IsKept before old → IsKept (before ++ knowns) new

-- behind what was kept are the elements of a front that isn't ended, of which this is known
pub record Begins (old new : Kept) (known : Option (List Element)) : Type 0 where
  pub most : new.most ≡ old.most
  pub front : List Element
  pub is : IsFrontOf old.most known front
  pub later : (before : List (Option (List Element))) → IsKept before old → IsKeptWith before front new

-- the text of an element was appended
pub record IsPushed (old new : Kept) (text : List ℕ) : Type 0 where
  pub texts : new.texts.items ≡ old.texts.items ++ text
  pub ends : new.ends.items ≡ old.ends.items ++ (length old.texts.items + length text) ∷ []
  pub lasts : new.lasts.items ≡ old.lasts.items
  pub most : new.most ≡ old.most

-- a front was ended
pub record IsEnded (old new : Kept) : Type 0 where
  pub texts : new.texts.items ≡ old.texts.items
  pub ends : new.ends.items ≡ old.ends.items
  pub lasts : new.lasts.items ≡ old.lasts.items ++ length old.ends.items ∷ []
  pub most : new.most ≡ old.most

-- fronts are kept
pub record IsSound (kept : Kept) : Type 0 where
  pub fronts : List (List Element)
  pub holds : Holds fronts [] kept.texts.items kept.ends.items kept.lasts.items

-- where the part with a number begins, of parts that end at these places
abbrev pub start_at : List ℕ → ℕ → ℕ
start_at ends i = if i == 0 then 0 else slice_index ends (i - 1)

-- the texts of the elements of all fronts
abbrev pub element_texts : Kept → List (List ℕ)
element_texts kept = parts_from 0 kept.texts.items kept.ends.items

-- where the elements of a front begin and end among those of all fronts
pub record IsSpanOf (kept : Kept) (i : ℕ) (span : ℕ × ℕ) : Type 0 where
  pub ordered : span.0 ≤ span.1
  pub within : span.1 ≤ length kept.ends.items
  pub front : slice_index_or (shown_fronts kept.texts.items kept.ends.items kept.lasts.items) i []
      ≡ map read_element (slice_range (element_texts kept) span.0 span.1)
