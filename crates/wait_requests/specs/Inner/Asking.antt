-- Finding the first request with a reference.
use Rattle.std.specs.Prelude.{◌≡◌, ℕ, Bool, List, option_map, Option, None, Some, slice_get, position, if◌then◌else◌}
use Rattle.std.specs.BTreeMap.{BTreeMap, get_by}
use Rattle.std.specs.Cmp.Lexicographic.{slice_cmp}
use Rattle.std.specs.List.{position_or_len}
use Rattle.std.specs.Option.{option_or}
use Rattle.std.specs.Ordering.{nat_cmp}
use denote.Ref.{Bor}
use Rattle.link_graph.specs.Requests.{Request}
use Rattle.wait_requests.specs.References.{has_tail, has_words}
use Rattle.wait_requests.specs.Waits.{is_held}

-- whether this stands behind the first number of the reference of a request
abbrev pub is_tail : List ℕ → Request → Bool
is_tail tail request = has_tail tail request.reference

-- the place in a tree for such a text
abbrev pub place_in : BTreeMap (Bor (List ℕ)) ℕ → List ℕ → Option ℕ
place_in tree tail = get_by (λ key. slice_cmp nat_cmp tail key.now) tree

-- a place was noted of the text that stands behind the first number of a reference, if the tree had none for it
pub record IsNoted (old new : BTreeMap (Bor (List ℕ)) ℕ) (reference : List ℕ) (place : ℕ) : Type 0 where
  pub each : (tail : List ℕ) → place_in new tail ≡ option_or (place_in old tail) (if has_tail tail reference then Some place else None)

-- the tree has for each such text the place of the first request with it
pub record IsRequestTree (tree : BTreeMap (Bor (List ℕ)) ℕ) (requests : List Request) : Type 0 where
  pub each : (tail : List ℕ) → place_in tree tail ≡ position (is_tail tail) requests

-- how many requests stand before the first with these words
abbrev pub before_words : List Request → List ℕ → ℕ
before_words requests words = position_or_len (λ request. has_words words request.reference) requests

-- how many requests stand before the first whose reference is one of these
abbrev pub before_held : List Request → List (List ℕ) → ℕ
before_held requests helds = position_or_len (is_held helds) requests

-- whom the request at a place asks
abbrev pub target_at : List Request → ℕ → Option (List ℕ)
target_at requests place = option_map (λ request. request.target) (slice_get requests place)
