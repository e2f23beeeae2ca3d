-- The shapes of parts, given the skeleton of the heap, the first elements of the lists whose tails are shown, and those of
-- the tuples that are needed.
use Rattle.std.specs.Prelude.{ℕ, ◌++◌, false, List, [], codes, flat_map, map, slice_get}
use Rattle.std.specs.Option.{option_map_or}
use Rattle.heap_skeleton.specs.Skeletons.{SkeletonMap}
use Rattle.term_forms.specs.Elements.{Element, Ref}
use Rattle.tuple_fronts.specs.CellSets.{cell_with}
use Rattle.tuple_fronts.specs.CellTexts.{subject_text}
use Rattle.tuple_fronts.specs.Shapes.{plain_shape}
use Rattle.tuple_fronts.specs.Tuples.{TupleMap, front_at, needed_at}
use Rattle.part_keys.specs.declared.key_places.KeyPlace.{KeyPlace}
use Rattle.part_keys.specs.declared.key_places.KeyPlace.TheVariants as place
use Rattle.part_keys.specs.declared.shaped.ShapedPart.{ShapedPart}
use Rattle.part_keys.specs.declared.shaped.ShapedPart.TheVariants as shaped
use Rattle.part_keys.specs.Inner.KeyTexts.{all_key_tuples, lead_at}

-- where the value stands that is read for a part
abbrev pub value_place : ShapedPart → KeyPlace
value_place (shaped.Cell n) = place.NoKey
value_place (shaped.Value n) = place.At n 1

-- where the elements stand that are read
abbrev pub read_places : List KeyPlace → List ShapedPart → List KeyPlace
read_places keys parts = keys ++ map value_place parts

-- the tuples that the shape of a part needs
abbrev pub part_tuples : SkeletonMap → ShapedPart → List ℕ
part_tuples s (shaped.Cell n) = needed_at s n
part_tuples s (shaped.Value n) = option_map_or (needed_at s) (lead_at s n 1) []

-- those that several need
abbrev pub all_part_tuples : SkeletonMap → List ShapedPart → List ℕ
all_part_tuples s parts = flat_map (part_tuples s) parts

-- the tuples that are read
abbrev pub all_tuples : SkeletonMap → List KeyPlace → List ShapedPart → List ℕ
all_tuples s keys parts = all_key_tuples s keys ++ all_part_tuples s parts

-- the shape of a term
abbrev pub term_text : SkeletonMap → TupleMap → Element → List ℕ
term_text s tuples (Ref address) = option_map_or (subject_text false s tuples) (cell_with s.addresses address) (codes "missing()")
term_text s tuples e = plain_shape e

-- that of the tail of a list
abbrev pub value_text : SkeletonMap → TupleMap → TupleMap → ℕ → List ℕ
value_text s firsts tuples n = option_map_or (term_text s tuples) (slice_get (front_at firsts n) 1) (codes "?")

-- that of a part
abbrev pub part_text : SkeletonMap → TupleMap → TupleMap → ShapedPart → List ℕ
part_text s firsts tuples (shaped.Cell n) = subject_text false s tuples n
part_text s firsts tuples (shaped.Value n) = value_text s firsts tuples n
