-- Parts grouped by their shapes.
use Rattle.std.proofs.Common.{◌≡◌, ℕ, zero, suc, ◌+◌, ◌-◌, ◌^◌, ◌<◌, ◌≤◌, Bool, true, false, if◌then◌else◌, List, [], ◌∷◌, ◌++◌, length, map, take, Option, None, Some, refl, sym, ◌∙◌, ap, ap₂, append_assoc, arith, length-append}
use Rattle.std.specs.Prelude.{slice_get, slice_index_or}
use Rattle.std.specs.List.{cons_option, enumerate_from, filter_map, list_any, sum_by, zip}
use Rattle.std.proofs.Math.Nat.{min-eq_left}
use Rattle.std.proofs.lemmas.List.{take-map}
use Rattle.std.proofs.lemmas.List.Sums.{sum_by-cons}
use Rattle.std.proofs.lemmas.Option.{none-some, same_Some}
use Rattle.part_weights.specs.Laws.Rows.{most_first-map}
use Rattle.text_groups.specs.Groups.{Item, group_at, groups, has_text, item_at, members}
use Rattle.text_groups.specs.Sorting.{most_first}
use Rattle.text_groups.specs.Sums.{capped}
use Rattle.text_groups.specs.declared.text_group.TextGroup.{TextGroup}
use Rattle.heap_levels.specs.Levels.{Shape, group_shape}
use Rattle.heap_levels.specs.Inner.Plain.{text_item, text_shapes}
use Rattle.heap_levels.specs.Inner.Shapes.{kept_group, kept_shape, shown_shapes}
use Rattle.heap_levels.specs.declared.shape_rows.ShapeGroup.{ShapeGroup}

-- ---- sums

abbrev all_words : List Item → ℕ
all_words items = sum_by (λ item. item.weight) items

-- those with a text have no more words than all
members-few : (text : List ℕ) (items : List Item) → all_words (members text items) ≤ all_words items
members-few text [] = omega arith
members-few text (item ∷ items) = by (has_text text item) (members-few text items)
  where
    by : (b : Bool) → all_words (members text items) ≤ all_words items → all_words (if b then item ∷ members text items else members text items) ≤ all_words (item ∷ items)
    by true later = omega (arith, later, sum_by-cons (λ (i : Item). i.weight) item (members text items), sum_by-cons (λ (i : Item). i.weight) item items)
    by false later = omega (arith, later, sum_by-cons (λ (i : Item). i.weight) item items)

capped-small : (sum : ℕ) → sum < 2 ^ 64 → capped sum ≡ sum
capped-small sum few = min-eq_left (let small : sum ≤ 2 ^ 64 - 1 = omega (arith, few) in small)

-- the words of items with these texts
words-all : (texts : List (List ℕ)) (words : List ℕ) → length texts ≡ length words → all_words (map text_item (zip texts words)) ≡ sum_by (λ w. w) words
words-all [] [] same = refl
words-all [] (w ∷ words) same = absurd (omega (arith, same))
words-all (t ∷ texts) [] same = absurd (omega (arith, same))
words-all (t ∷ texts) (w ∷ words) same =
    sum_by-cons (λ (i : Item). i.weight) (text_item (t, w)) (map text_item (zip texts words))
    ∙ ap (λ n. w + n) (words-all texts words (omega (arith, same)))
    ∙ sym (sum_by-cons (λ n. n) w words)

-- ---- groups

-- a group with the text of its first item
abbrev with_text : List Item → TextGroup → Shape
with_text items group = record { parts = group.count; words = group.weight; text = (item_at items group.first).text }

at-front : (front rest : List Item) (item : Item) → item_at (front ++ item ∷ rest) (length front) ≡ item
at-front [] rest item = refl
at-front (x ∷ front) rest item = at-front front rest item

-- the group of an item with this place, if its text is that of items before it or not
abbrev group_if : List Item → ℕ → Item → Bool → Option TextGroup
group_if items n item b = if b then None else Some (record { first = n; count = length (members item.text items); weight = capped (all_words (members item.text items)) })

one-group : (items : List Item) (n : ℕ) (item : Item) (tail : List TextGroup) (b : Bool) → capped (all_words (members item.text items)) ≡ all_words (members (item_at items n).text items)
    → map (with_text items) tail ≡ map (group_shape items) tail → map (with_text items) (cons_option (group_if items n item b) tail) ≡ map (group_shape items) (cons_option (group_if items n item b) tail)
one-group items n item tail true words later = later
one-group items n item tail false words later =
    ap₂ (λ (w : ℕ) (l : List Shape). (let s : Shape = record { parts = length (members item.text items); words = w; text = (item_at items n).text } in s) ∷ l) words later

groups-from : (items front rest : List Item) → all_words items < 2 ^ 64 → items ≡ front ++ rest
    → map (with_text items) (filter_map (group_at items) (enumerate_from (length front) rest)) ≡ map (group_shape items) (filter_map (group_at items) (enumerate_from (length front) rest))
groups-from items front [] few is = refl
groups-from items front (item ∷ rest) few is =
    let n = length front in
    let tail = filter_map (group_at items) (enumerate_from (n + 1) rest) in
    let there : item_at items n ≡ item = ap (λ l. item_at l n) is ∙ at-front front rest item in
    let next : length (front ++ item ∷ []) ≡ n + 1 = omega (arith, length-append front (item ∷ [])) in
    let later : map (with_text items) tail ≡ map (group_shape items) tail =
    ap (λ k. map (with_text items) (filter_map (group_at items) (enumerate_from k rest))) (sym next)
    ∙ groups-from items (front ++ item ∷ []) rest few (is ∙ sym (append_assoc front (item ∷ []) rest))
    ∙ ap (λ k. map (group_shape items) (filter_map (group_at items) (enumerate_from k rest))) next in
    let words : capped (all_words (members item.text items)) ≡ all_words (members (item_at items n).text items) =
    capped-small (all_words (members item.text items)) (omega (arith, few, members-few item.text items)) ∙ ap (λ (i : Item). all_words (members i.text items)) (sym there) in
    one-group items n item tail (list_any (has_text item.text) (take n items)) words later

-- ---- what is kept of them

pub text-at : (texts : List (List ℕ)) (words : List ℕ) (i : ℕ) → length texts ≡ length words → slice_index_or texts i [] ≡ (item_at (map text_item (zip texts words)) i).text
text-at [] [] zero same = refl
text-at [] [] (suc i) same = refl
text-at [] (w ∷ words) i same = absurd (omega (arith, same))
text-at (t ∷ texts) [] i same = absurd (omega (arith, same))
text-at (t ∷ texts) (w ∷ words) zero same = refl
text-at (t ∷ texts) (w ∷ words) (suc i) same = text-at texts words i (omega (arith, same))

pub weight-at : (texts : List (List ℕ)) (words : List ℕ) (i : ℕ) → length texts ≡ length words → slice_index_or words i 0 ≡ (item_at (map text_item (zip texts words)) i).weight
weight-at [] [] zero same = refl
weight-at [] [] (suc i) same = refl
weight-at [] (w ∷ words) i same = absurd (omega (arith, same))
weight-at (t ∷ texts) [] i same = absurd (omega (arith, same))
weight-at (t ∷ texts) (w ∷ words) zero same = refl
weight-at (t ∷ texts) (w ∷ words) (suc i) same = weight-at texts words i (omega (arith, same))

pub items-count : (texts : List (List ℕ)) (words : List ℕ) → length texts ≡ length words → length (map text_item (zip texts words)) ≡ length words
items-count [] [] same = refl
items-count [] (w ∷ words) same = absurd (omega (arith, same))
items-count (t ∷ texts) [] same = absurd (omega (arith, same))
items-count (t ∷ texts) (w ∷ words) same = ap suc (items-count texts words (omega (arith, same)))

-- a group with the text of its first part
abbrev with_own : List (List ℕ) → ShapeGroup → Shape
with_own texts group = kept_shape (group, slice_index_or texts group.first [])

shown-each : (texts : List (List ℕ)) (gs : List ShapeGroup) → shown_shapes gs (map (λ group. slice_index_or texts group.first []) gs) ≡ map (with_own texts) gs
shown-each texts [] = refl
shown-each texts (g ∷ gs) = ap (λ l. with_own texts g ∷ l) (shown-each texts gs)

own-texts : (texts : List (List ℕ)) (words : List ℕ) (gs : List TextGroup) → length texts ≡ length words → map (with_own texts) (map kept_group gs) ≡ map (with_text (map text_item (zip texts words))) gs
own-texts texts words [] same = refl
own-texts texts words (g ∷ gs) same =
    ap₂ (λ (t : List ℕ) (l : List Shape). (let s : Shape = record { parts = g.count; words = g.weight; text = t } in s) ∷ l) (text-at texts words g.first same) (own-texts texts words gs same)

-- what is kept of the shapes is what the definition says
pub shapes-kept : (texts : List (List ℕ)) (words : List ℕ) (most : ℕ) (gs : List ShapeGroup) (found : List (List ℕ)) → length texts ≡ length words → sum_by (λ w. w) words < 2 ^ 64
    → gs ≡ take most (most_first (λ group. group.words) (map kept_group (groups (map text_item (zip texts words))))) → found ≡ map (λ group. slice_index_or texts group.first []) gs
    → shown_shapes gs found ≡ take most (text_shapes texts words)
shapes-kept texts words most gs found same few gs_are found_are =
    let items = map text_item (zip texts words) in
    let kept = map kept_group (groups items) in
    ap (shown_shapes gs) found_are
    ∙ shown-each texts gs
    ∙ ap (map (with_own texts)) gs_are
    ∙ sym (take-map (with_own texts) most (most_first (λ group. group.words) kept))
    ∙ ap (take most)
    (most_first-map (with_own texts) (λ shape. shape.words) kept
    ∙ ap (most_first (λ shape. shape.words)) (own-texts texts words (groups items) same ∙ groups-from items [] items (omega (arith, few, words-all texts words same)) refl))

-- ---- one of them

pub shown-count : (gs : List ShapeGroup) (texts : List (List ℕ)) → length texts ≡ length gs → length (shown_shapes gs texts) ≡ length gs
shown-count [] [] same = refl
shown-count [] (t ∷ texts) same = absurd (omega (arith, same))
shown-count (g ∷ gs) [] same = absurd (omega (arith, same))
shown-count (g ∷ gs) (t ∷ texts) same = ap suc (shown-count gs texts (omega (arith, same)))

pub shown-there : (gs : List ShapeGroup) (texts : List (List ℕ)) (i : ℕ) (g : ShapeGroup) (text : List ℕ) → slice_get gs i ≡ Some g → slice_get texts i ≡ Some text → slice_get (shown_shapes gs texts) i ≡ Some (kept_shape (g, text))
shown-there [] texts i g text is text_is = absurd (none-some g is)
shown-there (x ∷ gs) [] i g text is text_is = absurd (none-some text text_is)
shown-there (x ∷ gs) (t ∷ texts) zero g text is text_is = ap₂ (λ a b. Some (kept_shape (a, b))) (same_Some x g is) (same_Some t text text_is)
shown-there (x ∷ gs) (t ∷ texts) (suc i) g text is text_is = shown-there gs texts i g text is text_is
