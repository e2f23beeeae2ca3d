-- Items are counted in a tree by their texts, and each text is taken from it once.
use Rattle.std.proofs.Common.{◌≡◌, ℕ, ◌+◌, ◌<◌, ◌≤◌, Bool, true, false, cond, List, [], ◌∷◌, ◌++◌, length, take, drop, Option, Some, None, refl, sym, ◌∙◌, ap, subst, arith, if◌then◌else◌, length-append, append-nil}
use Rattle.std.specs.Prelude.{slice_get, option_map, All, ◌||◌}
use Rattle.std.specs.BTreeMap.{BTreeMap, UpdatesBy}
use Rattle.std.specs.Cmp.Lexicographic.{slice_cmp}
use Rattle.std.specs.List.{cons_option, enumerate_from, filter_map, list_any, sum_by}
use Rattle.std.specs.Option.{option_to_list}
use Rattle.std.specs.Ordering.{nat_cmp}
use Rattle.std.specs.Str.{bytes_eq}
use denote.Ref.{Bor}
use Rattle.std.proofs.lemmas.List.{take_all, take-append-drop, length-take-le}
use Rattle.std.proofs.lemmas.List.Elements.{All-nil, All-cons, filter-append, filter_map-append}
use Rattle.std.proofs.lemmas.List.Sums.{sum_by-append, sum_by-cons}
use Rattle.std.proofs.lemmas.Map.Text.{btree_map_updates_str}
use Rattle.std.proofs.lemmas.Option.{slice_get-get_or, slice_get_within}
use Rattle.std.proofs.lemmas.Slice.Eq.{bytes_eq-Decides}
use Rattle.dump_io.specs.Laws.Lists.{enumerate-push, filter_map-one, take-at}
use Rattle.dump_io.specs.Laws.Texts.{bytes_eq-refl, bytes_eq-swap}
use Rattle.text_groups.specs.Sums.{capped}
use Rattle.text_groups.specs.Groups.{Item, group_at, groups, has_text, item_at, members}
use Rattle.text_groups.specs.Inner.Counting.{AreLeft, AreTallied, tallied, tally, tally_or_none}
use Rattle.text_groups.specs.declared.text_group.TextGroup.{TextGroup}
use Rattle.text_groups.specs.declared.grouping.Tally.{Tally}

abbrev weight_of : Item → ℕ
weight_of s = s.weight

abbrev pub made : ℕ → ℕ → Tally
made count weight = record { count = count; weight = weight }

-- ---- tallies

capped-more : (a b : ℕ) → capped (capped a + b) ≡ capped (a + b)
capped-more a b = omega arith

-- one item more
tally-more : (xs : List Item) (s : Item) → tally (xs ++ s ∷ []) ≡ Some (made ((tally_or_none (tally xs)).count + 1) (capped ((tally_or_none (tally xs)).weight + s.weight)))
tally-more [] s =
    let sum : sum_by weight_of (s ∷ []) ≡ 0 + s.weight = sum_by-cons weight_of s [] ∙ omega arith in
    ap (λ n. Some (made 1 (capped n))) sum
tally-more (x ∷ xs) s =
    let count : length (x ∷ (xs ++ s ∷ [])) ≡ length (x ∷ xs) + 1 = length-append (x ∷ xs) (s ∷ []) in
    let one : sum_by weight_of (s ∷ []) ≡ s.weight = sum_by-cons weight_of s [] ∙ omega arith in
    let sum : sum_by weight_of (x ∷ (xs ++ s ∷ [])) ≡ sum_by weight_of (x ∷ xs) + s.weight = sum_by-append weight_of (x ∷ xs) (s ∷ []) ∙ ap (λ n. sum_by weight_of (x ∷ xs) + n) one in
    ap (λ n. Some (made n (capped (sum_by weight_of (x ∷ (xs ++ s ∷ [])))))) count
    ∙ ap (λ n. Some (made (length (x ∷ xs) + 1) n)) (ap capped sum ∙ sym (capped-more (sum_by weight_of (x ∷ xs)) s.weight))

tally-count : (xs : List Item) → (tally_or_none (tally xs)).count ≡ length xs
tally-count [] = refl
tally-count (x ∷ xs) = refl

-- the group of items of which this is the first
abbrev pub grouped : ℕ → Tally → TextGroup
grouped first t = record { first = first; count = t.count; weight = t.weight }

tally-group : (first : ℕ) (xs : List Item) → 0 < length xs → option_map (grouped first) (tally xs) ≡ Some (record { first = first; count = length xs; weight = capped (sum_by weight_of xs) })
tally-group first [] some = absurd (omega (arith, some))
tally-group first (x ∷ xs) some = refl

-- ---- the items with a text

members-more : (items : List Item) (i : ℕ) (s : Item) (text : List ℕ) → slice_get items i ≡ Some s
    → members text (take (i + 1) items) ≡ members text (take i items) ++ cond (bytes_eq text s.text) (s ∷ []) []
members-more items i s text at = ap (members text) (take-at items i s at) ∙ filter-append (has_text text) (take i items) (s ∷ [])

members-here : (items : List Item) (i : ℕ) (s : Item) → slice_get items i ≡ Some s → members s.text (take (i + 1) items) ≡ members s.text (take i items) ++ s ∷ []
members-here items i s at = members-more items i s s.text at ∙ ap (λ b. members s.text (take i items) ++ cond b (s ∷ []) []) (bytes_eq-refl s.text)

members-there : (items : List Item) (i : ℕ) (s : Item) (text : List ℕ) → slice_get items i ≡ Some s → bytes_eq text s.text ≡ false
    → members text (take (i + 1) items) ≡ members text (take i items)
members-there items i s text at apart = members-more items i s text at ∙ ap (λ b. members text (take i items) ++ cond b (s ∷ []) []) apart ∙ append-nil (members text (take i items))

length-members : (text : List ℕ) (items : List Item) → length (members text items) ≤ length items
length-members text [] = omega arith
length-members text (s ∷ items) =
    elim (bytes_eq text s.text) as (λ b. length (cond b (s ∷ members text items) (members text items)) ≤ length (s ∷ items))
    [ true ↦ omega (arith, length-members text items) | false ↦ omega (arith, length-members text items) ]

-- an item has its text
pub members-some : (items : List Item) (i : ℕ) (s : Item) → slice_get items i ≡ Some s → 0 < length (members s.text items)
members-some items i s at =
    let whole : members s.text items ≡ members s.text (take (i + 1) items) ++ members s.text (drop (i + 1) items) =
    ap (members s.text) (sym (take-append-drop (i + 1) items)) ∙ filter-append (has_text s.text) (take (i + 1) items) (drop (i + 1) items) in
    omega (
      arith,
      ap length whole,
      length-append (members s.text (take (i + 1) items)) (members s.text (drop (i + 1) items)),
      ap length (members-here items i s at),
      length-append (members s.text (take i items)) (s ∷ []),
    )

any-more : (items : List Item) (i : ℕ) (s : Item) (text : List ℕ) → slice_get items i ≡ Some s
    → list_any (has_text text) (take (i + 1) items) ≡ list_any (has_text text) (take i items) || bytes_eq text s.text
any-more items i s text at = ap (list_any (has_text text)) (take-at items i s at) ∙ any-push (has_text text) (take i items) s
  where
    any-push : (p : Item → Bool) (xs : List Item) (x : Item) → list_any p (xs ++ x ∷ []) ≡ list_any p xs || p x
    any-push p [] x = elim (p x) as (λ b. (b || false) ≡ b) [ true ↦ refl | false ↦ refl ]
    any-push p (y ∷ xs) x = elim (p y) as (λ b. (b || list_any p (xs ++ x ∷ [])) ≡ ((b || list_any p xs) || p x)) [ true ↦ refl | false ↦ any-push p xs x ]

-- ---- the tree

-- as many as are counted with a text are among those so far
pub tallied-few : (items : List Item) (i : ℕ) (tallies : BTreeMap (Bor (List ℕ)) Tally) (text : List ℕ) → AreTallied tallies (take i items)
    → (tally_or_none (tallied tallies text)).count ≤ length (take i items)
tallied-few items i tallies text before =
    omega (arith, ap (λ o. (tally_or_none o).count) (before.each text), tally-count (members text (take i items)), length-members text (take i items))

-- an item more is counted
tallied-more : (items : List Item) (i : ℕ) (s : Item) (old new : BTreeMap (Bor (List ℕ)) Tally) (before after : Tally) → slice_get items i ≡ Some s
    → AreTallied old (take i items) → before ≡ tally_or_none (tallied old s.text) → after ≡ made (before.count + 1) (capped (before.weight + s.weight))
    → UpdatesBy (λ x y. slice_cmp nat_cmp x.now y.now) (λ key. slice_cmp nat_cmp s.text key.now) old new (Some after) → AreTallied new (take (i + 1) items)
tallied-more items i s old new before after at were is made_of updates = record { each = each }
  where
    before_is : before ≡ tally_or_none (tally (members s.text (take i items)))
    before_is = is ∙ ap tally_or_none (were.each s.text)

    after_is : Some after ≡ tally (members s.text (take (i + 1) items))
    after_is =
        ap Some made_of ∙ ap (λ (b : Tally). Some (made (b.count + 1) (capped (b.weight + s.weight)))) before_is
        ∙ sym (tally-more (members s.text (take i items)) s) ∙ ap tally (sym (members-here items i s at))

    each : (other : List ℕ) → tallied new other ≡ tally (members other (take (i + 1) items))
    each other = btree_map_updates_str s.text old new (Some after) updates other ∙ by (bytes_eq s.text other) refl
      where
        by : (b : Bool) → bytes_eq s.text other ≡ b → cond b (Some after) (tallied old other) ≡ tally (members other (take (i + 1) items))
        by true e = after_is ∙ ap (λ p. tally (members p (take (i + 1) items))) ((bytes_eq-Decides s.text other).0 e)
        by false e = were.each other ∙ ap tally (sym (members-there items i s other at (bytes_eq-swap other s.text ∙ e)))

-- what the tree has for the text of an item makes its group, where it is the first
left-here : (items : List Item) (i : ℕ) (s : Item) (tallies : BTreeMap (Bor (List ℕ)) Tally) → slice_get items i ≡ Some s → AreLeft tallies items i
    → option_map (grouped i) (tallied tallies s.text) ≡ group_at items (i, s)
left-here items i s tallies at are = ap (option_map (grouped i)) (are.each s.text) ∙ by (list_any (has_text s.text) (take i items))
  where
    by : (b : Bool) → option_map (grouped i) (if b then None else tally (members s.text items))
        ≡ (if b then None else Some (record { first = i; count = length (members s.text items); weight = capped (sum_by weight_of (members s.text items)) }))
    by true = refl
    by false = tally-group i (members s.text items) (members-some items i s at)

-- a text is taken
left-more : (items : List Item) (i : ℕ) (s : Item) (old new : BTreeMap (Bor (List ℕ)) Tally) → slice_get items i ≡ Some s → AreLeft old items i
    → UpdatesBy (λ x y. slice_cmp nat_cmp x.now y.now) (λ key. slice_cmp nat_cmp s.text key.now) old new None → AreLeft new items (i + 1)
left-more items i s old new at before updates = record { each = each }
  where
    told : List ℕ → Bool → Option Tally
    told other b = if b then None else tally (members other items)

    told-or : (other : List ℕ) (a b : Bool) → b ≡ true → told other (a || b) ≡ None
    told-or other true b is = refl
    told-or other false true is = refl
    told-or other false false is = absurd (cc)

    told-same : (other : List ℕ) (a b : Bool) → b ≡ false → told other (a || b) ≡ told other a
    told-same other true b is = refl
    told-same other false false is = refl
    told-same other false true is = absurd (cc)

    each : (other : List ℕ) → tallied new other ≡ told other (list_any (has_text other) (take (i + 1) items))
    each other = btree_map_updates_str s.text old new None updates other ∙ by (bytes_eq s.text other) refl
      where
        by : (b : Bool) → bytes_eq s.text other ≡ b → cond b None (tallied old other) ≡ told other (list_any (has_text other) (take (i + 1) items))
        by true e = sym (ap (told other) (any-more items i s other at) ∙ told-or other (list_any (has_text other) (take i items)) (bytes_eq other s.text) (bytes_eq-swap other s.text ∙ e))
        by false e =
            before.each other
            ∙ sym (ap (told other) (any-more items i s other at) ∙ told-same other (list_any (has_text other) (take i items)) (bytes_eq other s.text) (bytes_eq-swap other s.text ∙ e))

-- ---- lists

-- the group of one item more
groups-more : (items : List Item) (i : ℕ) (s : Item) → slice_get items i ≡ Some s
    → filter_map (group_at items) (enumerate_from 0 (take (i + 1) items)) ≡ filter_map (group_at items) (enumerate_from 0 (take i items)) ++ option_to_list (group_at items (i, s))
groups-more items i s at =
    let inside : i < length items = slice_get_within items i s at in
    let size : 0 + length (take i items) ≡ i = omega (arith, length-take-le i items (omega (arith, inside))) in
    ap (λ l. filter_map (group_at items) (enumerate_from 0 l)) (take-at items i s at)
    ∙ ap (filter_map (group_at items)) (enumerate-push 0 (take i items) s ∙ ap (λ n. enumerate_from 0 (take i items) ++ (n, s) ∷ []) size)
    ∙ filter_map-append (group_at items) (enumerate_from 0 (take i items)) ((i, s) ∷ [])
    ∙ ap (λ l. filter_map (group_at items) (enumerate_from 0 (take i items)) ++ l) (filter_map-one (group_at items) (i, s))

-- each group begins with one of the items
firsts-from : (all : List Item) (count n : ℕ) (items : List Item) → n + length items ≤ count → All (λ (group : TextGroup). group.first < count) (filter_map (group_at all) (enumerate_from n items))
firsts-from all count n [] few = All-nil (λ (group : TextGroup). group.first < count)
firsts-from all count n (s ∷ items) few = by (list_any (has_text s.text) (take n all)) (firsts-from all count (n + 1) items (omega (arith, few)))
  where
    rest : List TextGroup
    rest = filter_map (group_at all) (enumerate_from (n + 1) items)

    here : TextGroup
    here = let those = members s.text all in record { first = n; count = length those; weight = capped (sum_by weight_of those) }

    by : (b : Bool) → All (λ (group : TextGroup). group.first < count) rest → All (λ (group : TextGroup). group.first < count) (cons_option (if b then None else Some here) rest)
    by true within = within
    by false within = All-cons (λ (group : TextGroup). group.first < count) here rest (omega (arith, few)) within

pub firsts-within : (items : List Item) → All (λ (group : TextGroup). group.first < length items) (groups items)
firsts-within items = firsts-from items (length items) 0 items (omega arith)

-- ---- steps

-- the item at a place of the list, whose text is this
module _ (items : List Item) (i : ℕ) (text : List ℕ) (inside : i < length items) (is : text ≡ (item_at items i).text) where
  abbrev item : Item
  item = item_at items i

  there : slice_get items i ≡ Some item
  there = slice_get-get_or items i (record { text = []; weight = 0 }) inside

  -- a change of the tree at that text
  abbrev Updates : List ℕ → BTreeMap (Bor (List ℕ)) Tally → BTreeMap (Bor (List ℕ)) Tally → Option Tally → Type 0
  Updates key old new value = UpdatesBy (λ x y. slice_cmp nat_cmp x.now y.now) (λ k. slice_cmp nat_cmp key k.now) old new value

  pub counts-item : (old new : BTreeMap (Bor (List ℕ)) Tally) (before after : Tally) → AreTallied old (take i items) → before ≡ tally_or_none (tallied old text)
      → after ≡ made (before.count + 1) (capped (before.weight + (item_at items i).weight)) → Updates text old new (Some after) → AreTallied new (take (i + 1) items)
  counts-item old new before after were found more updates =
      tallied-more items i item old new before after there were (found ∙ ap (λ t. tally_or_none (tallied old t)) is) more
      (subst (λ t. Updates t old new (Some after)) is updates)

  pub takes-group : (tallies : BTreeMap (Bor (List ℕ)) Tally) → AreLeft tallies items i → option_map (grouped i) (tallied tallies text) ≡ group_at items (i, item_at items i)
  takes-group tallies left = ap (λ t. option_map (grouped i) (tallied tallies t)) is ∙ left-here items i item tallies there left

  pub takes-text : (old new : BTreeMap (Bor (List ℕ)) Tally) → AreLeft old items i → Updates text old new None → AreLeft new items (i + 1)
  takes-text old new left updates = left-more items i item old new there left (subst (λ t. Updates t old new None) is updates)

-- the groups of the items before a place of the list
abbrev pub groups_upto : List Item → ℕ → List TextGroup
groups_upto items i = filter_map (group_at items) (enumerate_from 0 (take i items))

-- the group of the item at that place is appended
pub appends-group : (items : List Item) (i : ℕ) (old new : List TextGroup) (group : Option TextGroup) → i < length items → old ≡ groups_upto items i
    → group ≡ group_at items (i, item_at items i) → new ≡ old ++ option_to_list group → new ≡ groups_upto items (i + 1)
appends-group items i old new group inside so_far is appended =
    appended ∙ ap (λ l. l ++ option_to_list group) so_far ∙ ap (λ o. groups_upto items i ++ option_to_list o) is
    ∙ sym (groups-more items i (item_at items i) (slice_get-get_or items i (record { text = []; weight = 0 }) inside))

-- the groups of all items
pub all-groups : (items : List Item) (i : ℕ) → length items ≤ i → groups_upto items i ≡ groups items
all-groups items i all = ap (λ l. filter_map (group_at items) (enumerate_from 0 l)) (take_all i items all)
