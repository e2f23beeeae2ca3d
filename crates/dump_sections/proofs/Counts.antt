-- Tags are counted one after another.
use Rattle.std.proofs.Common.{◌≡◌, ℕ, zero, suc, ◌+◌, ◌<◌, ◌≤◌, get_or, set, Bool, true, false, cond, not, List, [], ◌∷◌, ◌++◌, length, take, map, filter, count_by, Some, None, refl, sym, ◌∙◌, ap, slice_get, arith, zero-add, add-zero, if◌then◌else◌}
use Rattle.std.specs.Str.{bytes_eq}
use Rattle.std.specs.Prelude.{All, Option, option_map}
use Rattle.std.specs.Map.{update}
use Rattle.std.proofs.lemmas.Bool.{false≢true, false_from_ne_true, not-true}
use Rattle.std.proofs.lemmas.List.{take_more, length-map, map-append}
use Rattle.std.proofs.lemmas.List.Sums.{count_by-le-length, sum_by-cons, sum_by_push}
use Rattle.std.proofs.lemmas.Option.{get_or_from_slice_get, slice_get_within, slice_get-map, none-some}
use Rattle.std.proofs.lemmas.List.Elements.{All-filter, All-map, All-weaker, filter_passes}
use Rattle.dump_sections.specs.declared.tags.TagCount.{TagCount}
use Rattle.dump_sections.specs.Tags.{distinct, tag_counts}
use Rattle.dump_sections.specs.Inner.Counting.{counts_of, one_more, place_in, AreApart}
use Rattle.dump_io.specs.Laws.Lists.{All-at}
use Rattle.dump_io.specs.Laws.Texts.{bytes_eq-refl, bytes_eq-same}

bytes_eq-swap : (x y : List ℕ) → bytes_eq x y ≡ false → bytes_eq y x ≡ false
bytes_eq-swap x y e = false_from_ne_true (bytes_eq y x) (λ same. false≢true (sym e ∙ ap (bytes_eq x) (bytes_eq-same y x same) ∙ bytes_eq-refl x))

-- the counts of other tags
abbrev others : List ℕ → List (List ℕ × ℕ) → List (List ℕ × ℕ)
others tag pairs = filter (λ pair. not (bytes_eq tag pair.0)) pairs

-- one more of a tag changes nothing among the others, and one more of another is counted there
others-one_more : (tag : List ℕ) (pairs : List (List ℕ × ℕ)) → others tag (one_more tag pairs) ≡ others tag pairs
others-one_more tag [] = ap (λ b. cond (not b) ((tag, 1) ∷ []) []) (bytes_eq-refl tag)
others-one_more tag (pair ∷ pairs) = grind (arith, others-one_more tag pairs)

one_more-others : (other tag : List ℕ) (pairs : List (List ℕ × ℕ)) → bytes_eq other tag ≡ false
    → others other (one_more tag pairs) ≡ one_more tag (others other pairs)
one_more-others other tag [] apart = ap (λ b. cond (not b) ((tag, 1) ∷ []) []) apart
one_more-others other tag (pair ∷ pairs) apart = by (bytes_eq tag pair.0) refl (bytes_eq other pair.0) refl (one_more-others other tag pairs apart)
  where
    by : (b : Bool) → bytes_eq tag pair.0 ≡ b → (d : Bool) → bytes_eq other pair.0 ≡ d
        → others other (one_more tag pairs) ≡ one_more tag (others other pairs)
        → others other (one_more tag (pair ∷ pairs)) ≡ one_more tag (others other (pair ∷ pairs))
    by true e true f rest = absurd (false≢true (sym apart ∙ ap (bytes_eq other) (bytes_eq-same tag pair.0 e) ∙ f))
    by true e false f rest = simp (e, f)
    by false e true f rest = simp (e, f) rest
    by false e false f rest = simp (e, f) (ap (λ l. pair ∷ l) rest)

-- how often one more is counted, in front and behind
count_by-first : (p : List ℕ → Bool) (tag : List ℕ) (tags : List (List ℕ)) → count_by p (tag ∷ tags) ≡ cond (p tag) 1 0 + count_by p tags
count_by-first p tag tags = sum_by-cons (λ t. cond (p t) 1 0) tag tags

count_by-push : (p : List ℕ → Bool) (tags : List (List ℕ)) (tag : List ℕ) → count_by p (tags ++ tag ∷ []) ≡ count_by p tags + cond (p tag) 1 0
count_by-push p tags tag = sum_by_push (λ t. cond (p t) 1 0) tags tag

abbrev counted : List (List ℕ) → List ℕ → List ℕ × ℕ
counted tags tag = (tag, count_by (bytes_eq tag) tags)

-- the counts of a first tag and of the others
counted-others : (first : List ℕ) (tags names : List (List ℕ))
    → map (counted (first ∷ tags)) (filter (λ other. not (bytes_eq first other)) names) ≡ others first (map (counted tags) names)
counted-others first tags [] = refl
counted-others first tags (name ∷ names) = grind (arith, counted-others first tags names, count_by-first, bytes_eq-swap, zero-add)

tag_counts-first : (first : List ℕ) (tags : List (List ℕ)) → tag_counts (first ∷ tags) ≡ counted (first ∷ tags) first ∷ others first (tag_counts tags)
tag_counts-first first tags = ap (λ l. counted (first ∷ tags) first ∷ l) (counted-others first tags (distinct tags))

-- one more tag behind the others
pub tag_counts-push : (tags : List (List ℕ)) (tag : List ℕ) → tag_counts (tags ++ tag ∷ []) ≡ one_more tag (tag_counts tags)
tag_counts-push [] tag = ap (λ b. (tag, 0 + cond b 1 0) ∷ []) (bytes_eq-refl tag)
tag_counts-push (first ∷ tags) tag =
    cc (tag_counts-first first (tags ++ tag ∷ []), tag_counts-push tags tag, by (bytes_eq tag first) refl, tag_counts-first first tags)
  where
    by : (b : Bool) → bytes_eq tag first ≡ b
        → counted (first ∷ tags ++ tag ∷ []) first ∷ others first (one_more tag (tag_counts tags))
        ≡ one_more tag (counted (first ∷ tags) first ∷ others first (tag_counts tags))
    by true e =
        let more : count_by (bytes_eq first) (first ∷ tags ++ tag ∷ []) ≡ count_by (bytes_eq first) (first ∷ tags) + 1 =
        cc (count_by-push (bytes_eq first) (first ∷ tags) tag, bytes_eq-same tag first e, bytes_eq-refl first) in
        cc (bytes_eq-same tag first e, others-one_more first (tag_counts tags))
    by false e =
        let more : count_by (bytes_eq first) (first ∷ tags ++ tag ∷ []) ≡ count_by (bytes_eq first) (first ∷ tags) =
        cc (count_by-push (bytes_eq first) (first ∷ tags) tag, bytes_eq-swap tag first e, add-zero (count_by (bytes_eq first) (first ∷ tags))) in
        cc (one_more-others first tag (tag_counts tags) (bytes_eq-swap tag first e))

-- the tag at a place is counted behind those before it
pub tag_counts-more : (tags : List (List ℕ)) (i : ℕ) (tag : List ℕ) → slice_get tags i ≡ Some tag
    → tag_counts (take (i + 1) tags) ≡ one_more tag (tag_counts (take i tags))
tag_counts-more tags i tag at =
    ap tag_counts (take_more tags i tag (slice_get_within tags i tag at) ∙ ap (λ t. take i tags ++ t ∷ []) (get_or_from_slice_get tags i tag tag at))
    ∙ tag_counts-push (take i tags) tag

-- a tag that is counted, or isn't yet
pub one_more-new : (tag : List ℕ) (pairs : List (List ℕ × ℕ)) → place_in tag pairs ≡ None → one_more tag pairs ≡ pairs ++ (tag, 1) ∷ []
one_more-new tag [] new = refl
one_more-new tag (pair ∷ pairs) new = grind (arith, one_more-new tag pairs)

-- the place of a tag, by that in the rest
place-first : (tag : List ℕ) (pair : List ℕ × ℕ) (pairs : List (List ℕ × ℕ)) → bytes_eq tag pair.0 ≡ true → place_in tag (pair ∷ pairs) ≡ Some 0
place-first tag pair pairs e = ap (λ b. if b then Some 0 else option_map (λ n. n + 1) (place_in tag pairs)) e

place-later : (tag : List ℕ) (pair : List ℕ × ℕ) (pairs : List (List ℕ × ℕ)) → bytes_eq tag pair.0 ≡ false
    → place_in tag (pair ∷ pairs) ≡ option_map (λ n. n + 1) (place_in tag pairs)
place-later tag pair pairs e = ap (λ b. if b then Some 0 else option_map (λ n. n + 1) (place_in tag pairs)) e

-- it is within the counts
pub place-within : (tag : List ℕ) (pairs : List (List ℕ × ℕ)) (n : ℕ) → place_in tag pairs ≡ Some n → n < length pairs
place-within tag [] n is = cc
place-within tag (pair ∷ pairs) n is = grind (arith, place-within tag pairs)

-- where no two are of one tag, a place with the tag is its place
pub place-apart : (tag : List ℕ) (pairs : List (List ℕ × ℕ)) (n : ℕ) (pair : List ℕ × ℕ) → AreApart pairs → slice_get pairs n ≡ Some pair → bytes_eq tag pair.0 ≡ true
    → place_in tag pairs ≡ Some n
place-apart tag [] n pair apart is same = cc
place-apart tag (first ∷ pairs) zero pair apart is same =
    let here : first ≡ pair = cc in place-first tag first pairs (ap (λ (p : List ℕ × ℕ). bytes_eq tag p.0) here ∙ same)
place-apart tag (first ∷ pairs) (suc n) pair apart is same =
    let other : bytes_eq first.0 pair.0 ≡ false = All-at (λ (o : List ℕ × ℕ). bytes_eq first.0 o.0 ≡ false) pairs n pair apart.0 is in
    let differs : bytes_eq tag first.0 ≡ false =
    ap (λ t. bytes_eq t first.0) (bytes_eq-same tag pair.0 same) ∙ bytes_eq-swap first.0 pair.0 other in
    place-later tag first pairs differs ∙ ap (option_map (λ k. k + 1)) (place-apart tag pairs n pair apart.1 is same) ∙ ap Some (omega arith)

-- one more of a tag that is there, written at its place
pub one_more-set : (tag : List ℕ) (counts : List TagCount) (n : ℕ) (d : TagCount) → place_in tag (counts_of counts) ≡ Some n
    → counts_of (set counts n (record { tag = (get_or counts n d).tag; count = (get_or counts n d).count + 1 })) ≡ one_more tag (counts_of counts)
one_more-set tag [] n d is = cc
one_more-set tag (first ∷ counts) n d is = grind (arith, one_more-set tag counts)

pub place-push : (other tag : List ℕ) (pairs : List (List ℕ × ℕ)) → place_in tag pairs ≡ None
    → place_in other (pairs ++ (tag, 1) ∷ []) ≡ update bytes_eq (λ t. place_in t pairs) tag (Some (length pairs)) other
place-push other tag [] new = grind (arith, false≢true, bytes_eq-swap)
place-push other tag (pair ∷ pairs) new = grind (arith, place-push other tag pairs, none-some, place-first, place-later, false≢true, bytes_eq-same)

pub place-stays : (other tag : List ℕ) (pairs : List (List ℕ × ℕ)) (n : ℕ) → place_in tag pairs ≡ Some n → place_in other (one_more tag pairs) ≡ place_in other pairs
place-stays other tag [] n is = cc
place-stays other tag (pair ∷ pairs) n is = grind (arith, place-stays other tag pairs)

-- no two of the counts are of one tag
filter-apart : (text : List ℕ) (names : List (List ℕ)) → All (λ name. bytes_eq text name ≡ false) (filter (λ other. not (bytes_eq text other)) names)
filter-apart text names = grind (arith, All-weaker, not-true, filter_passes)

-- the same of names alone
abbrev Apart : List (List ℕ) → Type 0
Apart [] = Unit {0}
Apart (name ∷ names) = All (λ other. bytes_eq name other ≡ false) names × Apart names

Apart-filter : (p : List ℕ → Bool) (names : List (List ℕ)) → Apart names → Apart (filter p names)
Apart-filter p [] apart = tt
Apart-filter p (name ∷ names) apart =
    elim (p name) as (λ b. Apart (cond b (name ∷ filter p names) (filter p names))) [
      | true ↦ (All-filter p (λ other. bytes_eq name other ≡ false) names apart.0, Apart-filter p names apart.1)
      | false ↦ Apart-filter p names apart.1
    ]

distinct-apart : (tags : List (List ℕ)) → Apart (distinct tags)
distinct-apart [] = tt
distinct-apart (tag ∷ tags) = (filter-apart tag (distinct tags), Apart-filter (λ other. not (bytes_eq tag other)) (distinct tags) (distinct-apart tags))

Apart-counted : (tags names : List (List ℕ)) → Apart names → AreApart (map (counted tags) names)
Apart-counted tags [] apart = tt
Apart-counted tags (name ∷ names) apart =
    (All-map (λ (other : List ℕ × ℕ). bytes_eq name other.0 ≡ false) (counted tags) names apart.0, Apart-counted tags names apart.1)

pub tag_counts-apart : (tags : List (List ℕ)) → AreApart (tag_counts tags)
tag_counts-apart tags = Apart-counted tags (distinct tags) (distinct-apart tags)

-- no count passes the number of tags
pub tag_counts-few : (tags : List (List ℕ)) → All (λ count. count.1 ≤ length tags) (tag_counts tags)
tag_counts-few tags =
    All-map (λ (count : List ℕ × ℕ). count.1 ≤ length tags) (counted tags) (distinct tags) (λ k d inside. count_by-le-length (bytes_eq (get_or (distinct tags) k d)) tags)

-- one more of a count has room where each has
pub count-few : (counts : List TagCount) (n most : ℕ) (count : TagCount) → All (λ (c : List ℕ × ℕ). c.1 + 1 < most) (counts_of counts) → slice_get counts n ≡ Some count
    → count.count + 1 < most
count-few counts n most count few is =
    All-at (λ (c : List ℕ × ℕ). c.1 + 1 < most) (counts_of counts) n (count.tag.items, count.count) few
    (slice_get-map (λ (c : TagCount). (c.tag.items, c.count)) counts n ∙ ap (option_map (λ (c : TagCount). (c.tag.items, c.count))) is)

pub length-counts : (counts : List TagCount) → length (counts_of counts) ≡ length counts
length-counts counts = length-map counts (λ (c : TagCount). (c.tag.items, c.count))

pub count-at : (counts : List TagCount) (n : ℕ) (count : TagCount) → slice_get counts n ≡ Some count → slice_get (counts_of counts) n ≡ Some (count.tag.items, count.count)
count-at counts n count is = slice_get-map (λ (c : TagCount). (c.tag.items, c.count)) counts n ∙ ap (option_map (λ (c : TagCount). (c.tag.items, c.count))) is

pub counts-push : (tag : List ℕ) (counts after : List TagCount) (count : TagCount) → after ≡ counts ++ count ∷ [] → count.tag.items ≡ tag
    → counts_of after ≡ counts_of counts ++ (tag, count.count) ∷ []
counts-push tag counts after count grown is = grind (arith, map-append)

pub update-same : (tag other : List ℕ) (f g : List ℕ → Option ℕ) (n m : ℕ) → ((t : List ℕ) → f t ≡ g t) → n ≡ m
    → update bytes_eq f tag (Some n) other ≡ update bytes_eq g tag (Some m) other
update-same tag other f g n m same is = ap (λ o. cond (bytes_eq tag other) (Some n) o) (same other) ∙ ap (λ k. cond (bytes_eq tag other) (Some k) (g other)) is
