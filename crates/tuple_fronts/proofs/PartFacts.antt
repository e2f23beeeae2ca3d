-- The parts of a list that are kept by where they end.
use Rattle.std.proofs.Common.{◌≡◌, ℕ, zero, suc, ◌+◌, ◌-◌, ◌≤◌, ◌<◌, ◌==◌, if◌then◌else◌, List, [], ◌∷◌, ◌++◌, length, map, take, drop, Some, refl, sym, ◌∙◌, ap, ap₂, subst, append_assoc, append-nil, arith, length-append, length-drop, false, rules}
use Rattle.std.proofs.lemmas.Bool.{ne_eqb}
use Rattle.std.specs.Prelude.{slice_range, slice_index, slice_index_or, unwrap_or, IsSome, slice_get}
use Rattle.std.specs.Option.{option_map}
use Rattle.std.proofs.lemmas.List.{length-map, length-take, map-append, get_or-drop, get_or-take}
use Rattle.std.proofs.Math.Seq.{drop-append_seam, take-append_seam}
use Rattle.std.proofs.lemmas.Option.{slice_get-get_or, slice_get-map}
use Rattle.term_forms.specs.Elements.{Element, Nil}
use Rattle.term_forms.specs.Reading.{whole_of}
use Rattle.tuple_fronts.specs.declared.kept.Kept.{Kept}
use Rattle.tuple_fronts.specs.Inner.Kept.{joined, ends_from, parts_from, read_element, element_texts, shown_fronts, start_at, Holds, IsSound, IsSpanOf}
use Rattle.tuple_fronts.proofs.KeptFacts.{length-ends}

-- ---- one part

-- where the part with a number begins, if the first does at a place
abbrev start_from : ℕ → List ℕ → ℕ → ℕ
start_from at ends zero = at
start_from at ends (suc i) = slice_index ends i

start-is : (ends : List ℕ) (i : ℕ) → start_at ends i ≡ start_from 0 ends i
start-is ends zero = refl
start-is ends (suc i) =
    let e : suc i - 1 ≡ i = omega arith in
    let other : (suc i == 0) ≡ false = ne_eqb (suc i) 0 (λ same. omega (arith, same)) in
    ap (λ b. if b then 0 else slice_index ends (suc i - 1)) other ∙ ap (slice_index ends) e

pub length-parts : {X : Type 0} (at : ℕ) (xs : List X) (ends : List ℕ) → length (parts_from at xs ends) ≡ length ends
length-parts at xs [] = refl
length-parts at xs (end ∷ ends) = ap suc (length-parts end xs ends)

start-next : (at end : ℕ) (ends : List ℕ) (i : ℕ) → start_from end ends i ≡ start_from at (end ∷ ends) (suc i)
start-next at end ends zero = refl
start-next at end ends (suc i) = refl

part-from : {X : Type 0} (at : ℕ) (xs : List X) (ends : List ℕ) (i : ℕ) → i < length ends → slice_index_or (parts_from at xs ends) i [] ≡ slice_range xs (start_from at ends i) (slice_index ends i)
part-from at xs [] i inside = absurd (omega (arith, inside))
part-from at xs (end ∷ ends) zero inside = refl
part-from at xs (end ∷ ends) (suc i) inside = part-from end xs ends i (omega (arith, inside)) ∙ ap (λ n. slice_range xs n (slice_index ends i)) (start-next at end ends i)

pub part-at : {X : Type 0} (xs : List X) (ends : List ℕ) (i : ℕ) → i < length ends → slice_index_or (parts_from 0 xs ends) i [] ≡ slice_range xs (start_at ends i) (slice_index ends i)
part-at xs ends i inside = part-from 0 xs ends i inside ∙ ap (λ n. slice_range xs n (slice_index ends i)) (sym (start-is ends i))

-- ---- the parts of lists one behind the other

-- the part begins before it ends, and within the whole
laid-from : {X : Type 0} (at : ℕ) (lists : List (List X)) (i : ℕ) → i < length lists
    → (start_from at (ends_from at lists) i ≤ slice_index (ends_from at lists) i) × (slice_index (ends_from at lists) i ≤ at + length (joined lists))
laid-from at [] i inside = absurd (omega (arith, inside))
laid-from at (l ∷ lists) zero inside = (omega arith, omega (arith, length-append l (joined lists)))
laid-from at (l ∷ lists) (suc i) inside =
    let rest = laid-from (at + length l) lists i (omega (arith, inside)) in
    let start = start-next at (at + length l) (ends_from (at + length l) lists) i in
    (omega (arith, rest.0, start), omega (arith, rest.1, length-append l (joined lists)))

-- the part behind what stands before it
range-front : {X : Type 0} (before list rest : List X) → slice_range (before ++ (list ++ rest)) (length before) (length before + length list) ≡ list
range-front before list rest =
    let e : length before + length list - length before ≡ length list = omega arith in
    ap₂ take e (drop-append_seam before (list ++ rest)) ∙ take-append_seam list rest

parts-behind : {X : Type 0} (before : List X) (lists : List (List X)) → parts_from (length before) (before ++ joined lists) (ends_from (length before) lists) ≡ lists
parts-behind before [] = refl
parts-behind before (list ∷ lists) =
    let rest = joined lists in
    let more : before ++ (list ++ rest) ≡ (before ++ list) ++ rest = sym (append_assoc before list rest) in
    let place : length before + length list ≡ length (before ++ list) = sym (length-append before list) in
    ap₂ (λ l ls. l ∷ ls) (range-front before list rest)
    (ap₂ (λ n xs. parts_from n xs (ends_from n lists)) place more ∙ parts-behind (before ++ list) lists)

pub parts-are : {X : Type 0} (lists : List (List X)) → parts_from 0 (joined lists) (ends_from 0 lists) ≡ lists
parts-are lists = parts-behind [] lists

-- ---- the fronts that are kept

-- the texts of all elements are those of the fronts
texts-are : (fronts : List (List Element)) (kept : Kept) → (holds : Holds fronts [] kept.texts.items kept.ends.items kept.lasts.items) → element_texts kept ≡ joined holds.front_texts ++ holds.begun_texts
texts-are fronts kept holds = ap₂ (parts_from 0) holds.texts_are holds.ends_are ∙ parts-are (joined holds.front_texts ++ holds.begun_texts)

none-begun : (texts : List (List ℕ)) → map whole_of texts ≡ map Some [] → texts ≡ []
none-begun [] is = refl
none-begun (text ∷ texts) is = let no : whole_of text ∷ map whole_of texts ≡ [] = is in cc

joined-texts : (fronts : List (List Element)) (kept : Kept) → (holds : Holds fronts [] kept.texts.items kept.ends.items kept.lasts.items) → element_texts kept ≡ joined holds.front_texts
joined-texts fronts kept holds =
    texts-are fronts kept holds ∙ ap (λ l. joined holds.front_texts ++ l) (none-begun holds.begun_texts holds.begun_spelled) ∙ append-nil (joined holds.front_texts)

read-back : (texts : List (List ℕ)) (es : List Element) → map whole_of texts ≡ map Some es → map read_element texts ≡ es
read-back [] [] is = refl
read-back [] (e ∷ es) is = let no : [] ≡ Some e ∷ map Some es = is in cc
read-back (t ∷ texts) [] is = let no : whole_of t ∷ map whole_of texts ≡ [] = is in cc
read-back (t ∷ texts) (e ∷ es) is =
    let same : whole_of t ∷ map whole_of texts ≡ Some e ∷ map Some es = is in
    let first : whole_of t ≡ Some e = cc in
    let later : map whole_of texts ≡ map Some es = cc in
    ap₂ (λ x l. x ∷ l) (ap (λ o. unwrap_or o Nil) first) (read-back texts es later)

reads-back : (texts : List (List (List ℕ))) (fronts : List (List Element)) → map (map whole_of) texts ≡ map (map Some) fronts → map (map read_element) texts ≡ fronts
reads-back [] [] is = refl
reads-back [] (f ∷ fronts) is = let no : [] ≡ map Some f ∷ map (map Some) fronts = is in cc
reads-back (t ∷ texts) [] is = let no : map whole_of t ∷ map (map whole_of) texts ≡ [] = is in cc
reads-back (t ∷ texts) (f ∷ fronts) is =
    let same : map whole_of t ∷ map (map whole_of) texts ≡ map Some f ∷ map (map Some) fronts = is in
    let first : map whole_of t ≡ map Some f = cc in
    let later : map (map whole_of) texts ≡ map (map Some) fronts = cc in
    ap₂ (λ x l. x ∷ l) (read-back t f first) (reads-back texts fronts later)

pub shown-are : (fronts : List (List Element)) (kept : Kept) → (holds : Holds fronts [] kept.texts.items kept.ends.items kept.lasts.items)
    → shown_fronts kept.texts.items kept.ends.items kept.lasts.items ≡ fronts
shown-are fronts kept holds =
    ap₂ (λ l n. map (map read_element) (parts_from 0 l n)) (joined-texts fronts kept holds) holds.lasts_are
    ∙ ap (map (map read_element)) (parts-are holds.front_texts) ∙ reads-back holds.front_texts fronts holds.spelled

pub length-shown : (kept : Kept) → length (shown_fronts kept.texts.items kept.ends.items kept.lasts.items) ≡ length kept.lasts.items
length-shown kept =
    length-map (parts_from 0 (element_texts kept) kept.lasts.items) (map read_element) ∙ length-parts 0 (element_texts kept) kept.lasts.items

-- where a front begins and ends
map-at : {X Y : Type 0} (f : X → Y) (xs : List X) (i : ℕ) (d : X) (e : Y) → i < length xs → slice_index_or (map f xs) i e ≡ f (slice_index_or xs i d)
map-at f [] i d e inside = absurd (omega (arith, inside))
map-at f (x ∷ xs) zero d e inside = refl
map-at f (x ∷ xs) (suc i) d e inside = map-at f xs i d e (omega (arith, inside))

pub span-is : (kept : Kept) (i : ℕ) (span : ℕ × ℕ) → IsSound kept → i < length kept.lasts.items → span.0 ≡ start_at kept.lasts.items i → span.1 ≡ slice_index kept.lasts.items i → IsSpanOf kept i span
span-is kept i span sound inside from upto =
    let holds = sound.holds in
    let lists = holds.front_texts in
    let count : length kept.lasts.items ≡ length lists = ap length holds.lasts_are ∙ length-ends 0 lists in
    let laid = laid-from 0 lists i (omega (arith, inside, count)) in
    let start : span.0 ≡ start_from 0 (ends_from 0 lists) i = from ∙ start-is kept.lasts.items i ∙ ap (λ l. start_from 0 l i) holds.lasts_are in
    let end : span.1 ≡ slice_index (ends_from 0 lists) i = upto ∙ ap (λ l. slice_index l i) holds.lasts_are in
    let all : length kept.ends.items ≡ length (joined lists) = sym (length-parts 0 kept.texts.items kept.ends.items) ∙ ap length (joined-texts sound.fronts kept holds) in
    record {
      ordered = omega (arith, laid.0, start, end);
      within = omega (arith, laid.1, end, all);
      front =
          map-at (map read_element) (parts_from 0 (element_texts kept) kept.lasts.items) i [] [] (omega (arith, inside, length-parts 0 (element_texts kept) kept.lasts.items))
          ∙ ap (map read_element) (part-at (element_texts kept) kept.lasts.items i inside ∙ ap₂ (slice_range (element_texts kept)) (sym from) (sym upto));
    }

-- ---- the text of an element

-- where it begins and ends
pub text-laid : (kept : Kept) (n : ℕ) → IsSound kept → n < length kept.ends.items
    → (start_at kept.ends.items n ≤ slice_index kept.ends.items n) × (slice_index kept.ends.items n ≤ length kept.texts.items)
text-laid kept n sound inside =
    let holds = sound.holds in
    let lists = joined holds.front_texts ++ holds.begun_texts in
    let count : length kept.ends.items ≡ length lists = ap length holds.ends_are ∙ length-ends 0 lists in
    let laid = laid-from 0 lists n (omega (arith, inside, count)) in
    let start : start_at kept.ends.items n ≡ start_from 0 (ends_from 0 lists) n = start-is kept.ends.items n ∙ ap (λ l. start_from 0 l n) holds.ends_are in
    let end : slice_index kept.ends.items n ≡ slice_index (ends_from 0 lists) n = ap (λ l. slice_index l n) holds.ends_are in
    let all = ap length holds.texts_are in
    (omega (arith, laid.0, start, end), omega (arith, laid.1, end, all))

joined-spelled : (texts : List (List (List ℕ))) (fronts : List (List Element)) → map (map whole_of) texts ≡ map (map Some) fronts → map whole_of (joined texts) ≡ map Some (joined fronts)
joined-spelled [] [] is = refl
joined-spelled [] (f ∷ fronts) is = let no : [] ≡ map Some f ∷ map (map Some) fronts = is in cc
joined-spelled (t ∷ texts) [] is = let no : map whole_of t ∷ map (map whole_of) texts ≡ [] = is in cc
joined-spelled (t ∷ texts) (f ∷ fronts) is =
    let same : map whole_of t ∷ map (map whole_of) texts ≡ map Some f ∷ map (map Some) fronts = is in
    let first : map whole_of t ≡ map Some f = cc in
    let later : map (map whole_of) texts ≡ map (map Some) fronts = cc in
    map-append whole_of t (joined texts) ∙ ap₂ (λ a b. a ++ b) first (joined-spelled texts fronts later) ∙ sym (map-append Some f (joined fronts))

all-some : (texts : List (List ℕ)) (es : List Element) (n : ℕ) → map whole_of texts ≡ map Some es → n < length texts → IsSome (whole_of (slice_index_or texts n []))
all-some [] es n is inside = absurd (omega (arith, inside))
all-some (t ∷ texts) [] n is inside = let no : whole_of t ∷ map whole_of texts ≡ [] = is in absurd (cc)
all-some (t ∷ texts) (e ∷ es) zero is inside =
    let same : whole_of t ∷ map whole_of texts ≡ Some e ∷ map Some es = is in
    let first : whole_of t ≡ Some e = cc in
    subst IsSome (sym first) (search rules)
all-some (t ∷ texts) (e ∷ es) (suc n) is inside =
    let same : whole_of t ∷ map whole_of texts ≡ Some e ∷ map Some es = is in
    let later : map whole_of texts ≡ map Some es = cc in
    all-some texts es n later (omega (arith, inside))

pub text-spelled : (kept : Kept) (n : ℕ) → IsSound kept → n < length kept.ends.items → IsSome (whole_of (slice_index_or (element_texts kept) n []))
text-spelled kept n sound inside =
    let holds = sound.holds in
    let are = joined-texts sound.fronts kept holds in
    let all : length kept.ends.items ≡ length (joined holds.front_texts) = sym (length-parts 0 kept.texts.items kept.ends.items) ∙ ap length are in
    subst (λ l. IsSome (whole_of (slice_index_or l n []))) (sym are)
    (all-some (joined holds.front_texts) (joined sound.fronts) n (joined-spelled holds.front_texts sound.fronts holds.spelled) (omega (arith, inside, all)))

-- ---- the fronts as they are shown

range-count : {X : Type 0} (xs : List X) (a b : ℕ) → a ≤ b → b ≤ length xs → length (slice_range xs a b) ≡ b - a
range-count xs a b ordered within =
    let behind = length-drop a xs in
    length-take (b - a) (drop a xs) ∙ omega (arith, behind, ordered, within)

pub span-count : (kept : Kept) (i : ℕ) (span : ℕ × ℕ) → IsSpanOf kept i span → length (slice_index_or (shown_fronts kept.texts.items kept.ends.items kept.lasts.items) i []) ≡ span.1 - span.0
span-count kept i span is =
    let texts = element_texts kept in
    let all = length-parts 0 kept.texts.items kept.ends.items in
    ap length is.front ∙ length-map (slice_range texts span.0 span.1) read_element ∙ range-count texts span.0 span.1 is.ordered (omega (arith, is.within, all))

pub span-element : (kept : Kept) (i : ℕ) (span : ℕ × ℕ) (place : ℕ) (e : Element) → IsSpanOf kept i span → place < span.1 - span.0
    → whole_of (slice_index_or (element_texts kept) (span.0 + place) []) ≡ Some e
    → slice_get (slice_index_or (shown_fronts kept.texts.items kept.ends.items kept.lasts.items) i []) place ≡ Some e
span-element kept i span place e is inside read =
    let texts = element_texts kept in
    let part = slice_range texts span.0 span.1 in
    let all = length-parts 0 kept.texts.items kept.ends.items in
    let count : length part ≡ span.1 - span.0 = range-count texts span.0 span.1 is.ordered (omega (arith, is.within, all)) in
    ap (λ l. slice_get l place) is.front ∙ slice_get-map read_element part place ∙ ap (option_map read_element) (slice_get-get_or part place [] (omega (arith, count, inside)))
    ∙ ap (λ t. Some (read_element t)) (get_or-take (span.1 - span.0) (drop span.0 texts) place [] inside ∙ get_or-drop span.0 texts place [])
    ∙ ap (λ o. Some (unwrap_or o Nil)) read
