-- Texts by their numbers, and the groups that numbers tell.
use Rattle.std.proofs.Common.{◌≡◌, ℕ, suc, ◌+◌, ◌<◌, ◌≤◌, ◌==◌, Bool, true, false, cond, not, List, [], ◌∷◌, ◌++◌, length, get_or, map, take, Some, None, refl, sym, ◌∙◌, ap, ap₂, arith, if◌then◌else◌}
use Rattle.std.specs.Prelude.{filter, position, replicate, slice_get, slice_set, ◌||◌, ◌&&◌}
use Rattle.std.specs.BTreeMap.{BTreeMap, get_by}
use Rattle.std.specs.Cmp.Lexicographic.{slice_cmp}
use Rattle.std.specs.List.{cons_option, enumerate_from, filter_map, list_any, sum_by}
use Rattle.std.specs.Map.{update}
use Rattle.std.specs.Ordering.{nat_cmp}
use Rattle.std.specs.Str.{bytes_eq}
use denote.Ref.{Bor}
use Rattle.std.proofs.lemmas.Bool.{eq-eqb, eqb-true, false_from_ne_true}
use Rattle.std.proofs.lemmas.Grind.{common_steps}
use Rattle.std.proofs.lemmas.List.{get_or-map, get_or-replicate, get_or-set_other, get_or-set_same, length-map, take-map}
use Rattle.std.proofs.lemmas.List.Filters.{length-filter_more}
use Rattle.std.proofs.lemmas.List.Folds.{position_or_len_push}
use Rattle.std.proofs.lemmas.List.Quantifiers.{position-Some}
use Rattle.std.proofs.lemmas.List.Sums.{prefix_len-le-length, sum_by-cons}
use Rattle.std.proofs.lemmas.Option.{same_Some, slice_get-get_or}
use Rattle.std.proofs.lemmas.Slice.Eq.{bytes_eq-Decides}
use Rattle.dump_io.specs.Laws.Lists.{same-bools, take-at}
use Rattle.dump_io.specs.Laws.Texts.{bytes_eq-refl, bytes_eq-swap}
use Rattle.text_groups.specs.Sums.{capped}
use Rattle.text_groups.specs.Groups.{Item, group_at, groups, has_text, item_at, members}
use Rattle.text_groups.specs.Numbers.{number_in, weightless, HaveNumbers}
use Rattle.text_groups.specs.Inner.Numbers.{count_in, counted_group, number_item, AreCounts, AreLeftCounts, IsNumberTree}
use Rattle.text_groups.specs.declared.text_group.TextGroup.{TextGroup}
use Rattle.text_groups.proofs.TallyFacts.{members-some}

-- ---- the number of a text

-- one more text has the next number
pub number-new : (known : List (List ℕ)) (text : List ℕ) → number_in known text ≡ None → number_in (known ++ text ∷ []) text ≡ Some (length known)
number-new known text none = push (bytes_eq text) known text none (bytes_eq-refl text)
  where
    push : (p : List ℕ → Bool) (xs : List (List ℕ)) (x : List ℕ) → position p xs ≡ None → p x ≡ true → position p (xs ++ x ∷ []) ≡ Some (length xs)
    push p xs x none own = grind (arith, common_steps, position_or_len_push, prefix_len-le-length (λ y. not (p y)) xs)

number-other : (known : List (List ℕ)) (text other : List ℕ) → bytes_eq other text ≡ false → number_in (known ++ text ∷ []) other ≡ number_in known other
number-other known text other differs = push (bytes_eq other) known text differs
  where
    push : (p : List ℕ → Bool) (xs : List (List ℕ)) (x : List ℕ) → p x ≡ false → position p (xs ++ x ∷ []) ≡ position p xs
    push p xs x differs = grind (arith, common_steps, position_or_len_push)

-- the tree with one more text
pub tree-more : (old new : BTreeMap (Bor (List ℕ)) ℕ) (known : List (List ℕ)) (text : List ℕ) (number : ℕ) → IsNumberTree old known → number_in known text ≡ None → number ≡ length known
    → ((other : List ℕ) → get_by (λ key. slice_cmp nat_cmp other key.now) new ≡ update bytes_eq (λ t. get_by (λ key. slice_cmp nat_cmp t key.now) old) text (Some number) other)
    → IsNumberTree new (known ++ text ∷ [])
tree-more old new known text number is none next grown = record { each = each }
  where
    each : (other : List ℕ) → get_by (λ key. slice_cmp nat_cmp other key.now) new ≡ number_in (known ++ text ∷ []) other
    each other = grown other ∙ by (bytes_eq text other) refl
      where
        by : (b : Bool) → bytes_eq text other ≡ b → cond b (Some number) (get_by (λ key. slice_cmp nat_cmp other key.now) old) ≡ number_in (known ++ text ∷ []) other
        by true e = ap Some next ∙ sym (number-new known text none) ∙ ap (number_in (known ++ text ∷ [])) ((bytes_eq-Decides text other).0 e)
        by false e = is.each other ∙ sym (number-other known text other (bytes_eq-swap other text ∙ e))

-- ---- counts

-- what is the same isn't told apart
clash : (b : Bool) → b ≡ true → b ≡ false → ⊥
clash b holds fails = cc

pub counts-none : (different : ℕ) → AreCounts (replicate different 0) []
counts-none different = record { each = λ n inside. get_or-replicate different n 0 0 (omega (arith, inside, len)) }
  where
    len : length {A = ℕ} (replicate different 0) ≡ different
    len = grind (arith, common_steps)

count-more : (numbers : List ℕ) (i m : ℕ) → i < length numbers → count_in (take (i + 1) numbers) m ≡ count_in (take i numbers) m + cond (get_or numbers i 0 == m) 1 0
count-more numbers i m inside = length-filter_more (λ k. k == m) numbers i 0 inside

pub count-few : (numbers : List ℕ) (i n : ℕ) → count_in (take i numbers) n ≤ i
count-few numbers i n = few (take i numbers) i (omega (arith, at-most))
  where
    at-most : length (take i numbers) ≤ i
    at-most = grind (arith, common_steps)

    few : (xs : List ℕ) (k : ℕ) → length xs ≤ k → count_in xs n ≤ k
    few [] k le = omega arith
    few (x ∷ xs) k le = elim (x == n) as (λ b. length (cond b (x ∷ filter (λ m. m == n) xs) (filter (λ m. m == n) xs)) ≤ k) [
      | true ↦ omega (arith, le, few xs (length xs) (omega arith))
      | false ↦ omega (arith, le, few xs (length xs) (omega arith))
    ]

pub counts-more : (counts numbers : List ℕ) (i n : ℕ) → i < length numbers → get_or numbers i 0 ≡ n → n < length counts → AreCounts counts (take i numbers)
    → AreCounts (slice_set counts n (get_or counts n 0 + 1)) (take (i + 1) numbers)
counts-more counts numbers i n inside is below are = record { each = each }
  where
    each : (m : ℕ) → m < length (slice_set counts n (get_or counts n 0 + 1)) → get_or (slice_set counts n (get_or counts n 0 + 1)) m 0 ≡ count_in (take (i + 1) numbers) m
    each m within = by (n == m) refl ∙ sym (count-more numbers i m inside ∙ ap (λ k. count_in (take i numbers) m + cond (k == m) 1 0) is)
      where
        by : (b : Bool) → (n == m) ≡ b → get_or (slice_set counts n (get_or counts n 0 + 1)) m 0 ≡ count_in (take i numbers) m + cond b 1 0
        by true e =
            let same : n ≡ m = eqb-true n m e in
            ap (λ k. get_or (slice_set counts n (get_or counts n 0 + 1)) k 0) (sym same)
            ∙ get_or-set_same counts n (get_or counts n 0 + 1) 0 below
            ∙ ap (λ k. k + 1) (are.each n below)
            ∙ ap (λ k. count_in (take i numbers) k + 1) same
        by false e =
            get_or-set_other counts n m (get_or counts n 0 + 1) 0 (λ same. clash (n == m) (eq-eqb n m (sym same)) e)
            ∙ are.each m (omega (arith, within, length-set-counts))
            ∙ omega arith
          where
            length-set-counts : length (slice_set counts n (get_or counts n 0 + 1)) ≡ length counts
            length-set-counts = grind (arith, common_steps)

-- ---- the counts that are left

pub left-none : (counts numbers : List ℕ) → AreCounts counts numbers → AreLeftCounts counts numbers 0
left-none counts numbers are = record { each = are.each }

any-more : (numbers : List ℕ) (i n m : ℕ) → slice_get numbers i ≡ Some n → list_any (λ k. k == m) (take (i + 1) numbers) ≡ list_any (λ k. k == m) (take i numbers) || (n == m)
any-more numbers i n m at = ap (list_any (λ k. k == m)) (take-at numbers i n at) ∙ any-push (λ k. k == m) (take i numbers) n
  where
    any-push : (p : ℕ → Bool) (xs : List ℕ) (x : ℕ) → list_any p (xs ++ x ∷ []) ≡ list_any p xs || p x
    any-push p [] x = elim (p x) as (λ b. (b || false) ≡ b) [ true ↦ refl | false ↦ refl ]
    any-push p (y ∷ xs) x = elim (p y) as (λ b. (b || list_any p (xs ++ x ∷ [])) ≡ ((b || list_any p xs) || p x)) [ true ↦ refl | false ↦ any-push p xs x ]

pub left-more : (counts numbers : List ℕ) (i n : ℕ) → i < length numbers → get_or numbers i 0 ≡ n → n < length counts → AreLeftCounts counts numbers i
    → AreLeftCounts (slice_set counts n 0) numbers (i + 1)
left-more counts numbers i n inside is below left = record { each = each }
  where
    at : slice_get numbers i ≡ Some n
    at = slice_get-get_or numbers i 0 inside ∙ ap Some is

    told : ℕ → Bool → ℕ
    told m b = if b then 0 else count_in numbers m

    told-there : (m : ℕ) (a : Bool) → told m (a || true) ≡ 0
    told-there m true = refl
    told-there m false = refl

    told-same : (m : ℕ) (a : Bool) → told m (a || false) ≡ told m a
    told-same m true = refl
    told-same m false = refl

    each : (m : ℕ) → m < length (slice_set counts n 0) → get_or (slice_set counts n 0) m 0 ≡ told m (list_any (λ k. k == m) (take (i + 1) numbers))
    each m within = by (n == m) refl ∙ sym (ap (told m) (any-more numbers i n m at))
      where
        by : (b : Bool) → (n == m) ≡ b → get_or (slice_set counts n 0) m 0 ≡ told m (list_any (λ k. k == m) (take i numbers) || (n == m))
        by true e =
            let same : n ≡ m = eqb-true n m e in
            ap (λ k. get_or (slice_set counts n 0) k 0) (sym same)
            ∙ get_or-set_same counts n 0 0 below
            ∙ sym (ap (λ b. told m (list_any (λ k. k == m) (take i numbers) || b)) e ∙ told-there m (list_any (λ k. k == m) (take i numbers)))
        by false e =
            get_or-set_other counts n m 0 0 (λ same. clash (n == m) (eq-eqb n m (sym same)) e)
            ∙ left.each m (omega (arith, within, len))
            ∙ sym (ap (λ b. told m (list_any (λ k. k == m) (take i numbers) || b)) e ∙ told-same m (list_any (λ k. k == m) (take i numbers)))
          where
            len : length (slice_set counts n 0) ≡ length counts
            len = grind (arith, common_steps)

-- ---- the group of a number

-- a number as a text
same-number : (n m : ℕ) → has_text (n ∷ []) (number_item m) ≡ (m == n)
same-number n m = bytes_eq-swap (n ∷ []) (m ∷ []) ∙ elim (m == n) as (λ b. (b && true) ≡ b) [ true ↦ refl | false ↦ refl ]

any-number : (n : ℕ) (ms : List ℕ) → list_any (has_text (n ∷ [])) (map number_item ms) ≡ list_any (λ m. m == n) ms
any-number n [] = refl
any-number n (m ∷ ms) = ap₂ (λ a b. a || b) (same-number n m) (any-number n ms)

members-number : (n : ℕ) (ms : List ℕ) → length (members (n ∷ []) (map number_item ms)) ≡ count_in ms n
members-number n [] = refl
members-number n (m ∷ ms) =
    ap (λ b. length (cond b (number_item m ∷ members (n ∷ []) (map number_item ms)) (members (n ∷ []) (map number_item ms)))) (same-number n m)
    ∙ by (members-number n ms) (m == n)
  where
    by : length (members (n ∷ []) (map number_item ms)) ≡ count_in ms n → (b : Bool)
        → length (cond b (number_item m ∷ members (n ∷ []) (map number_item ms)) (members (n ∷ []) (map number_item ms))) ≡ length (cond b (m ∷ filter (λ k. k == n) ms) (filter (λ k. k == n) ms))
    by rest true = ap suc rest
    by rest false = rest

-- items without weight have none together
no-weight : {X : Type 0} (f : X → Item) (text : List ℕ) → ((x : X) → (f x).weight ≡ 0) → (xs : List X) → sum_by (λ (i : Item). i.weight) (members text (map f xs)) ≡ 0
no-weight f text none [] = refl
no-weight f text none (x ∷ xs) = by (no-weight f text none xs) (has_text text (f x))
  where
    by : sum_by (λ (i : Item). i.weight) (members text (map f xs)) ≡ 0 → (b : Bool) → sum_by (λ (i : Item). i.weight) (cond b (f x ∷ members text (map f xs)) (members text (map f xs))) ≡ 0
    by rest true = sum_by-cons (λ (i : Item). i.weight) (f x) (members text (map f xs)) ∙ omega (arith, none x, rest)
    by rest false = rest

abbrev group_with : ℕ → ℕ → ℕ → TextGroup
group_with first count weight = record { first = first; count = count; weight = weight }

-- the group that a count tells is that of the item at a place
pub group-told : (counts numbers : List ℕ) (i n : ℕ) → i < length numbers → get_or numbers i 0 ≡ n → n < length counts → AreLeftCounts counts numbers i
    → counted_group i (get_or counts n 0) ≡ group_at (map number_item numbers) (i, item_at (map number_item numbers) i)
group-told counts numbers i n inside is below left =
    ap (counted_group i) (left.each n below)
    ∙ by (list_any (λ m. m == n) (take i numbers))
    ∙ ap (λ b. if b then None else Some (group_with i (length those) (capped (sum_by (λ (s : Item). s.weight) those)))) (sym any)
    ∙ ap (λ s. group_at items (i, s)) (sym item-is)
  where
    items : List Item
    items = map number_item numbers

    those : List Item
    those = members (n ∷ []) (map number_item numbers)

    item-is : item_at (map number_item numbers) i ≡ number_item n
    item-is = get_or-map number_item numbers i 0 (record { text = []; weight = 0 }) inside ∙ ap number_item is

    any : list_any (has_text (n ∷ [])) (take i (map number_item numbers)) ≡ list_any (λ m. m == n) (take i numbers)
    any = ap (list_any (has_text (n ∷ []))) (take-map number_item i numbers) ∙ any-number n (take i numbers)

    at : slice_get (map number_item numbers) i ≡ Some (number_item n)
    at = slice_get-get_or (map number_item numbers) i (record { text = []; weight = 0 }) (omega (arith, inside, length-map numbers number_item)) ∙ ap Some item-is

    some : 0 < count_in numbers n
    some = omega (arith, members-some (map number_item numbers) i (number_item n) at, members-number n numbers)

    by : (b : Bool) → counted_group i (if b then 0 else count_in numbers n)
        ≡ (if b then None else Some (group_with i (length (members (n ∷ []) (map number_item numbers))) (capped (sum_by (λ (s : Item). s.weight) (members (n ∷ []) (map number_item numbers))))))
    by true = refl
    by false =
        ap (λ b. if b then None else Some (group_with i (count_in numbers n) 0)) (false_from_ne_true (count_in numbers n == 0) (λ none. omega (arith, some, eqb-true (count_in numbers n) 0 none)))
        ∙ ap₂ (λ count weight. Some (group_with i count (capped weight))) (sym (members-number n numbers)) (sym (no-weight number_item (n ∷ []) (λ m. refl) numbers))

-- ---- numbers in place of texts

-- the text with the number of another is that
text-at : (known : List (List ℕ)) (t : List ℕ) (n : ℕ) → number_in known t ≡ Some n → t ≡ get_or known n []
text-at known t n is = let found = position-Some (bytes_eq t) known n [] is in (bytes_eq-Decides t (get_or known n [])).0 found.1

-- two texts are the same if they have the same number
same-test : (known : List (List ℕ)) (t u : List ℕ) (n m : ℕ) → number_in known t ≡ Some n → number_in known u ≡ Some m → bytes_eq t u ≡ bytes_eq (n ∷ []) (m ∷ [])
same-test known t u n m t_is u_is = same-bools (bytes_eq t u) (bytes_eq (n ∷ []) (m ∷ [])) there back
  where
    there : bytes_eq t u ≡ true → bytes_eq (n ∷ []) (m ∷ []) ≡ true
    there e = (bytes_eq-Decides (n ∷ []) (m ∷ [])).1 (ap (λ k. k ∷ []) (same_Some n m (sym t_is ∙ ap (number_in known) ((bytes_eq-Decides t u).0 e) ∙ u_is)))

    back : bytes_eq (n ∷ []) (m ∷ []) ≡ true → bytes_eq t u ≡ true
    back e = (bytes_eq-Decides t u).1 (text-at known t n t_is ∙ ap (λ k. get_or known k []) (one ((bytes_eq-Decides (n ∷ []) (m ∷ [])).0 e)) ∙ sym (text-at known u m u_is))
      where
        one : n ∷ [] ≡ m ∷ [] → n ≡ m
        one same = cc

module _ (known : List (List ℕ)) where
  any-same : (t : List ℕ) (n : ℕ) → number_in known t ≡ Some n → (us : List (List ℕ)) (ms : List ℕ) → map (number_in known) us ≡ map Some ms
      → list_any (has_text (n ∷ [])) (map number_item ms) ≡ list_any (has_text t) (map weightless us)
  any-same t n is [] [] have = refl
  any-same t n is [] (m ∷ ms) have = cc
  any-same t n is (u ∷ us) [] have = cc
  any-same t n is (u ∷ us) (m ∷ ms) have =
      let first : number_in known u ≡ Some m = cc in
      let rest : map (number_in known) us ≡ map Some ms = cc in
      ap₂ (λ a b. a || b) (sym (same-test known t u n m is first)) (any-same t n is us ms rest)

  count-same : (t : List ℕ) (n : ℕ) → number_in known t ≡ Some n → (us : List (List ℕ)) (ms : List ℕ) → map (number_in known) us ≡ map Some ms
      → length (members (n ∷ []) (map number_item ms)) ≡ length (members t (map weightless us))
  count-same t n is [] [] have = refl
  count-same t n is [] (m ∷ ms) have = cc
  count-same t n is (u ∷ us) [] have = cc
  count-same t n is (u ∷ us) (m ∷ ms) have =
      let first : number_in known u ≡ Some m = cc in
      let rest : map (number_in known) us ≡ map Some ms = cc in
      ap (λ b. length (cond b (number_item m ∷ members (n ∷ []) (map number_item ms)) (members (n ∷ []) (map number_item ms)))) (sym (same-test known t u n m is first))
      ∙ by (count-same t n is us ms rest) (bytes_eq t u)
    where
      by : length (members (n ∷ []) (map number_item ms)) ≡ length (members t (map weightless us)) → (b : Bool)
          → length (cond b (number_item m ∷ members (n ∷ []) (map number_item ms)) (members (n ∷ []) (map number_item ms))) ≡ length (cond b (weightless u ∷ members t (map weightless us)) (members t (map weightless us)))
      by rest true = ap suc rest
      by rest false = rest

  module _ (texts : List (List ℕ)) (numbers : List ℕ) (have : map (number_in known) texts ≡ map Some numbers) where
    -- the group of a text is that of its number
    group-same : (i : ℕ) (t : List ℕ) (n : ℕ) → number_in known t ≡ Some n → group_at (map number_item numbers) (i, number_item n) ≡ group_at (map weightless texts) (i, weightless t)
    group-same i t n is =
        let before : map (number_in known) (take i texts) ≡ map Some (take i numbers) = sym (take-map (number_in known) i texts) ∙ ap (take i) have ∙ take-map Some i numbers in
        let any : list_any (has_text (n ∷ [])) (take i (map number_item numbers)) ≡ list_any (has_text t) (take i (map weightless texts)) =
        ap (list_any (has_text (n ∷ []))) (take-map number_item i numbers)
        ∙ any-same t n is (take i texts) (take i numbers) before
        ∙ ap (list_any (has_text t)) (sym (take-map weightless i texts)) in
        ap (λ b. if b then None else Some (group_with i (length (members (n ∷ []) (map number_item numbers))) (capped (sum_by (λ (s : Item). s.weight) (members (n ∷ []) (map number_item numbers)))))) any
        ∙ ap₂ (λ count weight. if list_any (has_text t) (take i (map weightless texts)) then None else Some (group_with i count (capped weight)))
        (count-same t n is texts numbers have)
        (no-weight number_item (n ∷ []) (λ m. refl) numbers ∙ sym (no-weight weightless t (λ u. refl) texts))

    all-same : (i : ℕ) (us : List (List ℕ)) (ms : List ℕ) → map (number_in known) us ≡ map Some ms
        → filter_map (group_at (map number_item numbers)) (enumerate_from i (map number_item ms)) ≡ filter_map (group_at (map weightless texts)) (enumerate_from i (map weightless us))
    all-same i [] [] is = refl
    all-same i [] (m ∷ ms) is = cc
    all-same i (u ∷ us) [] is = cc
    all-same i (u ∷ us) (m ∷ ms) is =
        let first : number_in known u ≡ Some m = cc in
        let rest : map (number_in known) us ≡ map Some ms = cc in
        ap₂ (λ group groups. cons_option group groups) (group-same i u m first) (all-same (i + 1) us ms rest)

-- the groups of texts are those of their numbers
pub numbers-group : (known texts : List (List ℕ)) (numbers : List ℕ) → HaveNumbers known texts numbers → groups (map number_item numbers) ≡ groups (map weightless texts)
numbers-group known texts numbers have = all-same known texts numbers have.each 0 texts numbers have.each
