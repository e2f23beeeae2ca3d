-- Levels, one after another.
use Rattle.std.proofs.Common.{◌≡◌, ℕ, zero, suc, ◌*◌, ◌≤◌, Bool, true, false, if◌then◌else◌, nat_lt, List, [], ◌∷◌, ◌++◌, length, map, take, Option, None, Some, refl, sym, ◌∙◌, ap, ap₂, subst, append_assoc, append-nil, arith}
use Rattle.std.specs.Prelude.{All, slice_get}
use Rattle.std.specs.Option.{option_map_or}
use Rattle.std.proofs.lemmas.Bool.{lt-ltb}
use Rattle.std.proofs.lemmas.List.{length-map, map-append, take-map}
use Rattle.std.proofs.lemmas.List.Elements.{All-nil, All-push}
use Rattle.std.proofs.lemmas.Option.{none-some, same_Some}
use Rattle.cell_parts.specs.Parts.{ArePartsOf, CellPart, CellParts, PartElement, parts_made}
use Rattle.heap_graph.specs.Binaries.{binaries_among}
use Rattle.heap_skeleton.specs.Skeletons.{SkeletonMap}
use Rattle.heap_weights.specs.declared.holders.Holder.{Holder}
use Rattle.heap_weights.specs.Parts.{holder_of}
use Rattle.heap_weights.specs.Shares.{AreShares, weights_from}
use Rattle.heap_weights.specs.declared.shares.Shares.{Shares}
use Rattle.heap_weights.specs.declared.shares.Weight.{Weight}
use Rattle.part_weights.specs.Held.{row_at, rows_at, sorted_parts}
use Rattle.part_weights.specs.Laws.Rows.{rows-sorted}
use Rattle.part_weights.specs.Weights.{Row, rows_of}
use Rattle.part_weights.specs.declared.held_parts.HeldPart.{HeldPart}
use Rattle.cell_parts.specs.Over.{IsOver}
use Rattle.root_views.specs.declared.kinds.RootKind.{RootKind}
use Rattle.root_views.specs.declared.kinds.RootKind.TheVariants.{Stack, Dict, Mail}
use Rattle.heap_levels.specs.Levels.{KindWeighing, Level, first_rows, heaviest, kind_weighing}
use Rattle.heap_levels.specs.Inner.Descent.{ArePartsWithin, IsDescending, IsDescent, IsDescentWithin, IsWeighed, shown_keyed, shown_parts}
use Rattle.heap_levels.specs.Inner.Plain.{Keyed, LevelMap, PartsMap, alone_of, below_kinds, descent, elements_below, keyed_with, keys_of, last_parts, level_with, levels_with, no_parts, parts_with, subject_cell}
use Rattle.heap_levels.specs.declared.descending.Descent.{Descent}
use Rattle.heap_levels.specs.declared.levels.KeyedLevel.{KeyedLevel}
use Rattle.heap_levels.specs.declared.levels.WeighedLevel.{WeighedLevel}
use Rattle.part_keys.specs.KeyPlaces.{AreKeysWithin}
use Rattle.part_keys.specs.PartShapes.{AreShapedWithin, IsShapedWithin, shaped_part}
use Rattle.part_keys.specs.declared.shaped.ShapedPart.{ShapedPart}
use Rattle.part_keys.specs.declared.key_places.KeyPlace.{KeyPlace}
use Rattle.heap_levels.specs.declared.levels.Subject.{Subject}
use Rattle.heap_levels.specs.declared.levels.Subject.TheVariants as of

-- ---- one level

pub length-weights : (part : ℕ) (words : List ℕ) (binaries : List Bool) (holders : ℕ → Holder) (n count : ℕ) → length (weights_from part words binaries holders n count) ≡ count
length-weights part words binaries holders n zero = refl
length-weights part words binaries holders n (suc count) = ap suc (length-weights (suc part) words binaries holders n count)

-- each part has a share
pub shares-count : (heap : SkeletonMap) (parts : List CellPart) (shares : Shares) → AreShares heap.leads heap.words (binaries_among heap.kinds) heap.own (map (λ (p : CellPart). p.cell) parts) shares
    → length shares.alone.items ≡ length parts
shares-count heap parts shares are =
    let roots = map (λ (p : CellPart). p.cell) parts in
    ap length are.alone ∙ length-weights 0 heap.words (binaries_among heap.kinds) (holder_of heap.leads roots) heap.own (length roots) ∙ length-map parts (λ (p : CellPart). p.cell)

-- a level of what is kept
pub level-kept : (heap : SkeletonMap) (subject : Subject) (parts : CellParts) (shares : Shares) (held : List HeldPart) (rows : List Row) (most : ℕ) (elements : List PartElement) → ArePartsOf elements parts
    → AreShares heap.leads heap.words (binaries_among heap.kinds) heap.own (map (λ (p : CellPart). p.cell) parts.parts) shares → held ≡ take most (sorted_parts shares.alone.items)
    → rows ≡ rows_at heap parts.parts held
    → (let level : Level = record { subject = subject; rows = rows; shared = shares.shared; reached = shares.reached; parts = length parts.parts } in level) ≡ first_rows most (level_with heap subject elements)
level-kept heap subject parts shares held rows most elements of_elements are held_is rows_is =
    let ps = parts.parts in
    let binaries = binaries_among heap.kinds in
    let holders = holder_of heap.leads (map (λ (p : CellPart). p.cell) ps) in
    let alone : shares.alone.items ≡ weights_from 0 heap.words binaries holders heap.own (length ps) =
    are.alone ∙ ap (weights_from 0 heap.words binaries holders heap.own) (length-map ps (λ (p : CellPart). p.cell)) in
    let all : rows ≡ take most (rows_of heap ps (weights_from 0 heap.words binaries holders heap.own (length ps))) =
    rows_is ∙ ap (rows_at heap ps) held_is ∙ sym (take-map (row_at heap ps) most (sorted_parts shares.alone.items))
    ∙ ap (take most) (rows-sorted heap ps shares.alone.items (sym (shares-count heap ps shares are)) ∙ ap (rows_of heap ps) alone) in
    rw (all, are.shared, are.reached, of_elements.parts) refl

-- ---- the part that holds the most

pub heaviest-none : (total : ℕ) (rows : List Row) → length rows ≡ 0 → None ≡ heaviest total rows
heaviest-none total [] none = refl
heaviest-none total (row ∷ rows) none = absurd (omega (arith, none))

pub heaviest-by : (total : ℕ) (rows : List Row) (row : Row) (b : Bool) → slice_get rows 0 ≡ Some row → b ≡ nat_lt total (2 * row.words) → (if b then Some row.address else None) ≡ heaviest total rows
heaviest-by total [] row b is most = absurd (none-some row is)
heaviest-by total (r ∷ rows) row b is most =
    ap (λ c. if c then Some row.address else None) most ∙ ap (λ (x : Row). if nat_lt total (2 * x.words) then Some x.address else None) (sym (same_Some r row is))

heaviest-take : (total most : ℕ) (rows : List Row) → 1 ≤ most → heaviest total (take most rows) ≡ heaviest total rows
heaviest-take total zero rows some = absurd (omega (arith, some))
heaviest-take total (suc most) [] some = refl
heaviest-take total (suc most) (row ∷ rows) some = refl

-- where the keys of what is kept stand
pub keys-kept : (heap : SkeletonMap) (subject : Subject) (parts : CellParts) (shares : Shares) (held : List HeldPart) (most : ℕ) (elements : List PartElement) → ArePartsOf elements parts
    → AreShares heap.leads heap.words (binaries_among heap.kinds) heap.own (map (λ (p : CellPart). p.cell) parts.parts) shares → held ≡ take most (sorted_parts shares.alone.items)
    → keys_of heap subject parts.parts held ≡ (keyed_with most heap (subject, elements)).keys
keys-kept heap subject parts shares held most elements of_elements are held_is =
    let ps = parts.parts in
    let binaries = binaries_among heap.kinds in
    let holders = holder_of heap.leads (map (λ (p : CellPart). p.cell) ps) in
    let alone : shares.alone.items ≡ alone_of heap ps =
    are.alone ∙ ap (weights_from 0 heap.words binaries holders heap.own) (length-map ps (λ (p : CellPart). p.cell)) in
    ap (keys_of heap subject ps) (held_is ∙ ap (λ l. take most (sorted_parts l)) alone)
    ∙ ap (λ l. keys_of heap subject l (take most (sorted_parts (alone_of heap l)))) of_elements.parts

-- a level with where its keys stand
pub keyed-kept : (most : ℕ) (heap : SkeletonMap) (subject : Subject) (elements : List PartElement) (level : Level) (keys : List KeyPlace)
    → level ≡ first_rows most (level_with heap subject elements) → keys ≡ (keyed_with most heap (subject, elements)).keys
    → (let k : Keyed = record { level = level; keys = keys } in k) ≡ keyed_with most heap (subject, elements)
keyed-kept most heap subject elements level keys level_is keys_are = ap₂ (λ (l : Level) (ks : List KeyPlace). let k : Keyed = record { level = l; keys = ks } in k) level_is keys_are

-- what each part alone holds
pub alone-kept : (heap : SkeletonMap) (parts : List CellPart) (shares : Shares) → AreShares heap.leads heap.words (binaries_among heap.kinds) heap.own (map (λ (p : CellPart). p.cell) parts) shares
    → shares.alone.items ≡ alone_of heap parts
alone-kept heap parts shares are =
    are.alone ∙ ap (weights_from 0 heap.words (binaries_among heap.kinds) (holder_of heap.leads (map (λ (p : CellPart). p.cell) parts)) heap.own) (length-map parts (λ (p : CellPart). p.cell))

-- the parts as they are kept
pub parts-kept : (heap : SkeletonMap) (subject : Subject) (parts : CellParts) (alone : List Weight) (elements : List PartElement) (shaped : List ShapedPart) (words : List ℕ) → ArePartsOf elements parts
    → alone ≡ alone_of heap parts.parts → shaped ≡ map (shaped_part heap (subject_cell heap subject)) (map (λ (p : CellPart). p.cell) parts.parts) → words ≡ map (λ (w : Weight). w.words) alone
    → (let m : PartsMap = record { shaped = shaped; words = words } in m) ≡ parts_with heap (subject, elements)
parts-kept heap subject parts alone elements shaped words of_elements alone_is shaped_is words_is =
    ap₂ (λ (a : List ShapedPart) (b : List ℕ). let m : PartsMap = record { shaped = a; words = b } in m)
    (shaped_is ∙ each parts.parts ∙ ap (map (λ (p : CellPart). shaped_part heap (subject_cell heap subject) p.cell)) of_elements.parts)
    (words_is ∙ ap (map (λ (w : Weight). w.words)) (alone_is ∙ ap (alone_of heap) of_elements.parts))
  where
    each : (ps : List CellPart) → map (shaped_part heap (subject_cell heap subject)) (map (λ (p : CellPart). p.cell) ps) ≡ map (λ (p : CellPart). shaped_part heap (subject_cell heap subject) p.cell) ps
    each [] = refl
    each (p ∷ ps) = ap (λ l. shaped_part heap (subject_cell heap subject) p.cell ∷ l) (each ps)

-- ---- level after level

last-of : (heap : SkeletonMap) (done : List (Subject × List PartElement)) (weighed : Subject × List PartElement) → last_parts heap (done ++ weighed ∷ []) ≡ parts_with heap weighed
last-of heap [] weighed = refl
last-of heap (x ∷ []) weighed = refl
last-of heap (x ∷ y ∷ done) weighed = last-of heap (y ∷ done) weighed

-- one more level
pub is-pushed : (most : ℕ) (heap : SkeletonMap) (done : List (Subject × List PartElement)) (weighed : Subject × List PartElement) (before after : Descent) (level : WeighedLevel)
    → IsDescent most heap done before → IsWeighed most heap weighed level → after.levels.items ≡ before.levels.items ++ level.keyed ∷ [] → after.last ≡ level.parts
    → IsDescent most heap (done ++ weighed ∷ []) after
is-pushed most heap done weighed before after level so_far is levels_is last_is = record {
  levels = ap (map shown_keyed) levels_is
      ∙ map-append shown_keyed before.levels.items (level.keyed ∷ [])
      ∙ ap₂ (λ (l : List Keyed) (k : Keyed). l ++ k ∷ []) so_far.levels is.level
      ∙ sym (map-append (keyed_with most heap) done (weighed ∷ []));
  last = ap shown_parts last_is ∙ is.parts ∙ sym (last-of heap done weighed);
}

pub within-pushed : (size : ℕ) (before after : Descent) (level : WeighedLevel) → IsDescentWithin size before → AreKeysWithin size level.keyed.keys.items → ArePartsWithin size level.parts
    → after.levels.items ≡ before.levels.items ++ level.keyed ∷ [] → after.last ≡ level.parts → IsDescentWithin size after
within-pushed size before after level so_far keys parts levels_is last_is = record {
  keys = subst (All (λ (k : KeyedLevel). AreKeysWithin size k.keys.items)) (sym levels_is) (All-push (λ (k : KeyedLevel). AreKeysWithin size k.keys.items) before.levels.items level.keyed so_far.keys keys);
  last = subst (ArePartsWithin size) (sym last_is) parts;
}

-- there is none yet
pub none-found : (most : ℕ) (heap : SkeletonMap) (found : Descent) → found.levels.items ≡ [] → shown_parts found.last ≡ no_parts → IsDescent most heap [] found
none-found most heap found levels last = record { levels = ap (map shown_keyed) levels; last = last }

pub none-within : (size : ℕ) (found : Descent) → found.levels.items ≡ [] → shown_parts found.last ≡ no_parts → IsDescentWithin size found
none-within size found levels last = record {
  keys = subst (All (λ (k : KeyedLevel). AreKeysWithin size k.keys.items)) (sym levels) (All-nil (λ (k : KeyedLevel). AreKeysWithin size k.keys.items));
  last = record {
    shaped = subst (AreShapedWithin size) (sym (ap (λ (m : PartsMap). m.shaped) last)) (All-nil (IsShapedWithin size));
    count = ap (λ (m : PartsMap). length m.shaped) last ∙ sym (ap (λ (m : PartsMap). length m.words) last);
  };
}

pub descending-begun : (most : ℕ) (heap : SkeletonMap) (total : ℕ) (begun : Subject) (first : CellParts) (found : Descent) → IsOver heap first → found.levels.items ≡ [] → shown_parts found.last ≡ no_parts
    → IsDescending 19 most heap total begun first found begun first
descending-begun most heap total begun first found over levels last = record {
  over = over;
  within = none-within (length heap.leads) found levels last;
  later = λ elements made. record { done = []; elements = elements; found_is = none-found most heap found levels last; made = made; are = refl };
}

module _ (most : ℕ) (heap : SkeletonMap) (total : ℕ) (some : 1 ≤ most) where
  -- what follows a level
  abbrev below : ℕ → Option ℕ → List (Subject × List PartElement)
  below n next = option_map_or (λ address. descent n heap total (of.OfCell address) (elements_below heap address)) next []

  rest-none : (n : ℕ) (subject : Subject) (elements : List PartElement) → nat_lt 0 (level_with heap subject elements).parts ≡ false → descent n heap total subject elements ≡ []
  rest-none zero subject elements none = refl
  rest-none (suc n) subject elements none = ap (λ b. if b then (subject, elements) ∷ below n (heaviest total (level_with heap subject elements).rows) else []) none

  rest-more : (n : ℕ) (subject : Subject) (elements : List PartElement) → nat_lt 0 (level_with heap subject elements).parts ≡ true
      → descent (suc n) heap total subject elements ≡ (subject, elements) ∷ below n (heaviest total (level_with heap subject elements).rows)
  rest-more n subject elements more = ap (λ b. if b then (subject, elements) ∷ below n (heaviest total (level_with heap subject elements).rows) else []) more

  -- all were found if none follows
  all-found : (done rest whole : List (Subject × List PartElement)) (found : Descent) → IsDescent most heap done found → rest ≡ [] → done ++ rest ≡ whole → IsDescent most heap whole found
  all-found done rest whole found is none are = subst (λ w. IsDescent most heap w found) (sym (append-nil done) ∙ ap (λ l. done ++ l) (sym none) ∙ are) is

  -- no part is left
  pub descending-none : (n : ℕ) (begun : Subject) (first : CellParts) (found : Descent) (subject : Subject) (parts : CellParts) → IsDescending n most heap total begun first found subject parts → length parts.parts ≡ 0
      → (elements : List PartElement) → ArePartsOf elements first → IsDescent most heap (descent 19 heap total begun elements) found
  descending-none n begun first found subject parts so_far none elements made =
      let rest = so_far.later elements made in
      let count : nat_lt 0 (level_with heap subject rest.elements).parts ≡ false =
      ap (nat_lt 0) (ap length (sym rest.made.parts) ∙ none) in
      all-found rest.done (descent n heap total subject rest.elements) (descent 19 heap total begun elements) found rest.found_is (rest-none n subject rest.elements count) rest.are

  -- no more levels may follow
  pub descending-ended : (n : ℕ) (begun : Subject) (first : CellParts) (found : Descent) (subject : Subject) (parts : CellParts) → IsDescending n most heap total begun first found subject parts → n ≡ 0
      → (elements : List PartElement) → ArePartsOf elements first → IsDescent most heap (descent 19 heap total begun elements) found
  descending-ended n begun first found subject parts so_far ended elements made =
      let rest = so_far.later elements made in
      all-found rest.done (descent n heap total subject rest.elements) (descent 19 heap total begun elements) found rest.found_is (ap (λ k. descent k heap total subject rest.elements) ended) rest.are

  some-parts : (parts : CellParts) (elements : List PartElement) (subject : Subject) → ArePartsOf elements parts → (length parts.parts ≡ 0 → ⊥) → nat_lt 0 (level_with heap subject elements).parts ≡ true
  some-parts parts elements subject made other = ap (nat_lt 0) (ap length (sym made.parts)) ∙ lt-ltb 0 (length parts.parts) (omega (arith, other))

  next-is : (level : KeyedLevel) (subject : Subject) (elements : List PartElement) → shown_keyed level ≡ keyed_with most heap (subject, elements)
      → heaviest total level.level.rows ≡ heaviest total (level_with heap subject elements).rows
  next-is level subject elements is = ap (λ (k : Keyed). heaviest total k.level.rows) is ∙ heaviest-take total most (level_with heap subject elements).rows some

  -- a level and what follows it
  level-is : (n m : ℕ) (subject : Subject) (parts : CellParts) (elements : List PartElement) (level : WeighedLevel) (next : Option ℕ) → n ≡ suc m → ArePartsOf elements parts → (length parts.parts ≡ 0 → ⊥)
      → IsWeighed most heap (subject, elements) level → next ≡ heaviest total level.keyed.level.rows → descent n heap total subject elements ≡ (subject, elements) ∷ below m next
  level-is n m subject parts elements level next n_is made other is next_found =
      ap (λ k. descent k heap total subject elements) n_is
      ∙ rest-more m subject elements (some-parts parts elements subject made other)
      ∙ ap (λ o. (subject, elements) ∷ below m o) (sym (next_found ∙ next-is level.keyed subject elements is.level))

  -- the last level
  pub descending-last : (n m : ℕ) (begun : Subject) (first : CellParts) (found after : Descent) (subject : Subject) (parts : CellParts) (level : WeighedLevel)
      → IsDescending n most heap total begun first found subject parts → n ≡ suc m
      → (length parts.parts ≡ 0 → ⊥) → ((elements : List PartElement) → ArePartsOf elements parts → IsWeighed most heap (subject, elements) level) → None ≡ heaviest total level.keyed.level.rows
      → after.levels.items ≡ found.levels.items ++ level.keyed ∷ [] → after.last ≡ level.parts
      → (elements : List PartElement) → ArePartsOf elements first → IsDescent most heap (descent 19 heap total begun elements) after
  descending-last n m begun first found after subject parts level so_far n_is other is none levels_is last_is elements made =
      let rest = so_far.later elements made in
      let here = is rest.elements rest.made in
      subst (λ w. IsDescent most heap w after)
      (ap (λ l. rest.done ++ l) (sym (level-is n m subject parts rest.elements level None n_is rest.made other here none)) ∙ rest.are)
      (is-pushed most heap rest.done (subject, rest.elements) found after level rest.found_is here levels_is last_is)

  -- one more level, and what comes below it
  pub descending-more : (n m : ℕ) (begun : Subject) (first : CellParts) (found after : Descent) (subject : Subject) (parts next : CellParts) (level : WeighedLevel) (address : ℕ)
      → IsDescending n most heap total begun first found subject parts → n ≡ suc m → (length parts.parts ≡ 0 → ⊥)
      → ((elements : List PartElement) → ArePartsOf elements parts → IsWeighed most heap (subject, elements) level)
      → IsDescentWithin (length heap.leads) after
      → Some address ≡ heaviest total level.keyed.level.rows → after.levels.items ≡ found.levels.items ++ level.keyed ∷ [] → after.last ≡ level.parts
      → IsOver heap next → ArePartsOf (elements_below heap address) next → IsDescending m most heap total begun first after (of.OfCell address) next
  descending-more n m begun first found after subject parts next level address so_far n_is other is within next_found levels_is last_is over made_next = record {
    over = over;
    within = within;
    later = λ elements made.
        let rest = so_far.later elements made in
        let here = is rest.elements rest.made in record {
          done = rest.done ++ (subject, rest.elements) ∷ [];
          elements = elements_below heap address;
          found_is = is-pushed most heap rest.done (subject, rest.elements) found after level rest.found_is here levels_is last_is;
          made = made_next;
          are = append_assoc rest.done ((subject, rest.elements) ∷ []) (descent m heap total (of.OfCell address) (elements_below heap address))
              ∙ ap (λ l. rest.done ++ l) (sym (level-is n m subject parts rest.elements level (Some address) n_is rest.made other here next_found))
              ∙ rest.are;
        };
  }

-- ---- all levels

-- what is kept of all levels
pub found-kept : (most : ℕ) (heap : SkeletonMap) (roots : RootKind → List PartElement) (zero_level : KindWeighing) (found : Descent)
    → zero_level ≡ kind_weighing heap (parts_made (roots Stack)) (parts_made (roots Dict)) (parts_made (roots Mail)) → IsDescent most heap (below_kinds heap roots zero_level) found
    → (let m : LevelMap = record { zero = zero_level; below = map shown_keyed found.levels.items; last = shown_parts found.last } in m) ≡ levels_with most heap roots
found-kept most heap roots zero_level found zero_is is =
    ap₂ (λ (below : List Keyed) (last : PartsMap). let m : LevelMap = record { zero = zero_level; below = below; last = last } in m) is.levels is.last
    ∙ ap (λ (top : KindWeighing). let m : LevelMap = record { zero = top; below = map (keyed_with most heap) (below_kinds heap roots top); last = last_parts heap (below_kinds heap roots top) } in m) zero_is
