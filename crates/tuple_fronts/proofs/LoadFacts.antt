-- The fronts of the cells of two sections.
use Rattle.std.proofs.Common.{◌≡◌, ℕ, zero, suc, ◌+◌, ◌-◌, ◌<◌, ◌≤◌, ◌==◌, true, false, if◌then◌else◌, List, [], ◌∷◌, ◌++◌, length, take, drop, map, get_or, Option, None, Some, refl, sym, ◌∙◌, ap, ap₂, subst, append_assoc, append-nil, arith, length-append}
use Rattle.std.specs.Prelude.{All, nat_lt, slice_index_or}
use Rattle.std.specs.List.{cons_option, list_any}
use Rattle.std.specs.List.Sorted.{IsStrictlyIncreasing, IsStrictlySortedBy}
use Rattle.std.specs.Option.{option_and_then, option_map}
use Rattle.std.specs.Ordering.{nat_cmp}
use Rattle.std.proofs.lemmas.Bool.{ltb-true, ltb-false}
use Rattle.std.proofs.lemmas.List.{get_or-drop, get_or-take, length-map, length-take, length-drop, map-append, take-append-drop}
use Rattle.std.proofs.lemmas.List.Elements.{All-head, All-tail}
use Rattle.std.proofs.lemmas.Option.{get_or_from_slice_get}
use Rattle.std.proofs.Math.Seq.{drop-append_seam}
use Rattle.std.proofs.lemmas.Map.Keys.{below_from_sorted, sorted_from_strictly_increasing, sorted_tail}
use Rattle.binary_payloads.specs.declared.enc.Enc.{Enc}
use Rattle.dump_io.specs.Dumps.{Now, told}
use Rattle.dump_io.specs.Lines.{Line, raw_lines, text_of}
use Rattle.dump_io.specs.Laws.Lines.{AreLines-raw}
use Rattle.dump_io.specs.Laws.Lists.{drop-next}
use Rattle.dump_sections.specs.Bodies.{body_in, body_start}
use Rattle.dump_sections.specs.Index.{Contents}
use Rattle.dump_sections.specs.Sections.{Section}
use Rattle.heap_cells.specs.Cells.{Cell, addresses, first_cells, kind_of, spelled_cell}
use Rattle.heap_cells.specs.HeapMap.{form_at}
use Rattle.heap_cells.specs.Laws.Cells.{first_cells-append}
use Rattle.heap_cells.specs.Loading.{enc_of}
use Rattle.heap_skeleton.specs.Skeletons.{SkeletonMap, first_places, heap_in, skeleton_in}
use Rattle.term_forms.specs.Elements.{Element}
use Rattle.term_forms.specs.Forms.{HeapForm}
use Rattle.term_forms.specs.Words.{led_of}
use Rattle.tuple_fronts.specs.Fronts.{first_of, form_first, listed}
use Rattle.tuple_fronts.specs.declared.kept.Kept.{Kept}
use Rattle.tuple_fronts.specs.Inner.Hearing.{IsSplitAt, KeepsSections, all_known, is_listed, is_listed_kind, known_elements, known_line, known_of, left_behind, left_line, line_of, section_lines}
use Rattle.tuple_fronts.specs.Inner.Kept.{AreFrontsOf, IsSound, shown_fronts}
use Rattle.tuple_fronts.proofs.CellFacts.{AreAt, AreFound, IsWithin, cells_from, places_from, section-found}
use Rattle.tuple_fronts.proofs.PartFacts.{shown-are}

-- ---- how many fronts are kept

left-count : (s : SkeletonMap) (enc : Enc) (line : Line) (cells : List ℕ) → length (known_line s enc line cells) + length (left_line s line cells) ≡ length cells
left-count s enc line [] = refl
left-count s enc line (cell ∷ cells) =
    elim (nat_lt (line_of s cell) (line.at + length line.raw)) as (λ b. length (if b
    then known_elements enc (is_listed s cell) (drop (line_of s cell - line.at) line.raw) ∷ [] else [])
    + length (if b then cells else cell ∷ cells) ≡ length (cell ∷ cells)) [
      | true ↦ omega arith
      | false ↦ omega arith
    ]

known-count : (s : SkeletonMap) (enc : Enc) (lines : List Line) (cells : List ℕ) → length (known_of s enc lines cells) + length (left_behind s lines cells) ≡ length cells
known-count s enc [] cells = omega arith
known-count s enc (line ∷ lines) cells =
    let rest = known-count s enc lines (left_line s line cells) in
    let one = left-count s enc line cells in
    omega (arith, rest, one, length-append (known_line s enc line cells) (known_of s enc lines (left_line s line cells)))

all-count : (s : SkeletonMap) (enc : Enc) (lines : List Line) (cells : List ℕ) → length (all_known s enc lines cells) ≡ length cells
all-count s enc lines cells =
    let none : List (Option (List Element)) = map (λ cell. None) (left_behind s lines cells) in
    let left : length none ≡ length (left_behind s lines cells) = length-map (left_behind s lines cells) (λ cell. None) in
    omega (arith, left, known-count s enc lines cells, length-append (known_of s enc lines cells) none)

fronts-count : (most : ℕ) (knowns : List (Option (List Element))) (fronts : List (List Element)) → AreFrontsOf most knowns fronts → length fronts ≡ length knowns
fronts-count most [] [] are = refl
fronts-count most [] (f ∷ fronts) are = absurd are
fronts-count most (k ∷ knowns) [] are = absurd are
fronts-count most (k ∷ knowns) (f ∷ fronts) are = ap suc (fronts-count most knowns fronts are.1)

parts-count : (count : ℕ) (cells : List ℕ) → length (take count cells) + length (drop count cells) ≡ length cells
parts-count count cells = sym (length-append (take count cells) (drop count cells)) ∙ ap length (take-append-drop count cells)

pub kept-count : (most : ℕ) (s : SkeletonMap) (enc : Enc) (now : Now) (heap literals : Option Section) (cells : List ℕ) (kept : Kept) → KeepsSections most s enc now heap literals cells kept
    → length (shown_fronts kept.texts.items kept.ends.items kept.lasts.items) ≡ length cells
kept-count most s enc now heap literals cells kept keeps =
    let own = take keeps.count cells in
    let others = drop keeps.count cells in
    let first = all-count s enc keeps.heap_lines own in
    let second = all-count s enc keeps.literal_lines others in
    let both = length-append (all_known s enc keeps.heap_lines own) (all_known s enc keeps.literal_lines others) in
    let fronts = fronts-count kept.most (all_known s enc keeps.heap_lines own ++ all_known s enc keeps.literal_lines others) keeps.is.fronts keeps.is.are in
    let shown = ap length (shown-are keeps.is.fronts kept keeps.is.holds) in
    omega (arith, first, second, both, fronts, shown, parts-count keeps.count cells)

pub kept-sound : (most : ℕ) (s : SkeletonMap) (enc : Enc) (now : Now) (heap literals : Option Section) (cells : List ℕ) (kept : Kept) → KeepsSections most s enc now heap literals cells kept → IsSound kept
kept-sound most s enc now heap literals cells kept keeps = record {
  fronts = keeps.is.fronts;
  holds = keeps.is.holds;
}

-- ---- what the fronts are, if all is known

known-fronts : (most : ℕ) (form : ℕ → Option HeapForm) (numbers : List ℕ) (fronts : List (List Element)) → AreFrontsOf most (map (λ n. Some (listed (form n))) numbers) fronts
    → fronts ≡ map (λ n. form_first most (form n)) numbers
known-fronts most form [] [] are = refl
known-fronts most form [] (f ∷ fronts) are = absurd are
known-fronts most form (n ∷ numbers) [] are = absurd are
known-fronts most form (n ∷ numbers) (f ∷ fronts) are = ap₂ (λ f l. f ∷ l) are.0.are (known-fronts most form numbers fronts are.1)

-- ---- numbers that ascend

within-sorted : (from end : ℕ) (numbers : List ℕ) → IsStrictlySortedBy nat_cmp numbers → All (λ n. n < end) numbers → All (λ n. from ≤ n) numbers → IsWithin from end numbers
within-sorted from end [] sorted few low = tt
within-sorted from end (n ∷ []) sorted few low = (All-head (λ n. from ≤ n) n [] low, All-head (λ n. n < end) n [] few, tt)
within-sorted from end (n ∷ m ∷ numbers) sorted few low = (
  All-head (λ n. from ≤ n) n (m ∷ numbers) low,
  All-head (λ n. n < end) n (m ∷ numbers) few,
  within-later n end m numbers (below_from_sorted (n ∷ m ∷ numbers) 0 1 0 sorted (omega arith) (omega arith))
      (within-sorted 0 end (m ∷ numbers) (sorted_tail nat_cmp n (m ∷ numbers) sorted) (All-tail (λ n. n < end) n (m ∷ numbers) few) (λ i d inside. omega arith)),
)
  where
    within-later : (n end m : ℕ) (numbers : List ℕ) → n < m → IsWithin 0 end (m ∷ numbers) → IsWithin (suc n) end (m ∷ numbers)
    within-later n end m numbers less within = (omega (arith, less), within.1, within.2)

within-take : (from end own count : ℕ) (numbers : List ℕ) → IsWithin from end numbers → All (λ n. n < own) (take count numbers) → IsWithin from own (take count numbers)
within-take from end own zero numbers within few = tt
within-take from end own (suc count) [] within few = tt
within-take from end own (suc count) (n ∷ numbers) within few =
    (within.0, All-head (λ n. n < own) n (take count numbers) few, within-take (suc n) end own count numbers within.2 (All-tail (λ n. n < own) n (take count numbers) few))

within-drop : (from end own count : ℕ) (numbers : List ℕ) → IsWithin from end numbers → All (λ n. own ≤ n) (drop count numbers) → IsWithin own end (drop count numbers)
within-drop from end own zero [] within low = tt
within-drop from end own zero (n ∷ numbers) within low = (All-head (λ n. own ≤ n) n numbers low, within.1, within.2)
within-drop from end own (suc count) [] within low = tt
within-drop from end own (suc count) (n ∷ numbers) within low = within-drop (suc n) end own count numbers within.2 low

split-low : (own : ℕ) (cells : List ℕ) (count : ℕ) → IsSplitAt own cells count → All (λ n. n < own) (take count cells)
split-low own cells count split = λ i d inside.
    let most = length-take count cells in
    let before : i < count = omega (arith, inside, most) in
    let is : get_or (take count cells) i d ≡ get_or cells i d = get_or-take count cells i d before in
    let less = ltb-true (get_or cells i d) own (split.0 i d (omega arith) before) in
    omega (arith, is, less)

split-high : (own : ℕ) (cells : List ℕ) (count : ℕ) → IsSplitAt own cells count → All (λ n. own ≤ n) (drop count cells)
split-high own cells count split = λ i d inside.
    let most = length-drop count cells in
    let is : get_or (drop count cells) i d ≡ get_or cells (count + i) d = get_or-drop count cells i d in
    let high = ltb-false (get_or cells (count + i) d) own (split.1 (count + i) d (omega arith) (omega (arith, inside, most))) in
    omega (arith, is, high)

-- ---- the cells of two sections, and where their lines begin

abbrev firsts : List (ℕ × ℕ) → List ℕ
firsts places = map (λ p. p.0) places

places-append : (seen : List ℕ) (xs ys : List (ℕ × ℕ)) → first_places seen (xs ++ ys) ≡ first_places seen xs ++ first_places (seen ++ firsts xs) ys
places-append seen [] ys = ap (λ l. first_places l ys) (sym (append-nil seen))
places-append seen (x ∷ xs) ys =
    let more : (seen ++ x.0 ∷ []) ++ firsts xs ≡ seen ++ firsts (x ∷ xs) = append_assoc seen (x.0 ∷ []) (firsts xs) in
    let later = places-append (seen ++ x.0 ∷ []) xs ys ∙ ap (λ l. first_places (seen ++ x.0 ∷ []) xs ++ first_places l ys) more in
    elim (list_any (λ address. address == x.0) seen) as (λ b. (if b then first_places (seen ++ x.0 ∷ []) (xs ++ ys) else x.1 ∷ first_places (seen ++ x.0 ∷ []) (xs ++ ys))
    ≡ (if b then first_places (seen ++ x.0 ∷ []) xs else x.1 ∷ first_places (seen ++ x.0 ∷ []) xs) ++ first_places (seen ++ firsts (x ∷ xs)) ys) [
      | true ↦ later
      | false ↦ ap (λ l. x.1 ∷ l) later
    ]

same-addresses : (enc : Enc) (base at : ℕ) (raws : List (List ℕ)) → firsts (places_from base at raws) ≡ addresses (cells_from enc at raws)
same-addresses enc base at [] = refl
same-addresses enc base at (raw ∷ raws) = by (led_of (text_of raw)) (same-addresses enc base (at + length raw) raws)
  where
    by : (led : Option (ℕ × List ℕ)) → firsts (places_from base (at + length raw) raws) ≡ addresses (cells_from enc (at + length raw) raws)
        → firsts (cons_option (option_map (λ led. (led.0, base + at)) led) (places_from base (at + length raw) raws))
        ≡ addresses (cons_option (option_map (spelled_cell enc) led) (cells_from enc (at + length raw) raws))
    by None later = later
    by (Some led) later = ap (λ l. led.0 ∷ l) later

same-length : (enc : Enc) (base at : ℕ) (seen : List ℕ) (raws : List (List ℕ)) → length (first_cells seen (cells_from enc at raws)) ≡ length (first_places seen (places_from base at raws))
same-length enc base at seen [] = refl
same-length enc base at seen (raw ∷ raws) = by (led_of (text_of raw)) (λ seen. same-length enc base (at + length raw) seen raws)
  where
    by : (led : Option (ℕ × List ℕ)) → ((seen : List ℕ) → length (first_cells seen (cells_from enc (at + length raw) raws)) ≡ length (first_places seen (places_from base (at + length raw) raws)))
        → length (first_cells seen (cons_option (option_map (spelled_cell enc) led) (cells_from enc (at + length raw) raws)))
        ≡ length (first_places seen (cons_option (option_map (λ led. (led.0, base + at)) led) (places_from base (at + length raw) raws)))
    by None later = later seen
    by (Some led) later =
        elim (list_any (λ address. address == led.0) seen) as (λ b.
        length (if b then first_cells (seen ++ led.0 ∷ []) (cells_from enc (at + length raw) raws) else spelled_cell enc led ∷ first_cells (seen ++ led.0 ∷ []) (cells_from enc (at + length raw) raws))
        ≡ length (if b then first_places (seen ++ led.0 ∷ []) (places_from base (at + length raw) raws) else (base + at) ∷ first_places (seen ++ led.0 ∷ []) (places_from base (at + length raw) raws))) [
          | true ↦ later (seen ++ led.0 ∷ [])
          | false ↦ ap suc (later (seen ++ led.0 ∷ []))
        ]

-- cells and their lines that stand behind as many
are-at : (s : SkeletonMap) (all : List Cell) (number : ℕ) (cells moreCells : List Cell) (lines moreLines : List ℕ) → length cells ≡ length lines → drop number all ≡ cells ++ moreCells
    → drop number s.lines ≡ lines ++ moreLines → AreAt s (form_at all) number cells lines
are-at s all number [] moreCells [] moreLines same cells_are lines_are = tt
are-at s all number [] moreCells (l ∷ lines) moreLines same cells_are lines_are = absurd (omega (arith, same))
are-at s all number (c ∷ cells) moreCells [] moreLines same cells_are lines_are = absurd (omega (arith, same))
are-at s all number (c ∷ cells) moreCells (l ∷ lines) moreLines same cells_are lines_are =
    let cell = drop-next all number c (cells ++ moreCells) cells_are in
    let line = drop-next s.lines number l (lines ++ moreLines) lines_are in (
      get_or_from_slice_get s.lines number l 0 line.0,
      ap (option_and_then (λ (cell : Cell). cell.form)) cell.0,
      are-at s all (suc number) cells moreCells lines moreLines (omega (arith, same)) cell.1 line.1,
    )

kinds-at : (cells : List Cell) (n : ℕ) → slice_index_or (map (λ (c : Cell). option_map kind_of c.form) cells) n None ≡ option_map kind_of (form_at cells n)
kinds-at [] zero = refl
kinds-at [] (suc n) = refl
kinds-at (c ∷ cells) zero = refl
kinds-at (c ∷ cells) (suc n) = kinds-at cells n

-- ---- all fronts

whole-known : (s : SkeletonMap) (enc : Enc) (form : ℕ → Option HeapForm) (lines : List Line) (numbers : List ℕ) → AreFound s enc form lines numbers
    → all_known s enc lines numbers ≡ map (λ n. Some (listed (form n))) numbers
whole-known s enc form lines numbers found =
    ap₂ (λ k l. k ++ map (λ cell. None) l) found.known found.left ∙ append-nil (map (λ n. Some (listed (form n))) numbers)

pub kept-fronts : (most : ℕ) (s : SkeletonMap) (now : Now) (dump : List ℕ) (index : Contents) (heap literals : Option Section) (cells : List ℕ) (kept : Kept) → now ≡ told dump
    → s ≡ skeleton_in dump index heap literals → IsStrictlyIncreasing cells → All (λ n. n < length s.addresses) cells
    → KeepsSections most s (enc_of index.version) now heap literals cells kept
    → shown_fronts kept.texts.items kept.ends.items kept.lasts.items ≡ map (first_of most (heap_in dump index heap literals).cells) cells
kept-fronts most s now dump index heap literals cells kept is_told skeleton rising inside keeps =
    let enc = enc_of index.version in
    let all = (heap_in dump index heap literals).cells in
    let form = form_at all in
    let own_raws = raw_lines (body_in dump heap) in
    let other_raws = raw_lines (body_in dump literals) in
    let own_base = body_start heap in
    let other_base = body_start literals in
    let own_cells = first_cells [] (cells_from enc 0 own_raws) in
    let own_lines = first_places [] (places_from own_base 0 own_raws) in
    let seen = addresses (cells_from enc 0 own_raws) in
    let other_cells = first_cells seen (cells_from enc 0 other_raws) in
    let other_lines = first_places seen (places_from other_base 0 other_raws) in
    let all_are : all ≡ own_cells ++ other_cells = first_cells-append [] (cells_from enc 0 own_raws) (cells_from enc 0 other_raws) in
    let lines_are : s.lines ≡ own_lines ++ other_lines =
    ap (λ (k : SkeletonMap). k.lines) skeleton ∙ places-append [] (places_from own_base 0 own_raws) (places_from other_base 0 other_raws)
    ∙ ap (λ l. own_lines ++ first_places l (places_from other_base 0 other_raws)) (same-addresses enc own_base 0 own_raws) in
    let own_is : s.own ≡ length own_cells = ap (λ (k : SkeletonMap). k.own) skeleton in
    let same_own = same-length enc own_base 0 [] own_raws in
    let same_others = same-length enc other_base 0 seen other_raws in
    let count : length s.addresses ≡ length own_cells + length other_cells =
    ap (λ (k : SkeletonMap). length k.addresses) skeleton ∙ length-map all (λ (c : Cell). c.address) ∙ ap length all_are ∙ length-append own_cells other_cells in
    let tuples : (n : ℕ) → is_listed s n ≡ is_listed_kind (option_map kind_of (form n)) =
    λ n. ap (λ (k : SkeletonMap). is_listed_kind (slice_index_or k.kinds n None)) skeleton ∙ ap is_listed_kind (kinds-at all n) in
    let own_at : AreAt s form 0 own_cells own_lines = are-at s all 0 own_cells other_cells own_lines other_lines same_own all_are lines_are in
    let others_at : AreAt s form (length own_cells) other_cells other_lines =
    are-at s all (length own_cells) other_cells [] other_lines [] same_others
    (ap (drop (length own_cells)) all_are ∙ drop-append_seam own_cells other_cells ∙ sym (append-nil other_cells))
    (ap₂ drop same_own lines_are ∙ drop-append_seam own_lines other_lines ∙ sym (append-nil other_lines)) in
    let within = within-sorted 0 (length s.addresses) cells (sorted_from_strictly_increasing cells rising) inside (λ i d _. omega arith) in
    let own_numbers : IsWithin 0 s.own (take keeps.count cells) = within-take 0 (length s.addresses) s.own keeps.count cells within (split-low s.own cells keeps.count keeps.split) in
    let other_numbers : IsWithin s.own (length s.addresses) (drop keeps.count cells) =
    within-drop 0 (length s.addresses) s.own keeps.count cells within (split-high s.own cells keeps.count keeps.split) in
    let own_found = section-found s enc form own_base 0 own_base [] own_raws 0 s.own (take keeps.count cells) tuples (omega arith) (AreLines-raw (body_in dump heap)).some own_at (omega (arith, own_is)) own_numbers in
    let others_found = section-found s enc form other_base 0 other_base seen other_raws (length own_cells) (length s.addresses) (drop keeps.count cells) tuples (omega arith) (AreLines-raw (body_in dump literals)).some others_at count
    (subst (λ n. IsWithin n (length s.addresses) (drop keeps.count cells)) own_is other_numbers) in
    let known : all_known s enc keeps.heap_lines (take keeps.count cells) ++ all_known s enc keeps.literal_lines (drop keeps.count cells) ≡ map (λ n. Some (listed (form n))) cells =
    ap₂ (λ a b. a ++ b)
    (ap (λ l. all_known s enc l (take keeps.count cells)) (keeps.heap_are dump is_told) ∙ whole-known s enc form (section_lines dump heap) (take keeps.count cells) own_found)
    (ap (λ l. all_known s enc l (drop keeps.count cells)) (keeps.literals_are dump is_told) ∙ whole-known s enc form (section_lines dump literals) (drop keeps.count cells) others_found)
    ∙ sym (map-append (λ n. Some (listed (form n))) (take keeps.count cells) (drop keeps.count cells)) ∙ ap (map (λ n. Some (listed (form n)))) (take-append-drop keeps.count cells) in
    shown-are keeps.is.fronts kept keeps.is.holds
    ∙ known-fronts most form cells keeps.is.fronts (subst (λ m. AreFrontsOf m (map (λ n. Some (listed (form n))) cells) keeps.is.fronts) keeps.most_is (subst (λ l. AreFrontsOf kept.most l keeps.is.fronts) known keeps.is.are))
