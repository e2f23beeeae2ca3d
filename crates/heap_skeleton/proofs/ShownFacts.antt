-- The skeleton that its parts stand for.
use Rattle.std.proofs.Common.{◌≡◌, ℕ, zero, suc, ◌+◌, ◌-◌, ◌<◌, ◌≤◌, ◌==◌, ◌^◌, Bool, true, false, cond, List, [], ◌∷◌, ◌++◌, length, get_or, drop, map, Option, None, Some, refl, sym, ◌∙◌, ap, ap₂, subst, arith, append_assoc, length-append}
use Rattle.std.specs.Prelude.{slice_get, slice_range, position, unwrap_or}
use Rattle.std.specs.List.{flat_map}
use Rattle.std.specs.Option.{option_and_then, option_map, option_map_or}
use Rattle.std.proofs.lemmas.Bool.{false_from_ne_true, eqb-true}
use Rattle.std.proofs.lemmas.List.{get_or-drop, get_or-take, length-map, length-take, map-append}
use Rattle.std.proofs.lemmas.Option.{slice_get-get_or, slice_get-map}
use Rattle.dump_io.specs.Laws.Lists.{position-map}
use Rattle.cell_records.specs.declared.cells.Kind.{Kind}
use Rattle.term_forms.specs.Elements.{Element, Ref}
use Rattle.term_forms.specs.Forms as form
use Rattle.heap_cells.specs.Cells.{Cell, elements_in, kind_of}
use Rattle.heap_cells.specs.HeapMap.{form_at, number_at}
use Rattle.heap_cells.specs.Laws.Cells.{number_at-within}
use Rattle.heap_cells.specs.Targets.{target, target_at}
use Rattle.heap_graph.specs.declared.elements.Elements.{Elements}
use Rattle.heap_graph.specs.declared.elements.Elements.TheVariants as kept
use Rattle.heap_graph.specs.declared.held.CellPart.{CellPart}
use Rattle.heap_graph.specs.declared.held.Held.{Held}
use Rattle.heap_graph.specs.declared.leads.Lead.{Lead}
use Rattle.heap_graph.specs.declared.leads.Lead.TheVariants as lead
use Rattle.heap_graph.specs.declared.leads.Leads.{Leads}
use Rattle.cell_graphs.specs.Graphs.{LeadsWithin, bin_at, bin_in, cell_in, places_of}
use Rattle.cell_graphs.specs.Laws.HeapGraphs.{heap-within}
use Rattle.heap_graph.specs.Elements.{KeepsThem}
use Rattle.heap_graph.specs.Held.{HeapLine, addresses_of, line_at, line_kind, line_leads, parts_of, start_at, IsHeld, IsSmall}
use Rattle.heap_graph.specs.Leads.{cell_for, lead_of, leads_in, marks, nowhere, references}
use Rattle.cell_records.specs.Order.{number_with, IsOrder}
use Rattle.heap_skeleton.specs.Inner.Resolving.{AreResolved}
use Rattle.heap_skeleton.specs.Inner.Shown.{leads_from, shown_skeleton, skeleton_with, start_of, starts_of, AreLaid, IsSound, IsSpanOf}
use Rattle.heap_skeleton.specs.Inner.Targets.{bin_with, is_bin, led_to, resolved}
use Rattle.heap_skeleton.specs.Skeletons.{SkeletonMap}
use Rattle.heap_graph.specs.Words.{words_in}
use Rattle.heap_graph.specs.Laws.Elements.{leads-are}
use Rattle.heap_graph.specs.Laws.Keeping.{held-addresses, line_address, parts-addresses}
use Rattle.heap_graph.specs.Laws.Laid.{kind-at, kinds-count, lines-count}

-- ---- where the elements of a part begin and end

start-of : (parts : List CellPart) (total : ℕ) → start_at parts 0 total ≡ start_of parts total
start-of [] total = refl
start-of (part ∷ parts) total = refl

span-suc : (parts : List CellPart) (leads : List ℕ) (i : ℕ) → i < length parts → AreLaid parts (length leads) → IsSpanOf parts leads i (start_at parts i (length leads), start_at parts (suc i) (length leads))
span-suc [] leads i inside laid = absurd (omega (arith, inside))
span-suc (part ∷ parts) leads zero inside laid =
    let next = start-of parts (length leads) in
    (omega (arith, laid.0, next), omega (arith, laid.1, next), ap (λ n. map cell_for (slice_range leads part.first n)) (sym next))
span-suc (part ∷ parts) leads (suc i) inside laid = span-suc parts leads i (omega (arith, inside)) laid.2

pub span-at : (parts : List CellPart) (leads : List ℕ) (i from upto : ℕ) → i < length parts → AreLaid parts (length leads) → from ≡ start_at parts i (length leads) → upto ≡ start_at parts (i + 1) (length leads)
    → IsSpanOf parts leads i (from, upto)
span-at parts leads i from upto inside laid from_is upto_is =
    let next : suc i ≡ i + 1 = omega arith in
    subst (λ (s : ℕ × ℕ). IsSpanOf parts leads i s)
    (ap₂ (λ a b. (a, b)) (sym from_is) (ap (λ n. start_at parts n (length leads)) next ∙ sym upto_is))
    (span-suc parts leads i inside laid)

-- where the elements of a part begin, as it is kept by itself
pub start-in : (parts : List CellPart) (starts : List ℕ) (i total : ℕ) → starts ≡ starts_of parts → unwrap_or (slice_get starts i) total ≡ start_at parts i total
start-in parts starts i total are =
    ap (λ l. unwrap_or (slice_get l i) total) are
    ∙ ap (λ o. unwrap_or o total) (slice_get-map (λ (p : CellPart). p.first) parts i)
    ∙ by (slice_get parts i)
  where
    by : (o : Option CellPart) → unwrap_or (option_map (λ (p : CellPart). p.first) o) total ≡ option_map_or (λ (p : CellPart). p.first) o total
    by (Some p) = refl
    by None = refl

-- as many begin as there are parts
pub starts-count : (parts : List CellPart) (starts : List ℕ) → starts ≡ starts_of parts → length starts ≡ length parts
starts-count parts starts are = ap length are ∙ length-map parts (λ (p : CellPart). p.first)

-- so many cells have leads
leads-count : (parts : List CellPart) (leads : List ℕ) → length (leads_from parts leads) ≡ length parts
leads-count [] leads = refl
leads-count (part ∷ parts) leads = omega (arith, leads-count parts leads)

-- as many as have addresses
pub leads-addresses : (parts : List CellPart) (leads : List ℕ) → length (leads_from parts leads) ≡ length (addresses_of parts)
leads-addresses parts leads = leads-count parts leads ∙ sym (length-map parts (λ (p : CellPart). p.address))

pub cells-shown : (own : ℕ) (parts : List CellPart) (kinds : List (Option Kind)) (leads : List ℕ) (v : SkeletonMap) → shown_skeleton own parts kinds leads ≡ v → length v.leads ≡ length parts
cells-shown own parts kinds leads v is = ap (λ (s : SkeletonMap). length s.leads) (sym is) ∙ leads-count parts leads

-- where a place of a part leads
pub lead-at : (leads : List ℕ) (from upto place number : ℕ) (places : List (Option ℕ)) → places ≡ map cell_for (slice_range leads from upto) → place < length places → number ≡ get_or leads (from + place) number
    → slice_get places place ≡ Some (cell_for number)
lead-at leads from upto place number places are inside read =
    let run = slice_range leads from upto in
    let within : place < length run = omega (arith, inside, ap length are, length-map run cell_for) in
    let before : place < upto - from = omega (arith, within, length-take (upto - from) (drop from leads)) in
    ap (λ ps. slice_get ps place) are ∙ slice_get-map cell_for run place
    ∙ ap (option_map cell_for)
    (slice_get-get_or run place number within
    ∙ ap Some (get_or-take (upto - from) (drop from leads) place number before ∙ get_or-drop from leads place number ∙ sym read))

-- the words of a part
pub words-part : (parts : List CellPart) (i : ℕ) (part : CellPart) → i < length parts → part ≡ get_or parts i part → part.size ≡ get_or (map (λ (p : CellPart). p.size) parts) i 0
words-part [] i part inside is = absurd (omega (arith, inside))
words-part (p ∷ parts) zero part inside is = ap (λ (q : CellPart). q.size) is
words-part (p ∷ parts) (suc i) part inside is = words-part parts i part (omega (arith, inside)) is

-- ---- what is held of lines

parts-lines : (first : ℕ) (leads : Leads) (lines : List HeapLine) → map (λ (p : CellPart). p.at) (parts_of (kept.Leads leads) first lines) ≡ map (λ (l : HeapLine). l.at) lines
parts-lines first leads [] = refl
parts-lines first leads (line ∷ lines) = ap (λ l. line.at ∷ l) (parts-lines (first + length (line_leads line)) leads lines)

parts-words : (first : ℕ) (leads : Leads) (lines : List HeapLine) → map (λ (p : CellPart). p.size) (parts_of (kept.Leads leads) first lines) ≡ map (λ (l : HeapLine). words_in l.cell.form) lines
parts-words first leads [] = refl
parts-words first leads (line ∷ lines) = ap (λ l. words_in line.cell.form ∷ l) (parts-words (first + length (line_leads line)) leads lines)

start-parts-of : (e : Elements) (first : ℕ) (lines : List HeapLine) (total : ℕ) → first ≤ total → (lines ≡ [] → first ≡ total) → (first ≤ start_of (parts_of e first lines) total) × (start_of (parts_of e first lines) total ≤ total)
start-parts-of e first [] total few last = (few, omega arith)
start-parts-of e first (line ∷ lines) total few last = (omega arith, few)

pub laid-parts : (e : Elements) (first : ℕ) (lines : List HeapLine) (total : ℕ) → total ≡ first + length (flat_map line_leads lines) → AreLaid (parts_of e first lines) total
laid-parts e first [] total is = tt
laid-parts e first (line ∷ lines) total is =
    let size = length-append (line_leads line) (flat_map line_leads lines) in
    let next = first + length (line_leads line) in
    let bounds = start-parts-of e next lines total (omega (arith, is, size)) (λ none. omega (arith, is, size, ap (λ l. length (flat_map line_leads l)) none)) in
    (omega (arith, bounds.0), bounds.1, laid-parts e next lines total (omega (arith, is, size)))

numbers-flat : (f : Lead → ℕ) (lines : List HeapLine) → map f (flat_map line_leads lines) ≡ flat_map (λ (l : HeapLine). map f (line_leads l)) lines
numbers-flat f [] = refl
numbers-flat f (line ∷ lines) = map-append f (line_leads line) (flat_map line_leads lines) ∙ ap (λ l. map f (line_leads line) ++ l) (numbers-flat f lines)

middle : (xs ys zs : List ℕ) (n m : ℕ) → n ≡ length xs → m ≡ length xs + length ys → slice_range (xs ++ (ys ++ zs)) n m ≡ ys
middle xs ys zs n m n_is m_is = ap₂ (slice_range (xs ++ (ys ++ zs))) n_is m_is ∙ Rattle.heap_graph.specs.Laws.Laid.range-middle xs ys zs (length xs + length ys) refl

-- the elements of each line, whatever their numbers are
leads-parts : (e : Elements) (f : Lead → ℕ) (first : ℕ) (lines : List HeapLine) (front : List ℕ) → length front ≡ first
    → leads_from (parts_of e first lines) (front ++ flat_map (λ (l : HeapLine). map f (line_leads l)) lines) ≡ map (λ (l : HeapLine). map cell_for (map f (line_leads l))) lines
leads-parts e f first [] front count = refl
leads-parts e f first (line ∷ lines) front count =
    let own = map f (line_leads line) in
    let later = flat_map (λ (l : HeapLine). map f (line_leads l)) lines in
    let size : length (line_leads line) ≡ length own = sym (length-map (line_leads line) f) in
    let end : start_of (parts_of e (first + length (line_leads line)) lines) (length (front ++ (own ++ later))) ≡ length front + length own =
    ends lines (first + length (line_leads line)) (length front + length own) (length (front ++ (own ++ later))) (omega (arith, count, size))
    (λ none. length-append front (own ++ later) ∙ (let a = length-append own later in let b = ap (λ ls. length (flat_map (λ (l : HeapLine). map f (line_leads l)) ls)) none in omega (arith, a, b))) in
    ap₂ (λ a b. a ∷ b) (ap (map cell_for) (middle front own later first _ (sym count) end))
    (ap (leads_from (parts_of e (first + length (line_leads line)) lines)) (sym (append_assoc front own later))
    ∙ leads-parts e f (first + length (line_leads line)) lines (front ++ own) (let a = length-append front own in omega (arith, a, count, size)))
  where
    ends : (ls : List HeapLine) (next m total : ℕ) → next ≡ m → (ls ≡ [] → total ≡ m) → start_of (parts_of e next ls) total ≡ m
    ends [] next m total is none = none refl
    ends (l ∷ ls) next m total is none = is

-- ---- where elements lead

pub map-two : {X Y Z : Type 0} (g : Y → Z) (f : X → Y) (xs : List X) → map g (map f xs) ≡ map (λ x. g (f x)) xs
map-two g f [] = refl
map-two g f (x ∷ xs) = ap (λ l. g (f x) ∷ l) (map-two g f xs)

abbrev pub cells_in : List HeapLine → List Cell
cells_in lines = map (λ (l : HeapLine). l.cell) lines

-- the addresses of lines
abbrev addresses_in : List HeapLine → List ℕ
addresses_in lines = map line_address lines

-- the first of their numbers with an address is that of the cell
line-number : (lines : List HeapLine) (address : ℕ) → number_with (addresses_in lines) address ≡ number_at (cells_in lines) address
line-number lines address =
    ap (position (λ a. a == address)) (sym (map-two (λ (c : Cell). c.address) (λ (l : HeapLine). l.cell) lines))
    ∙ position-map (λ a. a == address) (λ (c : Cell). c.address) (map (λ (l : HeapLine). l.cell) lines)

cell-at : (lines : List HeapLine) (n : ℕ) → n < length lines → slice_get (cells_in lines) n ≡ Some (line_at lines n).cell
cell-at [] n inside = absurd (omega (arith, inside))
cell-at (line ∷ lines) zero inside = refl
cell-at (line ∷ lines) (suc n) inside = cell-at lines n (omega (arith, inside))

cell-of : (address : ℕ) (o : Option ℕ) → cell_in (target_at address o) ≡ o
cell-of address None = refl
cell-of address (Some n) = refl

bin-form : (n : ℕ) (f : Option form.HeapForm) → cond (is_bin (option_map kind_of f)) (Some n) None ≡ bin_in n f
bin-form n None = refl
bin-form n (Some (form.HeapBin size chars)) = refl
bin-form n (Some f) = refl

bin-number : (lines : List HeapLine) (kinds : List (Option Kind)) (n : ℕ) → kinds ≡ map line_kind lines → n < length lines → bin_with kinds n ≡ bin_in n (form_at (cells_in lines) n)
bin-number lines kinds n is inside =
    ap (λ k. cond (is_bin k) (Some n) None) (ap (λ l. get_or l n None) is ∙ kind-at lines n None inside)
    ∙ bin-form n (line_at lines n).cell.form
    ∙ ap (bin_in n) (sym (ap (λ (o : Option Cell). option_and_then (λ c. c.form) o) (cell-at lines n inside)))

number-within : (lines : List HeapLine) (address n : ℕ) → number_at (cells_in lines) address ≡ Some n → n < length lines
number-within lines address n is =
    let within = number_at-within (cells_in lines) address n is in omega (arith, within, length-map lines (λ (l : HeapLine). l.cell))

led-bin : (lines : List HeapLine) (kinds : List (Option Kind)) (address : ℕ) → kinds ≡ map line_kind lines → led_to (addresses_in lines) kinds (lead.Binary address) ≡ bin_at (cells_in lines) address
led-bin lines kinds address is = ap (option_and_then (bin_with kinds)) (line-number lines address) ∙ of (number_at (cells_in lines) address) refl
  where
    of : (o : Option ℕ) → number_at (cells_in lines) address ≡ o → option_and_then (bin_with kinds) o ≡ option_and_then (λ n. bin_in n (form_at (cells_in lines) n)) o
    of None found = refl
    of (Some n) found = bin-number lines kinds n is (number-within lines address n found)

led-element : (lines : List HeapLine) (kinds : List (Option Kind)) (e : Element) → led_to (addresses_in lines) kinds (lead_of e) ≡ cell_in (target (cells_in lines) e)
led-element lines kinds (Ref address) = line-number lines address ∙ sym (cell-of address (number_at (cells_in lines) address))
led-element lines kinds e = refl

led-elements : (lines : List HeapLine) (kinds : List (Option Kind)) (es : List Element) → map (led_to (addresses_in lines) kinds) (map lead_of es) ≡ map (λ e. cell_in (target (cells_in lines) e)) es
led-elements lines kinds [] = refl
led-elements lines kinds (e ∷ es) = ap₂ (λ x l. x ∷ l) (led-element lines kinds e) (led-elements lines kinds es)

led-form : (lines : List HeapLine) (kinds : List (Option Kind)) (f : Option form.HeapForm) → kinds ≡ map line_kind lines → map (led_to (addresses_in lines) kinds) (leads_in f) ≡ places_of (cells_in lines) f
led-form lines kinds None is = refl
led-form lines kinds (Some (form.SubBin address offset size)) is = ap (λ o. o ∷ []) (led-bin lines kinds address is)
led-form lines kinds (Some f) is = led-elements lines kinds (elements_in (Some f))

-- ---- the numbers that stand for cells

number-kept : (o : Option ℕ) → ((n : ℕ) → o ≡ Some n → n < nowhere) → cell_for (unwrap_or o nowhere) ≡ o
number-kept None few = refl
number-kept (Some n) few = let less = few n refl in ap (λ b. cond b None (Some n)) (false_from_ne_true (n == nowhere) (λ same. omega (arith, less, eqb-true n nowhere same)))

bin-some : (kinds : List (Option Kind)) (o : Option ℕ) (n : ℕ) → option_and_then (bin_with kinds) o ≡ Some n → o ≡ Some n
bin-some kinds None n is = cc
bin-some kinds (Some m) n is = of (is_bin (get_or kinds m None)) is
  where
    of : (b : Bool) → cond b (Some m) None ≡ Some n → Some m ≡ Some n
    of true same = same
    of false same = cc

led-within : (lines : List HeapLine) (kinds : List (Option Kind)) (l : Lead) (n : ℕ) → led_to (addresses_in lines) kinds l ≡ Some n → n < length lines
led-within lines kinds lead.Nowhere n is = cc
led-within lines kinds (lead.Cell address) n is = number-within lines address n (sym (line-number lines address) ∙ is)
led-within lines kinds (lead.Binary address) n is = number-within lines address n (sym (line-number lines address) ∙ bin-some kinds (number_with (addresses_in lines) address) n is)

cells-led : (lines : List HeapLine) (kinds : List (Option Kind)) (ls : List Lead) → length lines ≤ 2 ^ 32 - 2 → map cell_for (map (resolved (addresses_in lines) kinds) ls) ≡ map (led_to (addresses_in lines) kinds) ls
cells-led lines kinds [] few = refl
cells-led lines kinds (l ∷ ls) few =
    ap₂ (λ x xs. x ∷ xs) (number-kept (led_to (addresses_in lines) kinds l) (λ n is. let within = led-within lines kinds l n is in omega (arith, within, few))) (cells-led lines kinds ls few)

graph-parts : (all : List HeapLine) (kinds : List (Option Kind)) (lines : List HeapLine) → kinds ≡ map line_kind all → length all ≤ 2 ^ 32 - 2
    → map (λ (l : HeapLine). map cell_for (map (resolved (addresses_in all) kinds) (line_leads l))) lines ≡ map (λ (c : Cell). places_of (cells_in all) c.form) (cells_in lines)
graph-parts all kinds [] is few = refl
graph-parts all kinds (line ∷ lines) is few =
    ap₂ (λ x xs. x ∷ xs) (cells-led all kinds (line_leads line) few ∙ led-form all kinds line.cell.form is) (graph-parts all kinds lines is few)

-- ---- the whole

abbrev shown : ℕ → List ℕ → List ℕ → List (Option Kind) → List ℕ → List (List (Option ℕ)) → SkeletonMap
shown own a b k w g = record { own = own; addresses = a; lines = b; kinds = k; words = w; leads = g }

pub shown-equal : (own : ℕ) (a a' b b' : List ℕ) (k k' : List (Option Kind)) (w w' : List ℕ) (g g' : List (List (Option ℕ))) → a ≡ a' → b ≡ b' → k ≡ k' → w ≡ w' → g ≡ g'
    → shown own a b k w g ≡ shown own a' b' k' w' g'
shown-equal own a a' b b' k k' w w' g g' one two three four five = cc (one, two, three, four, five)

-- where the elements of lines lead, as it is kept
pub leads-held : (lines : List HeapLine) (held : Held) (leads : Leads) → IsHeld lines held → held.elements ≡ kept.Leads leads
    → (leads.marks.items ≡ marks (flat_map line_leads lines)) × (leads.references.items ≡ references (flat_map line_leads lines))
leads-held lines held leads is leads_is =
    let fs = is.elements.fs in
    let keeps : KeepsThem (kept.Leads leads) fs = subst (λ (e : Elements). KeepsThem e fs) leads_is is.elements.keeps.are in
    let are = leads-are lines fs is.elements.are in
    (keeps.0 ∙ ap marks are, keeps.1 ∙ ap references are)

pub shown-lines : (own : ℕ) (lines : List HeapLine) (held : Held) (leads : Leads) (numbers : List ℕ) → IsHeld lines held → IsSmall held → held.elements ≡ kept.Leads leads
    → AreResolved (addresses_of held.parts.items) held.kinds.items leads numbers → shown_skeleton own held.parts.items held.kinds.items numbers ≡ skeleton_with own lines
shown-lines own lines held leads numbers is small leads_is found =
    let xs = addresses_in lines in
    let kinds = held.kinds.items in
    let few : length lines ≤ 2 ^ 32 - 2 = omega (arith, small, lines-count lines held is) in
    let are = leads-held lines held leads is leads_is in
    let numbers_are : numbers ≡ flat_map (λ (l : HeapLine). map (resolved xs kinds) (line_leads l)) lines =
    found (flat_map line_leads lines) are.0 are.1
    ∙ ap (λ p. map (resolved p kinds) (flat_map line_leads lines)) (held-addresses lines held is) ∙ numbers-flat (resolved xs kinds) lines in
    ap (λ p. shown_skeleton own p kinds numbers) is.parts
    ∙ shown-equal own _ _ _ _ _ _ _ _ _ _ (parts-addresses held.elements 0 lines) (ap (λ e. map (λ (p : CellPart). p.at) (parts_of e 0 lines)) leads_is ∙ parts-lines 0 leads lines) is.kinds
    (ap (λ e. map (λ (p : CellPart). p.size) (parts_of e 0 lines)) leads_is ∙ parts-words 0 leads lines)
    (ap (leads_from (parts_of held.elements 0 lines)) numbers_are ∙ leads-parts held.elements (resolved xs kinds) 0 lines [] refl ∙ graph-parts lines kinds lines is.kinds few)

pub sound-lines : (own : ℕ) (lines : List HeapLine) (held : Held) (leads : Leads) (numbers order : List ℕ) → IsHeld lines held → IsSmall held → own ≤ length held.parts.items
    → IsOrder (addresses_of held.parts.items) order → held.elements ≡ kept.Leads leads → AreResolved (addresses_of held.parts.items) held.kinds.items leads numbers
    → IsSound own held.parts.items held.kinds.items numbers order
sound-lines own lines held leads numbers order is small own_few ordered leads_is found =
    let are = leads-held lines held leads is leads_is in
    let size : length numbers ≡ 0 + length (flat_map line_leads lines) =
    ap length (found (flat_map line_leads lines) are.0 are.1)
    ∙ length-map (flat_map line_leads lines) (resolved (addresses_of held.parts.items) held.kinds.items)
    ∙ (let same : length (flat_map line_leads lines) ≡ 0 + length (flat_map line_leads lines) = omega arith in same) in
    record {
      few = omega (arith, small);
      own_few = own_few;
      kinds_are = kinds-count lines held is;
      laid = subst (λ p. AreLaid p (length numbers)) (sym is.parts) (laid-parts held.elements 0 lines (length numbers) size);
      leads_within = subst LeadsWithin (ap (λ (v : SkeletonMap). v.leads) (sym (shown-lines own lines held leads numbers is small leads_is found))) (heap-within (cells_in lines));
      order_is = ordered;
    }
