-- The numbers of what an audit finds have 64 bits, and what it finds is no more than the dump has bytes.
use Rattle.std.proofs.Common.{◌≡◌, ℕ, suc, ◌+◌, ◌-◌, ◌≤◌, ◌==◌, ◌&&◌, Bool, true, false, List, [], ◌∷◌, length, map, take, drop, Option, None, Some, cond, if◌then◌else◌, refl, ap, ◌∙◌, arith, ◌<◌, not, subst, ◌^◌, ◌++◌}
use Rattle.std.specs.Prelude.{All, IfSome, codes, find, nat_eq, filter, slice_get, unwrap_or, flat_map, nat_le, nat_lt, slice_index_or}
use Rattle.std.specs.List.{ends_with, position_or_len, between, enumerate_from, cons_option, filter_map, list_all, starts_with}
use Rattle.std.specs.Option.{option_and_then, option_map, option_flatten, option_to_list}
use Rattle.std.specs.Char.{digit_value}
use Rattle.std.specs.Str.Parse.{digits_value}
use Rattle.std.proofs.lemmas.List.{length-drop, length-map, length-take, length-append}
use Rattle.std.proofs.lemmas.List.Elements.{All-nil, All-cons, All-head, All-map, All-tail, All-filter, All-append}
use Rattle.std.proofs.lemmas.Option.{IfSome_then, get_or_from_slice_get, slice_get_within}
use Rattle.std.proofs.lemmas.Slice.Eq.{bytes_eq-Decides}
use Rattle.std.proofs.lemmas.Bool.{ltb-true}
use Rattle.dump_io.specs.Colons.{has_colon, is_colon}
use Rattle.dump_io.specs.Lines.{lf, lines_after, lines_from, raw_lines}
use Rattle.field_lines.specs.Fields.{find_line, has_key, key_of, place_of as line_place, value_of}
use Rattle.field_lines.specs.Lines.{TextLine, text_line, text_lines}
use Rattle.section_rows.specs.Rows.{Kept, field_kept, kept}
use Rattle.link_graph.specs.Entries.{LinkEntry, cut, entries_at, entry_of, is_gap, led_by, parts_from, parts_of}
use Rattle.link_graph.specs.Lists.{links_in}
use Rattle.link_graph.specs.Texts.{before, behind, inside, is_local}
use Rattle.link_graph.specs.Graph.{links_of}
use Rattle.dump_sections.specs.Sections.{Section, section, sections}
use Rattle.dump_sections.specs.Tiling.{Tile}
use Rattle.process_table.specs.Records.{PlacedSection, first_of_each, has_same_pid, is_process, placed_sections, process_sections, records}
use Rattle.dump_audit.specs.Laws.{all-numbered}
use Rattle.dump_io.specs.Numbers.{dec_number}
use Rattle.dump_sections.specs.Bodies.{section_at, body_of}
use Rattle.process_table.specs.Processes.{Process, process_at, process_in, process_table}
use Rattle.link_graph.specs.Kinds.{Kind, Link, To, From}
use Rattle.dump_audit.specs.Findings.{Audit, count_findings, entry_finding, entry_findings, gone, is_dumped, mail_of, one_sided, partner_finding, process_place, process_findings, queue_findings, section_offset, stated_findings, audit_of, findings}
use Rattle.dump_audit.specs.declared.finding.Finding.{Finding}
use Rattle.dump_audit.specs.declared.finding.Finding.TheVariants.{UnreadLinks, UnreadQueue, Mailbox, QueueCount}
use Rattle.dump_sections.specs.Index.{index_of}
use Rattle.dump_sections.specs.Versions.{signature}
use Rattle.json_report.specs.Laws.{AreCounts, Has64Bits, AreOfFile, ReadsBack}
use Rattle.json_report.proofs.ReadingBack.{reads-back}
use Rattle.dump_io.specs.Laws.Lines.{length-text_of}
use Rattle.dump_sections.specs.TilingLaws.{Tile-size}
use Rattle.field_lines.specs.Laws.{length-without_space}
use Rattle.process_table.specs.Laws.{All-first_of_each}

-- ---- lists

-- what is counted of each element, together
abbrev pub total : {X : Type 0} → (X → ℕ) → List X → ℕ
total w [] = 0
total w (x ∷ xs) = w x + total w xs

right-holds : (a b : Bool) → (a && b) ≡ true → b ≡ true
right-holds true b is = is
right-holds false b is = absurd cc

-- what a search finds passes its test
pick : {X : Type 0} (P : X → Type 0) (test : X → Bool) (x : X) (xs : List X) (b : Bool) → test x ≡ b → P x
    → IfSome (find test xs) (λ y. P y × (test y ≡ true)) → IfSome (cond b (Some x) (find test xs)) (λ y. P y × (test y ≡ true))
pick P test x xs true is here later = (here, is)
pick P test x xs false is here later = later

found : {X : Type 0} (P : X → Type 0) (test : X → Bool) (xs : List X) → All P xs → IfSome (find test xs) (λ x. P x × (test x ≡ true))
found P test [] all = tt
found P test (x ∷ xs) all = pick P test x xs (test x) refl (All-head P x xs all) (found P test xs (All-tail P x xs all))

-- ---- lines

total-after : (c : ℕ) (lines : List (List ℕ)) → total length (lines_after c lines) ≡ suc (total length lines)
total-after c [] = refl
total-after c (line ∷ lines) = omega arith

total-pair : (c : ℕ) (bytes : List ℕ) (b : Bool) → total length (raw_lines bytes) ≡ length bytes
    → total length (if b then (c ∷ []) ∷ raw_lines bytes else lines_after c (raw_lines bytes)) ≡ suc (length bytes)
total-pair c bytes true rest = omega (arith, rest)
total-pair c bytes false rest = total-after c (raw_lines bytes) ∙ ap suc rest

-- the raw lines are as long as the bytes
total-lines : (bytes : List ℕ) → total length (raw_lines bytes) ≡ length bytes
total-lines [] = refl
total-lines (c ∷ bytes) = total-pair c bytes (c == lf) (total-lines bytes)

lines-inside : (at : ℕ) (raws : List (List ℕ)) → All (λ line. line.at + length line.text ≤ at + total length raws) (map text_line (lines_from at raws))
lines-inside at [] = All-nil (λ line. line.at + length line.text ≤ at + 0)
lines-inside at (raw ∷ raws) =
    let rest = lines-inside (at + length raw) raws in
    All-cons (λ line. line.at + length line.text ≤ at + total length (raw ∷ raws)) _ _ (omega (arith, length-text_of raw)) (λ k d l. omega (arith, rest k d l))

-- the text of each line of a body ends in it
text-inside : (body : List ℕ) → All (λ line. line.at + length line.text ≤ length body) (text_lines body)
text-inside body = let all = lines-inside 0 (raw_lines body) in λ k d l. omega (arith, all k d l, total-lines body)

-- ---- fields

-- a key and a value together are no longer than their line
length-parts : (text : List ℕ) → length (key_of text) + length (value_of text) ≤ length text
length-parts text =
    let n = position_or_len is_colon text in
    omega (arith, length-take n text, length-drop (n + 1) text, length-without_space (drop (n + 1) text))

-- a field stands in a body of so many bytes that begins at this offset, and isn't all of it
pub record Stands (base size : ℕ) (k : Kept) : Type 0 where
  pub line : k.at ≤ base + size
  pub value : k.value_at + length k.text ≤ base + size
  pub short : length k.text + 3 ≤ size

kept-stands : (base : ℕ) (body key : List ℕ) (line : Option TextLine) → 3 ≤ length key
    → IfSome line (λ l. (l.at + length l.text ≤ length body) × (has_key key l ≡ true))
    → IfSome (option_map (λ l. kept (base + l.at) (base + (line_place l).from) (value_of l.text)) line) (Stands base (length body))
kept-stands base body key None long there = tt
kept-stands base body key (Some l) long there =
    let parts = length-parts l.text in
    let same = ap length ((bytes_eq-Decides (key_of l.text) key).0 (right-holds (has_colon l.text) _ there.1)) in
    record {
      line = omega (arith, there.0);
      value = omega (arith, there.0, parts);
      short = omega (arith, there.0, parts, same, long);
    }

-- each field with a key of three bytes or more does
pub field-stands : (base : ℕ) (body key : List ℕ) → 3 ≤ length key → IfSome (field_kept base body key) (Stands base (length body))
field-stands base body key long =
    kept-stands base body key (find_line body key) long
    (found (λ l. l.at + length l.text ≤ length body) (has_key key) (text_lines body) (text-inside body))

-- ---- entries

-- how many bytes parts have with a gap behind each
abbrev spread : List (List ℕ) → ℕ
spread texts = total (λ t. length t + 2) texts

spread-led_by : (c : ℕ) (parts : List (List ℕ)) → 2 ≤ spread parts → spread (led_by c parts) ≡ suc (spread parts)
spread-led_by c [] some = absurd (omega (arith, some))
spread-led_by c (part ∷ parts) some = omega arith

spread-pair : (c d : ℕ) (text : List ℕ) (b : Bool) → spread (cut text) ≡ length text + 2 → spread (cut (d ∷ text)) ≡ length (d ∷ text) + 2
    → spread (if b then [] ∷ cut text else led_by c (cut (d ∷ text))) ≡ length (c ∷ d ∷ text) + 2
spread-pair c d text true behind others = omega (arith, behind)
spread-pair c d text false behind others = spread-led_by c (cut (d ∷ text)) (omega (arith, others)) ∙ omega (arith, others)

spread-cut : (text : List ℕ) → spread (cut text) ≡ length text + 2
unfolding cut
spread-cut [] = refl
spread-cut (c ∷ []) = refl
spread-cut (c ∷ d ∷ text) = spread-pair c d text (is_gap c d) (spread-cut text) (spread-cut (d ∷ text))

parts-inside : (at : ℕ) (texts : List (List ℕ)) → All (λ part. part.at + 2 ≤ at + spread texts) (parts_from at texts)
parts-inside at [] = All-nil (λ part. part.at + 2 ≤ at + 0)
parts-inside at (text ∷ texts) =
    let rest = parts-inside (at + length text + 2) texts in
    All-cons (λ part. part.at + 2 ≤ at + spread (text ∷ texts)) _ _ (omega arith) (λ k d l. omega (arith, rest k d l))

parts-few : (at : ℕ) (texts : List (List ℕ)) → length (parts_from at texts) + length (parts_from at texts) ≤ spread texts
parts-few at [] = omega arith
parts-few at (text ∷ texts) = omega (arith, parts-few (at + length text + 2) texts)

-- entries that stand before an end, and are no more than so many
pub record AreWithin (end most : ℕ) (entries : List LinkEntry) : Type 0 where
  pub places : All (λ e. e.at ≤ end) entries
  pub few : length entries ≤ most

entries-within : (at : ℕ) (inner : List ℕ) → AreWithin (at + length inner) (length inner + 2) (map entry_of (parts_of at inner))
entries-within at [] = record { places = All-nil (λ e. e.at ≤ at + 0); few = omega arith }
entries-within at (c ∷ inner) =
    let texts = cut (c ∷ inner) in
    let within = parts-inside at texts in
    let long = spread-cut (c ∷ inner) in
    record {
      places = All-map (λ e. e.at ≤ at + length (c ∷ inner)) entry_of (parts_from at texts) (λ k d l. omega (arith, within k d l, long));
      few = omega (arith, parts-few at texts, long, length-map (parts_from at texts) entry_of);
    }

-- what stands in brackets is two bytes shorter
length-before : (text : List ℕ) → IfSome (before (codes "]") text) (λ inner. length inner + 1 ≤ length text)
unfolding before
length-before [] = tt
length-before (c ∷ text) = of (ends_with nat_eq (c ∷ text) (codes "]"))
  where
    of : (b : Bool) → IfSome (if b then Some (take (length (c ∷ text) - length (codes "]")) (c ∷ text)) else None) (λ inner. length inner + 1 ≤ length (c ∷ text))
    of true = omega (arith, length-take (length (c ∷ text) - length (codes "]")) (c ∷ text))
    of false = tt

length-inside : (text : List ℕ) → IfSome (inside (codes "[") (codes "]") text) (λ inner. length inner + 2 ≤ length text)
unfolding inside behind
length-inside [] = tt
length-inside (c ∷ text) = of (starts_with nat_eq (c ∷ text) (codes "["))
  where
    of : (b : Bool) → IfSome (option_and_then (before (codes "]")) (if b then Some text else None)) (λ inner. length inner + 2 ≤ length (c ∷ text))
    of true = IfSome_then (before (codes "]") text) (length-before text) (λ inner short. omega (arith, short))
    of false = tt

in-brackets : (at : ℕ) (text : List ℕ) (inner : Option (List ℕ)) → IfSome inner (λ i. length i + 2 ≤ length text)
    → IfSome (option_map (map entry_of) (option_map (parts_of (at + 1)) inner)) (AreWithin (at + length text) (length text))
in-brackets at text None short = tt
in-brackets at text (Some inner) short =
    let within = entries-within (at + 1) inner in
    record {
      places = λ k d l. omega (arith, within.places k d l, short);
      few = omega (arith, within.few, short);
    }

links-in : (end most : ℕ) (entries : Option (List LinkEntry)) → IfSome entries (AreWithin end most) → AreWithin end most (links_in entries).entries
links-in end most None within = record { places = All-nil (λ e. e.at ≤ end); few = omega arith }
links-in end most (Some entries) within = within

-- the entries of a link list stand in its text
pub links-within : (list : Kept) → AreWithin (list.value_at + length list.text) (length list.text) (links_of (Some list)).entries
links-within list =
    links-in _ _ (entries_at list.value_at list.text) (in-brackets list.value_at list.text (inside (codes "[") (codes "]") list.text) (length-inside list.text))

-- ---- the sections of a dump, of which each has bytes of its own

-- how many bytes a section has
abbrev pub span : Section → ℕ
span s = s.end - s.at

-- a section has its header in front of its body, and ends by the size
pub record LiesIn (size : ℕ) (s : Section) : Type 0 where
  pub header : s.at < s.body
  pub body : s.body ≤ s.end
  pub end : s.end ≤ size

-- together the sections have the bytes between the first and the end
pub total-spans : (from size : ℕ) (ss : List Section) → Tile from size ss → from + total span ss ≡ size
total-spans from size [] tiled = omega (arith, tiled)
total-spans from size (s ∷ ss) tiled = omega (arith, tiled.0, tiled.1, tiled.2, total-spans s.end size ss tiled.3)

pub all-lie : (from size : ℕ) (ss : List Section) → Tile from size ss → All (LiesIn size) ss
all-lie from size [] tiled = All-nil (LiesIn size)
all-lie from size (s ∷ ss) tiled =
    All-cons (LiesIn size) s ss (record { header = tiled.1; body = tiled.2; end = Tile-size s.end size ss tiled.3 }) (all-lie s.end size ss tiled.3)

-- where the section at a place begins, or where there is none
at-or-none : (size : ℕ) (s : Option Section) → ((x : Section) → s ≡ Some x → LiesIn size x) → (unwrap_or s (section 0 0 0 [])).at ≤ size
at-or-none size None lies = omega arith
at-or-none size (Some s) lies = let in_it = lies s refl in omega (arith, in_it.header, in_it.body, in_it.end)

pub place-lies : (size : ℕ) (ss : List Section) (i : ℕ) → All (LiesIn size) ss → (unwrap_or (slice_get ss i) (section 0 0 0 [])).at ≤ size
place-lies size ss i all = at-or-none size (slice_get ss i) (λ s at. subst (LiesIn size) (get_or_from_slice_get ss i s s at) (all i s (slice_get_within ss i s at)))

-- the body of a section has its bytes
pub length-between : (from upto : ℕ) (bytes : List ℕ) → length (between from upto bytes) ≤ upto - from
length-between from upto bytes = omega (arith, length-take (upto - from) (drop from bytes), length-drop from bytes)

-- ---- records

total-numbered : {X : Type 0} (w : X → ℕ) (n : ℕ) (xs : List X) → total (λ p. w p.1) (enumerate_from n xs) ≡ total w xs
total-numbered w n [] = refl
total-numbered w n (x ∷ xs) = ap (λ m. w x + m) (total-numbered w (n + 1) xs)

total-kept : {X : Type 0} (w : X → ℕ) (x : X) (xs ys : List X) (b : Bool) → total w ys ≤ total w xs → total w (cond b (x ∷ ys) ys) ≤ total w (x ∷ xs)
total-kept w x xs ys true less = omega (arith, less)
total-kept w x xs ys false less = omega (arith, less)

total-filter : {X : Type 0} (w : X → ℕ) (test : X → Bool) (xs : List X) → total w (filter test xs) ≤ total w xs
total-filter w test [] = omega arith
total-filter w test (x ∷ xs) = total-kept w x xs (filter test xs) (test x) (total-filter w test xs)

total-firsts : (w : PlacedSection → ℕ) (ps : List PlacedSection) → total w (first_of_each ps) ≤ total w ps
total-firsts w [] = omega arith
total-firsts w (p ∷ ps) = omega (arith, total-filter w (λ other. not (has_same_pid p other)) (first_of_each ps), total-firsts w ps)

-- the records of the process table have no more than all sections
pub total-records : (w : Section → ℕ) (ss : List Section) → total (λ p. w p.1) (records ss) ≤ total w ss
total-records w ss =
    omega (arith, total-firsts (λ p. w p.1) (process_sections (placed_sections ss)), total-filter (λ p. w p.1) (λ p. is_process p.1) (placed_sections ss), total-numbered w 0 ss)

pub all-records : (P : Section → Type 0) (ss : List Section) → All P ss → All (λ p. P p.1) (records ss)
all-records P ss all =
    All-first_of_each (λ p. P p.1) (process_sections (placed_sections ss)) (All-filter (λ p. is_process p.1) (λ p. P p.1) (placed_sections ss) (all-numbered P 0 ss all))

-- ---- the numbers of what an audit finds have 64 bits, and what it finds is no more than the dump has bytes

-- ---- lists of findings

-- findings of which each number has 64 bits, and which are no more than so many
pub record AreSmall (most : ℕ) (found : List Finding) : Type 0 where
  pub bits : All Has64Bits found
  pub few : length found ≤ most

none : (most : ℕ) → AreSmall most []
none most = record { bits = All-nil Has64Bits; few = omega arith }

one : (most : ℕ) (f : Finding) → 1 ≤ most → Has64Bits f → AreSmall most (f ∷ [])
one most f room bits = record { bits = All-cons Has64Bits f [] bits (All-nil Has64Bits); few = omega (arith, room) }

both : (m n : ℕ) (xs ys : List Finding) → AreSmall m xs → AreSmall n ys → AreSmall (m + n) (xs ++ ys)
both m n xs ys front back = record {
  bits = All-append Has64Bits xs ys front.bits back.bits;
  few = omega (arith, length-append xs ys, front.few, back.few);
}

pub more : (m n : ℕ) (xs : List Finding) → m ≤ n → AreSmall m xs → AreSmall n xs
more m n xs less small = record { bits = small.bits; few = omega (arith, less, small.few) }

either : (most : ℕ) (b : Bool) (xs ys : List Finding) → AreSmall most xs → AreSmall most ys → AreSmall most (if b then xs else ys)
either most true xs ys first second = first
either most false xs ys first second = second

behind-option : (most : ℕ) (f : Option Finding) (fs : List Finding) → IfSome f Has64Bits → AreSmall most fs → AreSmall (suc most) (cons_option f fs)
behind-option most None fs bits small = record { bits = small.bits; few = omega (arith, small.few) }
behind-option most (Some f) fs bits small = record { bits = All-cons Has64Bits f fs bits small.bits; few = omega (arith, small.few) }

of-each : (h : ℕ × LinkEntry → Option Finding) (n : ℕ) (es : List LinkEntry) → All (λ e. (i : ℕ) → IfSome (h (i, e)) Has64Bits) es
    → AreSmall (length es) (filter_map h (enumerate_from n es))
of-each h n [] all = none 0
of-each h n (e ∷ es) all =
    behind-option (length es) (h (n, e)) (filter_map h (enumerate_from (n + 1) es)) (All-head (λ e. (i : ℕ) → IfSome (h (i, e)) Has64Bits) e es all n)
    (of-each h (n + 1) es (All-tail (λ e. (i : ℕ) → IfSome (h (i, e)) Has64Bits) e es all))

some-if : (b : Bool) (f : Option Finding) → IfSome f Has64Bits → IfSome (if b then f else None) Has64Bits
some-if true f holds = holds
some-if false f holds = tt

-- ---- numbers

dec-small : (text : List ℕ) → IfSome (dec_number text) (λ n. n < 2 ^ 64)
dec-small text =
    let value = digits_value 10 text in
    of value (nat_le 1 (length text) && nat_le (length text) 20 && list_all (λ c. nat_lt (digit_value c) 10) text) (nat_lt value (2 ^ 64)) refl
  where
    of : (value : ℕ) (form small : Bool) → nat_lt value (2 ^ 64) ≡ small → IfSome (if form && small then Some value else None) (λ n. n < 2 ^ 64)
    of value true true is = ltb-true value (2 ^ 64) is
    of value true false is = tt
    of value false small is = tt

one_sided-small : (kind : Kind) (p q entry at other : ℕ) → at < 2 ^ 64 → other < 2 ^ 64 → IfSome (one_sided kind p q entry at other) Has64Bits
one_sided-small (Link pid) p q entry at other a o = (a, o)
one_sided-small (To pid reference) p q entry at other a o = (a, o)
one_sided-small (From pid reference) p q entry at other a o = (a, o)
one_sided-small kind p q entry at other a o = tt

gone-small : (kind : Kind) (p entry at other : ℕ) → at < 2 ^ 64 → other < 2 ^ 64 → IfSome (gone kind p entry at other) Has64Bits
gone-small (Link pid) p entry at other a o = (a, o)
gone-small (To pid reference) p entry at other a o = (a, o)
gone-small (From pid reference) p entry at other a o = (a, o)
gone-small kind p entry at other a o = tt

mail-there : (counts : List (Option ℕ)) (p : ℕ) (count : Option (Option ℕ)) → slice_get counts p ≡ count → All (λ c. IfSome c (λ n. n < 2 ^ 64)) counts
    → IfSome (option_flatten count) (λ n. n < 2 ^ 64)
mail-there counts p None is all = tt
mail-there counts p (Some count) is all =
    subst (λ c. IfSome c (λ n. n < 2 ^ 64)) (get_or_from_slice_get counts p count count is) (all p count (slice_get_within counts p count is))

mail-small : (mails : Option (List (Option ℕ))) (p : ℕ) → AreCounts mails → IfSome (option_and_then (λ counts. option_flatten (slice_get counts p)) mails) (λ n. n < 2 ^ 64)
mail-small None p counted = tt
mail-small (Some counts) p counted = mail-there counts p (slice_get counts p) refl counted

-- how many findings a link list and a message queue may have
abbrev link_room : Option Kept → ℕ
link_room None = 0
link_room (Some list) = length list.text + 1

abbrev queue_room : Option Kept → ℕ
queue_room None = 0
queue_room (Some line) = 2

room-enough : (base size : ℕ) (links queue : Option Kept) → IfSome links (Stands base size) → IfSome queue (Stands base size) → link_room links + queue_room queue ≤ size
room-enough base size None None ls qs = omega arith
room-enough base size None (Some line) ls qs = omega (arith, qs.short)
room-enough base size (Some list) None ls qs = omega (arith, ls.short)
room-enough base size (Some list) (Some line) ls qs = omega (arith, ls.short)

-- ---- an audit of which each section begins below 2^64, and so does each number of messages
module _ (a : Audit) (begins : (place : ℕ) → (section_at a.index place).at < 2 ^ 64) (counted : AreCounts a.mails) where
  partner-small : (p : ℕ) (process : Process) (entry at : ℕ) (kind : Kind) (pid : List ℕ) (place : Option ℕ) → at < 2 ^ 64
      → IfSome (partner_finding a p process entry at kind pid place) Has64Bits
  partner-small p process entry at kind pid None low = some-if _ _ (gone-small kind p entry at (section_offset a.index process) low (begins process.section))
  partner-small p process entry at kind pid (Some q) low =
      let partner = process_at a.processes q in
      some-if _ _ (one_sided-small kind p q entry at (section_offset a.index partner) low (begins partner.section))

  entry-small : (p : ℕ) (process : Process) (entry at : ℕ) (kind : Kind) → at < 2 ^ 64 → IfSome (entry_finding a p process entry at kind) Has64Bits
  entry-small p process entry at (Link pid) low = partner-small p process entry at (Link pid) pid (process_place a.processes pid) low
  entry-small p process entry at (To pid reference) low = partner-small p process entry at (To pid reference) pid (process_place a.processes pid) low
  entry-small p process entry at (From pid reference) low = partner-small p process entry at (From pid reference) pid (process_place a.processes pid) low
  entry-small p process entry at kind low = tt

  entries-small : (p : ℕ) (process : Process) (entries : List LinkEntry) → All (λ e. e.at < 2 ^ 64) entries → AreSmall (length entries) (entry_findings a p process entries)
  entries-small p process entries low =
      of-each (λ numbered. entry_finding a p process numbered.0 numbered.1.at numbered.1.kind) 0 entries
      (λ k d l i. let e = slice_index_or entries k d in entry-small p process i e.at e.kind (low k d l))

  links-small : (p base size : ℕ) (process : Process) (links : Option Kept) (local : Bool) → base + size < 2 ^ 64 → IfSome links (Stands base size)
      → AreSmall (link_room links) (if (links_of links).unread then option_to_list (option_map (λ line. UnreadLinks p line.at (section_offset a.index process)) links)
      else (if local then entry_findings a p process (links_of links).entries else []))
  links-small p base size process None local end stands = either 0 local [] [] (none 0) (none 0)
  links-small p base size process (Some list) local end stands =
      let within = links-within list in
      let entries = (links_of (Some list)).entries in
      either _ (links_of (Some list)).unread _ _
      (one _ (UnreadLinks p list.at (section_offset a.index process)) (omega arith) (omega (arith, end, stands.line), begins process.section))
      (either _ local _ _ (more _ _ _ (omega (arith, within.few)) (entries-small p process entries (λ k d l. omega (arith, within.places k d l, stands.value, end)))) (none _))

  counts-small : (p : ℕ) (line : Kept) (other stated : ℕ) (found : Option ℕ) → line.at < 2 ^ 64 → other < 2 ^ 64 → stated < 2 ^ 64 → IfSome found (λ n. n < 2 ^ 64)
      → AreSmall 1 (count_findings p line other stated found)
  counts-small p line other stated None l o s f = none 1
  counts-small p line other stated (Some found) l o s f = either 1 (found == stated) _ _ (none 1) (one 1 (QueueCount p stated found line.at other) (omega arith) (l, o, s, f))

  stated-small : (p : ℕ) (line : Kept) (other : ℕ) (stated : Option ℕ) → line.at < 2 ^ 64 → other < 2 ^ 64 → IfSome stated (λ n. n < 2 ^ 64)
      → AreSmall 2 (stated_findings a p line other stated)
  stated-small p line other None l o s = one 2 (UnreadQueue p line.at other) (omega arith) (l, o)
  stated-small p line other (Some stated) l o s =
      both 1 1 _ _ (either 1 (nat_lt a.limit stated) _ _ (one 1 (Mailbox p stated line.at other) (omega arith) (l, o, s)) (none 1))
      (counts-small p line other stated (mail_of a p) l o s (mail-small a.mails p counted))

  queue-small : (p base size : ℕ) (process : Process) (queue : Option Kept) → base + size < 2 ^ 64 → IfSome queue (Stands base size)
      → AreSmall (queue_room queue) (queue_findings a p process queue)
  queue-small p base size process None end stands = none 0
  queue-small p base size process (Some line) end stands =
      stated-small p line (section_offset a.index process) (dec_number line.text) (omega (arith, end, stands.line)) (begins process.section) (dec-small line.text)

  -- what is said of a process is no more than the body has bytes in which its fields stand
  pub process-small : (p base size : ℕ) (process : Process) → base + size < 2 ^ 64 → IfSome process.links (Stands base size) → IfSome process.queue (Stands base size)
      → AreSmall size (process_findings a (p, process))
  process-small p base size process end links queue =
      either size (is_dumped a.index process) _ _
      (more _ size _ (room-enough base size process.links process.queue links queue)
      (both _ _ _ _ (links-small p base size process process.links (is_local process.pid) end links) (queue-small p base size process process.queue end queue)))
      (none size)

  pub all-small : (weight : PlacedSection → ℕ) (made : PlacedSection → Process) (n : ℕ) (ps : List PlacedSection)
      → All (λ p. (i : ℕ) → AreSmall (weight p) (process_findings a (i, made p))) ps
      → AreSmall (total weight ps) (flat_map (process_findings a) (enumerate_from n (map made ps)))
  all-small weight made n [] all = none 0
  all-small weight made n (p ∷ ps) all =
      both (weight p) (total weight ps) (process_findings a (n, made p)) _ (All-head (λ p. (i : ℕ) → AreSmall (weight p) (process_findings a (i, made p))) p ps all n)
      (all-small weight made (n + 1) ps (All-tail (λ p. (i : ℕ) → AreSmall (weight p) (process_findings a (i, made p))) p ps all))

-- ---- what an audit finds in the dump of a file

module _ (tiles : (bytes : List ℕ) → starts_with nat_eq bytes signature ≡ true → Tile 0 (length bytes) (sections bytes)) where
  found-small : (bytes : List ℕ) (limit : ℕ) (mails : Option (List (Option ℕ))) → AreOfFile bytes → AreCounts mails
      → AreSmall (length bytes) (findings (audit_of (index_of bytes) (process_table bytes).processes limit mails))
  found-small bytes limit mails file counted =
      let a = audit_of (index_of bytes) (process_table bytes).processes limit mails in
      let ss = sections bytes in
      let tiled = tiles bytes file.begins in
      let all = all-lie 0 (length bytes) ss tiled in
      let begins : (place : ℕ) → (section_at a.index place).at < 2 ^ 64 = λ place. omega (arith, place-lies (length bytes) ss place all, file.size) in
      more _ (length bytes) _ (omega (arith, total-records span ss, total-spans 0 (length bytes) ss tiled))
      (all-small a begins counted (λ p. span p.1) (λ p. process_in p (body_of bytes p.1)) 0 (records ss)
      (λ k d l i.
      let p = slice_index_or (records ss) k d in
      let lies = all-records (LiesIn (length bytes)) ss all k d l in
      let body = body_of bytes p.1 in
      let short = length-between p.1.body p.1.end bytes in
      more (length body) (span p.1) _ (omega (arith, lies.header, lies.body, short))
      (process-small a begins counted i p.1.body (length body) (process_in p body) (omega (arith, lies.body, lies.end, short, file.size))
      (field-stands p.1.body body (codes "Link list") (omega arith)) (field-stands p.1.body body (codes "Message queue length") (omega arith)))))

  pub all-read-back : ReadsBack
  all-read-back bytes limit mails file counted =
      let small = found-small bytes limit mails file counted in
      reads-back (index_of bytes) (process_table bytes).processes _ (omega (arith, small.few, file.size)) small.bits
