-- The heap lines of two bodies: which addresses they have, and which line is read for one.
use Rattle.std.proofs.Common.{◌≡◌, ℕ, ◌+◌, ◌-◌, ◌*◌, ◌<◌, ◌≤◌, ◌||◌, Bool, true, false, List, [], ◌++◌, take, drop, min, Option, None, Some, is_some, refl, sym, ◌∙◌, ap, ap₂, subst, drop-drop, length, length-append, length-take, arith}
use Rattle.std.proofs.lemmas.List.{drop-take}
use Rattle.std.specs.List.{between}
use Rattle.std.specs.Option.{option_and_then, option_or, option_to_list}
use Rattle.std.specs.Ordering.{nat_cmp}
use Rattle.dump_io.specs.Dumps.{Now, size_of, IfTold}
use Rattle.dump_io.specs.Laws.Options.{none-where, or-some, or-second}
use Rattle.dump_io.specs.Lines.{text_of}
use Rattle.dump_sections.specs.Bodies.{body_in, body_size}
use Rattle.dump_sections.specs.Laws.{built-size}
use Rattle.dump_sections.specs.Index.{Contents, sections_in, index_of, IsBuiltOver}
use Rattle.dump_sections.specs.Laws.{index-is}
use Rattle.dump_sections.specs.Sections.{Section}
use Rattle.dump_sections.specs.Places.{place_by}
use Rattle.binary_payloads.specs.declared.enc.Enc.{Enc}
use Rattle.term_forms.specs.Words.{led_of}
use Rattle.term_unfold.specs.Parts.{known_in}
use Rattle.term_unfold.specs.declared.gaps.Asked.TheVariants.{BinaryAt, CellAt}
use Rattle.body_lines.specs.Lines.{AreWhole}
use Rattle.heap_cells.specs.Cells.{Cell, first_cells, line_cells}
use Rattle.heap_cells.specs.Loading.{enc_of, heap_section, literals_section}
use Rattle.heap_parts.specs.Inner.Growing.{first_with, IsPushed}
use Rattle.heap_parts.specs.Parts.{IsLawful}
use Rattle.heap_parts.specs.Places.{first_raw, text_cell, ended_text}
use Rattle.heap_parts.proofs.BinaryFacts.{FormIsRead, binary-first, binary-placed, spells_binary}
use Rattle.heap_parts.proofs.FirstFacts.{has-lines}
use Rattle.heap_parts.proofs.GrowFacts.{TellsMore}
use Rattle.heap_parts.proofs.LineFacts.{cells-pushed, first-free}
use Rattle.heap_parts.proofs.PlaceFacts.{ReadsTexts, first-append, first-placed, placed-count, placed-known}
use Rattle.heap_parts.specs.Inner.Bodies.{span_in, span_of, AreBodyLines}
use Rattle.heap_parts.specs.Wholes.{two_cells, cells_in, is_known, known_of, text_size, bytes_of, IsTableIn, ServesLines, HasLines}
use Rattle.heap_parts.specs.declared.heap_lines.BodyLines.{BodyLines}
use Rattle.heap_parts.specs.declared.heap_lines.HeapLines.{HeapLines}

-- ---- what is read at an offset of the file

-- the text of the line that begins at an offset before the end of its body
abbrev line_upto : List ℕ → ℕ → ℕ → List ℕ
line_upto dump end place = text_of (first_raw (between (min place end) end dump))

reads-body : (dump : List ℕ) (from end : ℕ) → ReadsTexts (line_upto dump end) from (between from end dump)
reads-body dump from end = record {
  texts = λ k inside.
      let before : from + k < end = omega (arith, inside, length-take (end - from) (drop from dump)) in
      let place : min (from + k) end ≡ from + k = omega (arith, before) in
      let left = end - (from + k) in
      let count : end - from ≡ k + left = omega (arith, before) in
      ap (λ p. text_of (first_raw (between p end dump))) place
      ∙ ap (λ l. text_of (first_raw l))
      (ap (take left) (sym (drop-drop k from dump)) ∙ sym (drop-take k left (drop from dump)) ∙ ap (λ n. drop k (take n (drop from dump))) (sym count));
}

-- ---- the lines of one body

-- an address is in the table exactly if a line has it
known-body : (enc : Enc) (dump : List ℕ) (lines : BodyLines) (a : ℕ) → IsTableIn dump lines
    → is_some (place_by nat_cmp a lines.table.places) ≡ is_some (first_with (line_cells enc (bytes_of lines dump)) a)
known-body enc dump lines a table = ap is_some (table.places a) ∙ placed-known enc lines.from (bytes_of lines dump) a

-- the line at the place that the table has is the first with the address
placed-body : (enc : Enc) (dump : List ℕ) (lines : BodyLines) (a place : ℕ) → IsTableIn dump lines → place_by nat_cmp a lines.table.places ≡ Some place
    → first_with (line_cells enc (bytes_of lines dump)) a ≡ text_cell enc (line_upto dump lines.end place)
placed-body enc dump lines a place table is =
    first-placed enc lines.from (bytes_of lines dump) (line_upto dump lines.end) a (reads-body dump lines.from lines.end)
    ∙ ap (option_and_then (λ p. text_cell enc (line_upto dump lines.end p))) (sym (table.places a) ∙ is)

-- ---- the lines of both

is_some-or : (o more : Option Cell) → is_some (option_or o more) ≡ (is_some o || is_some more)
is_some-or None more = refl
is_some-or (Some cell) more = refl

-- an address is known exactly if a line of either has it
pub lines-lawful : (lines : HeapLines) (now : Now) (all : List Cell) → HasLines lines now all → IsLawful (is_known lines) all
lines-lawful lines now all has = record {
  same = λ a.
      let heap = line_cells lines.enc (bytes_of lines.heap has.dump) in
      let literals = line_cells lines.enc (bytes_of lines.literals has.dump) in
      ap₂ (λ b c. b || c) (known-body lines.enc has.dump lines.heap a has.heap) (known-body lines.enc has.dump lines.literals a has.literals)
      ∙ sym (is_some-or (first_with heap a) (first_with literals a))
      ∙ ap is_some (sym (first-append heap literals a))
      ∙ ap (λ cells. is_some (first_with cells a)) (sym has.cells)
      ∙ sym (has-lines all a);
}

-- of two cells, the first that is there is no heap binary if neither is told
told-or : (one other : Option Cell) (b c : Bool) → (spells_binary one ≡ true → b ≡ true) → (spells_binary other ≡ true → c ≡ true)
    → spells_binary (option_or one other) ≡ true → (b || c) ≡ true
told-or None other b c first second some = ap (λ d. b || d) (second some) ∙ or-true b
  where
    or-true : (b : Bool) → (b || true) ≡ true
    or-true true = refl
    or-true false = refl
told-or (Some cell) other b c first second some = ap (λ d. d || c) (first some)

-- the address of each heap binary is told, and that of each cell
pub lines-tell : (lines : HeapLines) (now : Now) (all : List Cell) → HasLines lines now all → FormIsRead lines.enc → TellsMore (known_in (first_cells [] all)) (known_of lines)
lines-tell lines now all has read (CellAt a) told = (lines-lawful lines now all has).same a ∙ told
lines-tell lines now all has read (BinaryAt a) told =
    let body = λ (l : BodyLines). line_cells lines.enc (bytes_of l has.dump) in
    told-or (first_with (body lines.heap) a) (first_with (body lines.literals) a)
    (is_some (place_by nat_cmp a lines.heap.table.binaries)) (is_some (place_by nat_cmp a lines.literals.table.binaries))
    (λ some. has.heap.binaries a (binary-placed lines.enc read lines.heap.from a (bytes_of lines.heap has.dump) some))
    (λ some. has.literals.binaries a (binary-placed lines.enc read lines.literals.from a (bytes_of lines.literals has.dump) some))
    (ap spells_binary (sym (first-append (body lines.heap) (body lines.literals) a)) ∙ ap (λ cells. spells_binary (first_with cells a)) (sym has.cells) ∙ sym (binary-first all a) ∙ told)

-- nothing is no line
no-line : (enc : Enc) (dump : List ℕ) (end : ℕ) → text_cell enc (text_of (first_raw (between end end dump))) ≡ None
unfolding led_of
no-line enc dump end = let none : end - end ≡ 0 = omega arith in ap (λ n. text_cell enc (text_of (first_raw (take n (drop end dump))))) none

-- the line that is read for an address is the first with it
spanned : (lines : HeapLines) (dump : List ℕ) (a : ℕ) → IsTableIn dump lines.heap → IsTableIn dump lines.literals
    → first_with (two_cells lines.enc (bytes_of lines.heap dump) (bytes_of lines.literals dump)) a
    ≡ text_cell lines.enc (text_of (first_raw (between (span_of lines a).0 (span_of lines a).1 dump)))
spanned lines dump a in_heap in_literals =
    first-append heap literals a ∙ by (place_by nat_cmp a lines.heap.table.places) refl (place_by nat_cmp a lines.literals.table.places) refl
  where
    heap : List Cell
    heap = line_cells lines.enc (bytes_of lines.heap dump)

    literals : List Cell
    literals = line_cells lines.enc (bytes_of lines.literals dump)

    read : ℕ × ℕ → Option Cell
    read span = text_cell lines.enc (text_of (first_raw (between span.0 span.1 dump)))

    by : (one : Option ℕ) → place_by nat_cmp a lines.heap.table.places ≡ one → (other : Option ℕ) → place_by nat_cmp a lines.literals.table.places ≡ other
        → option_or (first_with heap a) (first_with literals a) ≡ read (span_in one lines.heap.end other lines.literals.end)
    by (Some place) is other at =
        or-some (first_with heap a) (first_with literals a) (sym (known-body lines.enc dump lines.heap a in_heap) ∙ ap is_some is)
        ∙ placed-body lines.enc dump lines.heap a place in_heap is
    by None is (Some place) at =
        or-second (first_with heap a) (first_with literals a) (sym (known-body lines.enc dump lines.heap a in_heap) ∙ ap is_some is)
        ∙ placed-body lines.enc dump lines.literals a place in_literals at
    by None is None at =
        or-second (first_with heap a) (first_with literals a) (sym (known-body lines.enc dump lines.heap a in_heap) ∙ ap is_some is)
        ∙ none-where (first_with literals a) (sym (known-body lines.enc dump lines.literals a in_literals) ∙ ap is_some at)
        ∙ sym (no-line lines.enc dump lines.literals.end)

pub line-pushed : (lines : HeapLines) (now : Now) (all : List Cell) (a : ℕ) (span : ℕ × ℕ) (old new : List ℕ) → HasLines lines now all → AreWhole old → span ≡ span_of lines a
    → IfTold now (λ dump. new ≡ old ++ ended_text (text_of (first_raw (between span.0 span.1 dump)))) → IsPushed lines.enc all a old new
line-pushed lines now all a span old new has whole is pushed =
    let bytes = between span.0 span.1 has.dump in
    ap (line_cells lines.enc) (pushed has.dump has.is_told)
    ∙ cells-pushed lines.enc old (text_of (first_raw bytes)) whole (first-free bytes)
    ∙ ap (λ o. line_cells lines.enc old ++ option_to_list o)
    (ap (λ (s : ℕ × ℕ). text_cell lines.enc (text_of (first_raw (between s.0 s.1 has.dump)))) is
    ∙ sym (spanned lines has.dump a has.heap has.literals) ∙ ap (λ cells. first_with cells a) (sym has.cells))

-- ---- what is loaded

-- the lines of a section that may be missing
pub body-read : (now : Now) (found : Option Section) (lines : BodyLines) (from end : ℕ) → lines.from ≡ from → lines.end ≡ end → end ≤ size_of now
    → end - from ≡ body_size found → ((dump : List ℕ) → between from end dump ≡ body_in dump found) → IfTold now (λ dump. IsTableIn dump lines) → AreBodyLines now found lines
body-read now found lines from end is_from is_end inside size body table = record {
  within = omega (arith, is_end, inside);
  size = omega (arith, is_from, is_end, size);
  body = λ dump. ap₂ (λ i j. between i j dump) is_from is_end ∙ body dump;
  table = table;
}

pub lines-serve : (now later : Now) (index : Contents) (heap literals : Option Section) (lines : HeapLines) → IsBuiltOver now index → later ≡ now
    → AreBodyLines now heap lines.heap → AreBodyLines later literals lines.literals → ServesLines lines now
lines-serve now later index heap literals lines over same one other = record {
  open_is = (built-size now index over).0;
  heap = one.within;
  literals = subst (λ n. lines.literals.end ≤ size_of n) same other.within;
}

pub lines-loaded : (now later : Now) (index : Contents) (pid : List ℕ) (heap literals : Option Section) (lines : HeapLines) → IsBuiltOver now index → later ≡ now
    → heap ≡ heap_section pid (sections_in index) → literals ≡ literals_section (sections_in index) → lines.enc ≡ enc_of index.version
    → AreBodyLines now heap lines.heap → AreBodyLines later literals lines.literals → IfTold now (λ dump. HasLines lines now (cells_in pid dump))
lines-loaded now later index pid heap literals lines over same is_heap is_literals enc one other = λ dump is.
    let built : index ≡ index_of dump = index-is dump index (subst (λ n. IsBuiltOver n index) is over) in
    record {
      dump = dump;
      is_told = is;
      heap = one.table dump is;
      literals = other.table dump (same ∙ is);
      cells =
          sym (
          ap₂ (two_cells lines.enc) (one.body dump ∙ ap (body_in dump) is_heap) (other.body dump ∙ ap (body_in dump) is_literals)
          ∙ ap (λ e. two_cells e (body_in dump (heap_section pid (sections_in index))) (body_in dump (literals_section (sections_in index)))) enc
          ∙ ap (λ i. two_cells (enc_of i.version) (body_in dump (heap_section pid (sections_in i))) (body_in dump (literals_section (sections_in i)))) built);
    }

-- two bytes for each line, and the two bodies
pub lines-sized : (now other : Now) (heap literals : Option Section) (lines : HeapLines) → AreBodyLines now heap lines.heap → AreBodyLines other literals lines.literals
    → (all : List Cell) → HasLines lines now all → text_size lines ≤ (body_size heap + body_size literals) + 2 * length all
lines-sized now other heap literals lines one more all has =
    let own = line_cells lines.enc (bytes_of lines.heap has.dump) in
    let shared = line_cells lines.enc (bytes_of lines.literals has.dump) in
    let count : length all ≡ length own + length shared = ap length has.cells ∙ length-append own shared in
    omega (
      arith,
      one.size,
      more.size,
      count,
      has.heap.count,
      placed-count lines.enc lines.heap.from (bytes_of lines.heap has.dump),
      has.literals.count,
      placed-count lines.enc lines.literals.from (bytes_of lines.literals has.dump),
    )
