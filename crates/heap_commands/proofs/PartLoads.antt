-- What `peek` has read: of a heap of any size the lines that the shown terms need.
use Rattle.std.proofs.Common.{◌*◌, ◌++◌, ◌+◌, ◌∙◌, ◌∷◌, ◌≡◌, ◌≤◌, [], ap, append-nil, ap₂, arith, length, min, refl, subst, sym, take, Bool, Err, List, None, Ok, Option, Result, Some, ℕ}
use Rattle.std.specs.Prelude.{codes, decimal, slice_get, Contains, IfErr, IfOk, IsErrAnd}
use Rattle.std.specs.Option.{option_or}
use Rattle.std.proofs.lemmas.Grind.{flat_map-append}
use Rattle.std.proofs.lemmas.List.Elements.{Contains-append_right}
use Rattle.dump_io.specs.Laws.Lists.{take-at}
use Rattle.dump_io.specs.Dumps.{DeviceState, ReadsAtMost}
use Rattle.dump_io.specs.Laws.Reads.{ReadsAtMost-then}
use Rattle.dump_io.specs.Limits.{Numbers}
use Rattle.dump_sections.specs.Bodies.{body_in, body_size, body_start}
use Rattle.dump_sections.specs.Index.{index_of, sections_in, Contents}
use Rattle.dump_sections.specs.Loading.{bodies_length}
use Rattle.dump_sections.specs.LoadingLaws.{bodies-two}
use Rattle.dump_sections.specs.Sections.{sections, Section}
use Rattle.binary_payloads.specs.declared.enc.Enc.{Enc}
use Rattle.heap_cells.specs.Cells.{first_cells}
use Rattle.heap_cells.specs.DumpHeaps.{heap_map}
use Rattle.heap_cells.specs.Loading.{enc_of, heap_bodies, heap_section, literals_section}
use Rattle.heap_parts.specs.Wholes.{cells_in, text_size, HasLines}
use Rattle.heap_parts.specs.declared.heap_lines.HeapLines.{HeapLines}
use Rattle.heap_parts.specs.Parts.{IsLawful}
use Rattle.report_lines.specs.Lines.{line_of, total_line, word_space}
use Rattle.report_text.specs.declared.refusals.Refusal.{Refusal}
use Rattle.root_views.specs.Shown.{shown_roots, SomeRoots}
use Rattle.root_views.specs.Kinds.{roots_in}
use Rattle.root_views.specs.Sections.{root_section}
use Rattle.root_views.specs.declared.kinds.RootKind.{RootKind}
use Rattle.root_views.specs.Roots.{term_in, BodyRoot, Content, Dist, Info, Term, Unread}
use Rattle.term_forms.specs.Elements.{Element}
use Rattle.term_text.specs.Reach.{root_elements}
use Rattle.term_text.specs.Roots.{answer_over, content_text, root_lines, shown_report, some_roots_report}
use Rattle.term_unfold.specs.DumpWalks.{walk_of}
use Rattle.term_unfold.specs.Parts.{answer_in, has_cell}
use Rattle.term_unfold.specs.Walks.{Walk}
use Rattle.dump_questions.specs.Meaning.{no_body, no_process, part_in, Meaning}
use Rattle.dump_questions.specs.Heaps.{address_cause, binary_count, heap_text_size, of_part, walk_question}
use Rattle.dump_questions.specs.Tasks.{refusal_listed}
use Rattle.heap_commands.specs.Inner.Loads.{lacks, unknown_cause, walk_in, AreAnswered, GivesPart, ReadsPart}
use Rattle.heap_commands.specs.declared.peek.HeapPart.{HeapPart}
use Rattle.dump_questions.specs.Reading.{HasRead, IsHalted, IsIndexed, ReadsFor, StopsFor, Takes}
use Rattle.dump_questions.specs.Stops.{Judges}
use Rattle.dump_questions.specs.declared.stop.Stop.{Stop}
use Rattle.dump_questions.specs.declared.stop.Stop.TheVariants.{NoMemory, NotRead, NotWritten, Refused}
use Rattle.dump_questions.specs.Laws.Heaps.{bytes-loaded}
use Rattle.dump_questions.specs.Laws.Reading.{HasRead-listed, StopsFor-judged, StopsFor-too, Takes-listed}

-- ---- why it wasn't read

-- behind a call that reads, a later one stopped it
StopsFor-behind : (old mid new : DeviceState) (count : ℕ) (P Q : Refusal → Type 0) (stop : Stop) → ReadsAtMost old mid count → StopsFor mid new P stop
    → ((why : Refusal) → P why → Q why) → StopsFor old new Q stop
StopsFor-behind old mid new count P Q (Refused why) first cause follows = (cause.0, follows why cause.1)
StopsFor-behind old mid new count P Q NotRead first cause follows = omega (arith, first.later, cause)
StopsFor-behind old mid new count P Q NotWritten first cause follows = absurd cause
StopsFor-behind old mid new count P Q NoMemory first cause follows = tt

-- what stopped it is what its `?` returns
pub IfErr-halted : {V E : Type 0} (P : E → Type 0) (result : Result V E) (stop : E) → IsErrAnd result (λ e. e ≡ stop) → P stop → IfErr result P
IfErr-halted P (Ok value) stop is stopped = absurd is
IfErr-halted P (Err e) stop is stopped = subst P (sym is) stopped

-- the same of a whole result
pub stopped : {V E : Type 0} (P : Result V E → Type 0) (result : Result V E) (stop : E) → IsErrAnd result (λ e. e ≡ stop) → P (Err stop) → P result
stopped P (Ok value) stop is said = absurd is
stopped P (Err e) stop is said = subst (λ e. P (Err e)) (sym is) said

-- ---- what the load of a part gives

-- over the lines of the dump's heap an element has the answer that it has in the dump
pub answered-told : (pid bytes : List ℕ) (index : Contents) (enc : Enc) (e : Element) (nodes : ℕ) (marked : Bool) → index ≡ index_of bytes → enc ≡ enc_of index.version
    → answer_in bytes index enc (first_cells [] (cells_in pid bytes)) e nodes marked ≡ answer_over (walk_of pid bytes) nodes marked e
answered-told pid bytes index enc e nodes marked is written = rw (written, is) refl

-- where the same addresses are known, an address is refused alike
unknown-same : (addr : Option ℕ) (known there : ℕ → Bool) → ((a : ℕ) → known a ≡ there a) → unknown_cause addr known ≡ unknown_cause addr there
unknown-same None known there same = refl
unknown-same (Some addr) known there same = ap (address_cause addr) (same addr)

module _ (pid : List ℕ) (addr : Option ℕ) (terms : List Element) (nodes : ℕ) (limits : Numbers) (index : Contents) (old new : DeviceState) where
  abbrev Gives : Result HeapPart Stop → Type 0
  Gives result = GivesPart pid addr terms nodes limits index old new result

  abbrev lines_size : ℕ
  lines_size = body_size (heap_section pid (sections_in index)) + body_size (literals_section (sections_in index))

  -- it stopped for no fault of the heap, and read no more than its lines
  pub Gives-stopped : (stop : Stop) (count : ℕ) → ReadsAtMost old new count → count ≤ lines_size → StopsFor old new (λ why. ⊥) stop → Gives (Err stop)
  Gives-stopped stop count reads few cause =
      record {
        count = count;
        reads = reads;
        few = λ bytes all. omega (arith, few, bodies-two (heap_section pid (sections_in index)) (literals_section (sections_in index)));
        part = StopsFor-too old new (λ why. ⊥) _ stop cause (λ why none. absurd none);
      }

  -- what is known of the lines tells whether the heap lacks the address
  module _ (known : ℕ → Bool) (same : (bytes : List ℕ) → IsIndexed bytes limits index old.now → IsLawful known (cells_in pid bytes)) where
    told : (bytes : List ℕ) → IsIndexed bytes limits index old.now → lacks addr (heap_map pid bytes) ≡ unknown_cause addr known
    told bytes all = sym (unknown-same addr known (has_cell (first_cells [] (cells_in pid bytes))) (same bytes all).same)

    -- it does
    pub Gives-lacking : (T : Type 0) (stop : Stop) → ReadsAtMost old new lines_size → Judges {T = T} (unknown_cause addr known) (Err stop) → Gives (Err stop)
    Gives-lacking T stop reads judged =
        record {
          count = lines_size;
          reads = reads;
          few = λ bytes all. omega (arith, bodies-two (heap_section pid (sections_in index)) (literals_section (sections_in index)));
          part = StopsFor-judged old new _ T (unknown_cause addr known) stop judged (λ why is bytes all. told bytes all ∙ is);
        }

    -- it doesn't, and the terms were loaded or not
    module _ (mid : DeviceState) (lines : HeapLines) (enc : lines.enc ≡ enc_of index.version) (has : (bytes : List ℕ) → IsIndexed bytes limits index old.now → HasLines lines mid.now (cells_in pid bytes))
        (sized : (bytes : List ℕ) → IsIndexed bytes limits index old.now → text_size lines ≤ lines_size + 2 * length (cells_in pid bytes))
        (first : ReadsAtMost old mid lines_size) (there : unknown_cause addr known ≡ None) (part : ReadsPart limits.section (text_size lines) (HasLines lines mid.now) mid new) where
      few-terms : (bytes : List ℕ) → IsIndexed bytes limits index old.now
          → lines_size + (16 * (min limits.section (text_size lines) + 4) + 128 * part.count)
          ≤ bodies_length (heap_bodies pid (sections_in index)) + (16 * (min limits.section (heap_text_size pid bytes) + 4) + 128 * binary_count pid bytes)
      few-terms bytes all =
          let bodies = bodies-two (heap_section pid (sections_in index)) (literals_section (sections_in index)) in
          let same : bodies_length (heap_bodies pid (sections_in index)) ≡ bodies_length (heap_bodies pid (sections bytes)) = ap (λ i. bodies_length (heap_bodies pid (sections_in i))) all.is in
          let text : text_size lines ≤ heap_text_size pid bytes = omega (arith, bodies, same, sized bytes all) in
          omega (arith, bodies, text, part.few (cells_in pid bytes) (has bytes all))

      pub Gives-terms : (result : Result HeapPart Stop) → IfErr result (StopsFor mid new (λ why. ⊥))
          → IfOk result (λ part. AreAnswered mid.now index lines nodes (walk_in part) terms) → Gives result
      Gives-terms (Ok loaded) stops answered =
          record {
            count = _;
            reads = ReadsAtMost-then first part.reads;
            few = few-terms;
            part = record {
              allowed = λ bytes all. told bytes all ∙ there;
              answers = λ bytes all e inside marked.
                  answered.each bytes (first.same_now ∙ all.opened) (cells_in pid bytes) (has bytes all) e inside marked
                  ∙ answered-told pid bytes index lines.enc e nodes marked all.is enc;
            };
          }
      Gives-terms (Err stop) stops answered =
          record {
            count = _;
            reads = ReadsAtMost-then first part.reads;
            few = few-terms;
            part = StopsFor-behind old mid new _ (λ why. ⊥) _ stop first stops (λ why none. absurd none);
          }

-- ---- a question on a part of a heap

-- one that shows this text of the walk over the heap, and is refused if the heap lacks the address
abbrev pub peeked : List ℕ → (List Section → List Section) → Option ℕ → (List ℕ → Walk → List ℕ) → Meaning
peeked pid before addr text = of_part (record (walk_question pid) {
  also = before;
  refuses = lacks addr;
  What = List ℕ;
  what = λ bytes. text bytes (walk_of pid bytes);
  show = λ text. text;
})

module _ (pid : List ℕ) (before : List Section → List Section) (addr : Option ℕ) (text : List ℕ → Walk → List ℕ) (limits : Numbers) (index : Contents) (old mid : DeviceState)
    (there : no_process pid (sections_in index) ≡ None) (count : ℕ) (first : ReadsAtMost old mid count) (few : count ≤ bodies_length (before (sections_in index))) where
  abbrev means : Meaning
  means = peeked pid before addr text

  listed-part : refusal_listed means (sections_in index) limits ≡ None
  listed-part = ap (λ o. option_or o None) there

  -- the bodies before the heap weren't read
  pub IsHalted-first : (stop : Stop) → StopsFor old mid (λ why. ⊥) stop → IsHalted means limits index old mid stop
  IsHalted-first stop cause =
      record {
        takes = Takes-listed means limits index old mid count listed-part first (λ bytes all. omega (arith, few, bytes-loaded pid before index bytes all.is));
        cause = StopsFor-too old mid (λ why. ⊥) _ stop cause (λ why none. absurd none);
      }

  -- behind them a part of the heap was loaded, or wasn't
  module _ (terms : List Element) (nodes : ℕ) (new : DeviceState) where
    still : (bytes : List ℕ) → IsIndexed bytes limits index old.now → IsIndexed bytes limits index mid.now
    still bytes all = subst (λ now. IsIndexed bytes limits index now) (sym first.same_now) all

    takes-behind : (result : Result HeapPart Stop) → GivesPart pid addr terms nodes limits index mid new result → Takes means limits index old new
    takes-behind result gives =
        Takes-listed means limits index old new (count + gives.count) listed-part (ReadsAtMost-then first gives.reads)
        (λ bytes all. omega (arith, few, gives.few bytes (still bytes all), bytes-loaded pid before index bytes all.is))

    pub IsHalted-behind : (stop : Stop) → GivesPart pid addr terms nodes limits index mid new (Err stop) → IsHalted means limits index old new stop
    IsHalted-behind stop gives =
        record {
          takes = takes-behind (Err stop) gives;
          cause = StopsFor-behind old mid new _ _ _ stop first gives.part (λ why is bytes all. ap (λ o. option_or o (lacks addr (heap_map pid bytes))) listed-part ∙ is bytes (still bytes all));
        }

    -- and this is its report
    pub HasRead-behind : (part : HeapPart) (seen : List ℕ) → GivesPart pid addr terms nodes limits index mid new (Ok part)
        → ((bytes : List ℕ) → IsIndexed bytes limits index old.now
        → ((e : Element) → Contains terms e → (marked : Bool) → answer_over (walk_in part) nodes marked e ≡ answer_over (walk_of pid bytes) nodes marked e) → seen ≡ text bytes (walk_of pid bytes))
        → HasRead means limits index old new seen
    HasRead-behind part seen gives shows =
        HasRead-listed means limits index old new seen (takes-behind (Ok part) gives) listed-part
        (λ bytes all. (gives.part.allowed bytes (still bytes all), shows bytes all (gives.part.answers bytes (still bytes all))))

-- the part is all that is read
pub ReadsFor-peeked : (pid : List ℕ) (addr : Option ℕ) (text : List ℕ → Walk → List ℕ) (limits : Numbers) (index : Contents) (old new : DeviceState) (terms : List Element) (nodes : ℕ)
    (seen : HeapPart → List ℕ) (result : Result HeapPart Stop) → no_process pid (sections_in index) ≡ None → ReadsAtMost old old 0 → GivesPart pid addr terms nodes limits index old new result
    → ((part : HeapPart) (bytes : List ℕ) → IsIndexed bytes limits index old.now
    → ((e : Element) → Contains terms e → (marked : Bool) → answer_over (walk_in part) nodes marked e ≡ answer_over (walk_of pid bytes) nodes marked e)
    → seen part ≡ text bytes (walk_of pid bytes))
    → ReadsFor (peeked pid no_body addr text) limits index old new seen result
ReadsFor-peeked pid addr text limits index old new terms nodes seen (Ok part) there none gives shows =
    HasRead-behind pid no_body addr text limits index old old there 0 none (omega arith) terms nodes new part (seen part) gives (shows part)
ReadsFor-peeked pid addr text limits index old new terms nodes seen (Err stop) there none gives shows =
    IsHalted-behind pid no_body addr text limits index old old there 0 none (omega arith) terms nodes new stop gives

-- ---- the lines of roots

-- the elements of the first roots, and of the next one
pub elements-more : (roots : List BodyRoot) (i : ℕ) (root : BodyRoot) → slice_get roots i ≡ Some root
    → root_elements (take (i + 1) roots) ≡ root_elements (take i roots) ++ term_in root.content
elements-more roots i root is =
    ap root_elements (take-at roots i root is) ∙ flat_map-append (λ r. term_in r.content) (take i roots) (root ∷ [])
    ∙ ap (λ l. root_elements (take i roots) ++ l) (append-nil (term_in root.content))

module _ (one other : Element → List ℕ) where
  -- these elements have the same answers
  abbrev pub Alike : List Element → Type 0
  Alike es = (e : Element) → Contains es e → one e ≡ other e

  content-alike : (content : Content) (more : List Element) → Alike (term_in content ++ more) → content_text one content ≡ content_text other content
  content-alike (Term e) more alike = alike e (0, omega arith, refl)
  content-alike (Info text) more alike = refl
  content-alike (Dist text) more alike = refl
  content-alike Unread more alike = refl

  -- roots whose terms have the same answers have the same lines
  pub lines-alike : (base : ℕ) (roots : List BodyRoot) → Alike (root_elements roots) → root_lines one base roots ≡ root_lines other base roots
  lines-alike base [] alike = refl
  lines-alike base (root ∷ roots) alike =
      ap₂ (λ text lines. line_of word_space (decimal (base + root.at) ∷ root.label ∷ text ∷ []) ++ lines)
      (content-alike root.content (root_elements roots) alike)
      (lines-alike base roots (λ e inside. alike e (Contains-append_right (term_in root.content) (root_elements roots) e inside)))

-- the roots that were read, with answers that are those of the dump, have the report of the dump
pub peeked-told : (kind : RootKind) (pid bytes : List ℕ) (first most nodes : ℕ) (marked : Bool) (index : Contents) (walk : Walk) (base : ℕ) (roots : SomeRoots) → index ≡ index_of bytes
    → base ≡ body_start (root_section kind pid (sections_in index)) → roots ≡ shown_roots kind first most (body_in bytes (root_section kind pid (sections_in index)))
    → Alike (answer_over walk nodes marked) (answer_over (walk_of pid bytes) nodes marked) (root_elements roots.shown)
    → shown_report (answer_over walk nodes marked) base roots.shown roots.count
    ≡ some_roots_report (answer_over (walk_of pid bytes) nodes marked) (part_in (root_section kind pid) bytes).base first most (roots_in kind (part_in (root_section kind pid) bytes).bytes)
peeked-told kind pid bytes first most nodes marked index walk base roots is based are alike =
    let say = answer_over (walk_of pid bytes) nodes marked in
    ap (λ lines. lines ++ total_line (codes "roots") roots.count) (lines-alike (answer_over walk nodes marked) say base roots.shown alike)
    ∙ ap (λ b. shown_report say b roots.shown roots.count) based
    ∙ ap (λ r. shown_report say (body_start (root_section kind pid (sections_in index))) r.shown r.count) are
    ∙ ap (λ i. some_roots_report say (body_start (root_section kind pid (sections_in i))) first most (roots_in kind (body_in bytes (root_section kind pid (sections_in i))))) is
