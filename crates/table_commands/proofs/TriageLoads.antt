-- What `triage` has read.
use Rattle.std.proofs.Common.{◌++◌, ◌+◌, ◌≡◌, ◌≤◌, arith, refl, Err, List, None, Option, Result, Some, ℕ}
use Rattle.std.specs.Prelude.{IsErrAnd}
use Rattle.std.specs.Option.{option_or, option_to_list}
use Rattle.std.proofs.lemmas.List.Sums.{sum_by-append}
use Rattle.dump_io.specs.Dumps.{DeviceState, ReadsAtMost}
use Rattle.dump_io.specs.Laws.Reads.{ReadsAtMost-then, ReadsAtMost-within}
use Rattle.dump_sections.specs.Bodies.{body_length, section_in}
use Rattle.dump_sections.specs.Index.{index_of, sections_in, Contents}
use Rattle.dump_sections.specs.Sections.{Section}
use Rattle.dump_sections.specs.declared.bodies.BodyFault.{BodyFault}
use Rattle.dump_sections.specs.declared.bodies.LargeSection.{LargeSection}
use Rattle.dump_sections.specs.LoadingLaws.{large-append, small-both, IsUnloaded-later, IsUnloaded-small}
use Rattle.dump_sections.specs.Loading.{bodies_length, large_fault, LoadsBodies}
use Rattle.process_table.specs.Records.{record_sections}
use Rattle.table_sections.specs.Tables.{listed}
use Rattle.dump_questions.specs.Bodies.{ReadsBodies}
use Rattle.dump_questions.specs.Laws.Bodies.{ReadsBodies-stopped}
use Rattle.table_commands.specs.Rows.{told_in}
use Rattle.table_commands.specs.Inner.Loads.{sections_found, seen_triage, AreTablesOf}
use Rattle.table_commands.specs.declared.triage.Places.{Places}
use Rattle.table_commands.specs.declared.triage.NodeTables.{NodeTables}

-- ---- the first of five lists that has a body that is too large

or-five : (a b c d e : Option LargeSection) → option_or (option_or (option_or (option_or a b) c) d) e ≡ option_or a (option_or b (option_or c (option_or d e)))
or-five None None None d e = refl
or-five None None (Some x) d e = refl
or-five None (Some x) c d e = refl
or-five (Some x) b c d e = refl

pub large-five : (limit : ℕ) (one two three four five : List Section)
    → option_or (option_or (option_or (option_or (large_fault limit one) (large_fault limit two)) (large_fault limit three)) (large_fault limit four)) (large_fault limit five)
    ≡ large_fault limit (one ++ (two ++ (three ++ (four ++ five))))
large-five limit one two three four five =
    cc (
      or-five (large_fault limit one) (large_fault limit two) (large_fault limit three) (large_fault limit four) (large_fault limit five),
      large-append limit one (two ++ (three ++ (four ++ five))),
      large-append limit two (three ++ (four ++ five)),
      large-append limit three (four ++ five),
      large-append limit four five,
    )

-- ---- these bodies are read one after another, none of which is too large

-- how many bytes they have
pub length-found : (index : Contents) (places : Places) → bodies_length (sections_found index places)
    ≡ bodies_length (option_to_list (section_in index (Some 0))) + (bodies_length (option_to_list (section_in index places.memory))
    + (bodies_length (record_sections (sections_in index)) + (bodies_length (listed places.tables.kind (sections_in index)) + bodies_length (listed places.ports.kind (sections_in index)))))
length-found index places =
    let ss = sections_in index in
    let memory = option_to_list (section_in index places.memory) in
    let lists = listed places.tables.kind ss ++ listed places.ports.kind ss in
    omega (
      arith,
      sum_by-append body_length (option_to_list (section_in index (Some 0))) (memory ++ (record_sections ss ++ lists)),
      sum_by-append body_length memory (record_sections ss ++ lists),
      sum_by-append body_length (record_sections ss) lists,
      sum_by-append body_length (listed places.tables.kind ss) (listed places.ports.kind ss),
    )

-- none of each kind is too large
pub record AreSmall (limit : ℕ) (index : Contents) (places : Places) : Type 0 where
  pub first : large_fault limit (option_to_list (section_in index (Some 0))) ≡ None
  pub memory : large_fault limit (option_to_list (section_in index places.memory)) ≡ None
  pub procs : large_fault limit (record_sections (sections_in index)) ≡ None
  pub tables : large_fault limit (listed places.tables.kind (sections_in index)) ≡ None
  pub ports : large_fault limit (listed places.ports.kind (sections_in index)) ≡ None

pub small-found : (limit : ℕ) (index : Contents) (places : Places) → large_fault limit (sections_found index places) ≡ None → AreSmall limit index places
small-found limit index places small =
    let ss = sections_in index in
    let memory = option_to_list (section_in index places.memory) in
    let lists = listed places.tables.kind ss ++ listed places.ports.kind ss in
    let one = small-both limit (option_to_list (section_in index (Some 0))) (memory ++ (record_sections ss ++ lists)) small in
    let two = small-both limit memory (record_sections ss ++ lists) one.1 in
    let three = small-both limit (record_sections ss) lists two.1 in
    let four = small-both limit (listed places.tables.kind ss) (listed places.ports.kind ss) three.1 in
    record { first = one.0; memory = two.0; procs = three.0; tables = four.0; ports = four.1 }

-- behind calls that read some of them, the call for others failed
pub stops-at : {D T U : Type 0} (state : D → DeviceState) (limit : ℕ) (all xs : List Section) {a : DeviceState} {b c : D} {count : ℕ} (result : Result U BodyFault) (fault : BodyFault)
    → IsErrAnd result (λ e. e ≡ fault) → large_fault limit xs ≡ None → ReadsAtMost a (state b) count → LoadsBodies {T = T} state xs limit b c (Err fault)
    → count + bodies_length xs ≤ bodies_length all → ReadsBodies all a (state c) result
stops-at {T = T} state limit all xs {a = a} {b = b} {c = c} result fault is small before loads few =
    ReadsBodies-stopped {T = T} result fault is (record {
      reads = ReadsAtMost-within few (ReadsAtMost-then before loads.reads);
      fault = IsUnloaded-later (state b) (state c) a (state c) fault (λ rose. omega (arith, before.later, rose)) (IsUnloaded-small limit xs (state b) (state c) fault small loads.fault);
    })

-- ---- what is told of these bodies

-- what was read of them is what the dump tells
pub triage-told : (index : Contents) (bytes : List ℕ) (loaded : NodeTables) → index ≡ index_of bytes → AreTablesOf index bytes loaded → seen_triage index loaded ≡ told_in bytes
triage-told index bytes loaded is of = rw (of.first, of.memory, of.procs, of.stands, of.tables, of.ports, is) refl
