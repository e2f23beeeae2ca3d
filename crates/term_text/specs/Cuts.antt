-- What a truncated dump may lack of what is read of a process: sections that may be cut, and missing ones. Offsets are of the file.
use Rattle.std.specs.Prelude.{ℕ, ◌-◌, ◌==◌, Bool, true, not, ◌&&◌, ◌||◌, List, [], ◌∷◌, ◌++◌, length, decimal, codes, Option, None, Some, is_some, if◌then◌else◌}
use Rattle.std.specs.List.{flat_map}
use Rattle.dump_sections.specs.Bodies.{section_at}
use Rattle.dump_sections.specs.Index.{dump_state, sections_in, Contents}
use Rattle.dump_sections.specs.Lookups.{has_tag}
use Rattle.dump_sections.specs.Sections.{Section}
use Rattle.dump_sections.specs.declared.index.State.{State}
use Rattle.dump_sections.specs.declared.index.State.TheVariants.{Whole, TruncatedIn}
use Rattle.heap_cells.specs.Loading.{heap_section, literals_section}
use Rattle.root_views.specs.Kinds.{roots_tag}
use Rattle.root_views.specs.Sections.{root_section}
use Rattle.root_views.specs.declared.kinds.RootKind.{RootKind}
use Rattle.root_views.specs.declared.kinds.RootKind.TheVariants.{Stack, Dict, Mail}
use Rattle.report_lines.specs.Lines.{line_of, tab}

-- all kinds of roots, in the order in which they are read
abbrev pub all_roots : List RootKind
all_roots = Stack ∷ Dict ∷ Mail ∷ []

-- the last section of a dump
abbrev pub last_section : Contents → Section
last_section index = section_at index (length index.headers - 1)

-- whether a section may be cut: the dump ends with it, or with an `abort` directly behind it
abbrev pub may_be_cut : Contents → Section → Bool
may_be_cut index s =
    let last = last_section index in
    (s.end == index.size) || (has_tag (codes "abort") last.text && (s.end == last.at))

-- the line of a section that may be cut: its tag, and where its header begins
abbrev pub cut_line : List ℕ → ℕ → List ℕ
cut_line tag at = line_of tab (codes "cut" ∷ tag ∷ decimal at ∷ [])

-- the line of a section that is missing
abbrev pub absent_line : List ℕ → List ℕ
absent_line tag = line_of tab (codes "absent" ∷ tag ∷ [])

-- the line on the section with this tag that is read, if there is one: a missing section has a line only if that is a loss
abbrev pub loss_line : Contents → List ℕ → Bool → Option Section → List ℕ
loss_line index tag is_loss None = if is_loss then absent_line tag else []
loss_line index tag is_loss (Some s) = if may_be_cut index s then cut_line tag s.at else []

-- the line on the roots of this kind. A node writes the heap of a process behind its roots, and no section for
-- roots of which there are none; so if these are missing, that is a loss only if the heap is missing too
abbrev pub root_loss : Contents → List ℕ → RootKind → List ℕ
root_loss index pid kind =
    let sections = sections_in index in
    loss_line index (roots_tag kind) (not (is_some (heap_section pid sections))) (root_section kind pid sections)

-- the lines on the roots of these kinds, on the heap and on the literals
abbrev pub loss_lines : Contents → List ℕ → List RootKind → List ℕ
loss_lines index pid kinds =
    let sections = sections_in index in
    flat_map (root_loss index pid) kinds
    ++ (loss_line index (codes "proc_heap") true (heap_section pid sections) ++ loss_line index (codes "literals") true (literals_section sections))

-- what is told of a truncated dump alone
abbrev pub if_truncated : State → List ℕ → List ℕ
if_truncated Whole text = []
if_truncated (TruncatedIn i) text = text

-- the end of a report for which roots of these kinds, the heap and the
-- literals are read: what a truncated dump may lack of them
abbrev pub cut_report : Contents → List ℕ → List RootKind → List ℕ
cut_report index pid kinds = if_truncated (dump_state index.headers) (loss_lines index pid kinds)
