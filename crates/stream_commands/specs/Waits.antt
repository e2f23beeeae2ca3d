-- The report of `waits`. Offsets are of the file.
use Rattle.std.specs.Prelude.{ℕ, nat_le, List, [], ◌∷◌, ◌++◌, length, take, filter, decimal, codes, Option, None, Some, is_some, option_map, unwrap_or}
use Rattle.std.specs.List.{count_by, flat_map, range_with_len}
use Rattle.std.specs.Option.{option_map_or}
use Rattle.dump_sections.specs.Index.{Contents}
use Rattle.process_table.specs.Processes.{Process, process_at}
use Rattle.process_table.specs.Stands.{where_in}
use Rattle.report_lines.specs.Lines.{line_of, tab, text_or_dash, word_space}
use Rattle.report_text.specs.Tables.{process_end}
use Rattle.section_rows.specs.Rows.{Row, row_at}
use Rattle.text_groups.specs.Cut.{cut_text}
use Rattle.wait_circles.specs.Report.{WaitReport, wait_report}
use Rattle.wait_circles.specs.Waiters.{Waiter, process_of, target_at}
use Rattle.wait_circles.specs.declared.blocker.Blocker.{Blocker}
use Rattle.wait_circles.specs.declared.on_circle.OnCircle.{OnCircle}

-- the processes of a dump, where each stands, and for whom each waits
pub record Awaiting : Type 0 where
  pub index : Contents
  pub processes : List Process
  pub stands : List Row
  pub waiters : List Waiter

-- where the process at a place stands
abbrev pub place_text : Awaiting → ℕ → List ℕ
place_text a p = text_or_dash (option_map cut_text (where_in (row_at a.stands p)))

-- what is told of the process at a place: its pid, name and offset, and where it stands
abbrev pub process_parts : Awaiting → ℕ → List (List ℕ)
process_parts a p = process_end a.index (process_at a.processes p) ++ place_text a p ∷ []

-- what is told of a target: the same behind its text, or `-` each where no process has it as its pid
abbrev pub known_parts : Awaiting → List ℕ → Option ℕ → List (List ℕ)
known_parts a target None = target ∷ codes "-" ∷ codes "-" ∷ codes "-" ∷ []
known_parts a target (Some p) = process_parts a p

-- what is told of a target, whose text is the pid of its process where there is one
abbrev pub target_parts : Awaiting → List ℕ → List (List ℕ)
target_parts a target = known_parts a target (process_of a.waiters target)

-- the line of a process that waits
abbrev pub wait_line : Awaiting → ℕ → List ℕ → List ℕ
wait_line a p target = line_of tab (codes "wait" ∷ (process_parts a p ++ target_parts a target))

-- that line, if the process at a place waits
abbrev pub wait_lines_at : Awaiting → ℕ → List ℕ
wait_lines_at a p = option_map_or (wait_line a p) (target_at a.waiters p) []

-- the line of a target: how many come to it, and how many wait for it
abbrev pub blocker_line : Awaiting → Blocker → List ℕ
blocker_line a b =
    line_of tab (codes "blocker" ∷ decimal b.all ∷ decimal b.direct ∷ target_parts a (unwrap_or (target_at a.waiters b.first) []))

-- the line of a process on a circle
abbrev pub circle_line : Awaiting → OnCircle → List ℕ
circle_line a on = line_of tab (codes "circle" ∷ decimal on.circle ∷ process_end a.index (process_at a.processes on.process))

-- the last line: how many wait, for how many targets, how many circles there are, and how many processes
abbrev pub waits_line : Awaiting → WaitReport → List ℕ
waits_line a found =
    line_of word_space
    (codes "waits" ∷ decimal (count_by (λ w. is_some w.target) a.waiters) ∷ codes "targets" ∷ decimal (length found.blockers)
    ∷ codes "circles" ∷ decimal found.circles ∷ codes "processes" ∷ decimal (length a.processes) ∷ [])

-- the report on what is found of the processes, with at most this many targets and circles
abbrev pub waits_with : ℕ → Awaiting → WaitReport → List ℕ
waits_with most a found =
    flat_map (wait_lines_at a) (range_with_len 0 (length a.processes))
    ++ (flat_map (blocker_line a) (take most found.blockers)
    ++ (flat_map (circle_line a) (filter (λ on. nat_le on.circle most) found.on_circles) ++ waits_line a found))

-- the report of `waits`
abbrev pub waits_report : ℕ → Awaiting → List ℕ
waits_report most a = waits_with most a (wait_report a.waiters)
