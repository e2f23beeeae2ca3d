-- The lines of one body, and from where to where a line is read.
use Rattle.std.specs.Prelude.{◌≡◌, ◌-◌, ◌≤◌, ℕ, List, min, Option, None, Some}
use Rattle.std.specs.Ordering.{nat_cmp}
use Rattle.dump_io.specs.Dumps.{Now, size_of, IfTold}
use Rattle.dump_sections.specs.Bodies.{body_in, body_size}
use Rattle.dump_sections.specs.Sections.{Section}
use Rattle.dump_sections.specs.Places.{place_by}
use Rattle.heap_parts.specs.Wholes.{bytes_of, IsTableIn}
use Rattle.heap_parts.specs.declared.heap_lines.BodyLines.{BodyLines}
use Rattle.heap_parts.specs.declared.heap_lines.HeapLines.{HeapLines}

-- the lines are those of a section that may be missing
pub record AreBodyLines (now : Now) (found : Option Section) (lines : BodyLines) : Type 0 where
  pub within : lines.end ≤ size_of now
  pub size : lines.end - lines.from ≤ body_size found
  pub body : (dump : List ℕ) → bytes_of lines dump ≡ body_in dump found
  pub table : IfTold now (λ dump. IsTableIn dump lines)

-- where the line begins that is at the first of two places there is, and where its body ends; no line is read past that
abbrev pub span_in : Option ℕ → ℕ → Option ℕ → ℕ → ℕ × ℕ
span_in (Some place) end other end' = (min place end, end)
span_in None end (Some place) end' = (min place end', end')
span_in None end None end' = (end', end')

-- where the first line with an address begins, and where its body ends: the heap's lines come before those of the literals
abbrev pub span_of : HeapLines → ℕ → ℕ × ℕ
span_of lines address =
    span_in (place_by nat_cmp address lines.heap.table.places) lines.heap.end (place_by nat_cmp address lines.literals.table.places) lines.literals.end
