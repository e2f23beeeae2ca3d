-- Hearing the lines of a heap.
use Rattle.std.specs.Prelude.{◌≡◌, ℕ, List, ◌++◌, length, Option}
use Rattle.binary_payloads.specs.declared.enc.Enc.{Enc}
use Rattle.body_lines.specs.Lines.{lines_at}
use Rattle.dump_io.specs.Dumps.{Now, IfTold}
use Rattle.dump_io.specs.Lines.{Line}
use Rattle.dump_sections.specs.Bodies.{body_in, body_start}
use Rattle.dump_sections.specs.Sections.{Section}
use Rattle.heap_skeleton.specs.declared.heap_sink.HeapSink.{HeapSink}
use Rattle.heap_graph.specs.declared.held.Held.{Held}
use Rattle.heap_graph.specs.Held.{HeapLine, Gains, IsHeld, heap_lines}

-- between two states the heap lines among these were appended
pub record TakesLines (old new : HeapSink) (lines : List Line) : Type 0 where
  pub enc : new.enc ≡ old.enc
  pub gains : Gains old.held new.held (heap_lines old.enc lines)

-- the heap lines of the body of a section
abbrev pub section_lines : Enc → List ℕ → Option Section → List HeapLine
section_lines enc dump found = heap_lines enc (lines_at (body_start found) (body_in dump found))

-- some heap lines were appended: those of a section, if the device tells the bytes of what is open
pub record HearsSection (old new : HeapSink) (now : Now) (found : Option Section) : Type 0 where
  pub enc : new.enc ≡ old.enc
  pub lines : List HeapLine
  pub gains : Gains old.held new.held lines
  pub are : IfTold now (λ dump. lines ≡ section_lines old.enc dump found)

-- the heap lines of two sections are held, and so many are those of the first
pub record HoldsSections (enc : Enc) (now : Now) (heap literals : Option Section) (held : Held) (own : ℕ) : Type 0 where
  pub heap_lines : List HeapLine
  pub literal_lines : List HeapLine
  pub held_is : IsHeld (heap_lines ++ literal_lines) held
  pub own_is : own ≡ length heap_lines
  pub heap_are : IfTold now (λ dump. heap_lines ≡ section_lines enc dump heap)
  pub literals_are : IfTold now (λ dump. literal_lines ≡ section_lines enc dump literals)
