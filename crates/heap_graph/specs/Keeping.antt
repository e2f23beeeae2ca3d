-- Keeping the first line with each address, one after another.
use Rattle.std.specs.Prelude.{◌≡◌, ℕ, ◌+◌, ◌≤◌, List, [], ◌∷◌, length, take, drop}
use Rattle.std.specs.List.{flat_map}
use Rattle.heap_graph.specs.declared.held.Held.{Held}
use Rattle.heap_graph.specs.declared.settling.Settled.{Settled}
use Rattle.heap_graph.specs.Elements.{count, IsAlike}
use Rattle.heap_graph.specs.Held.{HeapLine, first_lines, kept_references, line_at, line_leads, Gains, IsHeld}

-- some lines are held
pub record HoldsLines (held : Held) : Type 0 where
  pub lines : List HeapLine
  pub held_is : IsHeld lines held

-- the elements of the line with number i begin and end there
pub record IsSpanAt (held : Held) (i : ℕ) (span : ℕ × ℕ) : Type 0 where
  pub ordered : span.0 ≤ span.1
  pub within : span.1 ≤ count held.elements
  pub starts : (lines : List HeapLine) → IsHeld lines held
      → (span.0 ≡ length (flat_map line_leads (take i lines))) × (span.1 ≡ length (flat_map line_leads (take (i + 1) lines)))

-- the line with number i was appended, if these are the addresses of its elements
abbrev pub KeepsLine : Held → ℕ → List ℕ → Held → Held → Type 0
KeepsLine held i references old new =
    (lines : List HeapLine) → IsHeld lines held → references ≡ kept_references held.elements (line_at lines i) → Gains old new (line_at lines i ∷ [])

-- the line with number i was kept if it is the first with its address, if these are the addresses of its elements
abbrev pub KeepsNext : Held → ℕ → List ℕ → Held → Held → Type 0
KeepsNext held i references old new =
    (lines : List HeapLine) → IsHeld lines held → references ≡ kept_references held.elements (line_at lines i)
    → IsHeld (first_lines [] (take i lines)) old → IsHeld (first_lines [] (take (i + 1) lines)) new

-- of the lines before the one with number i the first with each address are kept
abbrev pub IsKeeping : Held → Held → ℕ → Type 0
IsKeeping held kept i = (lines : List HeapLine) → IsHeld lines held → IsHeld (first_lines [] (take i lines)) kept

-- the addresses of the elements of the other lines are left
abbrev pub AreLeft : Held → List ℕ → ℕ → Type 0
AreLeft held left i = (lines : List HeapLine) → IsHeld lines held → left ≡ flat_map (kept_references held.elements) (drop i lines)

-- of the lines that are held the first with each address are kept, and so many of these are among the first `own`
pub record AreKept (held : Held) (own : ℕ) (kept : Settled) : Type 0 where
  pub held_is : (lines : List HeapLine) → IsHeld lines held → IsHeld (first_lines [] lines) kept.held
  pub alike : IsAlike held.elements kept.held.elements
  pub own_is : (lines : List HeapLine) → IsHeld lines held → kept.own ≡ length (first_lines [] (take own lines))
