-- Hearing a stack and a heap.
use Rattle.std.specs.Prelude.{◌≡◌, ◌==◌, ◌+◌, ℕ, Bool, List, [], ◌∷◌, ◌++◌, drop, map, min, Option, None, Some, option_and_then, is_some, if◌then◌else◌}
use Rattle.std.specs.Ordering.{nat_cmp}
use Rattle.dump_sections.specs.Places.{place_by}
use Rattle.term_forms.specs.ReadingForms.{form_of}
use Rattle.std.specs.List.{filter_map, list_any}
use Rattle.binary_payloads.specs.declared.enc.Enc.{Enc}
use Rattle.body_lines.specs.Lines.{CutLine, cut_lines}
use Rattle.dump_io.specs.Lines.{text_of}
use Rattle.root_views.specs.Roots.{BodyRoot}
use Rattle.term_forms.specs.Words.{led_of}
use Rattle.wait_requests.specs.Held.{awaited_behind, slots_before, words_of}
use Rattle.link_graph.specs.Requests.{Request}
use Rattle.wait_requests.specs.Inner.Asking.{before_words}
use Rattle.wait_requests.specs.declared.heap_sink.HeapSink.{HeapSink}
use Rattle.wait_requests.specs.declared.slot_sink.SlotSink.{SlotSink}

-- ---- a stack

-- how many words that are no terms are awaited behind several roots
abbrev pub awaited_after : ℕ → List BodyRoot → ℕ
awaited_after awaited [] = awaited
awaited_after awaited (root ∷ roots) = awaited_after (awaited_behind awaited root.content) roots

-- an address as a key, with a place that doesn't matter
abbrev pub keyed : ℕ → ℕ × ℕ
keyed address = (address, 0)

-- between two states of the sink the addresses were appended to which the slots among these roots refer
pub record TakesSlots (old new : SlotSink) (roots : List BodyRoot) : Type 0 where
  pub awaited : new.awaited ≡ awaited_after old.awaited roots
  pub slots : new.slots.items ≡ old.slots.items ++ map keyed (slots_before old.awaited roots)

-- ---- a heap

-- whether an address is one of the keys
abbrev pub is_slot : List (ℕ × ℕ) → ℕ → Bool
is_slot slots address = is_some (place_by nat_cmp address slots)

-- these are the keys of addresses, as far as looking them up goes
pub record AreSlots (addresses : List ℕ) (slots : List (ℕ × ℕ)) : Type 0 where
  pub each : (address : ℕ) → is_slot slots address ≡ list_any (λ a. a == address) addresses

-- the words of the reference that the line with an address and a text is, if a slot refers to it
abbrev pub led_words : Enc → List (ℕ × ℕ) → ℕ × List ℕ → Option (List ℕ)
led_words enc slots led = if is_slot slots led.0 then words_of enc (form_of enc led.1) else None

-- the words of the reference that the line with a text is, if a slot refers to it
abbrev pub text_words : Enc → List (ℕ × ℕ) → List ℕ → Option (List ℕ)
text_words enc slots text = option_and_then (led_words enc slots) (led_of text)

-- the words of the reference that a line is, from what is heard of it
abbrev pub line_words : Enc → List (ℕ × ℕ) → CutLine → Option (List ℕ)
line_words enc slots line = text_words enc slots (text_of line.front)

-- the words of all references that are held among lines
abbrev pub words_among : Enc → List (ℕ × ℕ) → List CutLine → List (List ℕ)
words_among enc slots lines = filter_map (line_words enc slots) lines

-- how many requests stand before the first that is found, if there are also these words to be found
abbrev pub before_with : List Request → ℕ → Option (List ℕ) → ℕ
before_with requests first None = first
before_with requests first (Some words) = min first (before_words requests words)

-- how many requests stand before the first that is found, if there are also all these to be found
abbrev pub before_among : List Request → ℕ → List (List ℕ) → ℕ
before_among requests first [] = first
before_among requests first (words ∷ helds) = before_among requests (before_with requests first (Some words)) helds

-- how many requests stand before the first that is found, once the sink has heard the lines of these bytes
abbrev pub before_lines : HeapSink → ℕ → List ℕ → ℕ
before_lines sink at bytes = before_among sink.asked.now sink.first (words_among sink.enc sink.slots.now (cut_lines 4134 at bytes))

-- the sink goes on with the same slots and requests
pub record KeepsAsked (old new : HeapSink) : Type 0 where
  pub enc : new.enc ≡ old.enc
  pub slots : new.slots.now ≡ old.slots.now
  pub asked : new.asked.now ≡ old.asked.now

-- between two states of the sink these words were looked up, if there are any
pub record LooksUp (old new : HeapSink) (words : Option (List ℕ)) : Type 0 where
  pub keeps : KeepsAsked old new
  pub first : new.first ≡ before_with old.asked.now old.first words

-- between two states of the sink the first line of a run was heard, which has n bytes: what is
-- found among all lines is found among the others now
pub record HearsFirst (old new : HeapSink) (run : List ℕ) (n : ℕ) : Type 0 where
  pub keeps : KeepsAsked old new
  pub rest : (at : ℕ) → before_lines new (at + n) (drop n run) ≡ before_lines old at run

-- between two states of the sink, which looks for the first request that is held, the references
-- among these lines were looked up
pub record TakesLines (old new : HeapSink) (lines : List CutLine) : Type 0 where
  pub keeps : KeepsAsked old new
  pub first : new.first ≡ before_among old.asked.now old.first (words_among old.enc old.slots.now lines)
