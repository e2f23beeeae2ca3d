-- What is heard of the lines of a heap.
use Rattle.std.proofs.Common.{◌≡◌, ℕ, List, [], length, refl, sym, ◌∙◌, ap, ap₂, subst}
use Rattle.std.specs.Prelude.{Result, Ok, Err, OnOk, IfErr, Option}
use Rattle.std.specs.List.{between}
use Rattle.std.proofs.lemmas.List.Elements.{filter_map-append}
use Rattle.body_lines.specs.Hearing.{Hears, HearsBody, StopsAmong}
use Rattle.body_lines.specs.Lines.{lines_at}
use Rattle.dump_io.specs.Dumps.{Now}
use Rattle.dump_io.specs.Lines.{Line}
use Rattle.dump_sections.specs.Bodies.{body_in, body_start}
use Rattle.dump_sections.specs.Sections.{Section}
use Rattle.heap_skeleton.specs.declared.heap_sink.HeapSink.{HeapSink}
use Rattle.heap_skeleton.specs.Inner.Hearing.{TakesLines, HearsSection, HoldsSections, section_lines}
use Rattle.heap_graph.specs.Held.{heap_line_of, heap_lines, Gains, IsHeld}
use Rattle.heap_graph.specs.Laws.Gains.{Gains-none, Gains-then, IsHeld-then, length-parts}

-- what a sink has heard
hears-takes : (old new : HeapSink) (lines : List Line) → TakesLines old new lines → Hears TakesLines old new lines
hears-takes old new lines took = record {
  later = λ first earlier had. record {
    enc = took.enc ∙ had.enc;
    gains =
        subst (Gains first.held new.held) (sym (filter_map-append (heap_line_of first.enc) earlier lines))
        (Gains-then first.held old.held new.held (heap_lines first.enc earlier) (heap_lines first.enc lines) had.gains
        (subst (λ e. Gains old.held new.held (heap_lines e lines)) had.enc took.gains));
  };
}

TakesLines-none : (a : HeapSink) → TakesLines a a []
TakesLines-none a = record { enc = refl; gains = Gains-none a.held }

-- a sink that gathered the heap lines of a run has heard its lines
pub run-hears : {E : Type 0} (r : Result (Unit {0}) E) (old new : HeapSink) (at : ℕ) (run : List ℕ) → new.enc ≡ old.enc
    → OnOk r (Gains old.held new.held (heap_lines old.enc (lines_at at run))) → OnOk r (Hears TakesLines old new (lines_at at run))
run-hears (Ok u) old new at run enc gains = hears-takes old new (lines_at at run) (record { enc = enc; gains = gains })
run-hears (Err e) old new at run enc gains = tt

-- whatever it has heard when it stops
pub run-stops : {E : Type 0} (r : Result (Unit {0}) E) (old new : HeapSink) (lines : List Line)
    → IfErr r (StopsAmong {T = E} TakesLines (λ _ _ _ _. Unit {0}) old new lines)
run-stops (Ok u) old new lines = tt
run-stops (Err e) old new lines = record { heard = []; rest = lines; parts = refl; stopped = record { later = λ first earlier had. tt } }

-- what a sink heard of the body of a section
pub section-hears : (old new : HeapSink) (now : Now) (from upto : ℕ) (found : Option Section) → from ≡ body_start found → ((dump : List ℕ) → between from upto dump ≡ body_in dump found)
    → HearsBody TakesLines lines_at old new from upto now → HearsSection old new now found
section-hears old new now from upto found start body heard =
    let took = heard.heard.later old [] (TakesLines-none old) in
    record {
      enc = took.enc;
      lines = heap_lines old.enc heard.lines;
      gains = took.gains;
      are = λ dump is. ap (heap_lines old.enc) (heard.are dump is ∙ ap₂ lines_at start (body dump));
    }

-- both sections
pub sections-hold : (first mid last : HeapSink) (now now' : Now) (heap literals : Option Section) (own : ℕ) → IsHeld [] first.held → now' ≡ now → HearsSection first mid now heap
    → HearsSection mid last now' literals → own ≡ length mid.held.parts.items → HoldsSections first.enc now heap literals last.held own
sections-hold first mid last now now' heap literals own empty same one other count =
    let held = IsHeld-then first.held mid.held [] one.lines empty one.gains in
    record {
      heap_lines = one.lines;
      literal_lines = other.lines;
      held_is = IsHeld-then mid.held last.held one.lines other.lines held other.gains;
      own_is = count ∙ ap length held.parts ∙ length-parts mid.held.elements 0 one.lines;
      heap_are = one.are;
      literals_are = λ dump is. other.are dump (same ∙ is) ∙ ap (λ e. section_lines e dump literals) one.enc;
    }
