-- What is heard of the lines of cells.
use Rattle.std.proofs.Common.{◌≡◌, ℕ, List, [], ◌++◌, take, drop, map, None, Option, refl, sym, ◌∙◌, ap, ap₂, subst}
use Rattle.std.specs.Prelude.{Result, Ok, Err, IfErr}
use Rattle.std.specs.List.{between}
use Rattle.binary_payloads.specs.declared.enc.Enc.{Enc}
use Rattle.body_lines.specs.Hearing.{Hears, HearsBody, StopsAmong}
use Rattle.body_lines.specs.Lines.{lines_at}
use Rattle.dump_io.specs.Dumps.{Now}
use Rattle.dump_io.specs.Lines.{Line}
use Rattle.dump_sections.specs.Bodies.{body_in, body_start}
use Rattle.dump_sections.specs.Sections.{Section}
use Rattle.heap_skeleton.specs.Skeletons.{SkeletonMap}
use Rattle.tuple_fronts.specs.declared.front_sink.FrontSink.{FrontSink}
use Rattle.tuple_fronts.specs.declared.kept.Kept.{Kept}
use Rattle.tuple_fronts.specs.Inner.Hearing.{HearsSection, IsSplitAt, KeepsSection, KeepsSections, TakesFronts, all_known, known_of, left_behind, section_lines}
use Rattle.tuple_fronts.specs.Inner.Kept.{IsKept, Keeps}
use Rattle.tuple_fronts.proofs.KeptFacts.{Keeps-none, Keeps-then}
use Rattle.tuple_fronts.proofs.RunFacts.{known-append, left-append}

pub takes-none : (a : FrontSink) → TakesFronts a a []
takes-none a = record { skeleton = refl; enc = refl; left = refl; keeps = Keeps-none a.kept }

takes-then : (a b c : FrontSink) (xs ys : List Line) → TakesFronts a b xs → TakesFronts b c ys → TakesFronts a c (xs ++ ys)
takes-then a b c xs ys one two =
    let s = a.skeleton.now in
    let cells = a.cells.now in
    let same : b.skeleton.now ≡ s = ap (λ k. k.now) one.skeleton in
    let left : left_behind b.skeleton.now ys b.cells.now ≡ left_behind s ys (left_behind s xs cells) =
    ap (λ k. left_behind k ys b.cells.now) same ∙ ap (left_behind s ys) one.left in
    let known : known_of b.skeleton.now b.enc ys b.cells.now ≡ known_of s a.enc ys (left_behind s xs cells) =
    ap (λ k. known_of k b.enc ys b.cells.now) same ∙ ap (λ e. known_of s e ys b.cells.now) one.enc ∙ ap (known_of s a.enc ys) one.left in
    record {
      skeleton = two.skeleton ∙ one.skeleton;
      enc = two.enc ∙ one.enc;
      left = two.left ∙ left ∙ sym (left-append s xs ys cells);
      keeps =
          subst (Keeps a.kept c.kept) (sym (known-append s a.enc xs ys cells))
          (Keeps-then a.kept b.kept c.kept (known_of s a.enc xs cells) (known_of s a.enc ys (left_behind s xs cells)) one.keeps (subst (Keeps b.kept c.kept) known two.keeps));
    }

pub hears-takes : (old new : FrontSink) (lines : List Line) → TakesFronts old new lines → Hears TakesFronts old new lines
hears-takes old new lines took = record { later = λ first earlier had. takes-then first old new earlier lines had took }

-- whatever it has heard when it stops
pub run-stops : {E : Type 0} (r : Result (Unit {0}) E) (old new : FrontSink) (lines : List Line)
    → IfErr r (StopsAmong {T = E} TakesFronts (λ _ _ _ _. Unit {0}) old new lines)
run-stops (Ok u) old new lines = tt
run-stops (Err e) old new lines = record { heard = []; rest = lines; parts = refl; stopped = record { later = λ first earlier had. tt } }

-- what a sink heard of the body of a section
pub section-hears : (old new : FrontSink) (now : Now) (from upto : ℕ) (found : Option Section) → from ≡ body_start found → ((dump : List ℕ) → between from upto dump ≡ body_in dump found)
    → HearsBody TakesFronts lines_at old new from upto now → HearsSection old new now found
section-hears old new now from upto found start body heard = record {
  lines = heard.lines;
  takes = heard.heard.later old [] (takes-none old);
  are = λ dump is. heard.are dump is ∙ ap₂ lines_at start (body dump);
}

-- fronts of all cells are kept, also of those whose lines weren't found
pub section-keeps : (first last : FrontSink) (new : Kept) (now : Now) (found : Option Section) (cells : List ℕ) → first.cells.now ≡ cells → HearsSection first last now found
    → Keeps last.kept new (map (λ cell. None) last.cells.now) → KeepsSection first.skeleton.now first.enc now found cells first.kept new
section-keeps first last new now found cells are heard none =
    let s = first.skeleton.now in
    let lines = heard.lines in
    let known : known_of s first.enc lines first.cells.now ≡ known_of s first.enc lines cells = ap (known_of s first.enc lines) are in
    let left : last.cells.now ≡ left_behind s lines cells = heard.takes.left ∙ ap (left_behind s lines) are in
    record {
      lines = lines;
      keeps =
          Keeps-then first.kept last.kept new (known_of s first.enc lines cells) (map (λ cell. None) (left_behind s lines cells))
          (subst (Keeps first.kept last.kept) known heard.takes.keeps) (subst (λ l. Keeps last.kept new (map (λ cell. None) l)) left none);
      are = heard.are;
    }

-- both sections
pub sections-keep : (most : ℕ) (s : SkeletonMap) (enc : Enc) (now now' : Now) (heap literals : Option Section) (cells own others : List ℕ) (count : ℕ) (none mid last : Kept) → IsSplitAt s.own cells count
    → own ≡ take count cells → others ≡ drop count cells → now' ≡ now → none.most ≡ most → IsKept [] none → KeepsSection s enc now heap own none mid → KeepsSection s enc now' literals others mid last
    → KeepsSections most s enc now heap literals cells last
sections-keep most s enc now now' heap literals cells own others count none mid last split own_are others_are same most_is empty one two =
    let first = one.keeps.later [] empty in
    let both = two.keeps.later (all_known s enc one.lines own) first in
    record {
      heap_lines = one.lines;
      literal_lines = two.lines;
      count = count;
      split = split;
      most_is = two.keeps.most ∙ one.keeps.most ∙ most_is;
      is =
          subst (λ l. IsKept (all_known s enc one.lines (take count cells) ++ all_known s enc two.lines l) last) others_are
          (subst (λ l. IsKept (all_known s enc one.lines l ++ all_known s enc two.lines others) last) own_are both);
      heap_are = one.are;
      literals_are = subst (λ n. Rattle.dump_io.specs.Dumps.IfTold n (λ dump. two.lines ≡ section_lines dump literals)) same two.are;
    }

-- vectors with the same items keep the same
pub sections-same : (most : ℕ) (s : SkeletonMap) (enc : Enc) (now : Now) (heap literals : Option Section) (cells : List ℕ) (old new : Kept) → new.texts.items ≡ old.texts.items → new.ends.items ≡ old.ends.items
    → new.lasts.items ≡ old.lasts.items → new.most ≡ old.most → KeepsSections most s enc now heap literals cells old → KeepsSections most s enc now heap literals cells new
sections-same most s enc now heap literals cells old new texts ends lasts same keeps = record {
  heap_lines = keeps.heap_lines;
  literal_lines = keeps.literal_lines;
  count = keeps.count;
  split = keeps.split;
  most_is = same ∙ keeps.most_is;
  is = record { fronts = keeps.is.fronts; holds = rw texts (rw ends (rw lasts keeps.is.holds)); are = rw same keeps.is.are };
  heap_are = keeps.heap_are;
  literals_are = keeps.literals_are;
}
