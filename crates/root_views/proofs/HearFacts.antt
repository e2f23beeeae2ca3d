-- What a sink takes of the roots of lines.
use Rattle.std.proofs.Common.{◌≡◌, ℕ, ◌+◌, ◌-◌, List, [], ◌∷◌, ◌++◌, length, take, drop, map, true, refl, sym, ◌∙◌, ap, ap₂, subst, append_assoc, append-nil, length-append, take-append-drop, arith}
use Rattle.std.specs.Prelude.{◌||◌, nat_le, IfErr, OnOk, Result, Ok, Err}
use Rattle.std.proofs.lemmas.Grind.{flat_map-append}
use Rattle.std.proofs.lemmas.List.{length-map}
use Rattle.dump_io.specs.Lines.{Line, lines_from, raw_lines}
use Rattle.body_lines.specs.Hearing.{Hears, StopsAmong}
use Rattle.body_lines.specs.Lines.{lines_at}
use Rattle.root_views.specs.Kinds.{roots_in}
use Rattle.root_views.specs.Roots.{BodyRoot}
use Rattle.root_views.specs.declared.kinds.RootKind.{RootKind}
use Rattle.root_views.specs.Shown.{some_of, shown_roots, SomeRoots}
use Rattle.root_views.specs.Inner.Hearing.{roots_of_lines, Takes, TakesLines, Took}
use Rattle.root_views.specs.Inner.Keeping.{all_counted_from, kept_all, kept_one}
use Rattle.root_views.specs.Placed.{placed, placed_roots}
use Rattle.root_views.specs.declared.kept_roots.KeptRoots.{KeptRoots}
use Rattle.root_views.specs.declared.root_sink.RootSink.{RootSink}
use Rattle.root_views.proofs.RunFacts.{lines-roots}
use Rattle.root_views.proofs.SomeFacts.{some-append, some-map, some-nil, some-none}

-- how many roots are kept
kept-size : (kept : KeptRoots) → length (kept_all kept) ≡ length kept.roots.items
kept-size kept = length-map kept.roots.items (kept_one kept.kind kept.lines.items)

-- ---- what is taken in several calls

pub Takes-none : (s : RootSink) → Takes s s []
Takes-none s =
    let skip = s.first - s.count in
    let most = s.most - length s.kept.roots.items in record {
      kind = refl;
      first = refl;
      most = refl;
      count = omega arith;
      kept = sym (ap (λ l. kept_all s.kept ++ l) (some-nil skip most) ∙ append-nil (kept_all s.kept));
    }

pub Takes-as : (a b : RootSink) (xs ys : List BodyRoot) → xs ≡ ys → Takes a b xs → Takes a b ys
Takes-as a b xs ys same took = subst (Takes a b) same took

pub Takes-then : (a b c : RootSink) (xs ys : List BodyRoot) → Takes a b xs → Takes b c ys → Takes a c (xs ++ ys)
Takes-then a b c xs ys one two =
    let skip = a.first - a.count in
    let most = a.most - length a.kept.roots.items in
    let mine = some_of skip most xs in
    let skip_is : b.first - b.count ≡ skip - length xs = omega (arith, one.first, one.count) in
    let most_is : b.most - length b.kept.roots.items ≡ most - length mine =
    omega (arith, one.most, kept-size a.kept, kept-size b.kept, ap length one.kept, length-append (kept_all a.kept) mine) in record {
      kind = two.kind ∙ one.kind;
      first = two.first ∙ one.first;
      most = two.most ∙ one.most;
      count = omega (arith, one.count, two.count, length-append xs ys);
      kept =
          two.kept
          ∙ ap₂ (λ l r. l ++ r) one.kept (ap₂ (λ n m. some_of n m ys) skip_is most_is)
          ∙ append_assoc (kept_all a.kept) mine (some_of (skip - length xs) (most - length mine) ys)
          ∙ ap (λ l. kept_all a.kept ++ l) (sym (some-append skip most xs ys));
    }

-- ---- one call

-- roots of which none is kept are counted
pub Takes-passed : (old new : RootSink) (roots : List BodyRoot) (n : ℕ) → new ≡ record old { count = old.count + n } → n ≡ length roots
    → (nat_le n (old.first - old.count) || nat_le (old.most - length old.kept.roots.items) 0) ≡ true → Takes old new roots
Takes-passed old new roots n is size passed =
    let skip = old.first - old.count in
    let most = old.most - length old.kept.roots.items in
    let none : some_of skip most roots ≡ [] = some-none skip most roots (ap (λ m. nat_le m skip || nat_le most 0) (sym size) ∙ passed) in record {
      kind = ap (λ (s : RootSink). s.kept.kind) is;
      first = ap (λ (s : RootSink). s.first) is;
      most = ap (λ (s : RootSink). s.most) is;
      count = ap (λ (s : RootSink). s.count) is ∙ ap (λ m. old.count + m) size;
      kept = ap (λ (s : RootSink). kept_all s.kept) is ∙ sym (ap (λ l. kept_all old.kept ++ l) none ∙ append-nil (kept_all old.kept));
    }

pub passed-takes : {E : Type 0} (old new : RootSink) (roots : List BodyRoot) (n : ℕ) (r : Result (Unit {0}) E) → n ≡ length roots
    → (nat_le n (old.first - old.count) || nat_le (old.most - length old.kept.roots.items) 0) ≡ true → OnOk r (new ≡ record old { count = old.count + n }) → OnOk r (Takes old new roots)
passed-takes old new roots n (Ok done) size passed is = Takes-passed old new roots n is size passed
passed-takes old new roots n (Err lack) size passed is = tt

-- ---- the lines of a run

-- the roots of the lines in front of a rest were taken
pub record TookFront (old new : RootSink) (at : ℕ) (run : List ℕ) (line : ℕ) (rest : List ℕ) : Type 0 where
  pub end : line + length rest ≡ at + length run
  pub roots : List BodyRoot
  pub takes : Takes old new roots
  pub parts : roots ++ roots_of_lines old.kept.kind (lines_at line rest) ≡ roots_of_lines old.kept.kind (lines_at at run)

pub TookFront-more : (a b c : RootSink) (at : ℕ) (run : List ℕ) (line : ℕ) (rest : List ℕ) (size : ℕ) → size ≡ length (take size rest)
    → raw_lines rest ≡ take size rest ∷ raw_lines (drop size rest) → TookFront a b at run line rest
    → Takes b c (placed_roots b.kept.kind line (take size rest)) → TookFront a c at run (line + size) (drop size rest)
TookFront-more a b c at run line rest size is first so_far one =
    let kind = a.kept.kind in
    let raw = take size rest in
    let behind = roots_of_lines kind (lines_at (line + size) (drop size rest)) in
    let mine : Takes b c (placed_roots kind line raw) = subst (λ k. Takes b c (placed_roots k line raw)) so_far.takes.kind one in record {
      end = omega (arith, so_far.end, is, ap length (take-append-drop size rest), length-append raw (drop size rest));
      roots = so_far.roots ++ placed_roots kind line raw;
      takes = Takes-then a b c so_far.roots (placed_roots kind line raw) so_far.takes mine;
      parts =
          append_assoc so_far.roots (placed_roots kind line raw) behind
          ∙ ap (λ m. so_far.roots ++ (placed_roots kind line raw ++ roots_of_lines kind (lines_from (line + m) (raw_lines (drop size rest))))) is
          ∙ ap (λ l. so_far.roots ++ roots_of_lines kind (lines_from line l)) (sym first)
          ∙ so_far.parts;
    }

-- how many roots the lines of a run have
pub run-size : (kind : RootKind) (at : ℕ) (run : List ℕ) (n : ℕ) → n ≡ length (roots_in kind run) → n ≡ length (roots_of_lines kind (lines_at at run))
run-size kind at run n is = is ∙ sym (ap length (lines-roots kind at run) ∙ length-map (roots_in kind run) _)

-- ---- what a sink heard

-- a sink that took the roots of lines has heard them
pub hears-takes : (old new : RootSink) (lines : List Line) → TakesLines old new lines → Hears TakesLines old new lines
hears-takes old new lines took = record {
  later = λ first earlier had.
      let kind = first.kept.kind in
      Takes-as first new (roots_of_lines kind earlier ++ roots_of_lines kind lines) (roots_of_lines kind (earlier ++ lines))
      (sym (flat_map-append (λ (line : Line). placed_roots kind line.at line.raw) earlier lines))
      (Takes-then first old new (roots_of_lines kind earlier) (roots_of_lines kind lines) had (subst (λ k. Takes old new (roots_of_lines k lines)) had.kind took));
}

pub run-hears : {E : Type 0} (old new : RootSink) (lines : List Line) (r : Result (Unit {0}) E) → OnOk r (TakesLines old new lines) → OnOk r (Hears TakesLines old new lines)
run-hears old new lines (Ok done) took = hears-takes old new lines took
run-hears old new lines (Err lack) took = tt

-- whatever it heard before it stopped
pub stops-anywhere : {S E : Type 0} (hears : S → S → List Line → Type 0) (old new : S) (lines : List Line) (r : Result (Unit {0}) E)
    → IfErr r (StopsAmong hears (λ _ _ _ _. Unit {0}) old new lines)
stops-anywhere hears old new lines (Ok done) = tt
stops-anywhere hears old new lines (Err lack) = record { heard = []; rest = lines; parts = refl; stopped = record { later = λ first earlier had. tt } }

-- of a body that was heard from the beginning it has the roots that are asked for
pub body-took : (old new : RootSink) (kind : RootKind) (first most from : ℕ) (body : List ℕ) (lines : List Line) → old.kept.kind ≡ kind → old.first ≡ first → old.most ≡ most → old.count ≡ 0
    → old.kept.roots.items ≡ [] → Hears TakesLines old new lines → lines ≡ lines_at from body → Took first most (placed_roots kind from body) new
body-took old new kind first most from body lines kind_is first_is most_is zero_is none heard are =
    let took : Takes old new (roots_of_lines old.kept.kind lines) = heard.later old [] (Takes-none old) in
    let roots : roots_of_lines old.kept.kind lines ≡ placed_roots kind from body = ap₂ roots_of_lines kind_is are ∙ lines-roots kind from body in
    let skip : old.first - old.count ≡ first = omega (arith, first_is, zero_is) in
    let room : old.most - length old.kept.roots.items ≡ most = omega (arith, most_is, ap length none) in record {
      count = omega (arith, took.count, ap length roots, zero_is);
      kept =
          took.kept
          ∙ ap₂ (λ l r. l ++ r) (ap (map (kept_one old.kept.kind old.kept.lines.items)) none) (ap₂ (λ n m. some_of n m (roots_of_lines old.kept.kind lines)) skip room ∙ ap (some_of first most) roots);
    }

-- ---- the roots that are shown

placed-back : (from : ℕ) (roots : List BodyRoot) → all_counted_from from (map (placed from) roots) ≡ roots
placed-back from [] = refl
placed-back from (root ∷ roots) = let at : from + root.at - from ≡ root.at = omega arith in ap₂ (λ n l. record root { at = n } ∷ l) at (placed-back from roots)

-- those that were taken, with their offsets counted from the beginning of the body
pub shown-is : (kind : RootKind) (first most from : ℕ) (body : List ℕ) (count : ℕ) (all : List BodyRoot) → count ≡ length (placed_roots kind from body)
    → all ≡ some_of first most (placed_roots kind from body) → record { shown = all_counted_from from all; count = count } ≡ shown_roots kind first most body
shown-is kind first most from body count all count_is all_is =
    let roots = roots_in kind body in
    let shown : all_counted_from from all ≡ some_of first most roots =
    ap (all_counted_from from) (all_is ∙ some-map (placed from) first most roots) ∙ placed-back from (some_of first most roots) in
    ap₂ shown_with shown (count_is ∙ length-map roots (placed from))
  where
    shown_with : List BodyRoot → ℕ → SomeRoots
    shown_with shown count = record { shown = shown; count = count }
