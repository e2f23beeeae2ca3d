-- The frames that are taken of the lines of a stack.
use Rattle.std.proofs.Common.{◌≡◌, ℕ, ◌+◌, Bool, true, false, cond, List, [], ◌∷◌, ◌++◌, length, take, drop, map, filter, Option, None, Some, if◌then◌else◌, refl, sym, ◌∙◌, ap, subst, arith, append_assoc, append-nil, length-append}
use Rattle.std.specs.Prelude.{◌&&◌, nat_eq, nat_lt, codes, option_map, Result, Ok, Err, OnOk, IfErr}
use Rattle.std.specs.List.{cons_option, filter_map, flat_map, starts_with}
use Rattle.std.proofs.lemmas.Bool.{ltb-false}
use Rattle.std.proofs.lemmas.Grind.{flat_map-append}
use Rattle.std.proofs.lemmas.List.{take-append-le, take_all}
use Rattle.std.proofs.lemmas.List.Elements.{filter_map-append}
use Rattle.dump_io.specs.Colons.{after_colon, before_colon, has_colon}
use Rattle.dump_io.specs.Lines.{Line, lines_from, raw_lines, text_of}
use Rattle.body_lines.specs.Hearing.{Hears, Stops, StopsAmong}
use Rattle.body_lines.specs.Lines.{lines_at}
use Rattle.field_lines.specs.Lines.{TextLine, text_line}
use Rattle.term_forms.specs.Elements.{Element}
use Rattle.term_forms.specs.Reading.{whole_of}
use Rattle.root_views.specs.Roots.{BodyRoot, Info, Term, has_text, labelled, stack_root}
use Rattle.text_groups.specs.Cut.{cut_text}
use Rattle.process_stacks.specs.Frames.{info_in, infos}
use Rattle.process_stacks.specs.Places.{place_line}
use Rattle.process_stacks.specs.Inner.Hearing.{frame_lines, info_of, line_infos, raw_info, raw_infos, StopsAt, StopsTaking, StopsWithin, Takes, TakesLines}
use Rattle.process_stacks.specs.Inner.Reading.{HasFrames}
use Rattle.process_stacks.specs.declared.frame_sink.FrameSink.{FrameSink}
use Rattle.process_stacks.specs.declared.frame_sink.Stop.{Stop}
use Rattle.process_stacks.specs.declared.frame_sink.Stop.TheVariants.{Full, NoMemory}

-- ---- what is taken in several calls

pub Takes-none : (s : FrameSink) → Takes s s []
Takes-none s = record { left = omega arith; lines = sym (append-nil s.lines.items) }

pub Takes-as : (a b : FrameSink) (xs ys : List (List ℕ)) → xs ≡ ys → Takes a b xs → Takes a b ys
Takes-as a b xs ys same took = subst (Takes a b) same took

pub Takes-then : (a b c : FrameSink) (xs ys : List (List ℕ)) → Takes a b xs → Takes b c ys → Takes a c (xs ++ ys)
Takes-then a b c xs ys one two = record {
  left = omega (arith, one.left, two.left, length-append xs ys);
  lines =
      two.lines ∙ ap (λ l. l ++ frame_lines ys) one.lines ∙ append_assoc a.lines.items (frame_lines xs) (frame_lines ys)
      ∙ ap (λ l. a.lines.items ++ l) (sym (flat_map-append (λ text. place_line (codes "frame") (cut_text text)) xs ys));
}

pub StopsTaking-then : (a b c : FrameSink) (xs ys : List (List ℕ)) (stop : Stop) → Takes a b xs → StopsTaking b c ys stop → StopsTaking a c (xs ++ ys) stop
StopsTaking-then a b c xs ys Full one two = (Takes-then a b c xs ys one two.0, two.1)
StopsTaking-then a b c xs ys NoMemory one two = tt

-- ---- the raw lines of a run

-- the infos of the lines in front of a rest of a run were taken
pub record TookFront (old new : FrameSink) (run rest : List ℕ) : Type 0 where
  pub heard : List (List ℕ)
  pub parts : raw_lines run ≡ heard ++ raw_lines rest
  pub takes : Takes old new (raw_infos heard)

pub TookFront-none : (s : FrameSink) (run : List ℕ) → TookFront s s run run
TookFront-none s run = record { heard = []; parts = refl; takes = Takes-none s }

front-more : (run rest raw behind : List ℕ) (heard : List (List ℕ)) → raw_lines run ≡ heard ++ raw_lines rest → raw_lines rest ≡ raw ∷ raw_lines behind
    → raw_lines run ≡ (heard ++ raw ∷ []) ++ raw_lines behind
front-more run rest raw behind heard parts first = parts ∙ ap (λ l. heard ++ l) first ∙ sym (append_assoc heard (raw ∷ []) (raw_lines behind))

pub TookFront-more : (a b c : FrameSink) (run rest raw behind : List ℕ) → raw_lines rest ≡ raw ∷ raw_lines behind → TookFront a b run rest → Takes b c (raw_infos (raw ∷ []))
    → TookFront a c run behind
TookFront-more a b c run rest raw behind first so_far one = record {
  heard = so_far.heard ++ raw ∷ [];
  parts = front-more run rest raw behind so_far.heard so_far.parts first;
  takes = Takes-as a c (raw_infos so_far.heard ++ raw_infos (raw ∷ [])) (raw_infos (so_far.heard ++ raw ∷ [])) (sym (filter_map-append raw_info so_far.heard (raw ∷ [])))
      (Takes-then a b c (raw_infos so_far.heard) (raw_infos (raw ∷ [])) so_far.takes one);
}

pub TookFront-all : (a b : FrameSink) (run : List ℕ) → TookFront a b run [] → Takes a b (raw_infos (raw_lines run))
TookFront-all a b run so_far = Takes-as a b (raw_infos so_far.heard) (raw_infos (raw_lines run)) (ap raw_infos (sym (so_far.parts ∙ append-nil so_far.heard))) so_far.takes

pub StopsWithin-front : (a b c : FrameSink) (run rest raw behind : List ℕ) (stop : Stop) → raw_lines rest ≡ raw ∷ raw_lines behind → TookFront a b run rest
    → StopsTaking b c (raw_infos (raw ∷ [])) stop → StopsWithin a c (raw_lines run) stop
StopsWithin-front a b c run rest raw behind stop first so_far one = record {
  heard = so_far.heard ++ raw ∷ [];
  rest = raw_lines behind;
  parts = front-more run rest raw behind so_far.heard so_far.parts first;
  stopped = subst (λ l. StopsTaking a c l stop) (sym (filter_map-append raw_info so_far.heard (raw ∷ [])))
      (StopsTaking-then a b c (raw_infos so_far.heard) (raw_infos (raw ∷ [])) stop so_far.takes one);
}

-- ---- lines with their offsets

line_infos-raw : (at : ℕ) (raws : List (List ℕ)) → line_infos (lines_from at raws) ≡ raw_infos raws
line_infos-raw at [] = refl
line_infos-raw at (raw ∷ raws) = ap (cons_option (raw_info raw)) (line_infos-raw (at + length raw) raws)

lines_from-parts : (at : ℕ) (xs ys : List (List ℕ)) → (from : ℕ) × (lines_from at (xs ++ ys) ≡ lines_from at xs ++ lines_from from ys)
lines_from-parts at [] ys = (at, refl)
lines_from-parts at (x ∷ xs) ys =
    let rest = lines_from-parts (at + length x) xs ys in
    let line : Line = record { at = at; raw = x } in
    (rest.0, ap (λ l. line ∷ l) rest.1)

hears-takes : (old new : FrameSink) (lines : List Line) → TakesLines old new lines → Hears TakesLines old new lines
hears-takes old new lines took = record {
  later = λ first earlier had.
      Takes-as first new (line_infos earlier ++ line_infos lines) (line_infos (earlier ++ lines)) (sym (filter_map-append (λ (line : Line). raw_info line.raw) earlier lines))
      (Takes-then first old new (line_infos earlier) (line_infos lines) had took);
}

stops-takes : (old new : FrameSink) (lines : List Line) (stop : Stop) → StopsAt old new lines stop → Stops TakesLines StopsAt old new lines stop
stops-takes old new lines stop took = record {
  later = λ first earlier had.
      subst (λ l. StopsTaking first new l stop) (sym (filter_map-append (λ (line : Line). raw_info line.raw) earlier lines))
      (StopsTaking-then first old new (line_infos earlier) (line_infos lines) stop had took);
}

-- a sink that took the frames of a run has heard its lines
pub run-hears : (old new : FrameSink) (at : ℕ) (run : List ℕ) (r : Result (Unit {0}) Stop) → OnOk r (Takes old new (raw_infos (raw_lines run))) → OnOk r (Hears TakesLines old new (lines_at at run))
run-hears old new at run (Ok done) took = hears-takes old new (lines_at at run) (Takes-as old new (raw_infos (raw_lines run)) (line_infos (lines_at at run)) (sym (line_infos-raw at (raw_lines run))) took)
run-hears old new at run (Err stop) took = tt

pub run-stops : (old new : FrameSink) (at : ℕ) (run : List ℕ) (r : Result (Unit {0}) Stop) → IfErr r (StopsWithin old new (raw_lines run))
    → IfErr r (StopsAmong TakesLines StopsAt old new (lines_at at run))
run-stops old new at run (Ok done) stopped = tt
run-stops old new at run (Err stop) stopped =
    let parts = lines_from-parts at stopped.heard stopped.rest in
    record {
      heard = lines_from at stopped.heard;
      rest = lines_from parts.0 stopped.rest;
      parts = ap (lines_from at) stopped.parts ∙ parts.1;
      stopped = stops-takes old new (lines_from at stopped.heard) stop (subst (λ l. StopsTaking old new l stop) (sym (line_infos-raw at stopped.heard)) stopped.stopped);
    }

-- ---- the infos among the roots

labelled-info : (at : ℕ) (label info : List ℕ) (b c : Bool) (o : Option Element)
    → info_in (labelled at label (if b then (if c then Some (Info info) else option_map Term o) else None)).content ≡ (if b && c then Some info else None)
labelled-info at label info true true o = refl
labelled-info at label info true false None = refl
labelled-info at label info true false (Some e) = refl
labelled-info at label info false c o = refl

root-info : (line : TextLine) → info_in (stack_root line).content ≡ info_of line.text
root-info line =
    labelled-info line.at (before_colon line.text) (drop 1 (after_colon line.text)) (has_colon line.text) (starts_with nat_eq (after_colon line.text) (codes "S")) (whole_of (after_colon line.text))

no-text-info : (text : List ℕ) → nat_lt 0 (length text) ≡ false → info_of text ≡ None
no-text-info [] none = refl
no-text-info (c ∷ text) none = absurd (omega (arith, ltb-false 0 (length (c ∷ text)) none))

roots-raw : (at : ℕ) (raws : List (List ℕ)) → filter_map (λ (root : BodyRoot). info_in root.content) (map stack_root (filter has_text (map text_line (lines_from at raws)))) ≡ raw_infos raws
roots-raw at [] = refl
roots-raw at (raw ∷ raws) = by (has_text line) refl (roots-raw (at + length raw) raws)
  where
    line : TextLine
    line = record { at = at; text = text_of raw }

    later : List TextLine
    later = filter has_text (map text_line (lines_from (at + length raw) raws))

    root_infos : List TextLine → List (List ℕ)
    root_infos lines = filter_map (λ (root : BodyRoot). info_in root.content) (map stack_root lines)

    by : (b : Bool) → has_text line ≡ b → root_infos later ≡ raw_infos raws → root_infos (cond b (line ∷ later) later) ≡ cons_option (raw_info raw) (raw_infos raws)
    by true is rest = ap (λ o. cons_option o (root_infos later)) (root-info line) ∙ ap (cons_option (raw_info raw)) rest
    by false is rest = rest ∙ ap (λ o. cons_option o (raw_infos raws)) (sym (no-text-info (text_of raw) is))

-- the infos of a stack are those of its raw lines
pub infos-raw : (body : List ℕ) → infos body ≡ raw_infos (raw_lines body)
infos-raw body = roots-raw 0 (raw_lines body)

infos-lines : (at : ℕ) (body : List ℕ) → infos body ≡ line_infos (lines_at at body)
infos-lines at body = infos-raw body ∙ sym (line_infos-raw at (raw_lines body))

-- ---- the frames of a stack

frame_lines-cut : (texts : List (List ℕ)) → frame_lines texts ≡ flat_map (place_line (codes "frame")) (map cut_text texts)
frame_lines-cut [] = refl
frame_lines-cut (text ∷ texts) = ap (λ l. place_line (codes "frame") (cut_text text) ++ l) (frame_lines-cut texts)

has-frames : (body lines all : List ℕ) (texts : List (List ℕ)) → take 20 (infos body) ≡ texts → all ≡ lines ++ frame_lines texts → HasFrames body lines all
has-frames body lines all texts are is = record {
  appended = is ∙ ap (λ l. lines ++ l) (frame_lines-cut texts ∙ ap (λ l. flat_map (place_line (codes "frame")) (map cut_text l)) (sym are));
}

-- all lines of the stack were heard, and more frames are wanted
pub frames-all : (old new : FrameSink) (at : ℕ) (body : List ℕ) (lines : List Line) → old.left ≡ 20 → lines ≡ lines_at at body → Hears TakesLines old new lines
    → HasFrames body old.lines.items new.lines.items
frames-all old new at body lines twenty are heard =
    let took : Takes old new (line_infos lines) = heard.later old [] (Takes-none old) in
    has-frames body old.lines.items new.lines.items (line_infos lines)
    (ap (take 20) (infos-lines at body ∙ ap line_infos (sym are)) ∙ take_all 20 (line_infos lines) (omega (arith, took.left, twenty)))
    took.lines

-- no more are wanted than those of the lines that were heard
pub frames-full : (old new : FrameSink) (at : ℕ) (body : List ℕ) (lines rest : List Line) → old.left ≡ 20 → lines_at at body ≡ lines ++ rest
    → Stops TakesLines StopsAt old new lines Full → HasFrames body old.lines.items new.lines.items
frames-full old new at body lines rest twenty parts stopped =
    let took : Takes old new (line_infos lines) × (new.left ≡ 0) = stopped.later old [] (Takes-none old) in
    let count : length (line_infos lines) ≡ 20 = omega (arith, took.0.left, took.1, twenty) in
    has-frames body old.lines.items new.lines.items (line_infos lines)
    (ap (take 20) (infos-lines at body ∙ ap line_infos parts ∙ filter_map-append (λ (line : Line). raw_info line.raw) lines rest)
    ∙ take-append-le 20 (line_infos lines) (line_infos rest) (omega (arith, count)) ∙ take_all 20 (line_infos lines) (omega (arith, count)))
    took.0.lines
