-- A body is heard piece by piece.
use Rattle.std.proofs.Common.{◌≡◌, ℕ, ◌+◌, ◌-◌, ◌≤◌, List, [], ◌++◌, length, take, drop, sym, ◌∙◌, ap, append_assoc, append-nil, arith, length-append}
use Rattle.std.specs.Prelude.{min, ◌≢◌}
use Rattle.std.specs.List.{between}
use Rattle.std.proofs.lemmas.List.{drop-drop, drop-take, length-drop, length-take-le, take_all, take-append-le}
use Rattle.std.proofs.lemmas.Grind.{common_steps}
use Rattle.std.proofs.lemmas.List.Elements.{All-nil}
use Rattle.dump_io.specs.Dumps.{Now, told}
use Rattle.dump_io.specs.Laws.Reads.{take-two}
use Rattle.dump_io.specs.Lines.{lf}
use Rattle.body_lines.specs.Lines.{AreWhole}
use Rattle.body_lines.specs.Laws.{AreWhole-none, AreWhole-then}
use Rattle.body_lines.specs.Hearing.{Hears, StopsAmong, HearsBody, HearsFront, StopsFront}
use Rattle.body_lines.specs.Inner.Pieces.{IsOpenLine, Takes, StopsWithin}
use Rattle.body_lines.proofs.Hearings.{Joins, Hears-none, Hears-then, Hears-as, Stops-then}

pub between-split : (dump : List ℕ) (at mid upto : ℕ) → at ≤ mid → mid ≤ upto → between at upto dump ≡ between at mid dump ++ between mid upto dump
between-split dump at mid upto low high =
    let size : upto - at ≡ (mid - at) + (upto - mid) = omega (arith, low, high) in
    let start : at + (mid - at) ≡ mid = omega (arith, low) in
    ap (λ n. take n (drop at dump)) size ∙ take-two (mid - at) (upto - mid) (drop at dump)
    ∙ ap (λ l. take (mid - at) (drop at dump) ++ take (upto - mid) l) (drop-drop (mid - at) at dump ∙ ap (λ n. drop n dump) start)

pub between-none : (dump : List ℕ) (at upto : ℕ) → upto ≤ at → between at upto dump ≡ []
between-none dump at upto past = let size : upto - at ≡ 0 = omega (arith, past) in ap (λ n. take n (drop at dump)) size

-- the bytes between two offsets were read: whole lines, which were heard, and those of the line that is open
pub record HasRead {S L : Type 0} (hears : S → S → List L → Type 0) (lines_of : ℕ → List ℕ → List L) (old new : S) (now : Now) (kept from line at : ℕ) (buffer : List ℕ) : Type 0 where
  pub done : List ℕ
  pub front : List ℕ
  pub read : (dump : List ℕ) → now ≡ told dump → between from at dump ≡ done ++ front
  pub whole : AreWhole done
  pub place : from + length done ≡ line
  pub is_open : IsOpenLine kept line at (take (min kept (at - line)) buffer) front
  pub heard : Hears hears old new (lines_of from done)

module _ {S L : Type 0} (hears : S → S → List L → Type 0) (lines_of : ℕ → List ℕ → List L) (joins : Joins lines_of) (now : Now) (kept from : ℕ) where
  -- nothing was read yet
  pub HasRead-none : (a : S) (buffer : List ℕ) → HasRead hears lines_of a a now kept from from from buffer
  HasRead-none a buffer = record {
    done = [];
    front = [];
    read = λ dump is. between-none dump from from (omega arith);
    whole = AreWhole-none;
    place = omega arith;
    is_open = record {
      free = All-nil (λ c. c ≢ lf);
      place = omega arith;
      front = (let e : min kept (from - from) ≡ 0 = omega arith in ap (λ n. take n buffer) e ∙ sym (take_all kept [] (omega arith)));
    };
    heard = Hears-as hears a a [] (lines_of from []) (sym (joins.none from)) (Hears-none hears a);
  }

  -- what is kept of the open line stands in another buffer too
  pub HasRead-same : (a b : S) (line at : ℕ) (buffer other : List ℕ) → take (min kept (at - line)) other ≡ take (min kept (at - line)) buffer
      → HasRead hears lines_of a b now kept from line at buffer → HasRead hears lines_of a b now kept from line at other
  HasRead-same a b line at buffer other same read = record {
    done = read.done;
    front = read.front;
    read = read.read;
    whole = read.whole;
    place = read.place;
    is_open = record { free = read.is_open.free; place = read.is_open.place; front = same ∙ read.is_open.front };
    heard = read.heard;
  }

  -- one piece more
  pub HasRead-more : (a b c : S) (line at next count : ℕ) (buffer fresh after : List ℕ) (read : HasRead hears lines_of a b now kept from line at buffer)
      → ((dump : List ℕ) → now ≡ told dump → fresh ≡ between at (at + count) dump) → length fresh ≡ count
      → Takes hears lines_of b c kept line (read.front ++ fresh) next after → HasRead hears lines_of a c now kept from next (at + count) after
  HasRead-more a b c line at next count buffer fresh after read piece size takes =
      let grown : length (read.done ++ takes.done) ≡ length read.done + length takes.done = length-append read.done takes.done in
      let total : length (read.front ++ fresh) ≡ length read.front + length fresh = length-append read.front fresh in
      let both : length (read.front ++ fresh) ≡ length takes.done + length takes.left = ap length takes.parts ∙ length-append takes.done takes.left in
      let left : next + length takes.left ≡ at + count = omega (arith, takes.place, read.is_open.place, total, both, size) in
      let few : at + count - next ≡ length takes.left = omega (arith, left) in
      let past : from ≤ at = omega (arith, read.place, read.is_open.place) in
      let joined : lines_of from read.done ++ lines_of line takes.done ≡ lines_of from (read.done ++ takes.done) =
      sym (joins.whole from read.done takes.done read.whole ∙ ap (λ n. lines_of from read.done ++ lines_of n takes.done) read.place) in
      record {
        done = read.done ++ takes.done;
        front = takes.left;
        read = λ dump is.
            between-split dump from at (at + count) past (omega arith)
            ∙ ap (λ l. l ++ between at (at + count) dump) (read.read dump is)
            ∙ ap (λ l. (read.done ++ read.front) ++ l) (sym (piece dump is))
            ∙ append_assoc read.done read.front fresh
            ∙ ap (λ l. read.done ++ l) takes.parts
            ∙ sym (append_assoc read.done takes.done takes.left);
        whole = AreWhole-then read.done takes.done read.whole takes.whole;
        place = omega (arith, grown, read.place, takes.place);
        is_open = record {
          free = takes.free;
          place = left;
          front = ap (λ n. take (min kept n) after) few ∙ takes.front;
        };
        heard = Hears-as hears a c (lines_of from read.done ++ lines_of line takes.done) (lines_of from (read.done ++ takes.done)) joined
            (Hears-then hears a b c (lines_of from read.done) (lines_of line takes.done) read.heard takes.heard);
      }

  -- all lines but the open one were heard
  rest-lines : (a b : S) (line at : ℕ) (buffer more : List ℕ) (read : HasRead hears lines_of a b now kept from line at buffer)
      → lines_of from ((read.done ++ read.front) ++ more) ≡ lines_of from read.done ++ lines_of line (read.front ++ more)
  rest-lines a b line at buffer more read =
      ap (lines_of from) (append_assoc read.done read.front more)
      ∙ joins.whole from read.done (read.front ++ more) read.whole
      ∙ ap (λ n. lines_of from read.done ++ lines_of n (read.front ++ more)) read.place

  body-lines : (a b : S) (line at upto : ℕ) (buffer : List ℕ) (read : HasRead hears lines_of a b now kept from line at buffer) → at ≤ upto → (dump : List ℕ) → now ≡ told dump
      → lines_of from (between from upto dump) ≡ lines_of from read.done ++ lines_of line (read.front ++ between at upto dump)
  body-lines a b line at upto buffer read high dump is =
      let past : from ≤ at = omega (arith, read.place, read.is_open.place) in
      ap (lines_of from) (between-split dump from at upto past high ∙ ap (λ l. l ++ between at upto dump) (read.read dump is))
      ∙ rest-lines a b line at buffer (between at upto dump) read

  -- the device failed
  pub HearsFront-read : (a b : S) (line at upto : ℕ) (buffer : List ℕ) → HasRead hears lines_of a b now kept from line at buffer → at ≤ upto → HearsFront hears lines_of a b from upto now
  HearsFront-read a b line at upto buffer read high = record {
    lines = lines_of from read.done;
    heard = read.heard;
    are = λ dump is. (lines_of line (read.front ++ between at upto dump), body-lines a b line at upto buffer read high dump is);
  }

  -- the open line was heard too
  pub HearsBody-last : (a b c : S) (line upto : ℕ) (buffer : List ℕ) (read : HasRead hears lines_of a b now kept from line upto buffer) → Hears hears b c (lines_of line read.front)
      → HearsBody hears lines_of a c from upto now
  HearsBody-last a b c line upto buffer read heard = record {
    lines = lines_of from read.done ++ lines_of line read.front;
    heard = Hears-then hears a b c (lines_of from read.done) (lines_of line read.front) read.heard heard;
    are = λ dump is.
        sym (body-lines a b line upto upto buffer read (omega arith) dump is
        ∙ ap (λ l. lines_of from read.done ++ lines_of line (read.front ++ l)) (between-none dump upto upto (omega arith))
        ∙ ap (λ l. lines_of from read.done ++ lines_of line l) (append-nil read.front));
  }

  module _ {T : Type 0} (stops : S → S → List L → T → Type 0) where
    -- it stopped in a piece
    pub StopsFront-piece : (a b c : S) (line at upto count : ℕ) (buffer fresh : List ℕ) (stop : T) (read : HasRead hears lines_of a b now kept from line at buffer) → at + count ≤ upto
        → ((dump : List ℕ) → now ≡ told dump → fresh ≡ between at (at + count) dump)
        → StopsWithin hears stops lines_of b c line (read.front ++ fresh) stop → StopsFront hears stops lines_of a c from upto now stop
    StopsFront-piece a b c line at upto count buffer fresh stop read high piece within = record {
      lines = lines_of from read.done ++ within.lines;
      stopped = Stops-then hears stops a b c (lines_of from read.done) within.lines stop read.heard within.stopped;
      are = λ dump is.
          let more = between (at + count) upto dump in
          let rest = within.among more in (
            rest.0,
            body-lines a b line at upto buffer read (omega (arith, high)) dump is
                ∙ ap (λ l. lines_of from read.done ++ lines_of line (read.front ++ l)) (between-split dump at (at + count) upto (omega arith) high)
                ∙ ap (λ l. lines_of from read.done ++ lines_of line (read.front ++ (l ++ more))) (sym (piece dump is))
                ∙ ap (λ l. lines_of from read.done ++ lines_of line l) (sym (append_assoc read.front fresh more))
                ∙ ap (λ l. lines_of from read.done ++ l) rest.1
                ∙ sym (append_assoc (lines_of from read.done) within.lines rest.0),
          );
    }

    -- it stopped at the last line
    pub StopsFront-last : (a b c : S) (line upto : ℕ) (buffer : List ℕ) (stop : T) (read : HasRead hears lines_of a b now kept from line upto buffer)
        → StopsAmong hears stops b c (lines_of line read.front) stop → StopsFront hears stops lines_of a c from upto now stop
    StopsFront-last a b c line upto buffer stop read among = record {
      lines = lines_of from read.done ++ among.heard;
      stopped = Stops-then hears stops a b c (lines_of from read.done) among.heard stop read.heard among.stopped;
      are = λ dump is. (
        among.rest,
        body-lines a b line upto upto buffer read (omega arith) dump is
            ∙ ap (λ l. lines_of from read.done ++ lines_of line (read.front ++ l)) (between-none dump upto upto (omega arith))
            ∙ ap (λ l. lines_of from read.done ++ lines_of line l) (append-nil read.front)
            ∙ ap (λ l. lines_of from read.done ++ l) among.parts
            ∙ sym (append_assoc (lines_of from read.done) among.heard among.rest),
      );
    }

-- a piece was read behind what is kept of the open line
module _ {S L : Type 0} (hears : S → S → List L → Type 0) (lines_of : ℕ → List ℕ → List L) (joins : Joins lines_of) (now : Now) (kept from : ℕ) (a b : S) (line at count k : ℕ) (old new : List ℕ)
    (same : k ≡ min kept (at - line)) (fits : k + count ≤ length new) (keeps : take k new ≡ take k old)
    (piece : (dump : List ℕ) → now ≡ told dump → take count (drop k new) ≡ between at (at + count) dump)
    (read : HasRead hears lines_of a b now kept from line at old) where
  abbrev bytes : List ℕ
  bytes = take (k + count) new

  abbrev fresh : List ℕ
  fresh = drop (min kept (at - line)) bytes

  fresh-is : fresh ≡ take count (drop k new)
  fresh-is = ap (λ n. drop n bytes) (sym same) ∙ drop-take k count new

  fresh-size : length fresh ≡ count
  fresh-size = ap length fresh-is ∙ length-take-le count (drop k new) (omega (arith, fits, length-drop k new))

  front-same : take (min kept (at - line)) bytes ≡ take (min kept (at - line)) old
  front-same =
      let inner : take k (take (k + count) new) ≡ take k new = grind (arith, common_steps) in
      ap (λ n. take n bytes) (sym same) ∙ inner ∙ keeps ∙ ap (λ n. take n old) same

  abbrev reread : HasRead hears lines_of a b now kept from line at bytes
  reread = HasRead-same hears lines_of joins now kept from a b line at old bytes front-same read

  fresh-read : (dump : List ℕ) → now ≡ told dump → fresh ≡ between at (at + count) dump
  fresh-read dump is = fresh-is ∙ piece dump is

  -- its lines were heard
  pub HasRead-piece : (c : S) (next : ℕ) (after tail : List ℕ) → length after ≡ length bytes
      → ((front : List ℕ) → IsOpenLine kept line at (take (min kept (at - line)) bytes) front → Takes hears lines_of b c kept line (front ++ drop (min kept (at - line)) bytes) next after)
      → HasRead hears lines_of a c now kept from next (at + count) (after ++ tail)
  HasRead-piece c next after tail long takes =
      let one = HasRead-more hears lines_of joins now kept from a b c line at next count bytes fresh after reread fresh-read fresh-size (takes reread.front reread.is_open) in
      let took = takes reread.front reread.is_open in
      let all : length bytes ≡ k + count = length-take-le (k + count) new fits in
      let parts : length (reread.front ++ fresh) ≡ length took.done + length took.left = ap length took.parts ∙ length-append took.done took.left in
      let whole : length (reread.front ++ fresh) ≡ length reread.front + length fresh = length-append reread.front fresh in
      let few : min kept (at + count - next) ≤ length after = omega (arith, long, all, parts, whole, fresh-size, took.place, reread.is_open.place, same) in
      HasRead-same hears lines_of joins now kept from a c next (at + count) after (after ++ tail) (take-append-le (min kept (at + count - next)) after tail few) one

  -- its lines were heard, and what is open stands in this buffer
  pub HasRead-after : (c : S) (next : ℕ) (after : List ℕ)
      → ((front : List ℕ) → IsOpenLine kept line at (take (min kept (at - line)) bytes) front → Takes hears lines_of b c kept line (front ++ drop (min kept (at - line)) bytes) next after)
      → HasRead hears lines_of a c now kept from next (at + count) after
  HasRead-after c next after takes =
      HasRead-more hears lines_of joins now kept from a b c line at next count bytes fresh after reread fresh-read fresh-size (takes reread.front reread.is_open)

  -- the sink stopped
  pub StopsFront-fresh : {T : Type 0} (stops : S → S → List L → T → Type 0) (c : S) (upto : ℕ) (stop : T) → at + count ≤ upto
      → ((front : List ℕ) → IsOpenLine kept line at (take (min kept (at - line)) bytes) front → StopsWithin hears stops lines_of b c line (front ++ drop (min kept (at - line)) bytes) stop)
      → StopsFront hears stops lines_of a c from upto now stop
  StopsFront-fresh stops c upto stop high within =
      StopsFront-piece hears lines_of joins now kept from stops a b c line at upto count bytes fresh stop reread high fresh-read (within reread.front reread.is_open)
