-- A piece whose lines are heard whole.
use Rattle.std.proofs.Common.{◌≡◌, ℕ, ◌+◌, ◌-◌, ◌≤◌, List, [], ◌++◌, length, take, drop, refl, sym, ◌∙◌, ap, subst, arith, length-append}
use Rattle.std.specs.Prelude.{min, Result, Ok, Err, IfOk}
use Rattle.std.proofs.lemmas.List.{take-append-drop, take-append-le, take_all, length-take-le, length-drop}
use Rattle.body_lines.specs.Lines.{AreWhole, HasNoLf}
use Rattle.body_lines.specs.Laws.{AreWhole-none}
use Rattle.body_lines.specs.Hearing.{Hears}
use Rattle.body_lines.specs.Inner.Pieces.{IsOpenLine, Takes, TakesPiece, StopsWithin, StopsInPiece}
use Rattle.body_lines.proofs.Hearings.{Joins, Hears-none, Hears-as}
use Rattle.body_lines.proofs.Steps.{free-append}

-- bytes without an LF in front of bytes
pub free-both : (n : ℕ) (bytes : List ℕ) → HasNoLf (take n bytes) → HasNoLf (drop n bytes) → HasNoLf bytes
free-both n bytes one two = subst HasNoLf (take-append-drop n bytes) (free-append (take n bytes) (drop n bytes) one two)

module _ {S L : Type 0} (hears : S → S → List L → Type 0) (lines_of : ℕ → List ℕ → List L) where
  -- the same lines, where as many bytes of the next line may be kept as stand in another buffer
  Takes-other : (a b : S) (few kept at next : ℕ) (bytes buffer other : List ℕ) (takes : Takes hears lines_of a b few at bytes next buffer)
      → take (min kept (length takes.left)) other ≡ take kept takes.left → Takes hears lines_of a b kept at bytes next other
  Takes-other a b few kept at next bytes buffer other takes front = record {
    done = takes.done;
    left = takes.left;
    parts = takes.parts;
    whole = takes.whole;
    free = takes.free;
    place = takes.place;
    front = front;
    heard = takes.heard;
  }

  -- of what is open all bytes are kept, so it doesn't matter how many more could be
  pub Takes-kept : (a b : S) (few kept at next : ℕ) (bytes buffer : List ℕ) → length bytes ≤ few → length bytes ≤ kept
      → Takes hears lines_of a b few at bytes next buffer → Takes hears lines_of a b kept at bytes next buffer
  Takes-kept a b few kept at next bytes buffer within enough takes =
      let parts : length bytes ≡ length takes.done + length takes.left = ap length takes.parts ∙ length-append takes.done takes.left in
      let same : min kept (length takes.left) ≡ min few (length takes.left) = omega (arith, parts, within, enough) in
      Takes-other a b few kept at next bytes buffer buffer takes
      (ap (λ n. take n buffer) same ∙ takes.front ∙ take_all few takes.left (omega (arith, parts, within)) ∙ sym (take_all kept takes.left (omega (arith, parts, enough))))

  -- the buffer goes on behind the piece
  pub Takes-longer : (a b : S) (kept at next : ℕ) (bytes buffer tail : List ℕ) → length buffer ≡ length bytes
      → Takes hears lines_of a b kept at bytes next buffer → Takes hears lines_of a b kept at bytes next (buffer ++ tail)
  Takes-longer a b kept at next bytes buffer tail size takes =
      let parts : length bytes ≡ length takes.done + length takes.left = ap length takes.parts ∙ length-append takes.done takes.left in
      Takes-other a b kept kept at next bytes buffer (buffer ++ tail) takes
      (take-append-le (min kept (length takes.left)) buffer tail (omega (arith, parts, size)) ∙ takes.front)

-- a piece in which no line ends
pub Takes-none : {S L : Type 0} (hears : S → S → List L → Type 0) (lines_of : ℕ → List ℕ → List L) → Joins lines_of → (a : S) (at : ℕ) (bytes : List ℕ) → HasNoLf bytes
    → Takes hears lines_of a a (length bytes) at bytes at bytes
Takes-none hears lines_of joins a at bytes free =
    let all : min (length bytes) (length bytes) ≡ length bytes = omega arith in
    record {
      done = [];
      left = bytes;
      parts = refl;
      whole = AreWhole-none;
      free = free;
      place = omega arith;
      front = ap (λ n. take n bytes) all;
      heard = Hears-as hears a a [] (lines_of at []) (sym (joins.none at)) (Hears-none hears a);
    }

-- the whole lines at the beginning of a piece were heard, and the bytes behind them moved
pub Takes-whole : {S L : Type 0} (hears : S → S → List L → Type 0) (lines_of : ℕ → List ℕ → List L) (a b : S) (at whole : ℕ) (bytes buffer : List ℕ) → whole ≤ length bytes
    → AreWhole (take whole bytes) → HasNoLf (drop whole bytes) → take (length bytes - whole) buffer ≡ drop whole bytes → Hears hears a b (lines_of at (take whole bytes))
    → Takes hears lines_of a b (length bytes) at bytes (at + whole) buffer
Takes-whole hears lines_of a b at whole bytes buffer within ends free moved heard =
    let size : length (take whole bytes) ≡ whole = length-take-le whole bytes within in
    let left : length (drop whole bytes) ≡ length bytes - whole = length-drop whole bytes in
    let few : min (length bytes) (length (drop whole bytes)) ≡ length bytes - whole = omega (arith, left) in
    record {
      done = take whole bytes;
      left = drop whole bytes;
      parts = sym (take-append-drop whole bytes);
      whole = ends;
      free = free;
      place = omega (arith, size);
      front = ap (λ n. take n buffer) few ∙ moved ∙ sym (take_all (length bytes) (drop whole bytes) (omega (arith, left)));
      heard = heard;
    }

-- the line that is open and the bytes behind it are the bytes of the piece
pub open-bytes : (kept line at : ℕ) (bytes front : List ℕ) → at - line ≤ kept → IsOpenLine kept line at (take (min kept (at - line)) bytes) front
    → front ++ drop (min kept (at - line)) bytes ≡ bytes
open-bytes kept line at bytes front fits is =
    let all : take kept front ≡ front = take_all kept front (omega (arith, is.place, fits)) in
    ap (λ l. l ++ drop (min kept (at - line)) bytes) (sym (is.front ∙ all)) ∙ take-append-drop (min kept (at - line)) bytes

-- the same of what is returned: the piece has as many bytes as may be kept, and the buffer goes on behind it
pub if-takes-longer : {S L T : Type 0} (hears : S → S → List L → Type 0) (lines_of : ℕ → List ℕ → List L) (a b : S) (n at : ℕ) (bytes buffer tail : List ℕ) → length bytes ≡ n
    → length buffer ≡ length bytes → (r : Result ℕ T) → IfOk r (λ next. Takes hears lines_of a b (length bytes) at bytes next buffer)
    → IfOk r (λ next. Takes hears lines_of a b n at bytes next (buffer ++ tail))
if-takes-longer hears lines_of a b n at bytes buffer tail size same (Err stop) takes = tt
if-takes-longer hears lines_of a b n at bytes buffer tail size same (Ok next) takes =
    subst (λ m. Takes hears lines_of a b m at bytes next (buffer ++ tail)) size (Takes-longer hears lines_of a b (length bytes) at next bytes buffer tail same takes)

-- what was read of the open line, all of which is kept, stands in the buffer
pub open-front : (kept line at : ℕ) (buffer front : List ℕ) → at - line ≤ kept → IsOpenLine kept line at (take (min kept (at - line)) buffer) front → take (at - line) buffer ≡ front
open-front kept line at buffer front fits is =
    let most : at - line ≡ min kept (at - line) = omega (arith, fits) in
    ap (λ n. take n buffer) most ∙ is.front ∙ take_all kept front (omega (arith, is.place, fits))

pub open-free : (kept line at : ℕ) (buffer front : List ℕ) → at - line ≤ kept → IsOpenLine kept line at (take (min kept (at - line)) buffer) front → HasNoLf (take (at - line) buffer)
open-free kept line at buffer front fits is = subst HasNoLf (sym (open-front kept line at buffer front fits is)) is.free

module _ {S L : Type 0} (hears : S → S → List L → Type 0) (lines_of : ℕ → List ℕ → List L) (kept line at : ℕ) (fits : at - line ≤ kept) (a b : S) (n : ℕ) (bytes : List ℕ) (size : length bytes ≡ n) (few : n ≤ kept) where
  -- whole lines of a piece that begins with an open line were heard
  pub takes-piece : (next : ℕ) (buffer : List ℕ) → Takes hears lines_of a b n line bytes next buffer → TakesPiece hears lines_of a b kept line at bytes next buffer
  takes-piece next buffer takes front is =
      subst (λ l. Takes hears lines_of a b kept line l next buffer) (sym (open-bytes kept line at bytes front fits is))
      (Takes-kept hears lines_of a b n kept line next bytes buffer (omega (arith, size)) (omega (arith, size, few)) takes)

  -- the sink stopped among them
  pub stops-piece : {T : Type 0} (stops : S → S → List L → T → Type 0) (stop : T) → StopsWithin hears stops lines_of a b line bytes stop → StopsInPiece hears stops lines_of a b kept line at bytes stop
  stops-piece stops stop within front is = subst (λ l. StopsWithin hears stops lines_of a b line l stop) (sym (open-bytes kept line at bytes front fits is)) within
