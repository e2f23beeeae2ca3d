-- What a piece does to the line in which the one before it ended.
use Rattle.std.proofs.Common.{◌≡◌, ℕ, ◌+◌, ◌-◌, ◌<◌, ◌≤◌, List, [], ◌∷◌, ◌++◌, length, take, drop, refl, sym, ◌∙◌, ap, subst, append_assoc, arith, length-append}
use Rattle.std.specs.Prelude.{min, ◌≢◌, Result, Ok, Err, IfOk, IfErr, OnOk}
use Rattle.std.proofs.lemmas.List.{take-append-drop, take-append-le, take_all, take_rest, length-take-le, length-drop, drop-drop}
use Rattle.std.proofs.lemmas.List.Elements.{All-append}
use Rattle.memchr.specs.Find.{Passes, is_byte, Nowhere, NoneBefore}
use Rattle.dump_io.specs.Lines.{lf}
use Rattle.body_lines.specs.Lines.{CutLine, cut_lines, AreWhole, HasNoLf}
use Rattle.body_lines.specs.Laws.{AreWhole-none, AreWhole-ended, AreWhole-then, cut_lines-ended, cut_lines-open, cut_lines-whole}
use Rattle.body_lines.specs.Hearing.{Hears, StopsAmong}
use Rattle.body_lines.specs.Inner.Pieces.{IsOpenLine, Takes, StopsWithin}
use Rattle.body_lines.proofs.Hearings.{Hears-none, Hears-then, Hears-as, Joins-cut, StopsWithin-whole, StopsWithin-later}
use Rattle.dump_io.specs.Laws.LineFeeds.{lf_free, upto-lf}

pub free-append : (xs ys : List ℕ) → HasNoLf xs → HasNoLf ys → HasNoLf (xs ++ ys)
free-append xs ys one two = All-append (λ c. c ≢ lf) xs ys one two

-- of a short open line all bytes are kept
pub open-short : (kept line at : ℕ) (buffer front : List ℕ) → at ≤ line + kept → IsOpenLine kept line at buffer front → buffer ≡ front
open-short kept line at buffer front short is = is.front ∙ take_all kept front (omega (arith, short, is.place))

-- a long line that goes on in bytes without an LF
pub open-on : {S : Type 0} (hears : S → S → List CutLine → Type 0) (a : S) (kept line at : ℕ) (buffer front fresh : List ℕ) → line + kept < at
    → IsOpenLine kept line at (take (min kept (at - line)) buffer) front → HasNoLf fresh → Takes hears (cut_lines kept) a a kept line (front ++ fresh) line buffer
open-on hears a kept line at buffer front fresh long is free =
    let most : min kept (at - line) ≡ kept = omega (arith, long) in
    let size : length (front ++ fresh) ≡ length front + length fresh = length-append front fresh in
    let all : min kept (length (front ++ fresh)) ≡ min kept (at - line) = omega (arith, long, is.place, size) in
    record {
      done = [];
      left = front ++ fresh;
      parts = refl;
      whole = AreWhole-none;
      free = free-append front fresh is.free free;
      place = omega arith;
      front = ap (λ n. take n buffer) all ∙ is.front ∙ sym (take-append-le kept front fresh (omega (arith, long, is.place)));
      heard = Hears-none hears a;
    }

-- whole lines were heard, and then those of the bytes behind them
pub Takes-later : {S : Type 0} (hears : S → S → List CutLine → Type 0) (a b c : S) (kept at next : ℕ) (first bytes buffer : List ℕ) → AreWhole first → Hears hears a b (cut_lines kept at first)
    → Takes hears (cut_lines kept) b c kept (at + length first) bytes next buffer → Takes hears (cut_lines kept) a c kept at (first ++ bytes) next buffer
Takes-later hears a b c kept at next first bytes buffer whole heard later = record {
  done = first ++ later.done;
  left = later.left;
  parts = ap (λ l. first ++ l) later.parts ∙ sym (append_assoc first later.done later.left);
  whole = AreWhole-then first later.done whole later.whole;
  free = later.free;
  place = omega (arith, later.place, length-append first later.done);
  front = later.front;
  heard = Hears-as hears a c (cut_lines kept at first ++ cut_lines kept (at + length first) later.done) (cut_lines kept at (first ++ later.done))
      (sym (cut_lines-whole kept at first later.done whole))
      (Hears-then hears a b c (cut_lines kept at first) (cut_lines kept (at + length first) later.done) heard later.heard);
}

-- a long line that an LF ends
module _ {S T : Type 0} (hears : S → S → List CutLine → Type 0) (stops : S → S → List CutLine → T → Type 0) (kept line at : ℕ) (bytes : List ℕ) (k lf_at : ℕ) (same : k ≡ kept) (long : k < at - line) where
  abbrev pub fresh : List ℕ
  fresh = drop (min kept (at - line)) bytes

  -- the bytes behind what is kept, as a call has them
  abbrev pub hay : List ℕ
  hay = take (length bytes - k) (drop k bytes)

  hay-is : hay ≡ fresh
  hay-is = take_rest bytes k ∙ (let e : k ≡ min kept (at - line) = omega (arith, same, long) in ap (λ n. drop n bytes) e)

  abbrev line_heard : CutLine
  line_heard = record { at = line; front = take k bytes; size = at + lf_at + 1 - line }

  -- the line goes on in these bytes
  pub long-open : (a : S) → Nowhere (Passes (is_byte lf) hay) 0 (length hay) → (front : List ℕ) → IsOpenLine kept line at (take (min kept (at - line)) bytes) front
      → Takes hears (cut_lines kept) a a kept line (front ++ fresh) line bytes
  long-open a none front is =
      open-on hears a kept line at bytes front fresh (omega (arith, same, long)) is
      (subst HasNoLf (take_all (length fresh) fresh (omega arith))
      (lf_free fresh (length fresh) (omega arith) (subst (λ l. Nowhere (Passes (is_byte lf) l) 0 (length l)) hay-is none)))

  module _ (before : NoneBefore (Passes (is_byte lf) hay) 0 (length hay) lf_at) (here : Passes (is_byte lf) hay lf_at) where
    first : NoneBefore (Passes (is_byte lf) fresh) 0 (length fresh) lf_at
    first = subst (λ l. NoneBefore (Passes (is_byte lf) l) 0 (length l) lf_at) hay-is before

    there : Passes (is_byte lf) fresh lf_at
    there = subst (λ l. Passes (is_byte lf) l lf_at) hay-is here

    rest-is : drop (k + lf_at + 1) bytes ≡ drop (lf_at + 1) fresh
    rest-is =
        (let e : k + lf_at + 1 ≡ min kept (at - line) + (lf_at + 1) = omega (arith, same, long) in ap (λ n. drop n bytes) e)
        ∙ sym (drop-drop (lf_at + 1) (min kept (at - line)) bytes)

    module _ (front : List ℕ) (is : IsOpenLine kept line at (take (min kept (at - line)) bytes) front) where
      abbrev ended : List ℕ
      ended = front ++ take (lf_at + 1) fresh

      ended-bytes : ended ≡ (front ++ take lf_at fresh) ++ lf ∷ []
      ended-bytes = ap (λ l. front ++ l) (upto-lf fresh lf_at first.high there) ∙ sym (append_assoc front (take lf_at fresh) (lf ∷ []))

      ended-whole : AreWhole ended
      ended-whole = subst AreWhole (sym ended-bytes) (AreWhole-ended (front ++ take lf_at fresh))

      ended-size : line + length ended ≡ at + lf_at + 1
      ended-size = omega (arith, is.place, first.high, length-append front (take (lf_at + 1) fresh), length-take-le (lf_at + 1) fresh (omega (arith, first.high)))

      ended-line : cut_lines kept line ended ≡ line_heard ∷ []
      ended-line =
          let made : List ℕ → ℕ → List CutLine = λ f n. (let l : CutLine = record { at = line; front = f; size = n } in l) ∷ [] in
          let most : min kept (at - line) ≡ k = omega (arith, same, long) in
          let kept_is : take kept ended ≡ take k bytes =
          take-append-le kept front (take (lf_at + 1) fresh) (omega (arith, same, long, is.place)) ∙ sym is.front ∙ ap (λ n. take n bytes) most in
          let size : length ended ≡ at + lf_at + 1 - line = omega (arith, ended-size) in
          ap (cut_lines kept line) ended-bytes
          ∙ cut_lines-ended kept line (front ++ take lf_at fresh) (free-append front (take lf_at fresh) is.free (lf_free fresh lf_at (omega (arith, first.high)) first.before))
          ∙ ap (λ l. made (take kept l) (length l)) (sym ended-bytes)
          ∙ ap (λ l. made l (length ended)) kept_is
          ∙ ap (made (take k bytes)) size

      ended-parts : front ++ fresh ≡ ended ++ drop (k + lf_at + 1) bytes
      ended-parts =
          ap (λ l. front ++ l) (sym (take-append-drop (lf_at + 1) fresh)) ∙ sym (append_assoc front (take (lf_at + 1) fresh) (drop (lf_at + 1) fresh))
          ∙ ap (λ l. ended ++ l) (sym rest-is)

    -- it was heard, and the lines behind it
    pub long-takes : (a b c : S) (r : Result ℕ T) (buffer : List ℕ) → Hears hears a b (line_heard ∷ [])
        → IfOk r (λ next. Takes hears (cut_lines kept) b c kept (at + lf_at + 1) (drop (k + lf_at + 1) bytes) next buffer)
        → IfOk r (λ next. (front : List ℕ) → IsOpenLine kept line at (take (min kept (at - line)) bytes) front → Takes hears (cut_lines kept) a c kept line (front ++ fresh) next buffer)
    long-takes a b c (Err stop) buffer heard takes = tt
    long-takes a b c (Ok next) buffer heard takes = λ front is.
        subst (λ l. Takes hears (cut_lines kept) a c kept line l next buffer) (sym (ended-parts front is))
        (Takes-later hears a b c kept line next (ended front is) (drop (k + lf_at + 1) bytes) buffer (ended-whole front is) (Hears-as hears a b (line_heard ∷ []) (cut_lines kept line (ended front is)) (sym (ended-line front is)) heard)
        (subst (λ n. Takes hears (cut_lines kept) b c kept n (drop (k + lf_at + 1) bytes) next buffer) (sym (ended-size front is)) takes))

    -- it was heard, and the sink stopped among the lines behind it
    pub long-stops : (a b c : S) (r : Result ℕ T) → Hears hears a b (line_heard ∷ [])
        → IfErr r (λ stop. StopsWithin hears stops (cut_lines kept) b c (at + lf_at + 1) (drop (k + lf_at + 1) bytes) stop)
        → IfErr r (λ stop. (front : List ℕ) → IsOpenLine kept line at (take (min kept (at - line)) bytes) front → StopsWithin hears stops (cut_lines kept) a c line (front ++ fresh) stop)
    long-stops a b c (Ok next) heard within = tt
    long-stops a b c (Err stop) heard within = λ front is.
        subst (λ l. StopsWithin hears stops (cut_lines kept) a c line l stop) (sym (ended-parts front is))
        (StopsWithin-later hears stops (cut_lines kept) (Joins-cut kept) line a b c (ended front is) (drop (k + lf_at + 1) bytes) stop (ended-whole front is) (Hears-as hears a b (line_heard ∷ []) (cut_lines kept line (ended front is)) (sym (ended-line front is)) heard)
        (subst (λ n. StopsWithin hears stops (cut_lines kept) b c n (drop (k + lf_at + 1) bytes) stop) (sym (ended-size front is)) within))

    -- the sink stopped at it
    pub long-stopped : (a b : S) (stop : T) → StopsAmong hears stops a b (line_heard ∷ []) stop → (front : List ℕ) → IsOpenLine kept line at (take (min kept (at - line)) bytes) front
        → StopsWithin hears stops (cut_lines kept) a b line (front ++ fresh) stop
    long-stopped a b stop among front is =
        StopsWithin-whole hears stops (cut_lines kept) (Joins-cut kept) line a b (front ++ fresh) (ended front is) (drop (k + lf_at + 1) bytes) stop (ended-parts front is) (ended-whole front is)
        (subst (λ l. StopsAmong hears stops a b l stop) (sym (ended-line front is)) among)

-- the last line, of which more bytes were read than are kept
pub last-line : (kept line upto k : ℕ) (bytes front : List ℕ) → k ≡ kept → k < upto - line → IsOpenLine kept line upto (take (min kept (upto - line)) bytes) front
    → (let l : CutLine = record { at = line; front = take k bytes; size = upto - line } in l) ∷ [] ≡ cut_lines kept line front
last-line kept line upto k bytes front same long is =
    let made : List ℕ → ℕ → List CutLine = λ f n. (let l : CutLine = record { at = line; front = f; size = n } in l) ∷ [] in
    let most : k ≡ min kept (upto - line) = omega (arith, same, long) in
    let size : upto - line ≡ length front = omega (arith, is.place) in
    ap (λ n. made (take n bytes) (upto - line)) most
    ∙ ap (λ l. made l (upto - line)) is.front
    ∙ ap (made (take kept front)) size
    ∙ sym (cut_lines-open kept line front (omega (arith, is.place, long)) is.free)

-- the whole lines from a place on were heard, and the front of what is left moved to the beginning
pub Takes-from : {S : Type 0} (hears : S → S → List CutLine → Type 0) (a b : S) (kept at place n : ℕ) (bytes buffer hay : List ℕ) → hay ≡ drop place bytes
    → n ≤ length hay → AreWhole (take n hay) → HasNoLf (drop n hay) → Hears hears a b (cut_lines kept at (take n hay))
    → take (min kept (length bytes - (place + n))) buffer ≡ take kept (drop (place + n) bytes) → Takes hears (cut_lines kept) a b kept at (drop place bytes) (at + n) buffer
Takes-from hears a b kept at place n bytes buffer hay same within whole free heard moved =
    let xs = drop place bytes in
    let size : length (take n hay) ≡ n = length-take-le n hay within in
    let left : drop n hay ≡ drop (place + n) bytes = ap (drop n) same ∙ drop-drop n place bytes in
    let few : length (drop n hay) ≡ length bytes - (place + n) = ap length left ∙ length-drop (place + n) bytes in
    record {
      done = take n hay;
      left = drop n hay;
      parts = sym same ∙ sym (take-append-drop n hay);
      whole = whole;
      free = free;
      place = omega (arith, size);
      front = ap (λ m. take (min kept m) buffer) few ∙ moved ∙ ap (take kept) (sym left);
      heard = heard;
    }

pub last-hears : {S T : Type 0} (hears : S → S → List CutLine → Type 0) (kept line upto k : ℕ) (bytes : List ℕ) → k ≡ kept → k < upto - line → (a b : S) (r : Result (Unit {0}) T)
    → OnOk r (Hears hears a b ((let l : CutLine = record { at = line; front = take k bytes; size = upto - line } in l) ∷ []))
    → OnOk r ((front : List ℕ) → IsOpenLine kept line upto (take (min kept (upto - line)) bytes) front → Hears hears a b (cut_lines kept line front))
last-hears hears kept line upto k bytes same long a b (Err stop) heard = tt
last-hears hears kept line upto k bytes same long a b (Ok done) heard = λ front is. subst (Hears hears a b) (last-line kept line upto k bytes front same long is) heard

pub last-stops : {S T : Type 0} (hears : S → S → List CutLine → Type 0) (stops : S → S → List CutLine → T → Type 0) (kept line upto k : ℕ) (bytes : List ℕ) → k ≡ kept → k < upto - line → (a b : S) (r : Result (Unit {0}) T)
    → IfErr r (λ stop. StopsAmong hears stops a b ((let l : CutLine = record { at = line; front = take k bytes; size = upto - line } in l) ∷ []) stop)
    → IfErr r (λ stop. (front : List ℕ) → IsOpenLine kept line upto (take (min kept (upto - line)) bytes) front → StopsAmong hears stops a b (cut_lines kept line front) stop)
last-stops hears stops kept line upto k bytes same long a b (Ok done) among = tt
last-stops hears stops kept line upto k bytes same long a b (Err stop) among = λ front is. subst (λ l. StopsAmong hears stops a b l stop) (last-line kept line upto k bytes front same long is) among
