-- Hearing the lines of a piece.
use Rattle.std.specs.Prelude.{◌≡◌, ℕ, ◌+◌, ◌-◌, List, ◌++◌, length, take, drop, min}
use Rattle.body_lines.specs.Lines.{AreWhole, HasNoLf}
use Rattle.body_lines.specs.Hearing.{Hears, Stops, StopsAmong}

-- these bytes were read of the line in which a piece ended, from the offset of the line
-- up to another; as many of them as are kept stand in the buffer
pub record IsOpenLine (kept line at : ℕ) (buffer bytes : List ℕ) : Type 0 where
  pub free : HasNoLf bytes
  pub place : line + length bytes ≡ at
  pub front : buffer ≡ take kept bytes

-- the whole lines of these bytes were heard, the first of which begins at an offset, and the next line
-- begins at another; as many bytes as are kept of that one stand at the beginning of the buffer
pub record Takes {S L : Type 0} (hears : S → S → List L → Type 0) (lines_of : ℕ → List ℕ → List L)
    (old new : S) (kept at : ℕ) (bytes : List ℕ) (next : ℕ) (buffer : List ℕ) : Type 0 where
  pub done : List ℕ
  pub left : List ℕ
  pub parts : bytes ≡ done ++ left
  pub whole : AreWhole done
  pub free : HasNoLf left
  pub place : next ≡ at + length done
  pub front : take (min kept (length left)) buffer ≡ take kept left
  pub heard : Hears hears old new (lines_of at done)

-- a sink stopped among the lines of these bytes, whatever follows them
pub record StopsWithin {S L T : Type 0} (hears : S → S → List L → Type 0) (stops : S → S → List L → T → Type 0) (lines_of : ℕ → List ℕ → List L)
    (old new : S) (at : ℕ) (bytes : List ℕ) (stop : T) : Type 0 where
  pub lines : List L
  pub stopped : Stops hears stops old new lines stop
  pub among : (more : List ℕ) → (rest : List L) × (lines_of at (bytes ++ more) ≡ lines ++ rest)

-- a piece begins with what is kept of the line that was read up to an offset: the whole
-- lines of that line and of the bytes behind it were heard
abbrev pub TakesPiece : {S L : Type 0} → (S → S → List L → Type 0) → (ℕ → List ℕ → List L) → S → S → ℕ → ℕ → ℕ → List ℕ → ℕ → List ℕ → Type 0
TakesPiece hears lines_of old new kept line at piece next buffer =
    (front : List ℕ) → IsOpenLine kept line at (take (min kept (at - line)) piece) front
    → Takes hears lines_of old new kept line (front ++ drop (min kept (at - line)) piece) next buffer

-- a piece begins with what is kept of the line that was read up to an offset:
-- a sink stopped among the lines of that line and of the bytes behind it
abbrev pub StopsInPiece : {S L T : Type 0} → (S → S → List L → Type 0) → (S → S → List L → T → Type 0) → (ℕ → List ℕ → List L)
    → S → S → ℕ → ℕ → ℕ → List ℕ → T → Type 0
StopsInPiece hears stops lines_of old new kept line at piece stop =
    (front : List ℕ) → IsOpenLine kept line at (take (min kept (at - line)) piece) front
    → StopsWithin hears stops lines_of old new line (front ++ drop (min kept (at - line)) piece) stop

-- the line of which this is kept was read up to an offset, where it ends, and was heard
abbrev pub HearsOpen : {S L : Type 0} → (S → S → List L → Type 0) → (ℕ → List ℕ → List L) → S → S → ℕ → ℕ → ℕ → List ℕ → Type 0
HearsOpen hears lines_of old new kept line upto buffer =
    (front : List ℕ) → IsOpenLine kept line upto (take (min kept (upto - line)) buffer) front → Hears hears old new (lines_of line front)

-- a sink stopped at the line of which this is kept and which was read up to an offset, where it ends
abbrev pub StopsAtOpen : {S L T : Type 0} → (S → S → List L → Type 0) → (S → S → List L → T → Type 0) → (ℕ → List ℕ → List L)
    → S → S → ℕ → ℕ → ℕ → List ℕ → T → Type 0
StopsAtOpen hears stops lines_of old new kept line upto buffer stop =
    (front : List ℕ) → IsOpenLine kept line upto (take (min kept (upto - line)) buffer) front
    → StopsAmong hears stops old new (lines_of line front) stop
