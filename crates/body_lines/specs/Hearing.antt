-- What a sink of lines hears. A sink says by a relation `hears` which lines it heard between two of its states, and by
-- `stops` with which answer it stopped then. `lines_of` says as which lines it hears the bytes from an offset on.
use Rattle.std.specs.Prelude.{◌≡◌, ℕ, List, ◌++◌}
use Rattle.std.specs.List.{between}
use Rattle.dump_io.specs.Dumps.{DeviceState, DeviceFailed, Now, IfTold}
use Rattle.body_lines.specs.declared.faults.LinesFault.{LinesFault}
use Rattle.body_lines.specs.declared.faults.LinesFault.TheVariants.{Read, Stopped}

-- between two states a sink heard these lines, whatever it had heard since the first of its states
pub record Hears {S L : Type 0} (hears : S → S → List L → Type 0) (old new : S) (lines : List L) : Type 0 where
  pub later : (first : S) (earlier : List L) → hears first old earlier → hears first new (earlier ++ lines)

-- between two states a sink heard these lines and then stopped with this answer, whatever it had heard before
pub record Stops {S L T : Type 0} (hears : S → S → List L → Type 0) (stops : S → S → List L → T → Type 0)
    (old new : S) (lines : List L) (stop : T) : Type 0 where
  pub later : (first : S) (earlier : List L) → hears first old earlier → stops first new (earlier ++ lines) stop

-- a sink heard the first of these lines and then stopped with this answer
pub record StopsAmong {S L T : Type 0} (hears : S → S → List L → Type 0) (stops : S → S → List L → T → Type 0)
    (old new : S) (lines : List L) (stop : T) : Type 0 where
  pub heard : List L
  pub rest : List L
  pub parts : lines ≡ heard ++ rest
  pub stopped : Stops hears stops old new heard stop

-- the lines between two offsets of what is open begin with these, if the device tells its bytes
abbrev pub BeginWith : {L : Type 0} → (ℕ → List ℕ → List L) → ℕ → ℕ → Now → List L → Type 0
BeginWith {L = L} lines_of from upto now lines =
    IfTold now (λ dump. (rest : List L) × (lines_of from (between from upto dump) ≡ lines ++ rest))

-- a sink heard exactly the lines between two offsets of what is open
pub record HearsBody {S L : Type 0} (hears : S → S → List L → Type 0) (lines_of : ℕ → List ℕ → List L)
    (old new : S) (from upto : ℕ) (now : Now) : Type 0 where
  pub lines : List L
  pub heard : Hears hears old new lines
  pub are : IfTold now (λ dump. lines ≡ lines_of from (between from upto dump))

-- a sink heard the first of the lines between two offsets of what is open
pub record HearsFront {S L : Type 0} (hears : S → S → List L → Type 0) (lines_of : ℕ → List ℕ → List L)
    (old new : S) (from upto : ℕ) (now : Now) : Type 0 where
  pub lines : List L
  pub heard : Hears hears old new lines
  pub are : BeginWith lines_of from upto now lines

-- a sink heard the first of the lines between two offsets of what is open, and then stopped with this answer
pub record StopsFront {S L T : Type 0} (hears : S → S → List L → Type 0) (stops : S → S → List L → T → Type 0) (lines_of : ℕ → List ℕ → List L)
    (old new : S) (from upto : ℕ) (now : Now) (stop : T) : Type 0 where
  pub lines : List L
  pub stopped : Stops hears stops old new lines stop
  pub are : BeginWith lines_of from upto now lines

-- why not all lines were heard: the device failed, or the sink stopped; the first of them were heard in either case
abbrev pub Ends : {S L T : Type 0} → (S → S → List L → Type 0) → (S → S → List L → T → Type 0) → (ℕ → List ℕ → List L)
    → S → S → ℕ → ℕ → DeviceState → DeviceState → LinesFault T → Type 0
Ends hears stops lines_of old new from upto before after Read =
    DeviceFailed before after × HearsFront hears lines_of old new from upto before.now
Ends hears stops lines_of old new from upto before after (Stopped stop) =
    StopsFront hears stops lines_of old new from upto before.now stop
