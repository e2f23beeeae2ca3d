-- Steps of a text that is written.
use Rattle.std.proofs.Common.{◌≡◌, ℕ, List, ◌++◌, Result, Ok, Err, refl, sym, subst}
use Rattle.std.specs.Prelude.{IsErr}
use Rattle.dump_io.specs.Sinks.{SinkState, GainedFront, Puts}
use Rattle.dump_io.specs.Laws.Puts.{HasPut-done, Puts-stopped}
use Rattle.term_unfold.specs.Inner.Steps.{Steps, counted_of}

-- a text that is written alone
pub Steps-text : {E : Type 0} {a b : SinkState} (whole bytes : List ℕ) (k : ℕ → List ℕ) (m : ℕ) (written : Result (Unit {0}) E) (r : Result ℕ E)
    → r ≡ counted_of written m → Puts a b bytes written → whole ≡ bytes ++ k m → Steps a b whole k r
Steps-text {a = a} {b = b} whole bytes k m (Ok x) r is puts splits =
    subst (Steps a b whole k) (sym is) (record {
      later = puts.later;
      writes = record { part = bytes; put = HasPut-done puts; splits = splits };
      failed = tt;
    })
Steps-text {E} {a = a} {b = b} whole bytes k m (Err e) r is puts splits =
    let broken : Puts {T = Unit {0}} {E = E} a b (bytes ++ k m) (Err e) = Puts-stopped (k m) refl puts in
    subst (Steps a b whole k) (sym is) (record {
      later = puts.later;
      writes = subst (GainedFront a b) (sym splits) broken.writes.front;
      failed = puts.failed;
    })

-- a step that failed
pub Puts-broken_step : {T E F : Type 0} {a b : SinkState} (whole : List ℕ) (k : ℕ → List ℕ) (e : F) (r : Result T E) → IsErr r → Steps {E = F} a b whole k (Err e) → Puts a b whole r
Puts-broken_step whole k e (Ok x) failed step = cc
Puts-broken_step whole k e (Err d) failed step = record { later = step.later; writes = record { whole = tt; front = step.writes }; failed = step.failed }
