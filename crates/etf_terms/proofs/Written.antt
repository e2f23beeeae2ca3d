-- A text that is written in a loop, by what is still to come.
use Rattle.std.proofs.Common.{◌≡◌, ℕ, List, [], ◌++◌, Result, Ok, Err, sym, subst}
use Rattle.std.specs.Prelude.{IsErr}
use Rattle.dump_io.specs.Sinks.{SinkState, Puts, HasPutPart}
use Rattle.dump_io.specs.Laws.Puts.{HasPut-done, HasPutPart-next, HasPutPart-rest, HasPutPart-whole, Puts-as, Puts-stopped}

pub part-more : {T E : Type 0} {a b c : SinkState} (whole later bytes last : List ℕ) (x : T) → HasPutPart a b whole later
    → Puts {E = E} b c bytes (Ok x) → later ≡ bytes ++ last → HasPutPart a c whole last
part-more whole later bytes last x part puts splits =
    HasPutPart-next whole later last part (record { part = bytes; put = HasPut-done puts; splits = splits })

pub part-broken : {T U E F : Type 0} {a b c : SinkState} (whole later bytes more : List ℕ) (e : F) (r : Result T E) → HasPutPart a b whole later
    → later ≡ bytes ++ more → IsErr r → Puts {T = U} b c bytes (Err e) → Puts a c whole r
part-broken whole later bytes more e r part splits failed puts =
    HasPutPart-rest whole later r part (Puts-as (sym splits) (Puts-stopped more failed puts))

pub part-whole : {T E : Type 0} {a b : SinkState} (whole later : List ℕ) (x : T) → HasPutPart a b whole later → later ≡ [] → Puts {E = E} a b whole (Ok x)
part-whole {a = a} {b = b} whole later x part ended = HasPutPart-whole whole x (subst (HasPutPart a b whole) ended part)
