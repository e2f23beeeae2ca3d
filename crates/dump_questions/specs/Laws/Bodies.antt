-- Bodies that are judged together and then read, one load after another.
use Rattle.std.proofs.Common.{◌++◌, ◌≡◌, ap, arith, refl, subst, sym, Err, List, None, Ok, Result, Some, ℕ}
use Rattle.std.specs.Prelude.{is_some, IsErrAnd, OnOk}
use Rattle.std.proofs.lemmas.List.Sums.{sum_by-append}
use Rattle.std.proofs.lemmas.Result.{IfErr-weaker}
use Rattle.dump_io.specs.Dumps.{DeviceState, ReadsAtMost}
use Rattle.dump_io.specs.Laws.Reads.{ReadsAtMost-then, ReadsAtMost-within}
use Rattle.dump_sections.specs.Bodies.{body_length}
use Rattle.dump_sections.specs.Loading.{body_fault, large_fault, IsUnloaded, LoadsBodies}
use Rattle.dump_sections.specs.LoadingLaws.{small-both, AreRefused-unread, IsUnloaded-later, IsUnloaded-small}
use Rattle.dump_sections.specs.Sections.{Section}
use Rattle.dump_sections.specs.declared.bodies.BodyFault.{BodyFault}
use Rattle.dump_sections.specs.declared.bodies.BodyFault.TheVariants.{Memory}
use Rattle.dump_sections.specs.declared.bodies.LargeSection.{LargeSection}
use Rattle.dump_questions.specs.Bodies.{ReadsBodies}

-- ---- the exits of a load that judges bodies before it reads one

-- a load ends with the first body that is too large, and has read nothing
pub LoadsBodies-large : {D T : Type 0} (state : D → DeviceState) (ss : List Section) (limit : ℕ) (device : D) (large : LargeSection)
    → ReadsAtMost (state device) (state device) 0 → Some large ≡ large_fault limit ss
    → LoadsBodies {T = T} state ss limit device device (Err (body_fault large))
LoadsBodies-large state ss limit device large none is =
    record { reads = ReadsAtMost-within (omega arith) none; allowed = tt; unread = λ some. refl; fault = sym is }

-- a load lacks memory before it has read anything
pub LoadsBodies-memory : {D T : Type 0} (state : D → DeviceState) (ss : List Section) (limit : ℕ) (device : D)
    → ReadsAtMost (state device) (state device) 0 → LoadsBodies {T = T} state ss limit device device (Err Memory)
LoadsBodies-memory state ss limit device none = record { reads = ReadsAtMost-within (omega arith) none; allowed = tt; unread = λ some. refl; fault = tt }

-- a load finds no body too large, and reads them or fails
pub LoadsBodies-small : {D T : Type 0} (state : D → DeviceState) (ss : List Section) (limit : ℕ) (b c : D) (result : Result T BodyFault)
    → None ≡ large_fault limit ss → ReadsBodies ss (state b) (state c) result → LoadsBodies state ss limit b c result
LoadsBodies-small state ss limit b c result is read =
    record {
      reads = read.reads;
      allowed = on-ok result;
      unread = λ some. absurd (let no : ⊥ = cc (ap is_some is, some) in no);
      fault = IfErr-weaker result _ _ (λ fault cause. AreRefused-unread limit ss (state b) (state c) fault (sym is) cause) read.fault;
    }
  where
    on-ok : {T : Type 0} (result : Result T BodyFault) → OnOk result (large_fault limit ss ≡ None)
    on-ok (Ok loaded) = sym is
    on-ok (Err fault) = tt

-- ---- bodies none of which is too large, read by one call after another

-- a call that judges such bodies reads them
pub ReadsBodies-loads : {D T : Type 0} (state : D → DeviceState) (ss : List Section) (limit : ℕ) (b c : D) (result : Result T BodyFault)
    → large_fault limit ss ≡ None → LoadsBodies state ss limit b c result → ReadsBodies ss (state b) (state c) result
ReadsBodies-loads state ss limit b c result small loads =
    record { reads = loads.reads; fault = IfErr-weaker result _ _ (λ fault cause. IsUnloaded-small limit ss (state b) (state c) fault small cause) loads.fault }

module _ (xs ys : List Section) where
  -- the first bodies weren't read, and so neither were those behind them
  pub ReadsBodies-front : {T U : Type 0} {a b : DeviceState} (fault : BodyFault) → ReadsBodies {T = T} xs a b (Err fault)
      → ReadsBodies {T = U} (xs ++ ys) a b (Err fault)
  ReadsBodies-front fault first =
      record { reads = ReadsAtMost-within (omega (arith, sum_by-append body_length xs ys)) first.reads; fault = first.fault }

  -- the first bodies were read, and those behind them were or weren't
  pub ReadsBodies-then : {T U : Type 0} {a b c : DeviceState} (one : T) (result : Result U BodyFault) → ReadsBodies xs a b (Ok one)
      → ReadsBodies ys b c result → ReadsBodies (xs ++ ys) a c result
  ReadsBodies-then {a = a} {b = b} {c = c} one result first second =
      record {
        reads = ReadsAtMost-within (omega (arith, sum_by-append body_length xs ys)) (ReadsAtMost-then first.reads second.reads);
        fault = IfErr-weaker result _ _ (λ fault cause. IsUnloaded-later b c a c fault (λ rose. omega (arith, first.reads.later, rose)) cause) second.fault;
      }

-- the first bodies were read, and the call for those behind them judges these alone
pub ReadsBodies-next : {D T U : Type 0} (state : D → DeviceState) (xs ys : List Section) (limit : ℕ) {a b c : D} {one : T} {result : Result U BodyFault}
    → large_fault limit (xs ++ ys) ≡ None → ReadsBodies xs (state a) (state b) (Ok one) → LoadsBodies state ys limit b c result
    → ReadsBodies (xs ++ ys) (state a) (state c) result
ReadsBodies-next state xs ys limit {b = b} {c = c} {one = one} {result = result} small first loads =
    ReadsBodies-then xs ys one result first (ReadsBodies-loads state ys limit b c result (small-both limit xs ys small).1 loads)

-- a `?` returns the fault of the call for such bodies
pub ReadsBodies-stopped : {T U : Type 0} {ss : List Section} {a b : DeviceState} (result : Result U BodyFault) (fault : BodyFault)
    → IsErrAnd result (λ e. e ≡ fault) → ReadsBodies {T = T} ss a b (Err fault) → ReadsBodies ss a b result
ReadsBodies-stopped (Ok value) fault is read = absurd is
ReadsBodies-stopped {a = a} {b = b} (Err e) fault is read = record { reads = read.reads; fault = subst (IsUnloaded a b) (sym is) read.fault }
