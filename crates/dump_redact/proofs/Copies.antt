-- Copies one behind another.
use Rattle.std.proofs.Common.{◌≡◌, ℕ, ◌+◌, ◌^◌, ◌<◌, ◌≤◌, List, [], ◌++◌, length, Result, Ok, Err, refl, sym, ◌∙◌, ap, subst, arith}
use Rattle.std.specs.Prelude.{IfErr, IsErr}
use Rattle.dump_io.specs.Dumps.{told, DeviceState, DeviceFailed, ReadsAtMost}
use Rattle.dump_io.specs.Sinks.{SinkState, grown, WritesAll, Puts}
use Rattle.dump_io.specs.Laws.Puts.{WritesAll-then, WritesAll-stopped, grown-nil, grown-next}
use Rattle.dump_io.specs.Laws.Reads.{ReadsAtMost-none, ReadsAtMost-both, ReadsAtMost-within}
use Rattle.dump_redact.specs.declared.faults.RedactFault.{RedactFault}
use Rattle.dump_redact.specs.declared.faults.RedactFault.TheVariants.{SectionTooLarge, Read, Write, Memory}
use Rattle.dump_redact.specs.Inner.Copying.{IsBreak, Copies, HasCopied}

-- what breaks off behind what went well
break-behind : (a b c : DeviceState) (s t u : SinkState) (fault : RedactFault) → a.faults ≤ b.faults → s.faults ≤ t.faults → IsBreak b c t u fault → IsBreak a c s u fault
break-behind a b c s t u (SectionTooLarge at len) reads writes is = is
break-behind a b c s t u Read reads writes is = (refl, omega (arith, reads, is.1))
break-behind a b c s t u Write reads writes is = (refl, omega (arith, writes, is.1))
break-behind a b c s t u Memory reads writes is = tt

-- bytes were read
pub HasCopied-read : {a b : DeviceState} {s : SinkState} {most : ℕ}
    → ReadsAtMost a b most → HasCopied a b s s most (λ _. [])
HasCopied-read {s = s} reads = record { reads = reads; later = omega arith; gained = λ dump is. sym (grown-nil s.written) }

-- bytes are written
pub Copies-put : {T : Type 0} {a : DeviceState} {s t : SinkState} {bytes : List ℕ} {result : Result T RedactFault} → a.taken < 2 ^ 64
    → Puts s t bytes result → IfErr result (λ fault. fault ≡ Write) → Copies a a s t 0 (λ _. bytes) result
Copies-put {result = Ok x} small puts is = record {
  reads = ReadsAtMost-none 0 small;
  later = puts.later;
  writes = λ dump told. puts.writes;
  fault = tt;
}
Copies-put {a = a} {s = s} {t = t} {result = Err e} small puts is = record {
  reads = ReadsAtMost-none 0 small;
  later = puts.later;
  writes = λ dump told. puts.writes;
  fault = subst (IsBreak a a s t) (sym is) (refl, puts.failed);
}

-- what was copied is all there is
pub Copies-done : {T : Type 0} {a b : DeviceState} {s t : SinkState} {most : ℕ} {text : List ℕ → List ℕ} {x : T}
    → HasCopied a b s t most text → Copies a b s t most text (Ok x)
Copies-done done = record {
  reads = done.reads;
  later = done.later;
  writes = λ dump is. record { whole = done.gained dump is; front = tt };
  fault = tt;
}

-- it broke off before anything was written
pub Copies-failed : {T : Type 0} {a b : DeviceState} {s : SinkState} {most : ℕ} {fault : RedactFault} (text : List ℕ → List ℕ)
    → ReadsAtMost a b most → IsBreak a b s s fault
    → ((dump : List ℕ) → a.now ≡ told dump → 0 < length (text dump)) → Copies {T = T} a b s s most text (Err fault)
Copies-failed {s = s} text reads broke some = record {
  reads = reads;
  later = omega arith;
  writes = λ dump is. record { whole = tt; front = record { count = 0; short = some dump is; front = sym (grown-nil s.written) } };
  fault = broke;
}

-- one more copy behind what was copied
pub HasCopied-then : {T : Type 0} {a b c : DeviceState} {s t u : SinkState} {few more : ℕ} {text next : List ℕ → List ℕ} {x : T}
    (most : ℕ) (whole : List ℕ → List ℕ) → HasCopied a b s t few text → Copies b c t u more next (Ok x)
    → few + more ≤ most → ((dump : List ℕ) → a.now ≡ told dump → text dump ++ next dump ≡ whole dump) → HasCopied a c s u most whole
HasCopied-then {s = s} {t = t} {u = u} {text = text} {next = next} most whole first second fits joins = record {
  reads = ReadsAtMost-both first.reads second.reads fits;
  later = omega (arith, first.later, second.later);
  gained = λ dump is.
      grown-next s.written t.written u.written (text dump) (next dump) (first.gained dump is) (second.writes dump (first.reads.same_now ∙ is)).whole ∙ ap (grown s.written) (joins dump is);
}

-- the last copy, which may fail
pub Copies-last : {T : Type 0} {a b c : DeviceState} {s t u : SinkState} {few more : ℕ} {text next : List ℕ → List ℕ} {result : Result T RedactFault}
    (most : ℕ) (whole : List ℕ → List ℕ) → HasCopied a b s t few text → Copies b c t u more next result
    → few + more ≤ most → ((dump : List ℕ) → a.now ≡ told dump → text dump ++ next dump ≡ whole dump) → Copies a c s u most whole result
Copies-last {result = Ok x} most whole first second fits joins =
    Copies-done (HasCopied-then most whole first second fits joins)
Copies-last {T = T} {a = a} {b = b} {c = c} {s = s} {t = t} {u = u} {text = text} {result = Err e} most whole first second fits joins = record {
  reads = ReadsAtMost-both first.reads second.reads fits;
  later = omega (arith, first.later, second.later);
  writes = λ dump is.
      let done : WritesAll {T = Unit {0}} {E = Unit {0}} s.written t.written (text dump) (Ok tt) = record { whole = first.gained dump is; front = tt } in
      subst (λ l. WritesAll {T = T} s.written u.written l (Err e)) (joins dump is) (WritesAll-then done (second.writes dump (first.reads.same_now ∙ is)));
  fault = break-behind a b c s t u e first.reads.later first.later second.fault;
}

-- a copy that failed, in front of what wasn't begun
pub Copies-broken : {T U : Type 0} {a b c : DeviceState} {s t u : SinkState} {few more : ℕ} {text next : List ℕ → List ℕ} {e : RedactFault}
    (most : ℕ) (whole rest : List ℕ → List ℕ) → HasCopied a b s t few text → Copies {T = U} b c t u more next (Err e)
    → few + more ≤ most → ((dump : List ℕ) → a.now ≡ told dump → (text dump ++ next dump) ++ rest dump ≡ whole dump) → Copies {T = T} a c s u most whole (Err e)
Copies-broken {T = T} {a = a} {b = b} {c = c} {s = s} {t = t} {u = u} {text = text} {e = e} most whole rest first second fits joins = record {
  reads = ReadsAtMost-both first.reads second.reads fits;
  later = omega (arith, first.later, second.later);
  writes = λ dump is.
      let done : WritesAll {T = Unit {0}} {E = Unit {0}} s.written t.written (text dump) (Ok tt) = record { whole = first.gained dump is; front = tt } in
      let failed : IsErr {T = T} {E = RedactFault} (Err e) = refl in
      subst (λ l. WritesAll {T = T} s.written u.written l (Err e)) (joins dump is)
      (WritesAll-stopped (rest dump) failed (WritesAll-then done (second.writes dump (first.reads.same_now ∙ is))));
  fault = break-behind a b c s t u e first.reads.later first.later second.fault;
}

-- a copy that went well
pub HasCopied-done : {T : Type 0} {a b : DeviceState} {s t : SinkState} {most : ℕ} {text : List ℕ → List ℕ} {x : T}
    → Copies a b s t most text (Ok x) → HasCopied a b s t most text
HasCopied-done copies = record { reads = copies.reads; later = copies.later; gained = λ dump is. (copies.writes dump is).whole }

-- bytes that were read are written as something else
pub Copies-piece : {T : Type 0} {a b : DeviceState} {s t : SinkState} {most : ℕ} {bytes : List ℕ} {result : Result T RedactFault} (whole : List ℕ → List ℕ)
    → ReadsAtMost a b most → Puts s t bytes result → IfErr result (λ fault. fault ≡ Write)
    → ((dump : List ℕ) → a.now ≡ told dump → bytes ≡ whole dump) → Copies a b s t most whole result
Copies-piece {most = most} whole reads puts is joins =
    Copies-last most whole (HasCopied-read reads) (Copies-put (omega (arith, reads.taken_most)) puts is) (omega arith) joins

-- the device failed
pub break-read : (a b : DeviceState) (s t : SinkState) (fault : RedactFault) → (fault ≡ Read) × DeviceFailed a b → IsBreak a b s t fault
break-read a b s t fault is = subst (IsBreak a b s t) (sym is.0) (refl, is.1)

-- memory was lacking
pub break-memory : (a b : DeviceState) (s t : SinkState) (fault : RedactFault) → fault ≡ Memory → IsBreak a b s t fault
break-memory a b s t fault is = subst (IsBreak a b s t) (sym is) tt

-- the text in other words, and a bound that is no smaller
pub Copies-text : {T : Type 0} {a b : DeviceState} {s t : SinkState} {few : ℕ} {text : List ℕ → List ℕ} {result : Result T RedactFault}
    (most : ℕ) (whole : List ℕ → List ℕ) → Copies a b s t few text result → few ≤ most → ((dump : List ℕ) → a.now ≡ told dump → text dump ≡ whole dump)
    → Copies a b s t most whole result
Copies-text {s = s} {t = t} {result = result} most whole copies fits same = record {
  reads = ReadsAtMost-within fits copies.reads;
  later = copies.later;
  writes = λ dump is. subst (λ l. WritesAll s.written t.written l result) (same dump is) (copies.writes dump is);
  fault = copies.fault;
}
