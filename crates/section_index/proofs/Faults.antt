-- A fault of the scan on the first bytes of a dump is the refused of the whole dump.
use Rattle.std.proofs.Common.{arith, ◌≡◌, ℕ, ◌<◌, ◌≤◌, List, [], ◌∷◌, ◌++◌, length, Option, None, Some, refl, sym, ◌∙◌, ap, subst, append_assoc}
use Rattle.std.specs.Prelude.{All, Err, IsSome, slice_get}
use Rattle.std.proofs.lemmas.List.Elements.{All-nil, All-head, All-append, All-same}
use Rattle.dump_io.specs.Limits.{Numbers}
use Rattle.dump_io.specs.Lines.{Header, headers}
use Rattle.line_source.specs.declared.header_sink.HeaderStop.{HeaderStop}
use Rattle.line_source.specs.declared.scan_fault.ScanFault.{ScanFault}
use Rattle.line_source.specs.declared.scan_fault.ScanFault.TheVariants.{HeaderTooLong as LineTooLong, Stop}
use Rattle.line_source.specs.declared.header_sink.RefusedHeader.{RefusedHeader}
use Rattle.line_source.specs.Streams.{ended_headers, open_headers, new_headers, headers_before, too_long}
use Rattle.line_source.specs.Feeding.{first_too_long, stop_of, StopsAmong}
use Rattle.line_source.specs.Receiver.{stop_value}
use Rattle.line_source.specs.Growth.{TooLongGrows}
use Rattle.section_index.specs.declared.opening.OpenFault.TheVariants.{HeaderTooLong}
use Rattle.section_index.specs.Opening.{text_bytes, header_fault}
use Rattle.section_index.specs.Inner.Receiver.{Hearing, IsStopCause, HasItsCause, KeepsTo}
use Rattle.section_index.specs.Inner.Scanning.{stop_fault, open_fault_of, IsHeaderFault}
use Rattle.section_index.proofs.Rising.{AreRising, rising-left, rising-right, headers-rising, headers_from, headers_from-at, cut-at, All-right}
use Rattle.section_index.proofs.Causes.{fault-long, fault-surplus, fault-large, fault-none}

-- the laws of a stream that grows
pub record Grows : Type 0 where
  pub split : (stream : List ℕ) → headers stream ≡ ended_headers stream ++ open_headers stream
  pub ended : (stream more : List ℕ) → ended_headers (stream ++ more) ≡ ended_headers stream ++ new_headers stream more
  pub longs : (limit : ℕ) (stream more : List ℕ) → TooLongGrows limit stream more
  pub behind : (limit at : ℕ) (stream more : List ℕ) → first_too_long limit stream ≡ Some at
      → All (λ h. at ≤ h.at) (new_headers stream more ++ open_headers (stream ++ more))

-- the headers that more bytes bring
abbrev later : List ℕ → List ℕ → List Header
later stream more = new_headers stream more ++ open_headers (stream ++ more)

all-later : (grows : Grows) (stream more : List ℕ) → headers (stream ++ more) ≡ ended_headers stream ++ later stream more
all-later grows stream more = grind (arith, append_assoc)

first-front : {X : Type 0} (xs ys : List X) (x : X) → slice_get xs 0 ≡ Some x → slice_get (xs ++ ys) 0 ≡ Some x
first-front [] ys x is = cc
first-front (y ∷ xs) ys x is = is

-- a header was refused, behind those that were heard
refused-here : (limits : Numbers) (bytes : List ℕ) (front more : List Header) (next : Header) (value : HeaderStop) (at size : ℕ) → headers bytes ≡ front ++ next ∷ more
    → text_bytes front ≤ limits.pool → IsStopCause limits front value at size → at ≡ next.at → size ≡ length next.text
    → All (λ long. next.at < long) (too_long limits.header bytes) → IsHeaderFault limits bytes (stop_fault value)
refused-here limits bytes front more next value at size all room cause same long_as longs = grind (arith, fault-surplus, fault-large)

-- the receiver's refused has its cause
stated : (limits : Numbers) (hearing : Hearing) (refused : RefusedHeader) → KeepsTo limits hearing → hearing.stop ≡ Some refused
    → IsStopCause limits hearing.heard refused.value refused.at refused.size
stated limits hearing refused keeps stop = let is = keeps.stated in subst (HasItsCause limits hearing.heard) stop is

long-case : (limits : Numbers) (bytes piece more : List ℕ) (before after : Hearing) (at : ℕ) → Grows → before.heard ≡ ended_headers bytes → KeepsTo limits after
    → first_too_long limits.header (bytes ++ piece) ≡ Some at → after.heard ≡ before.heard ++ headers_before at (new_headers bytes piece)
    → header_fault ((bytes ++ piece) ++ more) limits ≡ Some (HeaderTooLong at)
long-case limits bytes piece more before after at grows heard keeps first grown =
    let stream = bytes ++ piece in
    let all = stream ++ more in
    let old = ended_headers bytes in
    let new = new_headers bytes piece in
    let rest = later stream more in
    let parts : headers all ≡ (old ++ new) ++ rest = all-later grows stream more ∙ ap (λ hs. hs ++ rest) (grows.ended bytes piece) in
    let rising : AreRising ((old ++ new) ++ rest) = subst AreRising parts (headers-rising all) in
    let cut : new ≡ headers_before at new ++ headers_from at new = cut-at at new (rising-right old new (rising-left (old ++ new) rest rising)) in
    let front = old ++ headers_before at new in
    let same : after.heard ≡ front = grown ∙ ap (λ hs. hs ++ headers_before at new) heard in
    let whole : headers all ≡ front ++ (headers_from at new ++ rest) =
    cc (append_assoc old (headers_before at new) (headers_from at new), append_assoc front (headers_from at new) rest) in
    let more_longs = grows.longs limits.header stream more in
    fault-long all limits at front (headers_from at new ++ rest) whole
    (subst (λ (hs : List Header). length hs ≤ limits.sections) same keeps.sections)
    (subst (λ hs. text_bytes hs ≤ limits.pool) same keeps.pool)
    (All-append (λ h. at ≤ h.at) (headers_from at new) rest (headers_from-at at new) (grows.behind limits.header at stream more first))
    (ap (λ ls. slice_get ls 0) more_longs.all ∙ first-front (too_long limits.header stream) more_longs.later at first)

stop-case : (limits : Numbers) (bytes piece more : List ℕ) (before after : Hearing) (refused : RefusedHeader) → Grows → before.heard ≡ ended_headers bytes → KeepsTo limits after
    → after.stop ≡ Some refused → StopsAmong before.heard after.heard refused (new_headers bytes piece)
    → All (λ at. refused.at < at) (too_long limits.header (bytes ++ piece))
    → IsHeaderFault limits ((bytes ++ piece) ++ more) (stop_fault refused.value)
stop-case limits bytes piece more before after refused grows heard keeps stop among short =
    let stream = bytes ++ piece in
    let all = stream ++ more in
    let old = ended_headers bytes in
    let rest = later stream more in
    let next = among.next in
    let front = old ++ among.heard in
    let same : after.heard ≡ front = among.grown ∙ ap (λ hs. hs ++ among.heard) heard in
    let ends : ended_headers stream ≡ front ++ next ∷ among.more =
    grows.ended bytes piece ∙ ap (λ hs. old ++ hs) among.parts ∙ sym (append_assoc old among.heard (next ∷ among.more)) in
    let whole : headers all ≡ front ++ next ∷ (among.more ++ rest) =
    all-later grows stream more ∙ ap (λ hs. hs ++ rest) ends ∙ append_assoc front (next ∷ among.more) rest in
    let more_longs = grows.longs limits.header stream more in
    let behind : All (λ at. next.at < at) more_longs.later =
    All-head (λ (h : Header). All (λ at. h.at < at) more_longs.later) next among.more
    (All-right (λ (h : Header). All (λ at. h.at < at) more_longs.later) front (next ∷ among.more)
    (subst (λ hs. All (λ (h : Header). All (λ at. h.at < at) more_longs.later) hs) ends more_longs.behind)) in
    let longs : All (λ at. next.at < at) (too_long limits.header all) =
    All-same (λ at. next.at < at) (too_long limits.header all) (too_long limits.header stream ++ more_longs.later) more_longs.all
    (All-append (λ at. next.at < at) (too_long limits.header stream) more_longs.later
    (subst (λ k. All (λ at. k < at) (too_long limits.header stream)) among.at short) behind) in
    refused-here limits all front (among.more ++ rest) next refused.value refused.at refused.size whole
    (subst (λ hs. text_bytes hs ≤ limits.pool) same keeps.pool)
    (subst (λ hs. IsStopCause limits hs refused.value refused.at refused.size) same (stated limits after refused keeps stop))
    among.at among.size longs

-- a refused that has a value is there
refused-some : (stop : Option RefusedHeader) (value : HeaderStop) → stop_value stop ≡ Some value → (refused : RefusedHeader) × (stop ≡ Some refused) × (refused.value ≡ value)
refused-some stop value is = grind arith

pub feed-refused : (limits : Numbers) (bytes piece more : List ℕ) (before after : Hearing) (fault : ScanFault) → Grows → before.heard ≡ ended_headers bytes → KeepsTo limits after
    → ((at : ℕ) → fault ≡ LineTooLong at → first_too_long limits.header (bytes ++ piece) ≡ Some at)
    → ((at : ℕ) → fault ≡ LineTooLong at → after.heard ≡ before.heard ++ headers_before at (new_headers bytes piece))
    → ((value : HeaderStop) → fault ≡ Stop value → stop_value after.stop ≡ Some value)
    → ((refused : RefusedHeader) → after.stop ≡ Some refused → StopsAmong before.heard after.heard refused (new_headers bytes piece))
    → ((refused : RefusedHeader) → after.stop ≡ Some refused → All (λ at. refused.at < at) (too_long limits.header (bytes ++ piece)))
    → IsHeaderFault limits ((bytes ++ piece) ++ more) (open_fault_of fault)
feed-refused limits bytes piece more before after (LineTooLong at) grows heard keeps first grown stop among short =
    long-case limits bytes piece more before after at grows heard keeps (first at refl) (grown at refl)
feed-refused limits bytes piece more before after (Stop value) grows heard keeps first grown stop among short =
    let some = refused-some after.stop value (stop value refl) in
    subst (λ v. IsHeaderFault limits ((bytes ++ piece) ++ more) (stop_fault v)) some.2
    (stop-case limits bytes piece more before after some.0 grows heard keeps some.1 (among some.0 some.1) (short some.0 some.1))

-- at the end of the stream
stop-last : (limits : Numbers) (bytes : List ℕ) (before after : Hearing) (refused : RefusedHeader) → Grows → before.heard ≡ ended_headers bytes → KeepsTo limits after
    → after.stop ≡ Some refused → StopsAmong before.heard after.heard refused (open_headers bytes) → too_long limits.header bytes ≡ []
    → IsHeaderFault limits bytes (stop_fault refused.value)
stop-last limits bytes before after refused grows heard keeps stop among short = grind (arith, append_assoc, refused-here, stated, All-same, All-nil)

pub finish-refused : (limits : Numbers) (bytes : List ℕ) (before after : Hearing) (fault : ScanFault) → Grows → before.heard ≡ ended_headers bytes → KeepsTo limits after
    → IsSome (stop_of {T = Unit {0}} (Err fault))
    → ((value : HeaderStop) → fault ≡ Stop value → stop_value after.stop ≡ Some value)
    → ((refused : RefusedHeader) → after.stop ≡ Some refused → StopsAmong before.heard after.heard refused (open_headers bytes))
    → too_long limits.header bytes ≡ [] → IsHeaderFault limits bytes (open_fault_of fault)
finish-refused limits bytes before after (LineTooLong at) grows heard keeps only stop among short = cc
finish-refused limits bytes before after (Stop value) grows heard keeps only stop among short =
    let some = refused-some after.stop value (stop value refl) in
    subst (λ v. IsHeaderFault limits bytes (stop_fault v)) some.2
    (stop-last limits bytes before after some.0 grows heard keeps some.1 (among some.0 some.1) short)

pub finish-heard : (limits : Numbers) (bytes : List ℕ) (before after : Hearing) → Grows → before.heard ≡ ended_headers bytes → KeepsTo limits after
    → after.heard ≡ before.heard ++ open_headers bytes → too_long limits.header bytes ≡ []
    → (after.heard ≡ headers bytes) × (header_fault bytes limits ≡ None)
finish-heard limits bytes before after grows heard keeps grown short = grind (arith, fault-none)
