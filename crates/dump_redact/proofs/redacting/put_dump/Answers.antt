use Rattle.std.proofs.Common.{◌≡◌, ℕ, List, ◌++◌, length, ◌∙◌, ap, arith}
use Rattle.std.specs.List.{between}
use Rattle.std.proofs.lemmas.Result.{err_from_is_err_and}
use Rattle.dump_redact.specs.Redacted.{redacted}
use Rattle.dump_redact.specs.Inner.Places.{offset_of, text_between}
use Rattle.dump_redact.proofs.Copies.{HasCopied-then, Copies-broken, Copies-done, Copies-text}
use Rattle.dump_redact.proofs.Offsets.{built-told, offset-rise, offset-end, offset-within, whole-text}
use Rattle.dump_redact.proofs.Stretches.{between-join}
use Rattle.dump_redact.proofs.redacting.put_dump.Goals as goal

pub loop-i-preserved : goal.loop-i-preserved
loop-i-preserved g c =
    let index = c.args.index.now in
    let bounded = c.len.ensures.bounded in
    let i = c.loop-i.i in
    let next = c.next_place-next.result in
    let found = c.next_place-next.ensures in
    let all = c.loop-i.invariant in
    let start = offset-rise index bounded 0 i (omega arith) all.place in
    let rise = offset-rise index bounded i next (omega (arith, found.some)) found.within in
    record {
      place = found.within;
      copied = HasCopied-then (offset_of index next) (λ dump. text_between index 0 next (redacted dump)) all.copied c.in_ok-put_some.ensures (omega (arith, rise)) (λ dump is.
          between-join (redacted dump) (offset_of index 0) (offset_of index i) (offset_of index next) start rise);
    }

pub returns-in_err-put_some : goal.returns-in_err-put_some
returns-in_err-put_some g c =
    let p = err_from_is_err_and c.from_residual.result c.from_residual.ensures.1 in
    let index = c.args.index.now in
    let bounded = c.len.ensures.bounded in
    let i = c.loop-i.i in
    let next = c.next_place-next.result in
    let found = c.next_place-next.ensures in
    let all = c.loop-i.invariant in
    let start = offset-rise index bounded 0 i (omega arith) all.place in
    let rise = offset-rise index bounded i next (omega (arith, found.some)) found.within in
    let inside = offset-within index bounded next found.within in
    let rest = λ (dump : List ℕ). between (offset_of index next) index.size (redacted dump) in
    rw (p.1, p.2) (Copies-broken index.size redacted rest all.copied c.in_err-put_some.ensures (omega (arith, rise, inside)) (λ dump is.
    ap (λ l. l ++ rest dump) (between-join (redacted dump) (offset_of index 0) (offset_of index i) (offset_of index next) start rise)
    ∙ between-join (redacted dump) (offset_of index 0) (offset_of index next) index.size (omega (arith, start, rise)) inside
    ∙ whole-text index bounded dump (built-told (g.D.Dumps.state c.args.dumps.now).now index dump c.requires.over is)))

pub returns : goal.returns
returns g c =
    let index = c.args.index.now in
    let bounded = c.len.ensures.bounded in
    let i = c.loop-i.i in
    let all = c.loop-i.invariant in
    let past : i ≡ length index.headers = omega (arith, all.place, c.len.ensures.value, c.loop-i-test.false) in
    Copies-text index.size redacted (Copies-done all.copied) (offset-within index bounded i all.place) (λ dump is.
    ap (λ n. between (offset_of index 0) n (redacted dump)) (offset-end index bounded i past)
    ∙ whole-text index bounded dump (built-told (g.D.Dumps.state c.args.dumps.now).now index dump c.requires.over is))
