use Rattle.std.proofs.Common.{◌+◌, ◌^◌, ◌<◌, ◌≤◌, length, arith, rules}
use Rattle.std.proofs.lemmas.Result.{err_from_is_err_and}
use Rattle.dump_io.specs.Laws.Reads.{ReadsAtMost-none}
use Rattle.dump_redact.specs.Redacted.{redacted}
use Rattle.dump_redact.specs.Inner.Places.{offset_of}
use Rattle.dump_redact.proofs.Copies.{Copies-failed, break-memory}
use Rattle.dump_redact.proofs.Alike.{keeps-length}
use Rattle.dump_redact.proofs.Offsets.{built-told, offset-less, offset-within, length-part}
use Rattle.dump_redact.proofs.redacting.put_heap.Goals as goal

pub returns-in_err-make_room : goal.returns-in_err-make_room
returns-in_err-make_room g c =
    let state = g.D.Dumps.state c.args.dumps.now in
    let sink = g.K.Sink.state c.args.sink.now in
    let small : state.taken < 2 ^ 64 = search rules in
    let p = err_from_is_err_and c.from_residual.result c.from_residual.ensures.1 in
    let index = c.args.index.now in
    let i = c.args.i in
    let place : i + 1 ≤ length index.headers = omega (arith, c.requires.place) in
    let bounded = c.offset-upto.ensures.bounded in
    rw (p.1, p.2) (Copies-failed _ (ReadsAtMost-none _ small) (break-memory state state sink sink c.in_err-make_room.field-0.0 c.in_err-make_room.ensures.fault) (λ dump is.
    let of = built-told state.now index dump c.requires.over is in
    let inside : offset_of index (i + 1) ≤ length (redacted dump) = omega (arith, keeps-length dump, of.size, offset-within index bounded (i + 1) place) in
    omega (arith, length-part (redacted dump) (offset_of index i) (offset_of index (i + 1)) inside, offset-less index bounded i (i + 1) (omega arith) place)))
