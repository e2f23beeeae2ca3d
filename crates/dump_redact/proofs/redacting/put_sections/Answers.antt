use Rattle.std.proofs.Common.{◌≤◌, length, arith}
use Rattle.std.proofs.lemmas.Result.{err_from_is_err_and}
use Rattle.dump_io.specs.Laws.Reads.{ReadsAtMost-within}
use Rattle.dump_redact.specs.Redacted.{redacted}
use Rattle.dump_redact.specs.Inner.Places.{offset_of}
use Rattle.dump_redact.proofs.Copies.{Copies-failed, break-read}
use Rattle.dump_redact.proofs.Alike.{keeps-length}
use Rattle.dump_sections.specs.Laws.{built-size}
use Rattle.dump_redact.proofs.Offsets.{built-told, offset-rise, offset-less, offset-within, length-part}
use Rattle.dump_redact.proofs.redacting.put_sections.Goals as goal

pub read_piece-requires-clause-held : goal.read_piece-requires-clause-held
read_piece-requires-clause-held g c =
    let index = c.args.index.now in
    let size = built-size (g.D.Dumps.state c.args.dumps.now).now index c.requires.over in
    (size.0, omega (arith, size.1, c.offset-upto.ensures.value, offset-within index c.offset-upto.ensures.bounded c.args.next c.requires.within))

pub read_piece-requires-clause-ordered : goal.read_piece-requires-clause-ordered
read_piece-requires-clause-ordered g c =
    let rise = offset-rise c.args.index.now c.offset-upto.ensures.bounded c.args.i c.args.next (omega (arith, c.requires.some)) c.requires.within in
    omega (arith, c.offset-from.ensures.value, c.offset-upto.ensures.value, rise)

pub returns-in_err-count : goal.returns-in_err-count
returns-in_err-count g c =
    let d = g.D.Dumps in
    let sink = g.K.Sink.state c.args.sink.now in
    let p = err_from_is_err_and c.from_residual.result c.from_residual.ensures.1 in
    let index = c.args.index.now in
    let i = c.args.i in
    let next = c.args.next in
    let bounded = c.offset-upto.ensures.bounded in
    let read = c.in_err-count.ensures in
    rw (p.1, p.2) (Copies-failed _ (ReadsAtMost-within (omega (arith, c.offset-from.ensures.value, c.offset-upto.ensures.value)) read.reads) (break-read (d.state c.args.dumps.now) (d.state c.read_piece.new.dumps) sink sink c.in_err-count.field-0.0 read.fault) (λ dump is.
    let of = built-told (d.state c.args.dumps.now).now index dump c.requires.over is in
    let inside : offset_of index next ≤ length (redacted dump) = omega (arith, keeps-length dump, of.size, offset-within index bounded next c.requires.within) in
    omega (arith, length-part (redacted dump) (offset_of index i) (offset_of index next) inside, offset-less index bounded i next c.requires.some c.requires.within)))
