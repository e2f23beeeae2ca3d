use Rattle.std.proofs.Common.{◌+◌, ◌-◌, ◌≤◌, ◌++◌, length, take, refl, arith, length-append}
use Rattle.std.specs.List.{between}
use Rattle.std.proofs.lemmas.Result.{err_from_is_err_and}
use Rattle.dump_io.specs.Laws.Reads.{ReadsAtMost-within}
use borrow.Rule.Slice.PartMut.{put_mid}
use Rattle.dump_redact.specs.declared.parts.Part.TheVariants.{Binary}
use Rattle.dump_redact.specs.Bodies.{redacted_body}
use Rattle.dump_redact.specs.Inner.Copying.{copied}
use Rattle.dump_redact.proofs.Copies.{HasCopied-read, HasCopied-done, Copies-put, Copies-piece, Copies-failed, Copies-broken, Copies-last, break-read}
use Rattle.dump_redact.proofs.Leads.{near-piece}
use Rattle.dump_redact.proofs.Offsets.{told-size, piece-told, length-part}
use Rattle.dump_redact.proofs.Sections.{length-body}
use Rattle.dump_redact.proofs.bodies.put_binary.Goals as goal

pub returns-in_err-count : goal.returns-in_err-count
returns-in_err-count g c =
    let d = g.D.Dumps in
    let sink = g.K.Sink.state c.args.sink.now in
    let p = err_from_is_err_and c.from_residual.result c.from_residual.ensures.1 in
    let read = c.in_err-count.ensures in
    rw (p.1, p.2) (Copies-failed _ (ReadsAtMost-within (omega arith) read.reads) (break-read (d.state c.args.dumps.now) (d.state c.read_piece.new.dumps) sink sink c.in_err-count.field-0.0 read.fault) (λ dump is.
    let front = between c.args.from c.args.body dump in
    let rest = between c.args.body c.args.upto dump in
    omega (
      arith,
      length-append front (redacted_body c.args.enc Binary rest),
      length-body c.args.enc Binary rest,
      length-part dump c.args.body c.args.upto (told-size (d.state c.args.dumps.now).now dump c.args.upto is c.requires.held.1),
      c.requires.some,
    )))

pub returns-in_err-put_bytes : goal.returns-in_err-put_bytes
returns-in_err-put_bytes g c =
    let p = err_from_is_err_and c.from_residual-in_err-put_bytes.result c.from_residual-in_err-put_bytes.ensures.1 in
    let now = (g.D.Dumps.state c.args.dumps.now).now in
    let read = c.in_ok-count.ensures in
    let count = c.in_ok-count.count in
    let from = c.args.from in
    let body = c.args.body in
    let upto = c.args.upto in
    let put = c.in_err-put_bytes.ensures in
    let buffer = c.read_piece.new.buffer in
    let within : count ≤ length buffer = omega (arith, c.read_piece.auto.buffer, read.count) in
    rw (p.1, p.2) (Copies-broken (upto - from) (λ dump. between from body dump ++ redacted_body c.args.enc Binary (between body upto dump)) (λ dump. copied c.redact_lead-stretch.result (between (from + count) upto dump))
    (HasCopied-read read.reads) (Copies-put (omega (arith, read.reads.taken_most)) put.puts put.fault) (omega arith) (λ dump is.
    near-piece c.args.enc buffer c.redact_lead-stretch.new.piece c.redact_lead-stretch.result dump from body count upto (length c.args.buffer.now) c.redact_lead-stretch.ensures
    (piece-told now from count buffer dump is read.piece within) c.redact_lead-stretch.auto.piece c.requires.near read.count within c.requires.ordered c.requires.some (told-size now dump upto is c.requires.held.1)))

pub returns : goal.returns
returns g c =
    let now = (g.D.Dumps.state c.args.dumps.now).now in
    let read = c.in_ok-count.ensures in
    let count = c.in_ok-count.count in
    let from = c.args.from in
    let body = c.args.body in
    let upto = c.args.upto in
    let put = c.in_ok-put_bytes.ensures in
    let buffer = c.read_piece.new.buffer in
    let new = c.redact_lead-stretch.new.piece in
    let within : count ≤ length buffer = omega (arith, c.read_piece.auto.buffer, read.count) in
    let piece = take count (put_mid (body - from) (count - (body - from)) buffer new) in
    Copies-last (upto - from) (λ dump. between from body dump ++ redacted_body c.args.enc Binary (between body upto dump)) (HasCopied-done (Copies-piece (λ _. piece) read.reads put.puts put.fault (λ dump is. refl))) c.copy.ensures
    (omega (arith, read.count, c.requires.some)) (λ dump is.
    near-piece c.args.enc buffer new c.redact_lead-stretch.result dump from body count upto (length c.args.buffer.now) c.redact_lead-stretch.ensures
    (piece-told now from count buffer dump is read.piece within) c.redact_lead-stretch.auto.piece c.requires.near read.count within c.requires.ordered c.requires.some (told-size now dump upto is c.requires.held.1))
