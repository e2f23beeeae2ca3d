use Rattle.std.proofs.Common.{◌+◌, ◌≤◌, length, ◌∙◌, ap, arith}
use Rattle.std.specs.List.{between}
use Rattle.dump_redact.specs.Inner.Copying.{copied, stretch_behind}
use Rattle.dump_redact.proofs.Copies.{Copies-done, Copies-piece, HasCopied-done}
use Rattle.dump_redact.proofs.Offsets.{piece-told}
use Rattle.dump_redact.proofs.copying.copy_piece.Goals as goal

pub returns-clause-copies : goal.returns-clause-copies
returns-clause-copies g c =
    let read = c.in_ok-count.ensures in
    let within : c.in_ok-count.count ≤ length c.read_piece.new.buffer = omega (arith, c.read_piece.auto.buffer, read.count) in
    Copies-done (HasCopied-done (Copies-piece _ read.reads c.in_ok-put_bytes.ensures.puts c.in_ok-put_bytes.ensures.fault (λ dump is.
    c.rewrite-next.ensures.text
    ∙ ap (copied c.args.stretch.now) (piece-told _ c.args.from c.in_ok-count.count c.read_piece.new.buffer dump is read.piece within
    ∙ ap (λ n. between c.args.from (c.args.from + n) dump) read.count))))

pub returns-clause-behind : goal.returns-clause-behind
returns-clause-behind g c dump is =
    let read = c.in_ok-count.ensures in
    let within : c.in_ok-count.count ≤ length c.read_piece.new.buffer = omega (arith, c.read_piece.auto.buffer, read.count) in
    c.rewrite-next.ensures.behind
    ∙ ap (stretch_behind c.args.stretch.now) (piece-told _ c.args.from c.in_ok-count.count c.read_piece.new.buffer dump is read.piece within
    ∙ ap (λ n. between c.args.from (c.args.from + n) dump) read.count)
