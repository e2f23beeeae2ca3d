use Rattle.std.proofs.Common.{◌≡◌, ◌-◌, ◌≤◌, ◌++◌, length, take, sym, ◌∙◌, subst, arith, inr}
use Rattle.std.proofs.lemmas.Result.{err_from_is_err_and}
use Rattle.std.proofs.lemmas.List.{length-take-le}
use Rattle.dump_io.specs.Dumps.{Gives}
use Rattle.dump_io.specs.Laws.Reads.{ReadsAtMost-both}
use Rattle.dump_sections.specs.Versions.{signature}
use Rattle.section_index.proofs.Grown.{Gives-next, starts_with-append, IsHeaderRefusal-first}
use Rattle.section_index.proofs.builder.feed_rest.Goals as goal

pub returns-in_err-feed_piece-clause-fault : goal.returns-in_err-feed_piece-clause-fault
returns-in_err-feed_piece-clause-fault g c =
    let p = err_from_is_err_and c.from_residual.result c.from_residual.ensures.1 in
    let now = (g.D.Dumps.state c.args.dumps.now).now in
    let all = c.loop-at.invariant in
    let begun = all.begun in
    let read = c.in-Ok.ensures in
    let piece = take c.in-Ok.count c.read_piece.new.buffer in
    let fed = c.in_err-feed_piece.ensures in
    let next : Gives now 0 (begun.bytes ++ piece) =
    Gives-next now begun.bytes piece c.loop-at.at (sym all.offset ∙ begun.heard.stands.offset) begun.first
    (subst (λ n. Gives n c.loop-at.at piece) all.reads.same_now read.piece) in
    rw (p.1, p.2) (inr (IsHeaderRefusal-first g.B.Bounds.limits now (begun.bytes ++ piece) c.in_err-feed_piece.field-0.0 next fed.fault
    (λ more. fed.refused begun.bytes more begun.heard)))

pub loop-at-preserved : goal.loop-at-preserved
loop-at-preserved g c =
    let d = g.D.Dumps in
    let now = (d.state c.args.dumps.now).now in
    let all = c.loop-at.invariant in
    let read = c.in-Ok.ensures in
    let fed = c.in_ok-feed_piece.ensures in
    let begun = all.begun in
    let count = c.in-Ok.count in
    let piece = take count c.read_piece.new.buffer in
    let upto : count ≤ c.args.size - c.loop-at.at = omega (arith, read.count) in
    let size : length piece ≡ count = length-take-le count c.read_piece.new.buffer (omega (arith, c.read_piece.auto.buffer, read.count)) in
    record {
      from = omega (arith, all.from);
      inside = omega (arith, all.inside, upto);
      reads = ReadsAtMost-both all.reads read.reads (omega (arith, read.count, all.from));
      fresh = fed.fresh;
      limit = fed.limit ∙ all.limit;
      offset = fed.offset ∙ omega (arith, all.offset, size);
      silent = fed.open;
      begun = record {
        bytes = begun.bytes ++ piece;
        first = Gives-next now begun.bytes piece c.loop-at.at (sym all.offset ∙ begun.heard.stands.offset) begun.first
            (subst (λ n. Gives n c.loop-at.at piece) all.reads.same_now read.piece);
        signed = starts_with-append begun.bytes piece signature begun.signed;
        heard = fed.heard begun.bytes begun.heard;
      };
    }
