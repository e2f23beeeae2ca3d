use Rattle.std.specs.Prelude.{All, ◌<◌}
use Rattle.std.proofs.Common.{◌++◌, Err, ap, sym, subst, ◌∙◌}
use Rattle.std.proofs.lemmas.Result.{err_from_is_err_and}
use Rattle.line_source.specs.Feeding.{first_too_long, stop_of}
use Rattle.line_source.specs.Streams.{too_long}
use Rattle.section_index.proofs.Faults.{Grows, feed-refused}
use Rattle.section_index.proofs.scanning.feed_piece.Goals as goal

pub returns-in_err-result-clause-refused : goal.returns-in_err-result-clause-refused
returns-in_err-result-clause-refused g c =
    let p = err_from_is_err_and c.from_residual.result c.from_residual.ensures.1 in
    let laws = c.streams_grow.ensures in
    let grows : Grows = record { split = laws.headers; ended = laws.ended; longs = laws.too_long; behind = laws.after_too_long } in
    let fed = c.in_err-result.ensures in
    let limits = g.B.Bounds.limits in
    let piece = c.args.piece.now in
    let fault = c.in_err-result.field-0.0 in
    rw (p.1, p.2) (λ bytes more heard.
    feed-refused limits bytes piece more c.args.receiver.now c.feed-result.new.into fault grows heard.heard c.keeps_to_its_limits.ensures
    (λ at is. ap (λ n. first_too_long n (bytes ++ piece)) (sym c.requires.limit) ∙ ((fed.too_long bytes heard.stands at).0 (ap Err is)).1)
    (λ at is. fed.heard_before_long bytes heard.stands at (ap Err is))
    (λ value is. fed.stop ∙ ap (λ f. stop_of {T = Unit {0}} (Err f)) is)
    (λ refusal is. fed.refused bytes heard.stands refusal is)
    (λ refusal is. subst (λ n. All (λ at. refusal.at < at) (too_long n (bytes ++ piece))) c.requires.limit (fed.refused_is_short bytes heard.stands refusal is)))
