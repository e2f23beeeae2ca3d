use Rattle.std.proofs.Common.{Err, ap, sym, ◌∙◌}
use Rattle.std.proofs.lemmas.Result.{err_from_is_err_and}
use Rattle.line_source.specs.Feeding.{stop_of}
use Rattle.line_source.specs.Streams.{too_long}
use Rattle.section_index.proofs.Faults.{Grows, finish-refused, finish-heard}
use Rattle.section_index.proofs.scanning.finish_scan.Goals as goal

pub returns-in_err-result-clause-refused : goal.returns-in_err-result-clause-refused
returns-in_err-result-clause-refused g c =
    let p = err_from_is_err_and c.from_residual.result c.from_residual.ensures.1 in
    let laws = c.streams_grow.ensures in
    let grows : Grows = record { split = laws.headers; ended = laws.ended; longs = laws.too_long; behind = laws.after_too_long } in
    let done = c.in_err-result.ensures in
    let fault = c.in_err-result.field-0.0 in
    rw (p.1, p.2) (λ bytes heard.
    finish-refused g.B.Bounds.limits bytes c.args.receiver c.finish-result.new.into fault grows heard.heard c.keeps_to_its_limits.ensures
    done.only_stop
    (λ value is. done.stop ∙ ap (λ f. stop_of {T = Unit {0}} (Err f)) is)
    (λ refusal is. done.refused bytes heard.stands refusal is)
    (ap (λ n. too_long n bytes) (sym c.requires.limit) ∙ heard.stands.short))

pub returns-clause-heard : goal.returns-clause-heard
returns-clause-heard g c bytes heard =
    let laws = c.streams_grow.ensures in
    let grows : Grows = record { split = laws.headers; ended = laws.ended; longs = laws.too_long; behind = laws.after_too_long } in
    let all = finish-heard g.B.Bounds.limits bytes c.args.receiver c.finish-result.new.into grows heard.heard c.keeps_to_its_limits.ensures
    (c.in_ok-result.ensures.heard bytes heard.stands)
    (ap (λ n. too_long n bytes) (sym c.requires.limit) ∙ heard.stands.short) in
    (c.into_headers.ensures ∙ all.0, all.1)
