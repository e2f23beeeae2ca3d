use Rattle.std.proofs.Common.{◌++◌, refl, sym, ◌∙◌, ap, append-nil}
use Rattle.line_source.proofs.Scans.{open_headers-header, open_headers-other, StopsAmong-last}
use Rattle.line_source.proofs.line_scan.LineScan.hear_last.Goals as goal

pub returns-in_err-hear_open-clause-refused : goal.returns-in_err-hear_open-clause-refused
returns-in_err-hear_open-clause-refused g c stream stands kept stop =
    let refused = c.in_err-hear_open.ensures in
    StopsAmong-last c.args.self.now stream _ _ _ kept stands (sym c.in_header.ensures ∙ c.if-in_header.true) refused.0 (sym refused.1 ∙ stop) refl refl

pub returns-in_ok-hear_open-clause-heard : goal.returns-in_ok-hear_open-clause-heard
returns-in_ok-hear_open-clause-heard g c stream stands =
    let before = g.H.HeaderSink.heard c.args.into.now in
    c.in_ok-hear_open.ensures.0
    ∙ ap (λ hs. before ++ hs) (sym (open_headers-header c.args.self.now stream stands (sym c.in_header.ensures ∙ c.if-in_header.true)))

pub returns-else-in_header-clause-heard : goal.returns-else-in_header-clause-heard
returns-else-in_header-clause-heard g c stream stands =
    let before = g.H.HeaderSink.heard c.args.into.now in
    sym (append-nil before)
    ∙ ap (λ hs. before ++ hs) (sym (open_headers-other c.args.self.now stream stands (sym c.in_header.ensures ∙ c.if-in_header.false)))
