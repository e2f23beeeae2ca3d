use Rattle.std.proofs.Common.{◌+◌, ◌-◌, ◌++◌, length, take, drop, sym, ◌∙◌, ap, subst, append_assoc, append-nil, arith}
use Rattle.std.proofs.lemmas.Result.{err_from_is_err_and}
use Rattle.line_source.specs.Streams.{new_headers, too_long}
use Rattle.line_source.specs.Scan.{StandsFor}
use Rattle.line_source.specs.Inner.Ends.{Ends}
use Rattle.line_source.proofs.Pieces.{new_headers-append}
use Rattle.line_source.proofs.Joins.{two_parts, both_parts, Ends-later}
use Rattle.line_source.proofs.StartPlaces.{length-rest}
use Rattle.line_source.proofs.Scans.{Takes-stopped}
use Rattle.line_source.proofs.line_scan.LineScan.take_other.Goals as goal

pub returns-in_err-taken : goal.returns-in_err-taken
returns-in_err-taken g c =
    let p = err_from_is_err_and c.from_residual.result c.from_residual.ensures.1 in
    let sink = g.H.HeaderSink in
    let scan = c.args.self.now in
    let passed = c.pass-passed.ensures in
    let some = c.in_err-taken.ensures in
    let rest = c.args.rest.now in
    let n = c.pass-passed.result in
    let left = take (length rest - n) (drop n rest) in
    let before = sink.heard c.args.into.now in
    let after = sink.heard c.take_line.new.into in
    let stop = sink.stop c.take_line.new.into in
    let fault = c.in_err-taken.field-0.0 in
    rw (p.1, p.2) (Takes-stopped (some.limit ∙ passed.limit) some.stop (λ stream stands.
    let mid = passed.stands stream stands in
    subst (λ bytes. Ends scan.limit stream bytes before after stop fault) (both_parts rest n)
    (Ends-later scan.limit stream (take n rest) left before before after stop fault
    (ap (λ k. too_long k (stream ++ take n rest)) (sym passed.limit) ∙ mid.short)
    (sym (append-nil before) ∙ ap (λ hs. before ++ hs) (sym (passed.silent stream stands)))
    (subst (λ k. Ends k (stream ++ take n rest) left before after stop fault) passed.limit (some.ends (stream ++ take n rest) mid)))))

pub returns : goal.returns
returns g c =
    let passed = c.pass-passed.ensures in
    let some = c.in_ok-taken.ensures in
    let rest = c.args.rest.now in
    let n = c.pass-passed.result in
    let m = c.in_ok-taken.taken in
    let part = take m (take (length rest - n) (drop n rest)) in
    let before = g.H.HeaderSink.heard c.args.into.now in
    record {
      within = (omega (arith, some.within), omega (arith, some.within, passed.within, length-rest rest n));
      offset = some.offset ∙ ap (λ k. k + m) passed.offset ∙ omega arith;
      limit = some.limit ∙ passed.limit;
      stop = some.stop;
      stands = λ stream stands.
          subst (λ bytes. StandsFor c.take_line.new.self (stream ++ bytes)) (two_parts rest n m)
          (subst (λ bytes. StandsFor c.take_line.new.self bytes) (append_assoc stream (take n rest) part)
          (some.stands (stream ++ take n rest) (passed.stands stream stands)));
      heard = λ stream stands.
          some.heard (stream ++ take n rest) (passed.stands stream stands)
          ∙ ap (λ hs. before ++ hs)
          (sym (ap (new_headers stream) (sym (two_parts rest n m)) ∙ new_headers-append stream (take n rest) part
          ∙ ap (λ hs. hs ++ new_headers (stream ++ take n rest) part) (passed.silent stream stands)));
      ends = tt;
    }
