use Rattle.std.proofs.Common.{◌+◌, ◌-◌, ◌≤◌, ◌++◌, length, take, drop, refl, sym, ◌∙◌, ap, subst, append_assoc, append-nil, arith}
use Rattle.std.proofs.lemmas.Result.{err_from_is_err_and}
use Rattle.line_source.specs.Streams.{new_headers, too_long}
use Rattle.line_source.specs.Scan.{StandsFor}
use Rattle.line_source.specs.Inner.Ends.{Ends}
use Rattle.line_source.proofs.Pieces.{new_headers-append}
use Rattle.line_source.proofs.Joins.{two_parts, both_parts, Ends-later, new_headers-none, refused-none}
use Rattle.line_source.proofs.StartPlaces.{length-rest}
use Rattle.line_source.proofs.line_scan.LineScan.take_all.Goals as goal

pub loop-done-init : goal.loop-done-init
loop-done-init g c = record {
  within = omega arith;
  limit = refl;
  offset = omega arith;
  open' = c.requires.open;
  stands = λ stream stands. subst (λ s. StandsFor c.args.self.now s) (sym (append-nil stream)) stands;
  heard = λ stream stands. sym (append-nil (g.H.HeaderSink.heard c.args.into.now)) ∙ ap (λ hs. g.H.HeaderSink.heard c.args.into.now ++ hs) (sym (new_headers-none stream));
}

pub returns-in_err-done-clause-ends : goal.returns-in_err-done-clause-ends
returns-in_err-done-clause-ends g c =
    let p = err_from_is_err_and c.from_residual.result c.from_residual.ensures.1 in
    let sink = g.H.HeaderSink in
    let scan = c.args.self.now in
    let all = c.loop-done.invariant in
    let some = c.in_err-done.ensures in
    let piece = c.args.piece.now in
    let done = c.loop-done.done in
    let rest = take (length piece - done) (drop done piece) in
    let before = sink.heard c.args.into.now in
    let middle = sink.heard c.loop-done.into in
    let after = sink.heard c.take_some.new.into in
    let stop = sink.stop c.take_some.new.into in
    let fault = c.in_err-done.field-0.0 in
    rw (p.1, p.2) (λ stream stands.
    let mid = all.stands stream stands in
    subst (λ bytes. Ends scan.limit stream bytes before after stop fault) (both_parts piece done)
    (Ends-later scan.limit stream (take done piece) rest before middle after stop fault
    (ap (λ n. too_long n (stream ++ take done piece)) (sym all.limit) ∙ mid.short)
    (all.heard stream stands)
    (subst (λ n. Ends n (stream ++ take done piece) rest middle after stop fault) all.limit (some.ends (stream ++ take done piece) mid))))

pub loop-done-preserved : goal.loop-done-preserved
loop-done-preserved g c =
    let sink = g.H.HeaderSink in
    let all = c.loop-done.invariant in
    let some = c.in_ok-done.ensures in
    let piece = c.args.piece.now in
    let done = c.loop-done.done in
    let n = c.in_ok-done.field-0 in
    let part = take n (take (length piece - done) (drop done piece)) in
    let inside : n ≤ length piece - done = omega (arith, some.within, length-rest piece done) in
    record {
      within = omega (arith, inside, all.within);
      limit = some.limit ∙ all.limit;
      offset = some.offset ∙ ap (λ k. k + n) all.offset ∙ omega arith;
      open' = refused-none (sink.stop c.take_some.new.into) some.stop;
      stands = λ stream stands.
          subst (λ bytes. StandsFor c.take_some.new.self (stream ++ bytes)) (two_parts piece done n)
          (subst (λ bytes. StandsFor c.take_some.new.self bytes) (append_assoc stream (take done piece) part)
          (some.stands (stream ++ take done piece) (all.stands stream stands)));
      heard = λ stream stands.
          let before = sink.heard c.args.into.now in
          some.heard (stream ++ take done piece) (all.stands stream stands)
          ∙ ap (λ hs. hs ++ new_headers (stream ++ take done piece) part) (all.heard stream stands)
          ∙ append_assoc before (new_headers stream (take done piece)) (new_headers (stream ++ take done piece) part)
          ∙ ap (λ hs. before ++ hs) (sym (new_headers-append stream (take done piece) part) ∙ ap (new_headers stream) (two_parts piece done n));
    }
