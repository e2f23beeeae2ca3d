use Rattle.std.proofs.Common.{[], ◌∷◌, ◌++◌, refl, sym, ◌∙◌, ap, subst, append-nil, arith, ◌≡◌, length, take}
use Rattle.std.proofs.lemmas.List.{length-take-le}
use Rattle.std.proofs.lemmas.Result.{err_from_is_err_and}
use Rattle.dump_io.specs.Lines.{equals_sign}
use Rattle.line_source.specs.Streams.{new_headers}
use Rattle.line_source.specs.Receiver.{stop_value}
use Rattle.line_source.specs.Scan.{Scan, StandsFor}
use Rattle.line_source.proofs.WholeLines.{StandsFor-begun, silent-sign, take-sign, stands-heard, header-heard, refused-here}
use Rattle.line_source.proofs.Scans.{Takes-stopped}
use Rattle.line_source.proofs.line_scan.LineScan.take_line.Goals as goal

pub returns-in_err-hear_line-in-Some : goal.returns-in_err-hear_line-in-Some
returns-in_err-hear_line-in-Some g c =
    let p = err_from_is_err_and c.from_residual.result c.from_residual.ensures.1 in
    let h = c.in_err-hear_line-in-Some.ensures in
    let before = g.H.HeaderSink.heard c.args.into.now in
    let after = g.H.HeaderSink.heard c.hear_line.new.into in
    let stop = g.H.HeaderSink.stop c.hear_line.new.into in
    let found = c.in-Some.ensures in
    rw (p.1, p.2) (Takes-stopped (ap (λ (s : Scan). s.limit) h.err) (ap stop_value h.hears.1) (λ stream stands.
    refused-here c.args.self.now stream stands c.requires.line c.args.rest.now c.in-Some.end c.requires.sign found.inside found.before found.here found.fits
    before after stop _ h.hears.0 h.hears.1 refl refl))

pub returns-in_ok-hear_line-in-Some : goal.returns-in_ok-hear_line-in-Some
returns-in_ok-hear_line-in-Some g c =
    let h = c.in_ok-hear_line-in-Some.ensures in
    let scan = c.args.self.now in
    let rest = c.args.rest.now in
    let end = c.in-Some.end in
    let found = c.in-Some.ensures in
    let before = g.H.HeaderSink.heard c.args.into.now in
    let size : length (take end rest) ≡ end = length-take-le end rest (omega (arith, found.inside)) in
    record {
      within = (omega arith, omega (arith, found.inside));
      offset = ap (λ (s : Scan). s.offset) h.ok ∙ omega (arith, size);
      limit = ap (λ (s : Scan). s.limit) h.ok;
      stop = ap stop_value h.hears.1;
      stands = λ stream stands.
          stands-heard scan stream stands c.requires.line rest end c.requires.sign found.inside found.before found.here found.fits
          c.hear_line.new.self (ap (λ (s : Scan). s.limit) h.ok) (ap (λ (s : Scan). s.offset) h.ok) (ap (λ (s : Scan). s.last) h.ok);
      heard = λ stream stands.
          h.hears.0
          ∙ ap (λ hs. before ++ hs)
          (sym (header-heard scan stream stands c.requires.line rest end c.requires.sign found.inside found.before found.here found.fits));
      ends = tt;
    }

pub returns-in-None : goal.returns-in-None
returns-in-None g c =
    let begun = c.begin_header.ensures in
    let scan = c.args.self.now in
    let rest = c.args.rest.now in
    let before = g.H.HeaderSink.heard c.args.into.now in
    record {
      within = (omega arith, omega (arith, c.requires.some));
      offset = ap (λ (s : Scan). s.offset) begun.header;
      limit = ap (λ (s : Scan). s.limit) begun.header;
      stop = ap stop_value c.requires.open;
      stands = λ stream stands.
          subst (λ bytes. StandsFor c.begin_header.new.self (stream ++ bytes)) (sym (take-sign rest c.requires.some c.requires.sign))
          (subst (λ (s : Scan). StandsFor s (stream ++ equals_sign ∷ [])) (sym begun.header) (StandsFor-begun scan stream stands c.requires.line begun.limit));
      heard = λ stream stands.
          sym (append-nil before)
          ∙ ap (λ hs. before ++ hs)
          (sym (ap (new_headers stream) (take-sign rest c.requires.some c.requires.sign) ∙ silent-sign scan stream stands c.requires.line));
      ends = tt;
    }
