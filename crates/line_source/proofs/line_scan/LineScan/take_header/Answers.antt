use Rattle.std.proofs.Common.{◌≡◌, ◌+◌, ◌-◌, true, [], ◌∷◌, ◌++◌, length, take, drop, refl, sym, ◌∙◌, ap, subst, arith}
use Rattle.std.proofs.lemmas.Result.{err_from_is_err_and}
use Rattle.std.proofs.lemmas.List.{take_all, append-nil, take-append-drop, length-take-le}
use Rattle.dump_io.specs.Lines.{lf, text_of}
use Rattle.line_source.specs.Streams.{new_headers}
use Rattle.line_source.specs.Receiver.{stop_value}
use Rattle.line_source.specs.Scan.{Scan, StandsFor}
use Rattle.line_source.specs.Inner.Ends.{EndsTooLong, EndsRefused}
use Rattle.line_source.specs.Inner.LastLine.{header_bytes}
use Rattle.dump_io.specs.Laws.LineFeeds.{lacks_lf, upto-lf}
use Rattle.line_source.proofs.HeaderLines.{lacks-before, header-known, EndsTooLong-here, EndsRefused-here, around-lf, new_headers-line, new_headers-longer, kept-offset, kept-bytes, StandsFor-kept, StandsFor-heard, heard-kept}
use Rattle.line_source.proofs.Scans.{Takes-stopped}
use Rattle.line_source.proofs.line_scan.LineScan.take_header.Goals as goal

pub returns-in_err-keep-in-Some : goal.returns-in_err-keep-in-Some
returns-in_err-keep-in-Some g c =
    let p = err_from_is_err_and c.from_residual.result c.from_residual.ensures.1 in
    let k = c.in_err-keep-in-Some.ensures in
    let scan = c.args.self.now in
    let t = header_bytes scan.last in
    let rest = c.args.rest.now in
    let end = c.in-Some.end in
    let first = c.in-Some.ensures.0 in
    let heard = g.H.HeaderSink.heard c.args.into.now in
    rw (p.1, p.2, k.fault) (Takes-stopped (ap (λ (s : Scan). s.limit) k.err) (ap stop_value c.requires.open) (λ stream stands.
    subst (λ bytes. EndsTooLong scan.limit stream bytes heard heard (scan.offset - length t)) (take-append-drop end rest)
    (EndsTooLong-here scan stream t (take end rest) (drop end rest) heard heard stands (header-known scan.last c.requires.header)
    k.within_limit k.within_offset (lacks-before rest end (omega (arith, first.high)) first.before) k.over refl)))

pub returns-in_err-hear-in-Some : goal.returns-in_err-hear-in-Some
returns-in_err-hear-in-Some g c =
    let p = err_from_is_err_and c.from_residual-in_err-hear-in-Some.result c.from_residual-in_err-hear-in-Some.ensures.1 in
    let k = c.in_ok-keep-in-Some.ensures in
    let h = c.in_err-hear-in-Some.ensures in
    let scan = c.args.self.now in
    let t = header_bytes scan.last in
    let rest = c.args.rest.now in
    let end = c.in-Some.end in
    let x = take end rest in
    let first = c.in-Some.ensures.0 in
    let before = g.H.HeaderSink.heard c.args.into.now in
    let after = g.H.HeaderSink.heard c.hear.new.into in
    let stop = g.H.HeaderSink.stop c.hear.new.into in
    let bytes : header_bytes c.keep.new.self.last ≡ t ++ x = kept-bytes scan c.keep.new.self x k.ok in
    let offset : c.keep.new.self.offset ≡ scan.offset + length x = kept-offset scan c.keep.new.self x k.ok in
    rw (p.1, p.2) (Takes-stopped (ap (λ (s : Scan). s.limit) h.err ∙ ap (λ (s : Scan). s.limit) k.ok) (ap stop_value h.hears.1) (λ stream stands.
    subst (λ bytes. EndsRefused scan.limit stream bytes before after stop) (around-lf rest end first.high c.in-Some.ensures.1)
    (EndsRefused-here scan stream t x (drop (end + 1) rest) before after stop _ stands (header-known scan.last c.requires.header)
    k.within_offset (lacks-before rest end (omega (arith, first.high)) first.before) k.fits h.hears.0 h.hears.1
    (ap (λ n. n - length (header_bytes c.keep.new.self.last)) offset ∙ ap (λ b. scan.offset + length x - length b) bytes)
    (ap (λ b. length (text_of (b ++ lf ∷ []))) bytes))))

pub returns-in_err-keep-in-None : goal.returns-in_err-keep-in-None
returns-in_err-keep-in-None g c =
    let p = err_from_is_err_and c.from_residual-in_err-keep-in-None.result c.from_residual-in_err-keep-in-None.ensures.1 in
    let k = c.in_err-keep-in-None.ensures in
    let scan = c.args.self.now in
    let t = header_bytes scan.last in
    let rest = c.args.rest.now in
    let heard = g.H.HeaderSink.heard c.args.into.now in
    let lacks : lacks_lf rest ≡ true = ap lacks_lf (sym (take_all (length rest) rest (omega arith))) ∙ lacks-before rest (length rest) (omega arith) c.in-None.ensures in
    rw (p.1, p.2, k.fault) (Takes-stopped (ap (λ (s : Scan). s.limit) k.err) (ap stop_value c.requires.open) (λ stream stands.
    subst (λ bytes. EndsTooLong scan.limit stream bytes heard heard (scan.offset - length t)) (append-nil rest)
    (EndsTooLong-here scan stream t rest [] heard heard stands (header-known scan.last c.requires.header)
    k.within_limit k.within_offset lacks k.over refl)))

pub returns-in_ok-hear-in-Some : goal.returns-in_ok-hear-in-Some
returns-in_ok-hear-in-Some g c =
    let k = c.in_ok-keep-in-Some.ensures in
    let h = c.in_ok-hear-in-Some.ensures in
    let scan = c.args.self.now in
    let rest = c.args.rest.now in
    let end = c.in-Some.end in
    let first = c.in-Some.ensures.0 in
    let x = take end rest in
    let before = g.H.HeaderSink.heard c.args.into.now in
    let size : length x ≡ end = length-take-le end rest (omega (arith, first.high)) in
    let kept : c.keep.new.self.offset ≡ scan.offset + length x = kept-offset scan c.keep.new.self x k.ok in
    record {
      within = (omega arith, omega (arith, first.high));
      offset = ap (λ (s : Scan). s.offset) h.ok ∙ omega (arith, kept, size);
      limit = ap (λ (s : Scan). s.limit) h.ok ∙ ap (λ (s : Scan). s.limit) k.ok;
      stop = ap stop_value h.hears.1;
      stands = λ stream stands.
          subst (λ bytes. StandsFor c.hear.new.self (stream ++ bytes)) (sym (upto-lf rest end first.high c.in-Some.ensures.1))
          (StandsFor-heard scan c.keep.new.self c.hear.new.self stream x stands c.requires.header k.within_offset
          (lacks-before rest end (omega (arith, first.high)) first.before) k.fits k.ok h.ok);
      heard = λ stream stands.
          h.hears.0
          ∙ ap (λ h. before ++ h ∷ []) (heard-kept scan c.keep.new.self x k.ok)
          ∙ ap (λ hs. before ++ hs) (sym (ap (new_headers stream) (upto-lf rest end first.high c.in-Some.ensures.1)
          ∙ new_headers-line scan stream (header_bytes scan.last) x stands (header-known scan.last c.requires.header)
          (lacks-before rest end (omega (arith, first.high)) first.before)));
      ends = tt;
    }

pub returns-in_ok-keep-in-None : goal.returns-in_ok-keep-in-None
returns-in_ok-keep-in-None g c =
    let k = c.in_ok-keep-in-None.ensures in
    let scan = c.args.self.now in
    let rest = c.args.rest.now in
    let whole : take (length rest) rest ≡ rest = take_all (length rest) rest (omega arith) in
    let lacks : lacks_lf rest ≡ true = ap lacks_lf (sym whole) ∙ lacks-before rest (length rest) (omega arith) c.in-None.ensures in
    let before = g.H.HeaderSink.heard c.args.into.now in
    record {
      within = (omega (arith, c.requires.some), omega arith);
      offset = ap (λ (s : Scan). s.offset) k.ok;
      limit = ap (λ (s : Scan). s.limit) k.ok;
      stop = ap stop_value c.requires.open;
      stands = λ stream stands.
          subst (λ bytes. StandsFor c.keep-in-None.new.self (stream ++ bytes)) (sym whole)
          (StandsFor-kept scan c.keep-in-None.new.self stream rest stands c.requires.header k.within_offset lacks k.fits k.ok);
      heard = λ stream stands.
          sym (append-nil before) ∙ ap (λ hs. before ++ hs) (sym (ap (new_headers stream) whole
          ∙ new_headers-longer scan stream (header_bytes scan.last) rest stands (header-known scan.last c.requires.header) lacks));
      ends = tt;
    }
