use Rattle.std.proofs.Common.{◌≡◌, ℕ, List, ◌++◌, [], length, take, Ok, Err, sym, ◌∙◌, ap, subst, arith}
use Rattle.std.proofs.lemmas.Result.{err_from_is_err_and}
use Rattle.std.proofs.lemmas.List.{length-take-le}
use Rattle.dump_io.specs.Dumps.{told, Gives}
use Rattle.dump_io.specs.Laws.Reads.{ReadsAtMost-both, ReadsAtMost-within}
use Rattle.section_index.specs.Inner.Scanning.{HasHeard, IsHeaderFault}
use Rattle.dump_io.specs.Lines.{headers}
use Rattle.section_index.specs.Opening.{header_fault}
use Rattle.section_index.proofs.Beginnings.{headers-some}
use Rattle.section_index.proofs.Answering.{IsFirstPiece, IsFirstPiece-read, judged-whole, signed-first, answer-judged, answer-header, answer-index, answer-rest, small-by-bytes, small-by-header, small-by-rest, beginning-isnt-read, header-isnt-read, read-too, ok-isnt-read, Gives-all, built-over}
use Rattle.section_index.specs.Answers.{IsAnswerFor}
use Rattle.dump_sections.specs.Sections.{sections_of}
use Rattle.dump_sections.specs.Tiling.{Tile}
use Rattle.section_index.proofs.ShortLines.{headers-short}
use Rattle.dump_sections.specs.TilingLaws.{sections_tile}
use Rattle.section_index.proofs.builder.index_of.Goals as goal

pub returns-in_default : goal.returns-in_default
returns-in_default g c = record {
  reads = ReadsAtMost-within (omega arith) c.read_piece.ensures.reads;
  answer = λ bytes is. tt;
  over = tt;
  sized = tt;
  sections = tt;
  fault = tt;
  read = λ is. c.in_default.ensures.failed;
}

pub returns-in_err-version : goal.returns-in_err-version
returns-in_err-version g c =
    let p = err_from_is_err_and c.from_residual.result c.from_residual.ensures.1 in
    let read = c.in-Ok.ensures in
    let now = (g.D.Dumps.state c.args.dumps.now).now in
    let limits = c.args.limits.now in
    let first = take c.in-Ok.count c.read_piece.new.buffer in
    let fault = c.in_err-version.field-0.0 in
    rw (p.1, p.2) record {
      reads = ReadsAtMost-within (omega arith) read.reads;
      answer = λ bytes is.
          let piece : IsFirstPiece bytes first c.args.size =
          IsFirstPiece-read bytes c.args.buffer.now c.read_piece.new.buffer now c.in-Ok.count c.args.size is read.piece c.read_piece.auto.buffer c.requires.room read.count c.requires.size in
          answer-judged bytes limits fault (omega (arith, c.requires.small, piece.size'))
          (judged-whole bytes first c.args.size limits (Err fault) piece c.in_err-version.ensures.judged);
      over = tt;
      sized = tt;
      sections = tt;
      fault = small-by-bytes fault c.in_err-version.ensures.fault;
      read = λ is. absurd (beginning-isnt-read fault c.in_err-version.ensures.fault is);
    }

pub returns-in_err-feed_piece : goal.returns-in_err-feed_piece
returns-in_err-feed_piece g c =
    let p = err_from_is_err_and c.from_residual-in_err-feed_piece.result c.from_residual-in_err-feed_piece.ensures.1 in
    let read = c.in-Ok.ensures in
    let now = (g.D.Dumps.state c.args.dumps.now).now in
    let limits = c.args.limits.now in
    let first = take c.in-Ok.count c.read_piece.new.buffer in
    let fault = c.in_err-feed_piece.field-0.0 in
    let begun : HasHeard c.new-scan.result c.new-receiver.result [] = record { stands = c.new-scan.ensures.stands; heard = ap (λ h. h.heard) c.new-receiver.ensures } in
    rw (p.1, p.2) record {
      reads = ReadsAtMost-within (omega arith) read.reads;
      answer = λ bytes is.
          let piece : IsFirstPiece bytes first c.args.size =
          IsFirstPiece-read bytes c.args.buffer.now c.read_piece.new.buffer now c.in-Ok.count c.args.size is read.piece c.read_piece.auto.buffer c.requires.room read.count c.requires.size in
          answer-header bytes limits c.in_ok-version.version fault (omega (arith, c.requires.small, piece.size'))
          (judged-whole bytes first c.args.size limits (Ok c.in_ok-version.version) piece c.in_ok-version.ensures.judged)
          (subst (λ b. IsHeaderFault limits b fault) piece.whole
          (subst (λ l. IsHeaderFault l (first ++ piece.rest) fault) (sym c.requires.limits) (c.in_err-feed_piece.ensures.refused [] piece.rest begun)));
      over = tt;
      sized = tt;
      sections = tt;
      fault = small-by-header fault c.in_err-feed_piece.ensures.fault;
      read = λ is. absurd (header-isnt-read fault c.in_err-feed_piece.ensures.fault is);
    }

pub feed_rest-requires-clause-offset : goal.feed_rest-requires-clause-offset
feed_rest-requires-clause-offset g c =
    let begun : HasHeard c.new-scan.result c.new-receiver.result [] = record { stands = c.new-scan.ensures.stands; heard = ap (λ h. h.heard) c.new-receiver.ensures } in
    cc ((c.in_ok-feed_piece.ensures.heard [] begun).stands.offset, length-take-le c.in-Ok.count c.read_piece.new.buffer (omega (arith, c.in-Ok.ensures.count, c.read_piece.auto.buffer)))

pub feed_rest-requires-clause-begun : goal.feed_rest-requires-clause-begun
feed_rest-requires-clause-begun g c =
    let read = c.in-Ok.ensures in
    let first = take c.in-Ok.count c.read_piece.new.buffer in
    let begun : HasHeard c.new-scan.result c.new-receiver.result [] = record { stands = c.new-scan.ensures.stands; heard = ap (λ h. h.heard) c.new-receiver.ensures } in
    record {
      bytes = first;
      first = subst (λ n. Gives n 0 first) (sym read.reads.same_now) read.piece;
      signed = signed-first first c.args.limits.now c.in_ok-version.version c.in_ok-version.ensures.judged;
      heard = c.in_ok-feed_piece.ensures.heard [] begun;
    }

pub returns-in_err-feed_rest : goal.returns-in_err-feed_rest
returns-in_err-feed_rest g c =
    let p = err_from_is_err_and c.from_residual-in_err-feed_rest.result c.from_residual-in_err-feed_rest.ensures.1 in
    let read = c.in-Ok.ensures in
    let now = (g.D.Dumps.state c.args.dumps.now).now in
    let limits = c.args.limits.now in
    let first = take c.in-Ok.count c.read_piece.new.buffer in
    let fault = c.in_err-feed_rest.field-0.0 in
    rw (p.1, p.2) record {
      reads = ReadsAtMost-both read.reads c.feed_rest.ensures.reads (omega (arith, read.count));
      answer = λ bytes is.
          let piece : IsFirstPiece bytes first c.args.size =
          IsFirstPiece-read bytes c.args.buffer.now c.read_piece.new.buffer now c.in-Ok.count c.args.size is read.piece c.read_piece.auto.buffer c.requires.room read.count c.requires.size in
          answer-rest bytes limits g.B.Bounds.limits c.in_ok-version.version (g.D.Dumps.state c.read_piece.new.dumps).now fault (omega (arith, c.requires.small, piece.size'))
          (judged-whole bytes first c.args.size limits (Ok c.in_ok-version.version) piece c.in_ok-version.ensures.judged)
          c.requires.limits (read.reads.same_now ∙ is) c.in_err-feed_rest.ensures.fault;
      over = tt;
      sized = tt;
      sections = tt;
      fault = small-by-rest g.B.Bounds.limits (g.D.Dumps.state c.read_piece.new.dumps).now fault c.in_err-feed_rest.ensures.fault;
      read = λ is. omega (arith, read.reads.later, c.in_err-feed_rest.ensures.read (read-too fault is));
    }

pub returns-in_err-headers : goal.returns-in_err-headers
returns-in_err-headers g c =
    let p = err_from_is_err_and c.from_residual-in_err-headers.result c.from_residual-in_err-headers.ensures.1 in
    let read = c.in-Ok.ensures in
    let now = (g.D.Dumps.state c.args.dumps.now).now in
    let limits = c.args.limits.now in
    let first = take c.in-Ok.count c.read_piece.new.buffer in
    let fault = c.in_err-headers.field-0.0 in
    let begun = c.in_ok-feed_rest.ensures.begun in
    rw (p.1, p.2) record {
      reads = ReadsAtMost-both read.reads c.feed_rest.ensures.reads (omega (arith, read.count));
      answer = λ bytes is.
          let piece : IsFirstPiece bytes first c.args.size =
          IsFirstPiece-read bytes c.args.buffer.now c.read_piece.new.buffer now c.in-Ok.count c.args.size is read.piece c.read_piece.auto.buffer c.requires.room read.count c.requires.size in
          let all : begun.bytes ≡ bytes =
          Gives-all begun.bytes bytes (omega (arith, begun.heard.stands.offset, c.in_ok-feed_rest.ensures.offset, piece.size'))
          (subst (λ n. Gives n 0 begun.bytes) (read.reads.same_now ∙ is) begun.first) in
          answer-header bytes limits c.in_ok-version.version fault (omega (arith, c.requires.small, piece.size'))
          (judged-whole bytes first c.args.size limits (Ok c.in_ok-version.version) piece c.in_ok-version.ensures.judged)
          (subst (λ b. IsHeaderFault limits b fault) all
          (subst (λ l. IsHeaderFault l begun.bytes fault) (sym c.requires.limits) (c.in_err-headers.ensures.refused begun.bytes begun.heard)));
      over = tt;
      sized = tt;
      sections = tt;
      fault = small-by-header fault c.in_err-headers.ensures.fault;
      read = λ is. absurd (header-isnt-read fault c.in_err-headers.ensures.fault is);
    }

pub new-requires-clause-some : goal.new-requires-clause-some
new-requires-clause-some g c =
    let begun = c.in_ok-feed_rest.ensures.begun in
    let heard = (c.in_ok-headers.ensures.heard begun.bytes begun.heard).0 in
    omega (arith, ap length heard, headers-some begun.bytes begun.signed)

pub new-requires-clause-lines : goal.new-requires-clause-lines
new-requires-clause-lines g c =
    let begun = c.in_ok-feed_rest.ensures.begun in
    let heard = (c.in_ok-headers.ensures.heard begun.bytes begun.heard).0 in
    rw heard (headers-short _ begun.bytes (omega (arith, c.in_ok-feed_rest.ensures.limit)) begun.heard.stands.short)

pub new-requires-clause-tiled : goal.new-requires-clause-tiled
new-requires-clause-tiled g c =
    let begun = c.in_ok-feed_rest.ensures.begun in
    let heard = (c.in_ok-headers.ensures.heard begun.bytes begun.heard).0 in
    let whole : length begun.bytes ≡ c.args.size = sym begun.heard.stands.offset ∙ c.in_ok-feed_rest.ensures.offset in
    rw heard (subst (λ n. Tile 0 n (sections_of (headers begun.bytes) n)) whole (sections_tile begun.bytes begun.signed))

pub returns : goal.returns
returns g c =
    let read = c.in-Ok.ensures in
    let now = (g.D.Dumps.state c.args.dumps.now).now in
    let limits = c.args.limits.now in
    let first = take c.in-Ok.count c.read_piece.new.buffer in
    let begun = c.in_ok-feed_rest.ensures.begun in
    let heard = c.in_ok-headers.ensures.heard begun.bytes begun.heard in
    let answer : (bytes : List ℕ) → now ≡ told bytes → IsAnswerFor bytes limits (Ok c.new.result) =
    λ bytes is.
    let piece : IsFirstPiece bytes first c.args.size =
    IsFirstPiece-read bytes c.args.buffer.now c.read_piece.new.buffer now c.in-Ok.count c.args.size is read.piece c.read_piece.auto.buffer c.requires.room read.count c.requires.size in
    let all : begun.bytes ≡ bytes =
    Gives-all begun.bytes bytes (omega (arith, begun.heard.stands.offset, c.in_ok-feed_rest.ensures.offset, piece.size'))
    (subst (λ n. Gives n 0 begun.bytes) (read.reads.same_now ∙ is) begun.first) in
    rw c.new.ensures (answer-index bytes limits c.in_ok-version.version c.in_ok-headers.headers c.args.size piece.size' (omega (arith, c.requires.small, piece.size'))
    (judged-whole bytes first c.args.size limits (Ok c.in_ok-version.version) piece c.in_ok-version.ensures.judged)
    (heard.0 ∙ ap headers all)
    (ap (λ l. header_fault bytes l) c.requires.limits ∙ ap (λ b. header_fault b g.B.Bounds.limits) (sym all) ∙ heard.1)) in
    record {
      reads = ReadsAtMost-both read.reads c.feed_rest.ensures.reads (omega (arith, read.count));
      answer = answer;
      over = built-over now c.new.result c.args.size c.requires.open c.requires.size (ap (λ index. index.size) c.new.ensures) (λ bytes is. (answer bytes is).1);
      sized = rw c.new.ensures c.requires.small;
      sections = rw (c.new.ensures, c.requires.limits) c.in_ok-headers.ensures.sections;
      fault = tt;
      read = λ is. absurd (ok-isnt-read c.new.result is);
    }
