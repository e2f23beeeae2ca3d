-- What a scan stands for after more bytes, and the header of its last line.
use Rattle.std.proofs.Common.{◌≡◌, ℕ, suc, ◌+◌, ◌-◌, ◌<◌, Bool, true, false, List, [], ◌∷◌, ◌++◌, length, get_or, Option, Some, Err, sym, ◌∙◌, ap, append-nil, length-append, arith, if◌then◌else◌, ◌==◌}
use Rattle.memchr.specs.Find.{Nowhere}
use Rattle.dump_io.specs.Lines.{lf, Header}
use Rattle.line_source.specs.Streams.{ended, plain, new_headers, open_headers, too_long}
use Rattle.line_source.specs.declared.header_sink.RefusedHeader.{RefusedHeader}
use Rattle.line_source.specs.Feeding.{StopsAmong, stop_of}
use Rattle.line_source.specs.Inner.Ends.{Ends}
use Rattle.line_source.specs.Inner.Takes.{Takes}
use Rattle.line_source.specs.Receiver.{stop_value}
use Rattle.line_source.specs.declared.scan_fault.ScanFault.{ScanFault}
use Rattle.line_source.specs.Inner.LastLine.{header_bytes, is_header_line}
use Rattle.line_source.specs.Inner.Starts.{BeginsHeader}
use Rattle.line_source.specs.Scan.{Scan, StandsFor}
use Rattle.line_source.proofs.Walk.{last_by, heard_by, long_by, open_headers-walk}
use Rattle.line_source.proofs.Pieces.{last_line-append, too_long-append, new_headers-walk}
use Rattle.line_source.proofs.Stretches.{other_line, last_by-stretch}

pub too_long-walked : (scan : Scan) (s p : List ℕ) → StandsFor scan s → too_long scan.limit (s ++ p) ≡ long_by scan.limit scan.offset scan.last p
too_long-walked scan s p stands = grind (arith, too_long-append)

pub new_headers-walked : (scan : Scan) (s p : List ℕ) → StandsFor scan s → new_headers s p ≡ heard_by scan.offset scan.last p
new_headers-walked scan s p stands = grind (arith, new_headers-walk)

pub StandsFor-more : (scan after : Scan) (s p : List ℕ) → StandsFor scan s → after.limit ≡ scan.limit → after.offset ≡ scan.offset + length p
    → after.last ≡ last_by scan.last p → long_by scan.limit scan.offset scan.last p ≡ [] → StandsFor after (s ++ p)
StandsFor-more scan after s p stands limit offset last short = grind (arith, length-append, last_line-append, too_long-walked)

-- all of a stretch in which no header begins
pub last_by-all : (begun : Bool) (rest : List ℕ) → 0 < length rest → Nowhere (BeginsHeader begun rest) 0 (length rest)
    → last_by (other_line begun) rest ≡ (if get_or rest (length rest - 1) 0 == lf then ended else plain)
last_by-all begun rest some quiet =
    let size : length rest ≡ suc (length rest - 1) = omega arith in
    grind (arith, last_by-stretch begun rest (length rest - 1) size quiet)

-- the header of the last line, if it lacks its LF
pub open_headers-header : (scan : Scan) (s : List ℕ) → StandsFor scan s → is_header_line scan.last ≡ true
    → open_headers s ≡ record { at = scan.offset - length (header_bytes scan.last); body = scan.offset; text = header_bytes scan.last } ∷ []
open_headers-header scan s stands is = grind (arith, open_headers-walk)

pub open_headers-other : (scan : Scan) (s : List ℕ) → StandsFor scan s → is_header_line scan.last ≡ false → open_headers s ≡ []
open_headers-other scan s stands is = grind (arith, open_headers-walk)

-- that header is refused
pub StopsAmong-last : (scan : Scan) (s : List ℕ) (before after : List Header) (kept refused : RefusedHeader) → StandsFor scan s → is_header_line scan.last ≡ true → after ≡ before
    → Some kept ≡ Some refused → kept.at ≡ scan.offset - length (header_bytes scan.last) → kept.size ≡ length (header_bytes scan.last)
    → StopsAmong before after refused (open_headers s)
StopsAmong-last scan s before after kept refused stands is same stop at size =
    let one : kept ≡ refused = cc in
    record {
      heard = [];
      next = record { at = scan.offset - length (header_bytes scan.last); body = scan.offset; text = header_bytes scan.last };
      more = [];
      parts = open_headers-header scan s stands is;
      grown = same ∙ sym (append-nil before);
      at = ap (λ r. r.at) (sym one) ∙ at;
      size = ap (λ r. r.size) (sym one) ∙ size;
    }

-- nothing of the rest was taken, since it ends the stream
pub Takes-stopped : {before after : Scan} {rest : List ℕ} {old new : List Header} {refused : Option RefusedHeader} {fault : ScanFault} → after.limit ≡ before.limit → stop_value refused ≡ stop_of {T = ℕ} (Err fault)
    → ((stream : List ℕ) → StandsFor before stream → Ends before.limit stream rest old new refused fault) → Takes before after rest old new refused (Err fault)
Takes-stopped limit stop ends = record { within = tt; offset = tt; limit = limit; stop = stop; stands = tt; heard = tt; ends = ends }
