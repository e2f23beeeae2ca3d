-- The bytes of a header line, up to its LF or to the end of the piece.
use Rattle.std.proofs.Common.{◌≡◌, ℕ, zero, suc, ◌+◌, ◌-◌, ◌<◌, ◌≤◌, true, false, List, [], ◌∷◌, ◌++◌, length, take, drop, Option, Some, refl, sym, ◌∙◌, ap, append-nil, arith, ◌==◌, nat_lt}
use Rattle.std.specs.Prelude.{All, slice_get}
use Rattle.std.proofs.lemmas.Bool.{and_from, le-ltb, lt-ltb, le-leb, not_from_false, false_from_ne_true}
use Rattle.std.proofs.lemmas.List.{drop_more, take-append-drop, length_push}
use Rattle.std.proofs.lemmas.List.Elements.{All-weaker, All-same}
use Rattle.memchr.specs.Find.{Nowhere, Passes, is_byte}
use Rattle.dump_io.specs.Lines.{lf, text_of, Header}
use Rattle.line_source.specs.Streams.{LastLine, ended, header, new_headers, headers_before, too_long}
use Rattle.line_source.specs.Scan.{Scan, StandsFor}
use Rattle.line_source.specs.declared.header_sink.RefusedHeader.{RefusedHeader}
use Rattle.line_source.specs.Inner.Ends.{EndsTooLong, EndsRefused}
use Rattle.line_source.specs.Inner.LastLine.{header_bytes, is_header_line}
use Rattle.line_source.proofs.Walk.{last_by, heard_by, long_by, last_by-append, heard_by-append, long_by-append}
use Rattle.line_source.proofs.Pieces.{Lies, held, heard_by-lies, long_by-from}
use Rattle.line_source.proofs.Stretches.{last_by-header, heard_by-header, long_by-header, passes}
use Rattle.line_source.proofs.Scans.{too_long-walked, new_headers-walked, StandsFor-more}
use Rattle.dump_io.specs.Laws.LineFeeds.{lacks_lf}
use Rattle.dump_io.specs.Laws.Lists.{filter-none}

-- bytes before the first LF
pub lacks-before : (bytes : List ℕ) (m : ℕ) → m ≤ length bytes → Nowhere (Passes (is_byte lf) bytes) 0 m → lacks_lf (take m bytes) ≡ true
lacks-before bytes zero fits none = refl
lacks-before [] (suc m) fits none = refl
lacks-before (b ∷ bs) (suc m) fits none =
    and_from _ _ (not_from_false (b == lf) (false_from_ne_true (b == lf) (λ is. none 0 (omega arith) (omega arith) is)))
    (lacks-before bs m (omega (arith, fits)) (λ k low high is. none (suc k) (omega arith) (omega (arith, high)) is))

pub header-known : (l : LastLine) → is_header_line l ≡ true → l ≡ header (header_bytes l)
header-known l is = grind arith

passes-over : (limit k m : ℕ) → k ≤ limit → limit < k + m → passes limit k m ≡ true
passes-over limit k m within over = and_from _ _ (le-leb k limit within) (lt-ltb limit (k + m) over)

long_by-fits : (limit n : ℕ) (t x : List ℕ) → length t ≤ n → lacks_lf x ≡ true → length t + length x ≤ limit → long_by limit n (header t) x ≡ []
long_by-fits limit n t x low lacks fits = grind (arith, long_by-header)

-- the header whose line has the bytes t and x before its LF
abbrev pub ended_header : ℕ → List ℕ → List ℕ → Header
ended_header n t x = record { at = n + length x - length (t ++ x); body = n + length x + 1; text = text_of ((t ++ x) ++ lf ∷ []) }

pub heard_by-line : (n : ℕ) (t x more : List ℕ) → lacks_lf x ≡ true
    → heard_by n (header t) (x ++ lf ∷ more) ≡ ended_header n t x ∷ heard_by (n + length x + 1) ended more
heard_by-line n t x more lacks = grind (arith, heard_by-append, heard_by-header, last_by-header)

pub long_by-line : (limit n : ℕ) (t x more : List ℕ) → length t ≤ n → lacks_lf x ≡ true → length t + length x ≤ limit
    → long_by limit n (header t) (x ++ lf ∷ more) ≡ long_by limit (n + length x + 1) ended more
long_by-line limit n t x more low lacks fits = grind (arith, long_by-append, long_by-fits)

pub last_by-line : (t x : List ℕ) → lacks_lf x ≡ true → last_by (header t) (x ++ lf ∷ []) ≡ ended
last_by-line t x lacks = last_by-append (header t) x (lf ∷ []) ∙ ap (λ l. last_by l (lf ∷ [])) (last_by-header t x lacks)

-- a line that is too long
pub EndsTooLong-here : (scan : Scan) (s t x more : List ℕ) (before after : List Header) → StandsFor scan s → scan.last ≡ header t
    → length t ≤ scan.limit → length t ≤ scan.offset → lacks_lf x ≡ true → scan.limit < length t + length x → after ≡ before
    → EndsTooLong scan.limit s (x ++ more) before after (scan.offset - length t)
EndsTooLong-here scan s t x more before after stands line within low lacks over same =
    let at = scan.offset - length t in
    let rest = long_by scan.limit (scan.offset + length x) (last_by (header t) x) more in
    let long : too_long scan.limit (s ++ (x ++ more)) ≡ at ∷ rest =
    cc (too_long-walked scan s (x ++ more) stands, long_by-append scan.limit scan.offset (header t) x more, long_by-header scan.limit scan.offset t x low lacks, passes-over scan.limit (length t) (length x) within over) in
    let heard = heard_by scan.offset (header t) (x ++ more) in
    let new : new_headers s (x ++ more) ≡ heard = new_headers-walked scan s (x ++ more) stands ∙ ap (λ l. heard_by scan.offset l (x ++ more)) line in
    let after_it : All (λ h. nat_lt h.at at ≡ false) heard =
    All-weaker (Lies at scan.offset (scan.offset + length (x ++ more) - held (last_by (header t) (x ++ more)))) (λ h. nat_lt h.at at ≡ false)
    (λ h lies. le-ltb h.at at lies.begins) heard (heard_by-lies scan.offset (header t) (x ++ more) low) in
    record {
      first = ap (λ ls. slice_get ls 0) long;
      heard = same ∙ sym (append-nil before) ∙ ap (λ hs. before ++ hs) (sym (ap (headers_before at) new ∙ filter-none (λ h. nat_lt h.at at) heard after_it));
    }

-- a header that is refused
pub EndsRefused-here : (scan : Scan) (s t x more : List ℕ) (before after : List Header) (stop : Option RefusedHeader) (refused : RefusedHeader) → StandsFor scan s → scan.last ≡ header t
    → length t ≤ scan.offset → lacks_lf x ≡ true → length t + length x ≤ scan.limit → after ≡ before
    → stop ≡ Some refused → refused.at ≡ scan.offset + length x - length (t ++ x) → refused.size ≡ length (text_of ((t ++ x) ++ lf ∷ []))
    → EndsRefused scan.limit s (x ++ lf ∷ more) before after stop
EndsRefused-here scan s t x more before after stop refused stands line low lacks fits same kept at size =
    let p = x ++ lf ∷ more in
    let next = scan.offset + length x + 1 in
    let longs : too_long scan.limit (s ++ p) ≡ long_by scan.limit next ended more =
    too_long-walked scan s p stands ∙ ap (λ l. long_by scan.limit scan.offset l p) line ∙ long_by-line scan.limit scan.offset t x more low lacks fits in
    record {
      refused = refused;
      kept = kept;
      among = record {
        heard = [];
        next = ended_header scan.offset t x;
        more = heard_by next ended more;
        parts = new_headers-walked scan s p stands ∙ ap (λ l. heard_by scan.offset l p) line ∙ heard_by-line scan.offset t x more lacks;
        grown = same ∙ sym (append-nil before);
        at = at;
        size = size;
      };
      short = All-same (λ at. refused.at < at) (too_long scan.limit (s ++ p)) (long_by scan.limit next ended more) longs
          (All-weaker (λ at. next - 0 ≤ at) (λ at. refused.at < at) (λ long le. omega (arith, at, le))
          (long_by scan.limit next ended more) (long_by-from scan.limit next ended more (omega arith)));
    }

-- the bytes around an LF
pub around-lf : (rest : List ℕ) (end : ℕ) → end < length rest → Passes (is_byte lf) rest end → take end rest ++ lf ∷ drop (end + 1) rest ≡ rest
around-lf rest end inside is = grind (arith, drop_more, take-append-drop)

-- the line has its LF
pub StandsFor-line : (scan after : Scan) (s t x : List ℕ) → StandsFor scan s → scan.last ≡ header t → length t ≤ scan.offset → lacks_lf x ≡ true
    → length t + length x ≤ scan.limit → after.limit ≡ scan.limit → after.offset ≡ scan.offset + length x + 1 → after.last ≡ ended
    → StandsFor after (s ++ (x ++ lf ∷ []))
StandsFor-line scan after s t x stands line low lacks fits limit offset last =
    let p = x ++ lf ∷ [] in
    StandsFor-more scan after s p stands limit (offset ∙ omega (arith, length_push x lf))
    (last ∙ sym (last_by-line t x lacks) ∙ ap (λ l. last_by l p) (sym line))
    (ap (λ l. long_by scan.limit scan.offset l p) line ∙ long_by-line scan.limit scan.offset t x [] low lacks fits)

pub new_headers-line : (scan : Scan) (s t x : List ℕ) → StandsFor scan s → scan.last ≡ header t → lacks_lf x ≡ true
    → new_headers s (x ++ lf ∷ []) ≡ ended_header scan.offset t x ∷ []
new_headers-line scan s t x stands line lacks =
    new_headers-walked scan s (x ++ lf ∷ []) stands ∙ ap (λ l. heard_by scan.offset l (x ++ lf ∷ [])) line ∙ heard_by-line scan.offset t x [] lacks

-- the line goes on
pub new_headers-longer : (scan : Scan) (s t x : List ℕ) → StandsFor scan s → scan.last ≡ header t → lacks_lf x ≡ true → new_headers s x ≡ []
new_headers-longer scan s t x stands line lacks =
    new_headers-walked scan s x stands ∙ ap (λ l. heard_by scan.offset l x) line ∙ heard_by-header scan.offset t x lacks

-- a scan that kept more bytes of its header line
abbrev pub longer : Scan → List ℕ → Scan
longer scan x = record scan { offset = scan.offset + length x; last = header (header_bytes scan.last ++ x) }

pub kept-offset : (scan after : Scan) (x : List ℕ) → after ≡ longer scan x → after.offset ≡ scan.offset + length x
kept-offset scan after x is = ap (λ s. s.offset) is

pub kept-bytes : (scan after : Scan) (x : List ℕ) → after ≡ longer scan x → header_bytes after.last ≡ header_bytes scan.last ++ x
kept-bytes scan after x is = ap (λ s. header_bytes s.last) is

pub StandsFor-kept : (scan after : Scan) (s x : List ℕ) → StandsFor scan s → is_header_line scan.last ≡ true → length (header_bytes scan.last) ≤ scan.offset
    → lacks_lf x ≡ true → length (header_bytes scan.last) + length x ≤ scan.limit → after ≡ longer scan x → StandsFor after (s ++ x)
StandsFor-kept scan after s x stands line low lacks fits is =
    let t = header_bytes scan.last in
    let known : scan.last ≡ header t = header-known scan.last line in
    StandsFor-more scan after s x stands (cc) (cc) (cc (last_by-header t x lacks)) (cc (long_by-fits scan.limit scan.offset t x low lacks fits))

-- and then heard it
pub StandsFor-heard : (scan middle after : Scan) (s x : List ℕ) → StandsFor scan s → is_header_line scan.last ≡ true → length (header_bytes scan.last) ≤ scan.offset
    → lacks_lf x ≡ true → length (header_bytes scan.last) + length x ≤ scan.limit → middle ≡ longer scan x → after ≡ record middle { offset = middle.offset + 1; last = ended }
    → StandsFor after (s ++ (x ++ lf ∷ []))
StandsFor-heard scan middle after s x stands line low lacks fits is then =
    StandsFor-line scan after s (header_bytes scan.last) x stands (header-known scan.last line) low lacks fits
    (ap (λ s. s.limit) then ∙ ap (λ s. s.limit) is)
    (ap (λ s. s.offset) then ∙ ap (λ n. n + 1) (kept-offset scan middle x is))
    (ap (λ s. s.last) then)

-- the header that it heard
pub heard-kept : (scan middle : Scan) (x : List ℕ) → middle ≡ longer scan x
    → record { at = middle.offset - length (header_bytes middle.last); body = middle.offset + 1; text = text_of (header_bytes middle.last ++ lf ∷ []) }
    ≡ ended_header scan.offset (header_bytes scan.last) x
heard-kept scan middle x is = grind arith
