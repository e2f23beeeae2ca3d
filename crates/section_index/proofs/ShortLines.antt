-- The lines of headers that aren't too long.
use Rattle.std.proofs.Common.{◌≡◌, ℕ, ◌+◌, ◌≤◌, Bool, true, false, List, [], ◌∷◌, length, map, filter, if◌then◌else◌, refl, arith}
use Rattle.std.specs.Prelude.{All}
use Rattle.std.proofs.lemmas.Bool.{ltb-false}
use Rattle.std.proofs.lemmas.List.Elements.{All-nil, All-cons}
use Rattle.dump_io.specs.Limits.{usual}
use Rattle.dump_io.specs.Lines.{raw_lines, is_header, headers, lines_from, header_of, Line}
use Rattle.dump_io.specs.Laws.Lines.{length-text_of}
use Rattle.line_source.specs.Streams.{begins_with_equals, length_before_lf, is_too_long, too_long}
use Rattle.dump_sections.specs.Index.{HasShortLine}
use Rattle.dump_sections.specs.TilingLaws.{line_at, headers_in}

-- a line has at most its LF beside the bytes before it
line-short : (raw : List ℕ) → length raw ≤ length_before_lf raw + 1
line-short raw = grind arith

-- a header's line begins with an equals sign
header-begins : (raw : List ℕ) → is_header raw ≡ true → begins_with_equals raw ≡ true
header-begins raw is = grind arith

short-line : (limit at : ℕ) (raw : List ℕ) → limit ≤ usual.header → is_header raw ≡ true → is_too_long limit raw ≡ false → HasShortLine (header_of (line_at at raw))
short-line limit at raw small is short = grind (arith, header-begins, length-text_of, line-short, ltb-false)

-- where no line that begins with an equals sign is too long, no header's line is
short-lines : (limit at : ℕ) (raws : List (List ℕ)) → limit ≤ usual.header
    → map (λ (line : Line). line.at) (filter (λ line. is_too_long limit line.raw) (lines_from at raws)) ≡ [] → All HasShortLine (headers_in (lines_from at raws))
short-lines limit at [] small none = All-nil HasShortLine
short-lines limit at (raw ∷ raws) small none = by (is_too_long limit raw) refl (short-lines limit (at + length raw) raws small) none
  where
    more : List Line
    more = lines_from (at + length raw) raws

    longs : List Line
    longs = filter (λ line. is_too_long limit line.raw) more

    headed : (b : Bool) → is_header raw ≡ b → is_too_long limit raw ≡ false → All HasShortLine (headers_in more)
        → All HasShortLine (map header_of (if b then line_at at raw ∷ filter (λ l. is_header l.raw) more else filter (λ l. is_header l.raw) more))
    headed true is short rest = All-cons HasShortLine (header_of (line_at at raw)) (headers_in more) (short-line limit at raw small is short) rest
    headed false is short rest = rest

    by : (b : Bool) → is_too_long limit raw ≡ b → (map (λ (line : Line). line.at) longs ≡ [] → All HasShortLine (headers_in more))
        → map (λ (line : Line). line.at) (if b then line_at at raw ∷ longs else longs) ≡ [] → All HasShortLine (headers_in (lines_from at (raw ∷ raws)))
    by true e rest none = cc
    by false e rest none = headed (is_header raw) refl e (rest none)

pub headers-short : (limit : ℕ) (bytes : List ℕ) → limit ≤ usual.header → too_long limit bytes ≡ [] → All HasShortLine (headers bytes)
headers-short limit bytes small none = short-lines limit 0 (raw_lines bytes) small none
