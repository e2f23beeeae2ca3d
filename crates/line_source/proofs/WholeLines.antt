-- The line of a header that lies whole in a piece.
use Rattle.std.proofs.Common.{◌≡◌, ℕ, ◌+◌, ◌-◌, ◌<◌, ◌≤◌, ◌==◌, not, true, false, List, [], ◌∷◌, ◌++◌, length, take, drop, Option, Some, refl, sym, ◌∙◌, ap, subst, append_assoc, append-nil, arith}
use Rattle.std.specs.Prelude.{slice_index}
use Rattle.std.proofs.lemmas.Bool.{cond-false, ne_eqb, and_parts}
use Rattle.std.proofs.lemmas.List.{drop_more, length-take-le}
use Rattle.memchr.specs.Find.{Nowhere, Passes, is_byte}
use Rattle.dump_io.specs.Lines.{lf, equals_sign, text_of, Header}
use Rattle.line_source.specs.Streams.{ended, header, new_headers}
use Rattle.line_source.specs.Scan.{Scan, StandsFor}
use Rattle.line_source.specs.declared.header_sink.RefusedHeader.{RefusedHeader}
use Rattle.line_source.specs.Inner.Ends.{EndsRefused}
use Rattle.line_source.proofs.Walk.{last_by, heard_by, long_by}
use Rattle.dump_io.specs.Laws.LineFeeds.{lacks_lf, upto-lf}
use Rattle.line_source.proofs.Scans.{StandsFor-more, new_headers-walked}
use Rattle.line_source.proofs.Pieces.{new_headers-append}
use Rattle.line_source.proofs.Joins.{EndsRefused-later}
use Rattle.line_source.proofs.HeaderLines.{lacks-before, EndsRefused-here, around-lf, StandsFor-line, new_headers-line}

-- a scan that took the equals sign of a header's line
abbrev pub begun : Scan → Scan
begun scan = record scan { offset = scan.offset + 1; last = header (equals_sign ∷ []) }

-- the first byte and the others
signed : (rest : List ℕ) → 0 < length rest → slice_index rest 0 ≡ equals_sign → rest ≡ equals_sign ∷ drop 1 rest
signed rest some sign = drop_more rest 0 0 some ∙ ap (λ b. b ∷ drop 1 rest) sign

pub take-sign : (rest : List ℕ) → 0 < length rest → slice_index rest 0 ≡ equals_sign → take 1 rest ≡ equals_sign ∷ []
take-sign rest some sign = ap (take 1) (signed rest some sign)

module _ (scan : Scan) (s : List ℕ) (stands : StandsFor scan s) (line : scan.last ≡ ended) where
  pub StandsFor-begun : 1 ≤ scan.limit → StandsFor (begun scan) (s ++ equals_sign ∷ [])
  StandsFor-begun some =
      let few : (1 == scan.limit + 1) ≡ false = ne_eqb 1 (scan.limit + 1) (λ e. omega (arith, e, some)) in
      StandsFor-more scan (begun scan) s (equals_sign ∷ []) stands refl refl
      (sym (ap (λ l. last_by l (equals_sign ∷ [])) line))
      (ap (λ l. long_by scan.limit scan.offset l (equals_sign ∷ [])) line ∙ append-nil _ ∙ cond-false (1 == scan.limit + 1) _ _ few)

  pub silent-sign : new_headers s (equals_sign ∷ []) ≡ []
  silent-sign = new_headers-walked scan s (equals_sign ∷ []) stands ∙ ap (λ l. heard_by scan.offset l (equals_sign ∷ [])) line

  -- ---- its LF is at this place
  module _ (rest : List ℕ) (end : ℕ) (sign : slice_index rest 0 ≡ equals_sign) (inside : end < length rest)
      (before : Nowhere (Passes (is_byte lf) rest) 0 end) (here : Passes (is_byte lf) rest end) (fits : end ≤ scan.limit) where
    some : 0 < end
    some = grind arith

    -- the equals sign, and what follows it
    split : take end rest ≡ equals_sign ∷ take (end - 1) (drop 1 rest)
    split = grind arith

    size : length (take end rest) ≡ end
    size = length-take-le end rest (omega (arith, inside))

    count : length (take (end - 1) (drop 1 rest)) + 1 ≡ end
    count = omega (arith, ap length split, size)

    lacks : lacks_lf (take (end - 1) (drop 1 rest)) ≡ true
    lacks = (and_parts (not (equals_sign == lf)) (lacks_lf (take (end - 1) (drop 1 rest))) (ap lacks_lf (sym split) ∙ lacks-before rest end (omega (arith, inside)) before)).1

    stands_begun : StandsFor (begun scan) (s ++ equals_sign ∷ [])
    stands_begun = StandsFor-begun (omega (arith, some, fits))

    whole : take (end + 1) rest ≡ equals_sign ∷ (take (end - 1) (drop 1 rest) ++ lf ∷ [])
    whole = upto-lf rest end inside here ∙ ap (λ l. l ++ lf ∷ []) split

    pub stands-heard : (after : Scan) → after.limit ≡ scan.limit → after.offset ≡ scan.offset + length (take end rest) + 1 → after.last ≡ ended
        → StandsFor after (s ++ take (end + 1) rest)
    stands-heard after limit offset last =
        let t = take (end - 1) (drop 1 rest) in
        subst (λ bytes. StandsFor after (s ++ bytes)) (sym whole)
        (subst (StandsFor after) (append_assoc s (equals_sign ∷ []) (t ++ lf ∷ []))
        (StandsFor-line (begun scan) after (s ++ equals_sign ∷ []) (equals_sign ∷ []) t stands_begun refl (omega arith) lacks (omega (arith, count, fits))
        limit (offset ∙ omega (arith, size, count)) last))

    pub header-heard : new_headers s (take (end + 1) rest)
        ≡ (let h : Header = record { at = scan.offset; body = scan.offset + length (take end rest) + 1; text = text_of (take end rest ++ lf ∷ []) } in h) ∷ []
    header-heard =
        let t = take (end - 1) (drop 1 rest) in
        let made : ℕ → ℕ → List ℕ → Header = λ at body bytes. record { at = at; body = body; text = text_of (bytes ++ lf ∷ []) } in
        let at : scan.offset + 1 + length t - length (equals_sign ∷ t) ≡ scan.offset = omega arith in
        let body : scan.offset + 1 + length t + 1 ≡ scan.offset + length (take end rest) + 1 = omega (arith, size, count) in
        ap (new_headers s) whole
        ∙ new_headers-append s (equals_sign ∷ []) (t ++ lf ∷ [])
        ∙ ap (λ hs. hs ++ new_headers (s ++ equals_sign ∷ []) (t ++ lf ∷ [])) silent-sign
        ∙ new_headers-line (begun scan) (s ++ equals_sign ∷ []) (equals_sign ∷ []) t stands_begun refl lacks
        ∙ ap (λ n. made n (scan.offset + 1 + length t + 1) (equals_sign ∷ t) ∷ []) at
        ∙ ap (λ n. made scan.offset n (equals_sign ∷ t) ∷ []) body
        ∙ ap (λ bytes. made scan.offset (scan.offset + length (take end rest) + 1) bytes ∷ []) (sym split)

    pub refused-here : (before after : List Header) (stop : Option RefusedHeader) (refused : RefusedHeader) → after ≡ before → stop ≡ Some refused
        → refused.at ≡ scan.offset → refused.size ≡ length (text_of (take end rest ++ lf ∷ [])) → EndsRefused scan.limit s rest before after stop
    refused-here before after stop refused same kept at size =
        let t = take (end - 1) (drop 1 rest) in
        let more = drop (end + 1) rest in
        let all : equals_sign ∷ (t ++ lf ∷ more) ≡ rest = sym (ap (λ l. l ++ lf ∷ more) split) ∙ around-lf rest end inside here in
        subst (λ bytes. EndsRefused scan.limit s bytes before after stop) all
        (EndsRefused-later scan.limit s (equals_sign ∷ []) (t ++ lf ∷ more) before before after stop
        (sym (append-nil before) ∙ ap (λ hs. before ++ hs) (sym silent-sign))
        (EndsRefused-here (begun scan) (s ++ equals_sign ∷ []) (equals_sign ∷ []) t more before after stop refused stands_begun refl (omega arith) lacks (omega (arith, count, fits))
        same kept (at ∙ omega arith) (size ∙ ap (λ bytes. length (text_of (bytes ++ lf ∷ []))) split)))
