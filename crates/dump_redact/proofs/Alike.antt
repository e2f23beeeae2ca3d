-- A redacted dump has the lines of the dump, each alike to what it was, and its headers.
use Rattle.std.proofs.Common.{◌≡◌, ℕ, zero, suc, ◌==◌, true, false, List, [], ◌∷◌, ◌++◌, length, take, drop, map, if◌then◌else◌, refl, sym, ◌∙◌, ap, ap₂, arith, ◌-◌, ◌≤◌, Bool, ◌&&◌, subst, append_assoc, length-append, ◌+◌, cond, filter, Option, Some, None}
use Rattle.std.specs.Prelude.{nat_eq, unwrap_or}
use Rattle.std.specs.List.{concat, ends_with}
use Rattle.std.specs.Cmp.Lexicographic.{pointwise}
use Rattle.std.proofs.lemmas.Bool.Decides.{nat_tests}
use Rattle.std.proofs.lemmas.List.{drop_at, length-map, map-append, take_at, drop-map, length-take-le, take_all, take-append-drop}
use Rattle.std.proofs.lemmas.Bool.{cond-true, cond-false}
use Rattle.std.proofs.Math.Seq.{take-append_seam}
use Rattle.dump_io.specs.Lines.{lf, cr, equals_sign, raw_lines, lines_after, text_of, lines_from, is_header, Line, Header, header_of, headers}
use Rattle.dump_io.specs.Laws.Lines.{AreLines-raw}
use Rattle.binary_payloads.specs.declared.enc.Enc.{Enc}
use Rattle.binary_payloads.specs.declared.enc.Enc.TheVariants.{Hex, Base64}
use Rattle.dump_sections.specs.Index.{Contents, index_of}
use Rattle.dump_sections.specs.Versions.{first_in, version_named}
use Rattle.dump_sections.specs.TilingLaws.{headers_in, is_header-first}
use Rattle.dump_sections.specs.Sections.{sections, sections_of, id_of}
use Rattle.dump_sections.specs.declared.version.Version.{Version}
use Rattle.dump_sections.specs.declared.version.Version.TheVariants.{V05}
use Rattle.heap_cells.specs.Loading.{enc_of}
use Rattle.binary_payloads.specs.Payload.{is_digit_of}
use Rattle.dump_redact.specs.Redacted.{blank, blank_from, payload_in, without, redacted_line, redacted_lines, next_part, redacted_in, redacted}
use Rattle.dump_redact.specs.declared.parts.Part.{Part}
use Rattle.dump_redact.specs.declared.parts.Part.TheVariants.{Other}

-- a byte that lines are told by, and 0 for any other
abbrev pub mark : ℕ → ℕ
mark c = if c == lf then lf else (if c == cr then cr else (if c == equals_sign then equals_sign else 0))

pub mark-is_lf : (c : ℕ) → (mark c == lf) ≡ (c == lf)
mark-is_lf c = grind (arith, nat_tests)

pub mark-lf : (c : ℕ) → nat_eq lf (mark c) ≡ nat_eq lf c
mark-lf c = grind (arith, nat_tests)

pub mark-cr : (c : ℕ) → nat_eq cr (mark c) ≡ nat_eq cr c
mark-cr c = grind (arith, nat_tests)

pub mark-equals : (c : ℕ) → nat_eq equals_sign (mark c) ≡ nat_eq equals_sign c
mark-equals c = grind (arith, nat_tests)

abbrev pub Alike : List ℕ → List ℕ → Type 0
Alike xs ys = map mark xs ≡ map mark ys

-- lines that are alike, one by one
abbrev pub AllAlike : List (List ℕ) → List (List ℕ) → Type 0
AllAlike xs ys = map (map mark) xs ≡ map (map mark) ys

pub Alike-length : (xs ys : List ℕ) → Alike xs ys → length xs ≡ length ys
Alike-length xs ys h = sym (length-map xs mark) ∙ ap length h ∙ length-map ys mark

concat-marks : (xs : List (List ℕ)) → map mark (concat xs) ≡ concat (map (map mark) xs)
concat-marks [] = refl
concat-marks (x ∷ xs) = map-append mark x (concat xs) ∙ ap (λ l. map mark x ++ l) (concat-marks xs)

pub concat-alike : (xs ys : List (List ℕ)) → AllAlike xs ys → Alike (concat xs) (concat ys)
concat-alike xs ys h = concat-marks xs ∙ ap concat h ∙ sym (concat-marks ys)

-- ---- lines of bytes that are alike are alike

after-marks : (c : ℕ) (lines : List (List ℕ)) → map (map mark) (lines_after c lines) ≡ lines_after (mark c) (map (map mark) lines)
after-marks c [] = refl
after-marks c (line ∷ lines) = refl

lines-marks : (xs : List ℕ) → map (map mark) (raw_lines xs) ≡ raw_lines (map mark xs)
lines-marks [] = refl
lines-marks (c ∷ xs) =
    let lines = raw_lines xs in
    let new = map (map mark) lines in
    elim (c == lf) as (λ b. map (map mark) (if b then (c ∷ []) ∷ lines else lines_after c lines) ≡ (if b then (mark c ∷ []) ∷ new else lines_after (mark c) new)) [
      | true ↦ refl
      | false ↦ after-marks c lines
    ]
    ∙ ap₂ (λ b ls. if b then (mark c ∷ []) ∷ ls else lines_after (mark c) ls) (sym (mark-is_lf c)) (lines-marks xs)

-- lists that are cut in the same places of the same bytes are one
one-cut : (xs ys : List (List ℕ)) → AllAlike xs ys → concat xs ≡ concat ys → xs ≡ ys
one-cut [] [] h e = refl
one-cut [] (y ∷ ys) h e = absurd (let no : ⊥ = cc h in no)
one-cut (x ∷ xs) [] h e = absurd (let no : ⊥ = cc h in no)
one-cut (x ∷ xs) (y ∷ ys) h e =
    let first : map mark x ≡ map mark y = cc h in
    let rest : map (map mark) xs ≡ map (map mark) ys = cc h in
    let long : length x ≡ length y = Alike-length x y first in
    ap₂ (λ l ls. l ∷ ls) (sym (take_at x (concat xs) (length y) long) ∙ ap (take (length y)) e ∙ take_at y (concat ys) (length y) refl)
    (one-cut xs ys rest (sym (drop_at x (concat xs) (length y) long) ∙ ap (drop (length y)) e ∙ drop_at y (concat ys) (length y) refl))

-- lines that are alike to those of some bytes are the lines of what they are together
pub raw_lines-of : (bytes : List ℕ) (lines : List (List ℕ)) → AllAlike lines (raw_lines bytes) → raw_lines (concat lines) ≡ lines
raw_lines-of bytes lines h =
    let all : Alike (concat lines) bytes = concat-alike lines (raw_lines bytes) h ∙ ap (map mark) (AreLines-raw bytes).together in
    one-cut (raw_lines (concat lines)) lines (lines-marks (concat lines) ∙ ap raw_lines all ∙ sym (lines-marks bytes) ∙ sym h) (AreLines-raw (concat lines)).together

-- ---- what is made blank is alike

hex-mark : (c : ℕ) → mark (blank Hex c) ≡ mark c
hex-mark c = grind (arith, nat_tests)

base64-mark : (c : ℕ) → mark (blank Base64 c) ≡ mark c
base64-mark c = grind (arith, nat_tests)

blank-mark : (enc : Enc) (c : ℕ) → mark (blank enc c) ≡ mark c
blank-mark Hex c = hex-mark c
blank-mark Base64 c = base64-mark c

pub blank_from-alike : (enc : Enc) (n : ℕ) (xs : List ℕ) → Alike (blank_from enc n xs) xs
blank_from-alike enc zero [] = refl
blank_from-alike enc zero (x ∷ xs) = ap₂ (λ c l. c ∷ l) (blank-mark enc x) (blank_from-alike enc zero xs)
blank_from-alike enc (suc n) [] = refl
blank_from-alike enc (suc n) (x ∷ xs) = ap (λ l. mark x ∷ l) (blank_from-alike enc n xs)

-- ---- the text of a line that is made blank from a place on

-- ---- how many bytes of a line its text has

abbrev pub kept : List ℕ → ℕ
kept raw =
    if ends_with nat_eq raw (cr ∷ lf ∷ []) then length raw - 2
    else (if ends_with nat_eq raw (lf ∷ []) then length raw - 1 else length raw)

kept-by : (a b : Bool) (m n : ℕ) (raw : List ℕ)
    → (if a then take m raw else (if b then take n raw else raw)) ≡ take (if a then m else (if b then n else length raw)) raw
kept-by true b m n raw = refl
kept-by false true m n raw = refl
kept-by false false m n raw = sym (take_all (length raw) raw (omega arith))

pub text-kept : (raw : List ℕ) → text_of raw ≡ take (kept raw) raw
text-kept raw = kept-by (ends_with nat_eq raw (cr ∷ lf ∷ [])) (ends_with nat_eq raw (lf ∷ [])) (length raw - 2) (length raw - 1) raw

within-by : (a b : Bool) (n : ℕ) → (if a then n - 2 else (if b then n - 1 else n)) ≤ n
within-by true b n = omega arith
within-by false true n = omega arith
within-by false false n = omega arith

pub kept-within : (raw : List ℕ) → kept raw ≤ length raw
kept-within raw = within-by (ends_with nat_eq raw (cr ∷ lf ∷ [])) (ends_with nat_eq raw (lf ∷ [])) (length raw)

pub kept-length : (raw : List ℕ) → length (text_of raw) ≡ kept raw
kept-length raw = ap length (text-kept raw) ∙ length-take-le (kept raw) raw (kept-within raw)

-- ---- which is the same for lines that are alike

none-marks : (xs : List ℕ) → pointwise nat_eq [] (map mark xs) ≡ pointwise nat_eq [] xs
none-marks [] = refl
none-marks (x ∷ xs) = refl

lf-marks : (xs : List ℕ) → pointwise nat_eq (lf ∷ []) (map mark xs) ≡ pointwise nat_eq (lf ∷ []) xs
lf-marks [] = refl
lf-marks (x ∷ xs) = ap₂ (λ a b. a && b) (mark-lf x) (none-marks xs)

crlf-marks : (xs : List ℕ) → pointwise nat_eq (cr ∷ lf ∷ []) (map mark xs) ≡ pointwise nat_eq (cr ∷ lf ∷ []) xs
crlf-marks [] = refl
crlf-marks (x ∷ xs) = ap₂ (λ a b. a && b) (mark-cr x) (lf-marks xs)

kept-by-ends : (n : ℕ) (xs : List ℕ) → n ≡ length xs → kept xs
    ≡ (if pointwise nat_eq (cr ∷ lf ∷ []) (drop (n - 2) xs) then n - 2 else (if pointwise nat_eq (lf ∷ []) (drop (n - 1) xs) then n - 1 else n))
kept-by-ends n xs is =
    ap (λ m. if pointwise nat_eq (cr ∷ lf ∷ []) (drop (m - 2) xs) then m - 2 else (if pointwise nat_eq (lf ∷ []) (drop (m - 1) xs) then m - 1 else m)) (sym is)

kept-marks : (xs : List ℕ) → kept (map mark xs) ≡ kept xs
kept-marks xs =
    let n = length xs in
    kept-by-ends n (map mark xs) (sym (length-map xs mark))
    ∙ ap₂ (λ two one. if two then n - 2 else (if one then n - 1 else n))
    (ap (pointwise nat_eq (cr ∷ lf ∷ [])) (drop-map mark (n - 2) xs) ∙ crlf-marks (drop (n - 2) xs))
    (ap (pointwise nat_eq (lf ∷ [])) (drop-map mark (n - 1) xs) ∙ lf-marks (drop (n - 1) xs))

pub kept-alike : (xs ys : List ℕ) → Alike xs ys → kept xs ≡ kept ys
kept-alike xs ys h = sym (kept-marks xs) ∙ ap kept h ∙ kept-marks ys

-- ---- making blank

pub map-both : (enc : Enc) (xs ys : List ℕ) → map (blank enc) (xs ++ ys) ≡ map (blank enc) xs ++ map (blank enc) ys
map-both enc [] ys = refl
map-both enc (x ∷ xs) ys = ap (λ l. blank enc x ∷ l) (map-both enc xs ys)

pub blank_from-front : (enc : Enc) (front rest : List ℕ) → blank_from enc (length front) (front ++ rest) ≡ front ++ map (blank enc) rest
blank_from-front enc [] rest = refl
blank_from-front enc (c ∷ front) rest = ap (λ l. c ∷ l) (blank_from-front enc front rest)

twice-by : (test : ℕ → Bool) (z c : ℕ) (b : Bool) → test z ≡ true → test c ≡ b
    → (if test (if b then z else c) then z else (if b then z else c)) ≡ (if b then z else c)
twice-by test z c true k h = cond-true (test z) z z k
twice-by test z c false k h = cond-false (test c) z c h

blank-twice : (enc : Enc) (c : ℕ) → blank enc (blank enc c) ≡ blank enc c
blank-twice Hex c = twice-by (is_digit_of Hex) 48 c (is_digit_of Hex c) refl refl
blank-twice Base64 c = twice-by (is_digit_of Base64) 65 c (is_digit_of Base64 c) refl refl

pub map-twice : (enc : Enc) (xs : List ℕ) → map (blank enc) (map (blank enc) xs) ≡ map (blank enc) xs
map-twice enc [] = refl
map-twice enc (x ∷ xs) = ap₂ (λ c l. c ∷ l) (blank-twice enc x) (map-twice enc xs)

-- a line whose text ends in these characters, made blank from their beginning on
pub record IsBlanked (enc : Enc) (raw front chars new : List ℕ) : Type 0 where
  pub text : text_of new ≡ front ++ map (blank enc) chars
  pub again : blank_from enc (length front) new ≡ new

pub blanked : (enc : Enc) (raw front chars : List ℕ) → text_of raw ≡ front ++ chars
    → IsBlanked enc raw front chars (blank_from enc (length (text_of raw) - length chars) raw)
blanked enc raw front chars e =
    let place : length (text_of raw) - length chars ≡ length front = omega (arith, ap length e, length-append front chars) in
    let tail = drop (kept raw) raw in
    let zeros = map (blank enc) chars in
    let parts : raw ≡ front ++ (chars ++ tail) =
    sym (take-append-drop (kept raw) raw) ∙ ap (λ l. l ++ tail) (sym (text-kept raw) ∙ e) ∙ append_assoc front chars tail in
    let made : blank_from enc (length front) raw ≡ front ++ map (blank enc) (chars ++ tail) =
    ap (blank_from enc (length front)) parts ∙ blank_from-front enc front (chars ++ tail) in
    let cut : front ++ map (blank enc) (chars ++ tail) ≡ (front ++ zeros) ++ map (blank enc) tail =
    ap (λ l. front ++ l) (map-both enc chars tail) ∙ sym (append_assoc front zeros (map (blank enc) tail)) in
    let long : kept raw ≡ length (front ++ zeros) =
    omega (arith, kept-length raw, ap length e, length-append front chars, length-append front zeros, length-map chars (blank enc)) in
    let new = blank_from enc (length front) raw in
    let text : text_of new ≡ front ++ zeros =
    text-kept new
    ∙ ap (λ n. take n new) (kept-alike new raw (blank_from-alike enc (length front) raw) ∙ long)
    ∙ ap (take (length (front ++ zeros))) (made ∙ cut)
    ∙ take-append_seam (front ++ zeros) (map (blank enc) tail) in
    let again : blank_from enc (length front) new ≡ new =
    ap (blank_from enc (length front)) made
    ∙ blank_from-front enc front (map (blank enc) (chars ++ tail))
    ∙ ap (λ l. front ++ l) (map-twice enc (chars ++ tail))
    ∙ sym made in
    subst (λ n. IsBlanked enc raw front chars (blank_from enc n raw)) (sym place) (record { text = text; again = again })

-- ---- a redacted dump has the lines of the dump, each alike to what it was, and its headers

-- ---- a header is a line that begins with an equals sign

is_header-marks : (xs : List ℕ) → is_header (map mark xs) ≡ is_header xs
is_header-marks [] = refl
is_header-marks (x ∷ xs) = is_header-first (mark x) (map mark xs) ∙ ap (λ b. b && true) (mark-equals x) ∙ sym (is_header-first x xs)

-- ---- lines

pub without-alike : (enc : Enc) (raw : List ℕ) (found : Option (List ℕ)) → Alike (without enc raw found) raw
without-alike enc raw None = refl
without-alike enc raw (Some chars) = blank_from-alike enc (length (text_of raw) - length chars) raw

either-alike : (b : Bool) (x raw : List ℕ) → Alike x raw → Alike (if b then raw else x) raw
either-alike true x raw h = refl
either-alike false x raw h = h

pub line-alike : (enc : Enc) (part : Part) (raw : List ℕ) → Alike (redacted_line enc part raw) raw
line-alike enc part raw = either-alike (is_header raw) _ raw (without-alike enc raw (payload_in enc part (text_of raw)))

pub lines-alike : (enc : Enc) (part : Part) (raws : List (List ℕ)) → AllAlike (redacted_lines enc part raws) raws
lines-alike enc part [] = refl
lines-alike enc part (raw ∷ raws) = ap₂ (λ l ls. l ∷ ls) (line-alike enc part raw) (lines-alike enc (next_part part raw) raws)

-- the lines of what is redacted
pub raw_lines-redacted : (enc : Enc) (part : Part) (bytes : List ℕ) → raw_lines (redacted_in enc part bytes) ≡ redacted_lines enc part (raw_lines bytes)
raw_lines-redacted enc part bytes = raw_lines-of bytes (redacted_lines enc part (raw_lines bytes)) (lines-alike enc part (raw_lines bytes))

pub length-redacted : (enc : Enc) (part : Part) (bytes : List ℕ) → length (redacted_in enc part bytes) ≡ length bytes
length-redacted enc part bytes =
    Alike-length _ _ (concat-alike _ _ (lines-alike enc part (raw_lines bytes))) ∙ ap length (AreLines-raw bytes).together

pub line-is_header : (enc : Enc) (part : Part) (raw : List ℕ) → is_header (redacted_line enc part raw) ≡ is_header raw
line-is_header enc part raw = sym (is_header-marks (redacted_line enc part raw)) ∙ ap is_header (line-alike enc part raw) ∙ is_header-marks raw

pub line-header : (enc : Enc) (part : Part) (raw : List ℕ) → is_header raw ≡ true → redacted_line enc part raw ≡ raw
line-header enc part raw h = cond-true (is_header raw) raw _ h

-- ---- headers

picked : (q : Bool) (line : Line) (lines : List Line) → map header_of (cond q (line ∷ lines) lines) ≡ cond q (header_of line ∷ map header_of lines) (map header_of lines)
picked true line lines = refl
picked false line lines = refl

pub heads-cons : (q : Bool) (line : Line) (lines : List Line) → is_header line.raw ≡ q → headers_in (line ∷ lines) ≡ cond q (header_of line ∷ headers_in lines) (headers_in lines)
heads-cons q line lines h =
    picked (is_header line.raw) line (filter (λ line. is_header line.raw) lines)
    ∙ ap (λ b. cond b (header_of line ∷ headers_in lines) (headers_in lines)) h

heads-step : (q : Bool) (at : ℕ) (new old : List ℕ) (xs ys : List Line) → is_header new ≡ q → is_header old ≡ q → (q ≡ true → new ≡ old)
    → headers_in xs ≡ headers_in ys → headers_in (record { at = at; raw = new } ∷ xs) ≡ headers_in (record { at = at; raw = old } ∷ ys)
heads-step true at new old xs ys h k same rest =
    heads-cons true (record { at = at; raw = new }) xs h
    ∙ ap₂ (λ raw hs. header_of (record { at = at; raw = raw }) ∷ hs) (same refl) rest
    ∙ sym (heads-cons true (record { at = at; raw = old }) ys k)
heads-step false at new old xs ys h k same rest =
    heads-cons false (record { at = at; raw = new }) xs h ∙ rest ∙ sym (heads-cons false (record { at = at; raw = old }) ys k)

heads-same : (enc : Enc) (part : Part) (at : ℕ) (raws : List (List ℕ))
    → headers_in (lines_from at (redacted_lines enc part raws)) ≡ headers_in (lines_from at raws)
heads-same enc part at [] = refl
heads-same enc part at (raw ∷ raws) =
    let new = redacted_line enc part raw in
    let later = redacted_lines enc (next_part part raw) raws in
    heads-step (is_header raw) at new raw (lines_from (at + length new) later) (lines_from (at + length raw) raws)
    (line-is_header enc part raw) refl (line-header enc part raw)
    (ap (λ n. headers_in (lines_from (at + n) later)) (Alike-length new raw (line-alike enc part raw))
    ∙ heads-same enc (next_part part raw) (at + length raw) raws)

pub headers-redacted : (enc : Enc) (part : Part) (bytes : List ℕ) → headers (redacted_in enc part bytes) ≡ headers bytes
headers-redacted enc part bytes =
    ap (λ raws. headers_in (lines_from 0 raws)) (raw_lines-redacted enc part bytes) ∙ heads-same enc part 0 (raw_lines bytes)

-- ---- the version, and what follows for a dump

both : (b : Bool) (raw : List ℕ) → (if b then raw else raw) ≡ raw
both true raw = refl
both false raw = refl

first-same : (enc : Enc) (raws : List (List ℕ)) → first_in (redacted_lines enc Other raws) ≡ first_in raws
first-same enc [] = refl
first-same enc (raw ∷ raws) = both (is_header raw) raw

pub version-redacted : (enc : Enc) (bytes : List ℕ) → (index_of (redacted_in enc Other bytes)).version ≡ (index_of bytes).version
version-redacted enc bytes =
    ap (λ line. unwrap_or (version_named (unwrap_or (id_of (text_of line)) [])) V05)
    (ap first_in (raw_lines-redacted enc Other bytes) ∙ first-same enc (raw_lines bytes))

pub keeps-length : (bytes : List ℕ) → length (redacted bytes) ≡ length bytes
keeps-length bytes = length-redacted (enc_of (index_of bytes).version) Other bytes

pub keeps-headers : (bytes : List ℕ) → headers (redacted bytes) ≡ headers bytes
keeps-headers bytes = headers-redacted (enc_of (index_of bytes).version) Other bytes

pub keeps-sections : (bytes : List ℕ) → sections (redacted bytes) ≡ sections bytes
keeps-sections bytes = ap₂ sections_of (keeps-headers bytes) (keeps-length bytes)

abbrev contents : List Header → ℕ → Version → Contents
contents headers size version = record { headers = headers; size = size; version = version }

pub keeps-index : (bytes : List ℕ) → index_of (redacted bytes) ≡ index_of bytes
keeps-index bytes =
    let new = redacted bytes in
    ap (λ hs. contents hs (length new) (index_of new).version) (keeps-headers bytes)
    ∙ ap (λ n. contents (headers bytes) n (index_of new).version) (keeps-length bytes)
    ∙ ap (λ v. contents (headers bytes) (length bytes) v) (version-redacted (enc_of (index_of bytes).version) bytes)
