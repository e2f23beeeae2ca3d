-- The first line behind the header of a binary: a number, its colon, and what is made blank.
use Rattle.std.proofs.Common.{◌≡◌, ℕ, suc, ◌+◌, ◌-◌, ◌<◌, ◌≤◌, ◌==◌, Bool, true, false, ◌&&◌, List, [], ◌∷◌, ◌++◌, length, take, drop, map, Option, None, Some, if◌then◌else◌, refl, sym, ◌∙◌, ap, ap₂, subst, arith, append_assoc, append-nil, length-append, ◌⊎◌, inl, inr}
use Rattle.std.specs.Prelude.{nat_eq, option_map, min}
use Rattle.std.specs.List.{between, concat, list_all, ends_with}
use Rattle.std.specs.Cmp.Lexicographic.{pointwise}
use Rattle.std.proofs.lemmas.Bool.{and_parts, cases_lt, eqb-true, false≢true, false_from_ne_true}
use Rattle.std.proofs.lemmas.List.{append_cancel_right, take_all, take-append-drop, take-take, drop_all, drop-append-le, drop-take, length-drop, length-take-le}
use Rattle.std.proofs.lemmas.Slice.{take-put_mid}
use borrow.Rule.Slice.PartMut.{put_mid}
use Rattle.dump_io.specs.Lines.{lf, cr, raw_lines, lines_after, text_of}
use Rattle.dump_io.specs.Laws.HexNumbers.{hex_number-all_digits}
use Rattle.dump_io.specs.Laws.Lines.{AreLines-raw}
use Rattle.dump_sections.specs.Versions.{first_in}
use Rattle.binary_payloads.specs.declared.enc.Enc.{Enc}
use Rattle.binary_payloads.specs.declared.enc.Enc.TheVariants.{Hex, Base64}
use Rattle.term_forms.specs.Words.{colon, led_of, is_hex_digit, IsLed}
use Rattle.dump_redact.specs.declared.blanks.Stretch.TheVariants.{Payload}
use Rattle.dump_redact.specs.declared.blanks.Stretch.{Stretch}
use Rattle.dump_redact.specs.declared.parts.Part.TheVariants.{Binary}
use Rattle.dump_redact.specs.Bodies.{body_lines, redacted_body}
use Rattle.dump_redact.specs.Redacted.{blank, blank_from, payload_in, without}
use Rattle.dump_redact.specs.Inner.Copying.{blank_line, copied, stretch_behind}
use Rattle.dump_redact.specs.Inner.Places.{IsLeadOf}
use Rattle.dump_redact.proofs.Offsets.{length-part, piece-take, piece-drop, piece-long}
use Rattle.dump_redact.proofs.Places.{LedIsRead}
use Rattle.dump_redact.proofs.Stretches.{copied-append}
use Rattle.dump_redact.proofs.Alike.{kept, text-kept, blank_from-front}

-- ---- the first raw line of a body that begins so

abbrev rest_of : List (List ℕ) → List (List ℕ)
rest_of [] = []
rest_of (line ∷ lines) = lines

after-parts : (c : ℕ) (lines : List (List ℕ)) → lines_after c lines ≡ (c ∷ first_in lines) ∷ rest_of lines
after-parts c [] = refl
after-parts c (line ∷ lines) = refl

raw-inner : (c : ℕ) (bytes : List ℕ) → (c == lf) ≡ false → raw_lines (c ∷ bytes) ≡ lines_after c (raw_lines bytes)
raw-inner c bytes h = ap (λ b. if b then (c ∷ []) ∷ raw_lines bytes else lines_after c (raw_lines bytes)) h

-- no byte of a hex number is an LF
digit-inner : (c d : ℕ) → is_hex_digit d ≡ false → is_hex_digit c ≡ true → (c == d) ≡ false
digit-inner c d none is = false_from_ne_true (c == d) (λ same. false≢true (sym none ∙ sym (ap is_hex_digit (eqb-true c d same)) ∙ is))

digit-other : (c d : ℕ) → is_hex_digit d ≡ false → is_hex_digit c ≡ true → nat_eq d c ≡ false
digit-other c d none is = false_from_ne_true (nat_eq d c) (λ same. false≢true (sym none ∙ ap is_hex_digit (eqb-true d c same) ∙ is))

led-lines : (hex rest : List ℕ) → list_all is_hex_digit hex ≡ true
    → raw_lines (hex ++ colon ∷ rest) ≡ (hex ++ colon ∷ first_in (raw_lines rest)) ∷ rest_of (raw_lines rest)
led-lines [] rest all = raw-inner colon rest refl ∙ after-parts colon (raw_lines rest)
led-lines (c ∷ hex) rest all =
    let digit = and_parts (is_hex_digit c) (list_all is_hex_digit hex) all in
    raw-inner c (hex ++ colon ∷ rest) (digit-inner c lf refl digit.0) ∙ ap (lines_after c) (led-lines hex rest digit.1)

-- ---- and its text

grown-by : (a b : Bool) (c m n : ℕ) (l : List ℕ)
    → (if a then take (suc m) (c ∷ l) else (if b then take (suc n) (c ∷ l) else c ∷ l)) ≡ c ∷ (if a then take m l else (if b then take n l else l))
grown-by true b c m n l = refl
grown-by false true c m n l = refl
grown-by false false c m n l = refl

text-long : (c : ℕ) (l : List ℕ) → 2 ≤ length l → text_of (c ∷ l) ≡ c ∷ text_of l
text-long c l long =
    let raw : List ℕ = c ∷ l in
    let two : length raw - 2 ≡ suc (length l - 2) = omega (arith, long) in
    let one : length raw - 1 ≡ suc (length l - 1) = omega (arith, long) in
    ap (λ n. if pointwise nat_eq (cr ∷ lf ∷ []) (drop n raw) then take n raw else (if ends_with nat_eq raw (lf ∷ []) then take (length raw - 1) raw else raw)) two
    ∙ ap (λ n. if ends_with nat_eq l (cr ∷ lf ∷ []) then take (suc (length l - 2)) raw else (if pointwise nat_eq (lf ∷ []) (drop n raw) then take n raw else raw)) one
    ∙ grown-by (ends_with nat_eq l (cr ∷ lf ∷ [])) (ends_with nat_eq l (lf ∷ [])) c (length l - 2) (length l - 1) l

short-by : (p q x : Bool) (c d : ℕ) → x ≡ false → (if p && (x && true) then take 0 (c ∷ d ∷ []) else (if x && true then take 1 (c ∷ d ∷ []) else c ∷ d ∷ []))
    ≡ c ∷ (if q && false then take 0 (d ∷ []) else (if x && true then take 0 (d ∷ []) else d ∷ []))
short-by p q true c d none = absurd (false≢true (sym none))
short-by true true false c d none = refl
short-by true false false c d none = refl
short-by false true false c d none = refl
short-by false false false c d none = refl

text-inner : (c d : ℕ) (l : List ℕ) → nat_eq lf d ≡ false → text_of (c ∷ d ∷ l) ≡ c ∷ text_of (d ∷ l)
text-inner c d [] none = short-by (nat_eq cr c) (nat_eq cr d) (nat_eq lf d) c d none
text-inner c d (e ∷ l) none = text-long c (d ∷ e ∷ l) (omega arith)

text-head : (l : List ℕ) → (chars : List ℕ) × (text_of (colon ∷ l) ≡ colon ∷ chars)
text-head [] = ([], refl)
text-head (d ∷ []) = by (nat_eq lf d)
  where
    by : (b : Bool) → (chars : List ℕ) × ((if b && true then take 1 (colon ∷ d ∷ []) else colon ∷ d ∷ []) ≡ colon ∷ chars)
    by true = ([], refl)
    by false = (d ∷ [], refl)
text-head (d ∷ e ∷ l) = (text_of (d ∷ e ∷ l), text-long colon (d ∷ e ∷ l) (omega arith))

led-text : (hex l : List ℕ) → list_all is_hex_digit hex ≡ true → (chars : List ℕ) × (text_of (hex ++ colon ∷ l) ≡ hex ++ colon ∷ chars)
led-text [] l all = text-head l
led-text (c ∷ []) l all =
    let rest = text-head l in
    (rest.0, text-inner c colon l refl ∙ ap (λ t. c ∷ t) rest.1)
led-text (c ∷ d ∷ hex) l all =
    let digit = and_parts (is_hex_digit c) (list_all is_hex_digit (d ∷ hex)) all in
    let next = and_parts (is_hex_digit d) (list_all is_hex_digit hex) digit.1 in
    let rest = led-text (d ∷ hex) l digit.1 in
    (rest.0, text-inner c d (hex ++ colon ∷ l) (digit-other d lf refl next.0) ∙ ap (λ t. c ∷ t) rest.1)

-- ---- what a body becomes

blank-lf : (enc : Enc) → blank enc lf ≡ lf
blank-lf Hex = refl
blank-lf Base64 = refl

-- up to its first LF it is made blank
blank-lines : (enc : Enc) (bytes : List ℕ) → blank_line enc bytes ≡ map (blank enc) (first_in (raw_lines bytes)) ++ concat (rest_of (raw_lines bytes))
blank-lines enc [] = refl
blank-lines enc (c ∷ bytes) = by (c == lf) refl (blank-lines enc bytes)
  where
    by : (b : Bool) → (c == lf) ≡ b → blank_line enc bytes ≡ map (blank enc) (first_in (raw_lines bytes)) ++ concat (rest_of (raw_lines bytes))
        → blank_line enc (c ∷ bytes) ≡ map (blank enc) (first_in (raw_lines (c ∷ bytes))) ++ concat (rest_of (raw_lines (c ∷ bytes)))
    by true h rest =
        let same : c ≡ lf = eqb-true c lf h in
        ap (λ b. if b then c ∷ bytes else blank enc c ∷ blank_line enc bytes) h
        ∙ ap₂ (λ x l. x ∷ l) (same ∙ sym (blank-lf enc) ∙ ap (blank enc) (sym same)) (sym (AreLines-raw bytes).together)
        ∙ ap (λ ls. map (blank enc) (first_in ls) ++ concat (rest_of ls)) (sym (ap (λ b. if b then (c ∷ []) ∷ raw_lines bytes else lines_after c (raw_lines bytes)) h))
    by false h rest =
        ap (λ b. if b then c ∷ bytes else blank enc c ∷ blank_line enc bytes) h
        ∙ ap (λ l. blank enc c ∷ l) rest
        ∙ ap (λ ls. map (blank enc) (first_in ls) ++ concat (rest_of ls)) (sym (raw-inner c bytes h ∙ after-parts c (raw_lines bytes)))

pub binary-some : LedIsRead → (enc : Enc) (body rest : List ℕ) (n : ℕ) → (led : IsLed body n rest) → redacted_body enc Binary body ≡ (led.0 ++ colon ∷ []) ++ blank_line enc rest
binary-some law enc body rest n led =
    let hex = led.0 in
    let digits = hex_number-all_digits hex n led.1 in
    let first = first_in (raw_lines rest) in
    let more = rest_of (raw_lines rest) in
    let raw = hex ++ colon ∷ first in
    let front = hex ++ colon ∷ [] in
    let text = led-text hex first digits in
    let found : payload_in enc Binary (text_of raw) ≡ Some text.0 =
    ap (λ t. option_map (λ led. led.1) (led_of t)) text.1 ∙ ap (option_map (λ led. led.1)) ((law (hex ++ colon ∷ text.0) n text.0).1 (hex, led.1, refl)) in
    let place : length (text_of raw) - length text.0 ≡ length front =
    omega (arith, ap length text.1, length-append hex (colon ∷ text.0), length-append hex (colon ∷ [])) in
    let parts : (l : List ℕ) → hex ++ colon ∷ l ≡ front ++ l = λ l. sym (append_assoc hex (colon ∷ []) l) in
    ap (redacted_body enc Binary) led.2
    ∙ ap (λ ls. concat (body_lines enc Binary ls)) (led-lines hex rest digits)
    ∙ ap (λ o. without enc raw o ++ concat more) found
    ∙ ap (λ k. blank_from enc k raw ++ concat more) place
    ∙ ap (λ l. blank_from enc (length front) l ++ concat more) (parts first)
    ∙ ap (λ l. l ++ concat more) (blank_from-front enc front first)
    ∙ append_assoc front (map (blank enc) first) (concat more)
    ∙ ap (λ l. front ++ l) (sym (blank-lines enc rest))

pub binary-none : LedIsRead → (enc : Enc) (body : List ℕ) → led_of body ≡ None → redacted_body enc Binary body ≡ body
binary-none law enc body none = by (raw_lines body) (AreLines-raw body).together
  where
    read : (raw : List ℕ) (more : List (List ℕ)) → concat (raw ∷ more) ≡ body → (o : Option (ℕ × List ℕ)) → led_of (text_of raw) ≡ o → without enc raw (option_map (λ led. led.1) o) ≡ raw
    read raw more all None is = refl
    read raw more all (Some led) is =
        let found : IsLed (text_of raw) led.0 led.1 = (law (text_of raw) led.0 led.1).0 is in
        let tail = drop (kept raw) raw in
        let whole : body ≡ found.0 ++ colon ∷ (led.1 ++ (tail ++ concat more)) =
        sym all
        ∙ ap (λ l. l ++ concat more) (sym (take-append-drop (kept raw) raw) ∙ ap (λ l. l ++ tail) (sym (text-kept raw)))
        ∙ append_assoc (text_of raw) tail (concat more)
        ∙ ap (λ l. l ++ (tail ++ concat more)) found.2
        ∙ append_assoc found.0 (colon ∷ led.1) (tail ++ concat more) in
        let some = (law body led.0 (led.1 ++ (tail ++ concat more))).1 (found.0, found.1, whole) in
        absurd (let no : ⊥ = cc (none, some) in no)

    by : (raws : List (List ℕ)) → concat raws ≡ body → concat (body_lines enc Binary raws) ≡ body
    by [] all = all
    by (raw ∷ more) all = ap (λ l. l ++ concat more) (read raw more all (led_of (text_of raw)) refl) ∙ all

-- ---- the first piece of a body

pub piece-none : LedIsRead → (enc : Enc) (piece body : List ℕ) → piece ≡ take (length piece) body → IsLeadOf body None
    → piece ++ drop (length piece) body ≡ redacted_body enc Binary body
piece-none law enc piece body is none =
    ap (λ l. l ++ drop (length piece) body) is ∙ take-append-drop (length piece) body ∙ sym (binary-none law enc body none)

pub piece-some : LedIsRead → (enc : Enc) (piece body : List ℕ) (place : ℕ) → piece ≡ take (length piece) body → place ≤ length piece → IsLeadOf body (Some place)
    → (take place piece ++ copied (Payload enc) (drop place piece)) ++ copied (stretch_behind (Payload enc) (drop place piece)) (drop (length piece) body) ≡ redacted_body enc Binary body
piece-some law enc piece body place is within lead =
    let n = lead.0 in
    let rest = drop place body in
    let led : IsLed body n rest = lead.1 in
    let front = led.0 ++ colon ∷ [] in
    let behind = drop (length piece) body in
    let join : piece ++ behind ≡ body = ap (λ l. l ++ behind) is ∙ take-append-drop (length piece) body in
    let tail : drop place piece ++ behind ≡ rest = sym (drop-append-le place piece behind within) ∙ ap (drop place) join in
    let whole : take place body ++ rest ≡ front ++ rest = take-append-drop place body ∙ led.2 ∙ sym (append_assoc led.0 (colon ∷ []) rest) in
    let head : take place body ≡ front = append_cancel_right (take place body) front rest whole in
    append_assoc (take place piece) (copied (Payload enc) (drop place piece)) (copied (stretch_behind (Payload enc) (drop place piece)) behind)
    ∙ ap (λ l. take place piece ++ l) (sym (copied-append (Payload enc) (drop place piece) behind))
    ∙ ap (λ l. take place piece ++ blank_line enc l) tail
    ∙ ap (λ l. l ++ blank_line enc rest) (ap (take place) is ∙ take-take place (length piece) body within ∙ head)
    ∙ sym (binary-some law enc body rest n led)

-- what 17 bytes of the piece are those of the body
pub piece-front : (piece body : List ℕ) (k : ℕ) → k ≡ min (length piece) 17 → piece ≡ take (length piece) body → (17 ≤ length piece) ⊎ (length piece ≡ length body)
    → take k piece ≡ take 17 body
piece-front piece body k is front long = by (cases_lt (length piece) 17) long
  where
    by : (length piece < 17) ⊎ (17 ≤ length piece) → (17 ≤ length piece) ⊎ (length piece ≡ length body) → take k piece ≡ take 17 body
    by (inr more) either =
        let all : k ≡ 17 = omega (arith, is, more) in
        ap (λ n. take n piece) all ∙ ap (take 17) front ∙ take-take 17 (length piece) body more
    by (inl less) (inl more) = absurd (omega (arith, less, more))
    by (inl less) (inr same) =
        let all : k ≡ length piece = omega (arith, is, less) in
        ap (λ n. take n piece) all ∙ take_all (length piece) piece (omega arith)
        ∙ front ∙ take_all (length piece) body (omega (arith, same)) ∙ sym (take_all 17 body (omega (arith, same, less)))

-- a piece of which all from a place on was written anew
pub put-tail : (place : ℕ) (piece new : List ℕ) → put_mid place (length piece - place) piece new ≡ take place piece ++ new
put-tail place piece new =
    let none : drop (length piece - place) (drop place piece) ≡ [] = drop_all (length piece - place) (drop place piece) (omega (arith, length-drop place piece)) in
    ap (λ l. take place piece ++ (new ++ l)) none ∙ ap (λ l. take place piece ++ l) (append-nil new)

-- the first piece, by where it stands in the dump, and what follows it
pub first-piece : (enc : Enc) (piece new : List ℕ) (stretch : Stretch) (dump : List ℕ) (from count upto room : ℕ)
    → ((body : List ℕ) → piece ≡ take (length piece) body → (17 ≤ length piece) ⊎ (length piece ≡ length body) → new ++ copied stretch (drop (length piece) body) ≡ redacted_body enc Binary body)
    → piece ≡ between from (from + count) dump → 17 ≤ room → count ≡ min room (upto - from) → from ≤ upto → upto ≤ length dump
    → new ++ copied stretch (between (from + count) upto dump) ≡ redacted_body enc Binary (between from upto dump)
first-piece enc piece new stretch dump from count upto room redacts is big few ordered within =
    let body = between from upto dump in
    let inside : from + count ≤ upto = omega (arith, few, ordered) in
    let size : length piece ≡ count = omega (arith, ap length is, length-part dump from (from + count) (omega (arith, inside, within))) in
    let all : length body ≡ upto - from = length-part dump from upto within in
    let front : piece ≡ take (length piece) body = is ∙ piece-take dump from count upto inside ∙ ap (λ n. take n body) (sym size) in
    let long : (17 ≤ length piece) ⊎ (length piece ≡ length body) = subst (λ n. (17 ≤ n) ⊎ (n ≡ length body)) (sym size) (piece-long room (upto - from) count (length body) big few all) in
    ap (λ l. new ++ copied stretch l) (sym (piece-drop dump from count upto inside) ∙ ap (λ n. drop n body) (sym size))
    ∙ redacts body front long

-- a piece that begins in front of the body, with what it has of the body written anew
pub near-piece : (enc : Enc) (buffer new : List ℕ) (stretch : Stretch) (dump : List ℕ) (from body count upto room : ℕ)
    → ((whole : List ℕ) → take (count - (body - from)) (drop (body - from) buffer) ≡ take (length (take (count - (body - from)) (drop (body - from) buffer))) whole
    → (17 ≤ length (take (count - (body - from)) (drop (body - from) buffer))) ⊎ (length (take (count - (body - from)) (drop (body - from) buffer)) ≡ length whole)
    → new ++ copied stretch (drop (length (take (count - (body - from)) (drop (body - from) buffer))) whole) ≡ redacted_body enc Binary whole)
    → take count buffer ≡ between from (from + count) dump → length new ≡ length (take (count - (body - from)) (drop (body - from) buffer)) → body - from + 17 ≤ room → count ≡ min room (upto - from) → count ≤ length buffer
    → from ≤ body → body < upto → upto ≤ length dump
    → take count (put_mid (body - from) (count - (body - from)) buffer new) ++ copied stretch (between (from + count) upto dump)
    ≡ between from body dump ++ redacted_body enc Binary (between body upto dump)
near-piece enc buffer new stretch dump from body count upto room redacts is size big few fits low some within =
    let lead = body - from in
    let k = count - lead in
    let reaches : lead ≤ count = omega (arith, few, big, low, some) in
    let place : from + lead ≡ body = omega (arith, low) in
    let parts : count ≡ lead + k = omega (arith, reaches) in
    let ends : body + k ≡ from + count = omega (arith, low, reaches) in
    let long : length new ≡ k = size ∙ length-take-le k (drop lead buffer) (omega (arith, length-drop lead buffer, fits)) in
    let front : take lead buffer ≡ between from body dump =
    sym (take-take lead count buffer reaches) ∙ ap (take lead) is ∙ take-take lead (from + count - from) (drop from dump) (omega (arith, reaches)) in
    let tail : take k (drop lead buffer) ≡ between body (body + k) dump =
    sym (drop-take lead k buffer) ∙ ap (λ n. drop lead (take n buffer)) (sym parts) ∙ ap (drop lead) is
    ∙ piece-drop dump from lead (from + count) (omega (arith, reaches))
    ∙ ap (λ n. between n (from + count) dump) place ∙ ap (λ n. between body n dump) (sym ends) in
    let whole : take count (put_mid lead k buffer new) ≡ take lead buffer ++ new =
    take-put_mid lead k buffer new count (omega (arith, long, parts)) (omega (arith, reaches, fits)) in
    let rest : new ++ copied stretch (between (body + k) upto dump) ≡ redacted_body enc Binary (between body upto dump) =
    first-piece enc (take k (drop lead buffer)) new stretch dump body k upto (room - lead) redacts tail (omega (arith, big)) (omega (arith, few, big, low)) (omega (arith, some)) within in
    ap (λ l. l ++ copied stretch (between (from + count) upto dump)) whole
    ∙ append_assoc (take lead buffer) new (copied stretch (between (from + count) upto dump))
    ∙ ap₂ (λ l n. l ++ (new ++ copied stretch (between n upto dump))) front (sym ends)
    ∙ ap (λ l. between from body dump ++ l) rest
