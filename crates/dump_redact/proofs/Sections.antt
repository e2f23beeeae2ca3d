-- Each section of a redacted dump is redacted by itself.
use Rattle.std.proofs.Common.{◌≡◌, ℕ, false, List, [], ◌∷◌, ◌++◌, map, refl, ◌∙◌, ap, ap₂, ◌+◌, ◌-◌, ◌<◌, Bool, true, length, take, drop, if◌then◌else◌, sym, subst, arith, length-append, append-nil, append_assoc}
use Rattle.std.specs.Prelude.{All, slice_get}
use Rattle.std.specs.List.{concat, between}
use Rattle.std.proofs.lemmas.Bool.{cond-false, cond-true}
use Rattle.std.proofs.lemmas.List.Elements.{All-head, All-tail, All-nil, All-cons}
use Rattle.std.proofs.lemmas.List.{take_at, drop_at, drop-drop}
use Rattle.dump_io.specs.Lines.{text_of, is_header, AreLines, HasLfLast, IsEnded, raw_lines, lines_from, Header, Line}
use Rattle.dump_sections.specs.Sections.{tag_of, section, sections, sections_of, next_at}
use Rattle.binary_payloads.specs.declared.enc.Enc.{Enc}
use Rattle.dump_io.specs.Laws.Lines.{AreLines-raw, front-cons, raw_lines-ended, raw_lines-one}
use Rattle.dump_sections.specs.TilingLaws.{headers_in}
use Rattle.heap_cells.specs.Loading.{enc_of}
use Rattle.dump_sections.specs.Index.{index_of}
use Rattle.dump_redact.specs.declared.parts.Part.{Part}
use Rattle.dump_redact.specs.declared.parts.Part.TheVariants.{Heap, Binary, Other}
use Rattle.dump_redact.specs.Redacted.{later, part_of, next_part, payload_in, redacted_line, redacted_lines, redacted, blanked_line}
use Rattle.dump_redact.specs.Bodies.{body_lines, redacted_body}
use Rattle.dump_redact.specs.Laws.{IsRedacted}
use Rattle.dump_redact.proofs.Alike.{AllAlike, Alike-length, concat-alike, mark, raw_lines-of, heads-cons, without-alike, line-alike, lines-alike, line-header}

-- no line of the body of a section is a header
abbrev pub AreInBody : List (List ℕ) → Type 0
AreInBody raws = All (λ raw. is_header raw ≡ false) raws

-- the part in which a line stands that follows these
abbrev pub part_behind : Part → List (List ℕ) → Part
part_behind part [] = part
part_behind part (raw ∷ raws) = part_behind (next_part part raw) raws

head : (raw : List ℕ) (raws : List (List ℕ)) → AreInBody (raw ∷ raws) → is_header raw ≡ false
head raw raws h = All-head (λ raw. is_header raw ≡ false) raw raws h

rest : (raw : List ℕ) (raws : List (List ℕ)) → AreInBody (raw ∷ raws) → AreInBody raws
rest raw raws h = All-tail (λ raw. is_header raw ≡ false) raw raws h

plain : (enc : Enc) (part : Part) (raw : List ℕ) → is_header raw ≡ false → redacted_line enc part raw ≡ blanked_line enc part raw
plain enc part raw h = cond-false (is_header raw) raw _ h

after : (part : Part) (raw : List ℕ) → is_header raw ≡ false → next_part part raw ≡ later part
after part raw h = cond-false (is_header raw) (part_of (tag_of (text_of raw))) (later part) h

step : (enc : Enc) (part : Part) (raw : List ℕ) (raws : List (List ℕ)) → is_header raw ≡ false
    → redacted_lines enc part (raw ∷ raws) ≡ blanked_line enc part raw ∷ redacted_lines enc (later part) raws
step enc part raw raws h = ap₂ (λ l p. l ∷ redacted_lines enc p raws) (plain enc part raw h) (after part raw h)

others : (enc : Enc) (raws : List (List ℕ)) → AreInBody raws → redacted_lines enc Other raws ≡ raws
others enc [] h = refl
others enc (raw ∷ raws) h = step enc Other raw raws (head raw raws h) ∙ ap (λ l. raw ∷ l) (others enc raws (rest raw raws h))

heaps : (enc : Enc) (raws : List (List ℕ)) → AreInBody raws → redacted_lines enc Heap raws ≡ map (blanked_line enc Heap) raws
heaps enc [] h = refl
heaps enc (raw ∷ raws) h = step enc Heap raw raws (head raw raws h) ∙ ap (λ l. blanked_line enc Heap raw ∷ l) (heaps enc raws (rest raw raws h))

-- the lines of a body are redacted by its part alone
pub bodies : (enc : Enc) (part : Part) (raws : List (List ℕ)) → AreInBody raws → redacted_lines enc part raws ≡ body_lines enc part raws
bodies enc Heap raws h = heaps enc raws h
bodies enc Other raws h = others enc raws h
bodies enc Binary [] h = refl
bodies enc Binary (raw ∷ raws) h =
    step enc Binary raw raws (head raw raws h) ∙ ap (λ l. blanked_line enc Binary raw ∷ l) (others enc raws (rest raw raws h))

-- lines that are cut in two are redacted one part after the other
pub in_turn : (enc : Enc) (part : Part) (front more : List (List ℕ))
    → redacted_lines enc part (front ++ more) ≡ redacted_lines enc part front ++ redacted_lines enc (part_behind part front) more
in_turn enc part [] more = refl
in_turn enc part (raw ∷ front) more = ap (λ l. redacted_line enc part raw ∷ l) (in_turn enc (next_part part raw) front more)

-- ---- the sections of a redacted dump: each is redacted by itself

-- ---- lines up to the next header, and those from it on

abbrev pub up_to_header : List (List ℕ) → List (List ℕ)
up_to_header [] = []
up_to_header (raw ∷ raws) = if is_header raw then [] else raw ∷ up_to_header raws

abbrev pub from_header : List (List ℕ) → List (List ℕ)
from_header [] = []
from_header (raw ∷ raws) = if is_header raw then raw ∷ raws else from_header raws

header-front : (raw : List ℕ) (raws : List (List ℕ)) → is_header raw ≡ true → up_to_header (raw ∷ raws) ≡ []
header-front raw raws h = ap (λ b. if b then [] else raw ∷ up_to_header raws) h

other-front : (raw : List ℕ) (raws : List (List ℕ)) → is_header raw ≡ false → up_to_header (raw ∷ raws) ≡ raw ∷ up_to_header raws
other-front raw raws h = ap (λ b. if b then [] else raw ∷ up_to_header raws) h

both : (raws : List (List ℕ)) → raws ≡ up_to_header raws ++ from_header raws
both [] = refl
both (raw ∷ raws) =
    elim (is_header raw) as (λ b. raw ∷ raws ≡ (if b then [] else raw ∷ up_to_header raws) ++ (if b then raw ∷ raws else from_header raws))
    [ true ↦ refl | false ↦ ap (λ l. raw ∷ l) (both raws) ]

concat-append : (xs ys : List (List ℕ)) → concat (xs ++ ys) ≡ concat xs ++ concat ys
concat-append [] ys = refl
concat-append (x ∷ xs) ys = ap (λ l. x ++ l) (concat-append xs ys) ∙ sym (append_assoc x (concat xs) (concat ys))

in-body : (raws : List (List ℕ)) → AreInBody (up_to_header raws)
in-body [] = All-nil (λ raw. is_header raw ≡ false)
in-body (raw ∷ raws) = by (is_header raw) refl (in-body raws)
  where
    by : (b : Bool) → is_header raw ≡ b → AreInBody (up_to_header raws) → AreInBody (up_to_header (raw ∷ raws))
    by true h rest = subst AreInBody (sym (header-front raw raws h)) (All-nil (λ raw. is_header raw ≡ false))
    by false h rest =
        subst AreInBody (sym (other-front raw raws h)) (All-cons (λ raw. is_header raw ≡ false) raw (up_to_header raws) h rest)

-- ---- the lines of a body are the raw lines of its bytes

lines-behind : (raw : List ℕ) (raws : List (List ℕ)) → AreLines (concat (raw ∷ raws)) (raw ∷ raws) → AreLines (concat raws) raws
lines-behind raw [] are = record { together = refl; some = All-nil (λ l. 0 < length l); lf_last = All-nil HasLfLast; ended = All-nil IsEnded }
lines-behind raw (next ∷ raws) are =
    let rest : List (List ℕ) = next ∷ raws in
    record {
      together = refl;
      some = All-tail (λ l. 0 < length l) raw rest are.some;
      lf_last = All-tail HasLfLast raw rest are.lf_last;
      ended = All-tail IsEnded raw (take (length rest - 1) rest) (subst (λ l. All IsEnded l) (front-cons raw next raws) are.ended);
    }

-- a line that isn't the last is the first of its bytes, whatever follows it
line-first : (raw next : List ℕ) (raws : List (List ℕ)) (more : List ℕ) → AreLines (concat (raw ∷ next ∷ raws)) (raw ∷ next ∷ raws)
    → raw_lines (raw ++ more) ≡ raw ∷ raw_lines more
line-first raw next raws more are =
    let rest : List (List ℕ) = next ∷ raws in
    raw_lines-ended raw more (All-head (λ l. 0 < length l) raw rest are.some) (All-head HasLfLast raw rest are.lf_last)
    (All-head IsEnded raw (take (length rest - 1) rest) (subst (λ l. All IsEnded l) (front-cons raw next raws) are.ended))

body-lines : (raws : List (List ℕ)) → AreLines (concat raws) raws → raw_lines (concat (up_to_header raws)) ≡ up_to_header raws
body-lines [] are = refl
body-lines (raw ∷ raws) are = by (is_header raw) refl raws are (body-lines raws (lines-behind raw raws are))
  where
    by : (b : Bool) → is_header raw ≡ b → (raws : List (List ℕ)) → AreLines (concat (raw ∷ raws)) (raw ∷ raws)
        → raw_lines (concat (up_to_header raws)) ≡ up_to_header raws → raw_lines (concat (up_to_header (raw ∷ raws))) ≡ up_to_header (raw ∷ raws)
    by true h raws are rest =
        ap (λ ls. raw_lines (concat ls)) (header-front raw raws h) ∙ sym (header-front raw raws h)
    by false h [] are rest =
        ap (λ ls. raw_lines (concat ls)) (other-front raw [] h)
        ∙ ap raw_lines (append-nil raw)
        ∙ raw_lines-one raw (All-head (λ l. 0 < length l) raw [] are.some) (All-head HasLfLast raw [] are.lf_last)
        ∙ sym (other-front raw [] h)
    by false h (next ∷ raws) are rest =
        let body = up_to_header (next ∷ raws) in
        ap (λ ls. raw_lines (concat ls)) (other-front raw (next ∷ raws) h)
        ∙ line-first raw next raws (concat body) are
        ∙ ap (λ ls. raw ∷ ls) rest
        ∙ sym (other-front raw (next ∷ raws) h)

-- ---- where the next header begins

-- the next header stands behind the lines up to it
abbrev EndsAt : ℕ → ℕ → List (List ℕ) → Type 0
EndsAt at size raws = next_at (slice_get (headers_in (lines_from at raws)) 0) size ≡ at + length (concat (up_to_header raws))

next-head : (at size : ℕ) (raws : List (List ℕ)) → at + length (concat raws) ≡ size → EndsAt at size raws
next-head at size [] all = sym all
next-head at size (raw ∷ raws) all =
    by (is_header raw) refl (next-head (at + length raw) size raws (omega (arith, all, length-append raw (concat raws))))
  where
    lines : List Line
    lines = lines_from (at + length raw) raws

    by : (b : Bool) → is_header raw ≡ b → EndsAt (at + length raw) size raws → EndsAt at size (raw ∷ raws)
    by true h rest =
        ap (λ hs. next_at (slice_get hs 0) size) (heads-cons true (record { at = at; raw = raw }) lines h)
        ∙ (let e : at ≡ at + 0 = omega arith in e)
        ∙ ap (λ ls. at + length (concat ls)) (sym (header-front raw raws h))
    by false h rest =
        ap (λ hs. next_at (slice_get hs 0) size) (heads-cons false (record { at = at; raw = raw }) lines h)
        ∙ rest
        ∙ (let e : at + length raw + length (concat (up_to_header raws)) ≡ at + length (raw ++ concat (up_to_header raws)) = omega (arith, length-append raw (concat (up_to_header raws))) in e)
        ∙ ap (λ ls. at + length (concat ls)) (sym (other-front raw raws h))

-- ---- a body of what is redacted

body-length : (enc : Enc) (part : Part) (raws : List (List ℕ)) → length (concat (body_lines enc part (up_to_header raws))) ≡ length (concat (up_to_header raws))
body-length enc part raws =
    let front = up_to_header raws in
    ap (λ ls. length (concat ls)) (sym (bodies enc part front (in-body raws)))
    ∙ Alike-length _ _ (concat-alike _ _ (lines-alike enc part front))

body-first : (enc : Enc) (part : Part) (raws : List (List ℕ)) → (more : List ℕ) × (concat (redacted_lines enc part raws) ≡ concat (body_lines enc part (up_to_header raws)) ++ more)
body-first enc part raws =
    let front = up_to_header raws in
    let behind = redacted_lines enc (part_behind part front) (from_header raws) in (
      concat behind,
      ap (λ ls. concat (redacted_lines enc part ls)) (both raws)
          ∙ ap concat (in_turn enc part front (from_header raws))
          ∙ concat-append (redacted_lines enc part front) behind
          ∙ ap (λ ls. concat ls ++ concat behind) (bodies enc part front (in-body raws)),
    )

-- so many bytes from a place on, by what is known to stand there
part-at : (xs front more : List ℕ) (from upto : ℕ) → drop from xs ≡ front ++ more → upto ≡ from + length front → between from upto xs ≡ front
part-at xs front more from upto is ends =
    let count : upto - from ≡ length front = omega (arith, ends) in
    ap (λ n. take n (drop from xs)) count ∙ ap (take (length front)) is ∙ take_at front more (length front) refl

part-behind : (xs front more : List ℕ) (from n : ℕ) → drop from xs ≡ front ++ more → n ≡ length front → drop (from + n) xs ≡ more
part-behind xs front more from n is size =
    sym (drop-drop n from xs) ∙ ap (drop n) is ∙ drop_at front more n (sym size)

module _ (enc : Enc) (b c : List ℕ) where
  -- the section of a header whose lines these are
  section-first : (part : Part) (at size : ℕ) (raw : List ℕ) (raws : List (List ℕ)) → AreLines (concat raws) raws → at + length raw + length (concat raws) ≡ size
      → is_header raw ≡ true → drop at b ≡ raw ++ concat raws → drop at c ≡ redacted_line enc part raw ++ concat (redacted_lines enc (next_part part raw) raws)
      → drop (at + length raw) b ≡ concat raws → drop (at + length raw) c ≡ concat (redacted_lines enc (next_part part raw) raws)
      → IsRedacted enc b c (section at (at + length raw) (next_at (slice_get (headers_in (lines_from (at + length raw) raws)) 0) size) (text_of raw))
  section-first part at size raw raws are left h old new old_rest new_rest =
      let body = at + length raw in
      let p = next_part part raw in
      let line = redacted_line enc part raw in
      let front = up_to_header raws in
      let long : length line ≡ length raw = Alike-length line raw (line-alike enc part raw) in
      let ends : EndsAt body size raws = next-head body size raws left in
      let is_part : p ≡ part_of (tag_of (text_of raw)) = cond-true (is_header raw) (part_of (tag_of (text_of raw))) (later part) h in
      let more = body-first enc p raws in
      let old_body : between body (next_at (slice_get (headers_in (lines_from body raws)) 0) size) b ≡ concat front =
      part-at b (concat front) (concat (from_header raws)) body _ (old_rest ∙ ap concat (both raws) ∙ concat-append front (from_header raws)) ends in
      let new_body : between body (next_at (slice_get (headers_in (lines_from body raws)) 0) size) c ≡ concat (body_lines enc p front) =
      part-at c (concat (body_lines enc p front)) more.0 body _ (new_rest ∙ more.1) (ends ∙ ap (λ n. body + n) (sym (body-length enc p raws))) in
      record {
        line = part-at c line (concat (redacted_lines enc p raws)) at body new (ap (λ n. at + n) (sym long))
            ∙ line-header enc part raw h
            ∙ sym (part-at b raw (concat raws) at body old refl);
        body = new_body
            ∙ ap (λ ls. concat (body_lines enc p ls)) (sym (body-lines raws are))
            ∙ ap (λ q. redacted_body enc q (concat front)) is_part
            ∙ ap (redacted_body enc (part_of (tag_of (text_of raw)))) (sym old_body);
      }

  sections-lines : (part : Part) (at size : ℕ) (raws : List (List ℕ)) → AreLines (concat raws) raws → at + length (concat raws) ≡ size
      → drop at b ≡ concat raws → drop at c ≡ concat (redacted_lines enc part raws) → All (IsRedacted enc b c) (sections_of (headers_in (lines_from at raws)) size)
  sections-lines part at size [] are all old new = All-nil (IsRedacted enc b c)
  sections-lines part at size (raw ∷ raws) are all old new =
      let body = at + length raw in
      let p = next_part part raw in
      let line = redacted_line enc part raw in
      let long : length line ≡ length raw = Alike-length line raw (line-alike enc part raw) in
      let behind : AreLines (concat raws) raws = lines-behind raw raws are in
      let left : body + length (concat raws) ≡ size = omega (arith, all, length-append raw (concat raws)) in
      let old_rest : drop body b ≡ concat raws = part-behind b raw (concat raws) at (length raw) old refl in
      let new_rest : drop body c ≡ concat (redacted_lines enc p raws) = part-behind c line (concat (redacted_lines enc p raws)) at (length raw) new (sym long) in
      by (is_header raw) refl (sections-lines p body size raws behind left old_rest new_rest)
      (λ h. section-first part at size raw raws behind left h old new old_rest new_rest)
    where
      heads : List Header
      heads = headers_in (lines_from (at + length raw) raws)

      by : (q : Bool) → is_header raw ≡ q → All (IsRedacted enc b c) (sections_of heads size)
          → (is_header raw ≡ true → IsRedacted enc b c (section at (at + length raw) (next_at (slice_get heads 0) size) (text_of raw)))
          → All (IsRedacted enc b c) (sections_of (headers_in (lines_from at (raw ∷ raws))) size)
      by true h rest first =
          subst (λ hs. All (IsRedacted enc b c) (sections_of hs size)) (sym (heads-cons true (record { at = at; raw = raw }) (lines_from (at + length raw) raws) h))
          (All-cons (IsRedacted enc b c) _ (sections_of heads size) (first h) rest)
      by false h rest first =
          subst (λ hs. All (IsRedacted enc b c) (sections_of hs size)) (sym (heads-cons false (record { at = at; raw = raw }) (lines_from (at + length raw) raws) h)) rest

pub redacts-sections : (bytes : List ℕ) → All (IsRedacted (enc_of (index_of bytes).version) bytes (redacted bytes)) (sections bytes)
redacts-sections bytes =
    let enc = enc_of (index_of bytes).version in
    let lines = AreLines-raw bytes in
    let own : AreLines (concat (raw_lines bytes)) (raw_lines bytes) = subst (λ l. AreLines l (raw_lines bytes)) (sym lines.together) lines in
    let start : 0 + length (concat (raw_lines bytes)) ≡ length bytes = omega (arith, ap length lines.together) in
    sections-lines enc bytes (redacted bytes) Other 0 (length bytes) (raw_lines bytes) own start (sym lines.together) refl

-- ---- the lines of a redacted body

body_lines-alike : (enc : Enc) (part : Part) (raws : List (List ℕ)) → AllAlike (body_lines enc part raws) raws
body_lines-alike enc Heap [] = refl
body_lines-alike enc Heap (raw ∷ raws) = ap₂ (λ l ls. l ∷ ls) (without-alike enc raw (payload_in enc Heap (text_of raw))) (body_lines-alike enc Heap raws)
body_lines-alike enc Binary [] = refl
body_lines-alike enc Binary (raw ∷ raws) = ap (λ l. l ∷ map (map mark) raws) (without-alike enc raw (payload_in enc Binary (text_of raw)))
body_lines-alike enc Other raws = refl

pub redacts-lines : (enc : Enc) (part : Part) (body : List ℕ) → raw_lines (redacted_body enc part body) ≡ body_lines enc part (raw_lines body)
redacts-lines enc part body = raw_lines-of body (body_lines enc part (raw_lines body)) (body_lines-alike enc part (raw_lines body))

pub keeps-others : (enc : Enc) (body : List ℕ) → redacted_body enc Other body ≡ body
keeps-others enc body = (AreLines-raw body).together

pub length-body : (enc : Enc) (part : Part) (body : List ℕ) → length (redacted_body enc part body) ≡ length body
length-body enc part body =
    Alike-length _ _ (concat-alike _ _ (body_lines-alike enc part (raw_lines body))) ∙ ap length (AreLines-raw body).together
