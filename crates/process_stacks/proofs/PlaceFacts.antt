-- The lines of a place tell it, since no text that they show has an LF.
use Rattle.std.proofs.Common.{◌≡◌, ℕ, zero, suc, ◌+◌, ◌-◌, ◌≤◌, ◌==◌, Bool, true, false, cond, List, [], ◌∷◌, ◌++◌, length, take, drop, map, Option, None, Some, if◌then◌else◌, refl, sym, ◌∙◌, ap, get_or, subst, arith, true≢false, append-nil, append_assoc}
use Rattle.std.specs.Prelude.{◌≢◌, ◌&&◌, All, IfSome, nat_eq, codes, find, slice_index, option_map}
use Rattle.std.specs.Cmp.Lexicographic.{pointwise}
use Rattle.std.specs.List.{cons_option, ends_with, flat_map, starts_with}
use Rattle.std.specs.Option.{option_to_list}
use Rattle.std.proofs.lemmas.List.Elements.{All-nil, All-cons, All-drop, All-head, All-map, All-tail, All-take}
use Rattle.dump_io.specs.Letters.{letter}
use Rattle.dump_io.specs.Colons.{after_colon, has_colon}
use Rattle.dump_io.specs.Laws.Lines.{AreLines-raw, front-cons}
use Rattle.dump_io.specs.Lines.{cr, lf, lines_from, raw_lines, text_of, HasLfLast}
use Rattle.dump_sections.specs.Bodies.{body_in, body_of}
use Rattle.dump_sections.specs.Index.{Contents}
use Rattle.dump_sections.specs.Sections.{Section, sections}
use Rattle.field_lines.specs.Fields.{find_line, has_key, place_of as field_place, space_byte, value_of, without_space}
use Rattle.field_lines.specs.Lines.{TextLine, text_line, text_lines}
use Rattle.process_table.specs.Records.{record_sections}
use Rattle.section_rows.specs.Rows.{field_kept, kept, row_of, text_in}
use Rattle.text_groups.specs.Cut.{cut_text}
use Rattle.process_stacks.specs.Frames.{frames, infos}
use Rattle.process_stacks.specs.Places.{IsTold, Place, place_line, place_lines, place_of}
use Rattle.process_stacks.specs.Rows.{stack_columns, stack_rows, stack_section}
use Rattle.process_stacks.specs.Inner.Hearing.{raw_info, raw_infos}
use Rattle.process_stacks.proofs.FrameFacts.{infos-raw}

-- no byte is an LF
pub record IsLine (text : List ℕ) : Type 0 where
  pub free : All (λ c. c ≢ lf) text

-- ---- texts of lines

IsLine-nil : IsLine []
IsLine-nil = record { free = All-nil (λ c. c ≢ lf) }

IsLine-take : (n : ℕ) (text : List ℕ) → IsLine text → IsLine (take n text)
IsLine-take n text line = record { free = All-take (λ c. c ≢ lf) n text line.free }

IsLine-drop : (n : ℕ) (text : List ℕ) → IsLine text → IsLine (drop n text)
IsLine-drop n text line = record { free = All-drop (λ c. c ≢ lf) n text line.free }

IsLine-head : (c : ℕ) (text : List ℕ) → IsLine (c ∷ text) → c ≢ lf
IsLine-head c text line = All-head (λ c. c ≢ lf) c text line.free

IsLine-tail : (c : ℕ) (text : List ℕ) → IsLine (c ∷ text) → IsLine text
IsLine-tail c text line = record { free = All-tail (λ c. c ≢ lf) c text line.free }

IsLine-cons : (c : ℕ) (text : List ℕ) → c ≢ lf → IsLine text → IsLine (c ∷ text)
IsLine-cons c text other line = record { free = All-cons (λ c. c ≢ lf) c text other line.free }

-- bytes that don't end in LF, and of which no other is one
open-line : (raw : List ℕ) → ends_with nat_eq raw (lf ∷ []) ≡ false → IsLine (take (length raw - 1) raw) → IsLine raw
open-line [] none line = IsLine-nil
open-line (c ∷ []) none line = IsLine-cons c [] (λ is. last-other c is none) IsLine-nil
  where
    last-other : (c : ℕ) → c ≡ lf → ends_with nat_eq (c ∷ []) (lf ∷ []) ≡ false → ⊥
    last-other c is none = true≢false (sym (ap (λ n. ends_with nat_eq (n ∷ []) (lf ∷ [])) is) ∙ none)
open-line (c ∷ d ∷ raw) none line =
    let front : IsLine (c ∷ take (length (d ∷ raw) - 1) (d ∷ raw)) = subst IsLine (front-cons c d raw) line in
    let later : ends_with nat_eq (d ∷ raw) (lf ∷ []) ≡ false = ends-later c d raw ∙ none in
    IsLine-cons c (d ∷ raw) (IsLine-head c (take (length (d ∷ raw) - 1) (d ∷ raw)) front)
    (open-line (d ∷ raw) later (IsLine-tail c (take (length (d ∷ raw) - 1) (d ∷ raw)) front))
  where
    ends-later : (c d : ℕ) (raw : List ℕ) → ends_with nat_eq (d ∷ raw) (lf ∷ []) ≡ ends_with nat_eq (c ∷ d ∷ raw) (lf ∷ [])
    ends-later c d raw =
        let size : length (c ∷ d ∷ raw) - 1 ≡ suc (length (d ∷ raw) - 1) = omega arith in
        sym (ap (λ n. pointwise nat_eq (lf ∷ []) (drop n (c ∷ d ∷ raw))) size)

take-less : (m n : ℕ) (xs : List ℕ) → m ≤ n → take m (take n xs) ≡ take m xs
take-less zero n xs less = refl
take-less (suc m) zero xs less = absurd (omega (arith, less))
take-less (suc m) (suc n) [] less = refl
take-less (suc m) (suc n) (x ∷ xs) less = ap (λ l. x ∷ l) (take-less m n xs (omega (arith, less)))

text-line : (raw : List ℕ) → HasLfLast raw → IsLine (text_of raw)
text-line raw last = by (ends_with nat_eq raw (cr ∷ lf ∷ [])) (ends_with nat_eq raw (lf ∷ [])) refl
  where
    front : IsLine (take (length raw - 1) raw)
    front = record { free = last }

    shorter : IsLine (take (length raw - 2) raw)
    shorter =
        let less : length raw - 2 ≤ length raw - 1 = omega arith in
        subst IsLine (take-less (length raw - 2) (length raw - 1) raw less) (IsLine-take (length raw - 2) (take (length raw - 1) raw) front)

    by : (a b : Bool) → ends_with nat_eq raw (lf ∷ []) ≡ b → IsLine (if a then take (length raw - 2) raw else (if b then take (length raw - 1) raw else raw))
    by true b is = shorter
    by false true is = front
    by false false is = open-line raw is front

raw-lines : (at : ℕ) (raws : List (List ℕ)) → All HasLfLast raws → All (λ (line : TextLine). IsLine line.text) (map text_line (lines_from at raws))
raw-lines at [] last = All-nil (λ (line : TextLine). IsLine line.text)
raw-lines at (raw ∷ raws) last =
    All-cons (λ (line : TextLine). IsLine line.text) (record { at = at; text = text_of raw }) (map text_line (lines_from (at + length raw) raws))
    (text-line raw (All-head HasLfLast raw raws last)) (raw-lines (at + length raw) raws (All-tail HasLfLast raw raws last))

-- ---- what is shown of a process

find-line : (key : List ℕ) (lines : List TextLine) → All (λ (line : TextLine). IsLine line.text) lines → IfSome (find (has_key key) lines) (λ line. IsLine line.text)
find-line key [] all = tt
find-line key (line ∷ lines) all = by (has_key key line) (find-line key lines (All-tail (λ (line : TextLine). IsLine line.text) line lines all))
  where
    by : (b : Bool) → IfSome (find (has_key key) lines) (λ line. IsLine line.text) → IfSome (cond b (Some line) (find (has_key key) lines)) (λ line. IsLine line.text)
    by true rest = All-head (λ (line : TextLine). IsLine line.text) line lines all
    by false rest = rest

value-line : (text : List ℕ) → IsLine text → IsLine (value_of text)
value-line text line = by (after_colon text) (IsLine-drop _ text line)
  where
    by : (bytes : List ℕ) → IsLine bytes → IsLine (without_space bytes)
    by [] free = free
    by (c ∷ bytes) free = elim (c == space_byte) as (λ b. IsLine (if b then bytes else c ∷ bytes)) [ true ↦ IsLine-tail c bytes free | false ↦ free ]

-- if there is a text, it has no LF
abbrev pub MayBeLine : Option (List ℕ) → Type 0
MayBeLine text = IfSome text IsLine

kept-line : (base : ℕ) (body key : List ℕ) → MayBeLine (text_in (field_kept base body key))
kept-line base body key = by (find_line body key) (find-line key (text_lines body) (raw-lines 0 (raw_lines body) (AreLines-raw body).lf_last))
  where
    by : (o : Option TextLine) → IfSome o (λ line. IsLine line.text) → MayBeLine (text_in (option_map (λ (line : TextLine). kept (base + line.at) (base + (field_place line).from) (value_of line.text)) o))
    by None line = tt
    by (Some l) line = value-line l.text line

cut-may : (text : Option (List ℕ)) → MayBeLine text → MayBeLine (option_map cut_text text)
cut-may None line = tt
cut-may (Some text) line = IsLine-take 255 text line

info-line : (raw : List ℕ) → HasLfLast raw → MayBeLine (raw_info raw)
info-line raw last =
    elim (has_colon (text_of raw) && starts_with nat_eq (after_colon (text_of raw)) (codes "S")) as (λ b. MayBeLine (if b then Some (drop 1 (after_colon (text_of raw))) else None)) [
      | true ↦ IsLine-drop 1 (after_colon (text_of raw)) (IsLine-drop _ (text_of raw) (text-line raw last))
      | false ↦ tt
    ]

infos-lines : (raws : List (List ℕ)) → All HasLfLast raws → All IsLine (raw_infos raws)
infos-lines [] last = All-nil IsLine
infos-lines (raw ∷ raws) last = by (raw_info raw) (info-line raw (All-head HasLfLast raw raws last)) (infos-lines raws (All-tail HasLfLast raw raws last))
  where
    by : (o : Option (List ℕ)) → MayBeLine o → All IsLine (raw_infos raws) → All IsLine (cons_option o (raw_infos raws))
    by None one rest = rest
    by (Some info) one rest = All-cons IsLine info (raw_infos raws) one rest

frames-lines : (body : List ℕ) → All IsLine (frames body)
frames-lines body =
    let all : All IsLine (infos body) = subst (All IsLine) (sym (infos-raw body)) (infos-lines (raw_lines body) (AreLines-raw body).lf_last) in
    All-map IsLine cut_text (take 20 (infos body)) (λ k d inside. IsLine-take 255 _ (All-take IsLine 20 (infos body) all k d inside))

-- a place whose texts have no LF
pub record IsShown (place : Place) : Type 0 where
  pub counter : MayBeLine place.counter
  pub call : MayBeLine place.call
  pub frames : All IsLine place.frames

shown-row : (dump : List ℕ) (index : Contents) (s : Section) (body : List ℕ) → IsShown (place_of dump index (row_of stack_columns s body))
shown-row dump index s body = record {
  counter = cut-may (text_in (field_kept s.body body (codes "Program counter"))) (kept-line s.body body (codes "Program counter"));
  call = cut-may (text_in (field_kept s.body body (codes "Current call"))) (kept-line s.body body (codes "Current call"));
  frames = frames-lines (body_in dump (stack_section index (row_of stack_columns s body)));
}

-- ---- what the lines tell

-- two texts that an LF follows
parts-same : (a b x y : List ℕ) → IsLine a → IsLine b → a ++ lf ∷ x ≡ b ++ lf ∷ y → (a ≡ b) × (x ≡ y)
parts-same [] [] x y one other is = (refl, cc)
parts-same [] (d ∷ b) x y one other is = absurd (IsLine-head d b other (cc))
parts-same (c ∷ a) [] x y one other is = absurd (IsLine-head c a one (cc))
parts-same (c ∷ a) (d ∷ b) x y one other is =
    let same : c ≡ d = cc in
    let rest = parts-same a b x y (IsLine-tail c a one) (IsLine-tail d b other) (cc) in
    (cc (same, rest.0), rest.1)

-- so in lines behind which there is more
ends-same : (a b x y : List ℕ) → IsLine a → IsLine b → (a ++ lf ∷ []) ++ x ≡ (b ++ lf ∷ []) ++ y → (a ≡ b) × (x ≡ y)
ends-same a b x y one other is = parts-same a b x y one other (sym (append_assoc a (lf ∷ []) x) ∙ is ∙ append_assoc b (lf ∷ []) y)

abbrev frame_text : List (List ℕ) → List ℕ
frame_text texts = flat_map (place_line (codes "frame")) texts

-- a text doesn't begin with a byte if it is empty or begins with another
empty-other : (c : ℕ) (l : List ℕ) → [] ≡ c ∷ l → ⊥
empty-other c l is = (let e : 0 ≡ length (c ∷ l) = ap length is in omega (arith, e))

first-other : (c d : ℕ) (k l : List ℕ) → c ≢ d → c ∷ k ≡ d ∷ l → ⊥
first-other c d k l other is = other (ap (λ t. slice_index t 0) is)

frames-same : (xs ys : List (List ℕ)) → All IsLine xs → All IsLine ys → frame_text xs ≡ frame_text ys → xs ≡ ys
frames-same [] [] one other is = refl
frames-same [] (y ∷ ys) one other is = absurd (empty-other _ _ is)
frames-same (x ∷ xs) [] one other is = absurd (empty-other _ _ (sym is))
frames-same (x ∷ xs) (y ∷ ys) one other is =
    let parts : (x ≡ y) × (frame_text xs ≡ frame_text ys) = ends-same x y (frame_text xs) (frame_text ys) (All-head IsLine x xs one) (All-head IsLine y ys other) (ap (drop 6) is) in
    let rest : xs ≡ ys = frames-same xs ys (All-tail IsLine x xs one) (All-tail IsLine y ys other) parts.1 in
    ap (λ t. t ∷ xs) parts.0 ∙ ap (λ l. y ∷ l) rest

-- the line of a text that may be absent
abbrev part : List ℕ → Option (List ℕ) → List ℕ
part word None = []
part word (Some text) = place_line word text

part-is : (word : List ℕ) (text : Option (List ℕ)) → flat_map (place_line word) (option_to_list text) ≡ part word text
part-is word None = refl
part-is word (Some text) = append-nil (place_line word text)

-- the line of a call, behind which come those of frames
abbrev call_text : Option (List ℕ) → List (List ℕ) → List ℕ
call_text call texts = part (codes "call") call ++ frame_text texts

frame-call : (xs : List (List ℕ)) (l : List ℕ) → frame_text xs ≡ letter (codes "c") ∷ l → ⊥
frame-call [] l is = empty-other _ _ is
frame-call (x ∷ xs) l is = first-other _ _ _ _ (λ e. omega (arith, e)) is

calls-same : (a b : Option (List ℕ)) (xs ys : List (List ℕ)) → MayBeLine a → MayBeLine b → All IsLine xs → All IsLine ys → call_text a xs ≡ call_text b ys → (a ≡ b) × (xs ≡ ys)
calls-same None None xs ys la lb one other is = (refl, frames-same xs ys one other is)
calls-same None (Some b) xs ys la lb one other is = absurd (frame-call xs _ is)
calls-same (Some a) None xs ys la lb one other is = absurd (frame-call ys _ (sym is))
calls-same (Some a) (Some b) xs ys la lb one other is =
    let parts : (a ≡ b) × (frame_text xs ≡ frame_text ys) = ends-same a b (frame_text xs) (frame_text ys) la lb (ap (drop 5) is) in
    (ap Some parts.0, frames-same xs ys one other parts.1)

call-at : (call : Option (List ℕ)) (xs : List (List ℕ)) (l : List ℕ) → call_text call xs ≡ letter (codes "a") ∷ l → ⊥
call-at None [] l is = empty-other _ _ is
call-at None (x ∷ xs) l is = first-other _ _ _ _ (λ e. omega (arith, e)) is
call-at (Some call) xs l is = first-other _ _ _ _ (λ e. omega (arith, e)) is

-- all lines of a place
abbrev place_text : Option (List ℕ) → Option (List ℕ) → List (List ℕ) → List ℕ
place_text counter call texts = part (codes "at") counter ++ call_text call texts

places-same : (a b c d : Option (List ℕ)) (xs ys : List (List ℕ)) → MayBeLine a → MayBeLine b → MayBeLine c → MayBeLine d → All IsLine xs → All IsLine ys
    → place_text a c xs ≡ place_text b d ys → (a ≡ b) × ((c ≡ d) × (xs ≡ ys))
places-same None None c d xs ys la lb lc ld one other is = (refl, calls-same c d xs ys lc ld one other is)
places-same None (Some b) c d xs ys la lb lc ld one other is = absurd (call-at c xs _ is)
places-same (Some a) None c d xs ys la lb lc ld one other is = absurd (call-at d ys _ (sym is))
places-same (Some a) (Some b) c d xs ys la lb lc ld one other is =
    let parts : (a ≡ b) × (call_text c xs ≡ call_text d ys) = ends-same a b (call_text c xs) (call_text d ys) la lb (ap (drop 3) is) in
    (ap Some parts.0, calls-same c d xs ys lc ld one other parts.1)

lines-are : (place : Place) → place_lines place ≡ place_text place.counter place.call place.frames
lines-are place =
    ap (λ l. (l ++ flat_map (place_line (codes "call")) (option_to_list place.call)) ++ frame_text place.frames) (part-is (codes "at") place.counter)
    ∙ ap (λ l. (part (codes "at") place.counter ++ l) ++ frame_text place.frames) (part-is (codes "call") place.call)
    ∙ append_assoc (part (codes "at") place.counter) (part (codes "call") place.call) (frame_text place.frames)

lines-tell : (p q : Place) → IsShown p → IsShown q → place_lines p ≡ place_lines q → p ≡ q
lines-tell p q one other is =
    let parts : (p.counter ≡ q.counter) × ((p.call ≡ q.call) × (p.frames ≡ q.frames)) =
    places-same p.counter q.counter p.call q.call p.frames q.frames one.counter other.counter one.call other.call one.frames other.frames (sym (lines-are p) ∙ is ∙ lines-are q) in
    ap (λ t. (let place : Place = record { counter = t; call = p.call; frames = p.frames } in place)) parts.0
    ∙ ap (λ t. (let place : Place = record { counter = q.counter; call = t; frames = p.frames } in place)) parts.1.0
    ∙ ap (λ t. (let place : Place = record { counter = q.counter; call = q.call; frames = t } in place)) parts.1.1

-- of the processes of a dump
pub all-told : (dump : List ℕ) (index : Contents) → All (λ one. All (IsTold dump index one) (stack_rows dump)) (stack_rows dump)
all-told dump index =
    let row = λ (s : Section). row_of stack_columns s (body_of dump s) in
    let ss = record_sections (sections dump) in
    let shown = shown-row dump index in
    All-map (λ one. All (IsTold dump index one) (map row ss)) row ss (λ i a inside.
    All-map (IsTold dump index (row (get_or ss i a))) row ss (λ k b within.
    let s = get_or ss i a in let t = get_or ss k b in
    λ same. lines-tell (place_of dump index (row s)) (place_of dump index (row t)) (shown s (body_of dump s)) (shown t (body_of dump t)) same))
