-- The roots of a body are those of its lines.
use Rattle.std.proofs.Common.{◌≡◌, ℕ, ◌+◌, Bool, true, false, cond, List, [], ◌∷◌, ◌++◌, length, drop, map, filter, Option, None, Some, if◌then◌else◌, refl, sym, ◌∙◌, ap, ap₂, append-nil, arith}
use Rattle.std.specs.Prelude.{◌&&◌, nat_eq, codes, All, unwrap_or, option_map, option_and_then}
use Rattle.std.specs.List.{before_last, after_last, flat_map, starts_with}
use Rattle.std.specs.Option.{option_or}
use Rattle.std.proofs.lemmas.List.{map-append}
use Rattle.std.proofs.lemmas.List.Concat.{flat_map_single}
use Rattle.std.proofs.lemmas.List.Elements.{All-head, All-tail}
use Rattle.dump_io.specs.Colons.{is_colon, has_colon, before_colon, after_colon}
use Rattle.dump_io.specs.Laws.Lines.{raw_lines-one, AreLines-raw}
use Rattle.dump_io.specs.Lines.{lines_from, raw_lines, text_of}
use Rattle.body_lines.specs.Lines.{lines_at}
use Rattle.field_lines.specs.Lines.{TextLine, text_line}
use Rattle.term_forms.specs.Elements.{Element}
use Rattle.term_forms.specs.Reading.{front, whole_of}
use Rattle.root_views.specs.Kinds.{roots_in}
use Rattle.root_views.specs.Roots.{Content, Term, Dist, Unread, BodyRoot, has_text, labelled, stack_content, stack_root, dict_root, message, token, behind_colon, dist_roots, pair_roots, mail_line}
use Rattle.root_views.specs.declared.kinds.RootKind.{RootKind}
use Rattle.root_views.specs.declared.kinds.RootKind.TheVariants.{Stack, Dict, Mail}
use Rattle.root_views.specs.Inner.Hearing.{roots_of_lines}
use Rattle.root_views.specs.Placed.{placed, placed_roots}

-- ---- the roots of a line

-- those of a line with a text
abbrev line_roots : RootKind → TextLine → List BodyRoot
line_roots Stack line = stack_root line ∷ []
line_roots Dict line = dict_root line ∷ []
line_roots Mail line = mail_line line

abbrev text_roots : RootKind → List TextLine → List BodyRoot
text_roots kind lines = flat_map (line_roots kind) (filter has_text lines)

kind-roots : (kind : RootKind) (body : List ℕ) → roots_in kind body ≡ text_roots kind (map text_line (lines_from 0 (raw_lines body)))
kind-roots Stack body = sym (flat_map_single stack_root (filter has_text (map text_line (lines_from 0 (raw_lines body)))))
kind-roots Dict body = sym (flat_map_single dict_root (filter has_text (map text_line (lines_from 0 (raw_lines body)))))
kind-roots Mail body = refl

-- a line further on has the same roots further on
abbrev at_place : ℕ → List ℕ → TextLine
at_place at text = record { at = at; text = text }

placed-labelled : (n at : ℕ) (label : List ℕ) (o : Option Content) → labelled (n + at) label o ≡ placed n (labelled at label o)
placed-labelled n at label None = refl
placed-labelled n at label (Some content) = refl

dist-of : (n at len : ℕ) (dist : List ℕ) (b : Bool) (o : Option Element)
    → (if b then option_map (λ e. message (n + at) (Dist dist) ∷ token (n + at + len + 1) e ∷ []) o else None)
    ≡ option_map (map (placed n)) (if b then option_map (λ e. message at (Dist dist) ∷ token (at + len + 1) e ∷ []) o else None)
dist-of n at len dist false o = refl
dist-of n at len dist true None = refl
dist-of n at len dist true (Some e) = let place : n + at + len + 1 ≡ n + (at + len + 1) = omega arith in ap (λ m. Some (message (n + at) (Dist dist) ∷ token m e ∷ [])) place

pair-last : (n at len : ℕ) (e : Element) (o : Option Element)
    → option_map (λ d. message (n + at) (Term e) ∷ token (n + at + len + 1) d ∷ []) o ≡ option_map (map (placed n)) (option_map (λ d. message at (Term e) ∷ token (at + len + 1) d ∷ []) o)
pair-last n at len e None = refl
pair-last n at len e (Some d) = let place : n + at + len + 1 ≡ n + (at + len + 1) = omega arith in ap (λ m. Some (message (n + at) (Term e) ∷ token m d ∷ [])) place

pair-of : (n at : ℕ) (text : List ℕ) (o : Option (Element × ℕ))
    → option_and_then (λ found. option_map (λ e. message (n + at) (Term found.0) ∷ token (n + at + found.1 + 1) e ∷ []) (option_and_then whole_of (behind_colon (drop found.1 text)))) o
    ≡ option_map (map (placed n)) (option_and_then (λ found. option_map (λ e. message at (Term found.0) ∷ token (at + found.1 + 1) e ∷ []) (option_and_then whole_of (behind_colon (drop found.1 text)))) o)
pair-of n at text None = refl
pair-of n at text (Some found) = pair-last n at found.1 found.0 (option_and_then whole_of (behind_colon (drop found.1 text)))

or-of : (f : List BodyRoot → List BodyRoot) (a b : Option (List BodyRoot)) (last : List BodyRoot)
    → unwrap_or (option_or (option_map f a) (option_map f b)) (f last) ≡ f (unwrap_or (option_or a b) last)
or-of f None None last = refl
or-of f None (Some y) last = refl
or-of f (Some x) b last = refl

placed-mail : (n at : ℕ) (text : List ℕ) → mail_line (at_place (n + at) text) ≡ map (placed n) (mail_line (at_place at text))
placed-mail n at text =
    let dist = before_last is_colon text in
    ap₂ (λ a b. unwrap_or (option_or a b) (message (n + at) Unread ∷ []))
    (dist-of n at (length dist) dist (starts_with nat_eq text (codes "D") && has_colon text) (whole_of (after_last is_colon text)))
    (pair-of n at text (front text))
    ∙ or-of (map (placed n)) (dist_roots (at_place at text)) (pair_roots (at_place at text)) (message at Unread ∷ [])

placed-line : (kind : RootKind) (n at : ℕ) (text : List ℕ) → line_roots kind (at_place (n + at) text) ≡ map (placed n) (line_roots kind (at_place at text))
placed-line Stack n at text = ap (λ r. r ∷ []) (placed-labelled n at (before_colon text) (if has_colon text then stack_content (after_colon text) else None))
placed-line Dict n at text = refl
placed-line Mail n at text = placed-mail n at text

-- ---- the roots of lines

-- a raw line is the only line of its bytes
abbrev IsAlone : List ℕ → Type 0
IsAlone raw = raw_lines raw ≡ raw ∷ []

raw-roots : (kind : RootKind) (raw : List ℕ) → IsAlone raw → roots_in kind raw ≡ text_roots kind (at_place 0 (text_of raw) ∷ [])
raw-roots kind raw alone = kind-roots kind raw ∙ ap (λ raws. text_roots kind (map text_line (lines_from 0 raws))) alone

one-line : (kind : RootKind) (n at : ℕ) (text : List ℕ) → map (placed (n + at)) (text_roots kind (at_place 0 text ∷ [])) ≡ map (placed n) (text_roots kind (at_place at text ∷ []))
one-line kind n at text = by (has_text (at_place 0 text))
  where
    start : n + at + 0 ≡ n + at
    start = omega arith

    by : (b : Bool) → map (placed (n + at)) (flat_map (line_roots kind) (cond b (at_place 0 text ∷ []) [])) ≡ map (placed n) (flat_map (line_roots kind) (cond b (at_place at text ∷ []) []))
    by false = refl
    by true =
        ap (map (placed (n + at))) (append-nil (line_roots kind (at_place 0 text)))
        ∙ sym (placed-line kind (n + at) 0 text)
        ∙ ap (λ m. line_roots kind (at_place m text)) start
        ∙ placed-line kind n at text
        ∙ sym (ap (map (placed n)) (append-nil (line_roots kind (at_place at text))))

text_roots-cons : (kind : RootKind) (line : TextLine) (lines : List TextLine) → text_roots kind (line ∷ lines) ≡ text_roots kind (line ∷ []) ++ text_roots kind lines
text_roots-cons kind line lines = by (has_text line)
  where
    by : (b : Bool) → flat_map (line_roots kind) (cond b (line ∷ filter has_text lines) (filter has_text lines)) ≡ flat_map (line_roots kind) (cond b (line ∷ []) []) ++ text_roots kind lines
    by false = refl
    by true = ap (λ l. l ++ text_roots kind lines) (sym (append-nil (line_roots kind line)))

lines-placed : (kind : RootKind) (n at : ℕ) (raws : List (List ℕ)) → All IsAlone raws → roots_of_lines kind (lines_from (n + at) raws) ≡ map (placed n) (text_roots kind (map text_line (lines_from at raws)))
lines-placed kind n at [] alone = refl
lines-placed kind n at (raw ∷ raws) alone =
    let text = text_of raw in
    let next : n + at + length raw ≡ n + (at + length raw) = omega arith in
    let later = map text_line (lines_from (at + length raw) raws) in
    ap₂ (λ a b. a ++ b)
    (ap (map (placed (n + at))) (raw-roots kind raw (All-head IsAlone raw raws alone)) ∙ one-line kind n at text)
    (ap (λ m. roots_of_lines kind (lines_from m raws)) next ∙ lines-placed kind n (at + length raw) raws (All-tail IsAlone raw raws alone))
    ∙ sym (map-append (placed n) (text_roots kind (at_place at text ∷ [])) (text_roots kind later))
    ∙ ap (map (placed n)) (sym (text_roots-cons kind (at_place at text) later))

-- the roots of the lines of bytes are those of the bytes
pub lines-roots : (kind : RootKind) (at : ℕ) (bytes : List ℕ) → roots_of_lines kind (lines_at at bytes) ≡ placed_roots kind at bytes
lines-roots kind at bytes =
    let are = AreLines-raw bytes in
    let start : at ≡ at + 0 = omega arith in
    ap (λ m. roots_of_lines kind (lines_from m (raw_lines bytes))) start
    ∙ lines-placed kind at 0 (raw_lines bytes) (λ k d inside. raw_lines-one _ (are.some k d inside) (are.lf_last k d inside))
    ∙ ap (map (placed at)) (sym (kind-roots kind bytes))
