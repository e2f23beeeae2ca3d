-- The lines of a mailbox.
use Rattle.std.proofs.Common.{◌≡◌, ℕ, zero, suc, ◌+◌, ◌<◌, ◌≤◌, Bool, true, false, ◌&&◌, ◌||◌, List, [], ◌∷◌, length, drop, get_or, filter, All, Option, Some, None, refl, sym, ◌∙◌, ap, arith, if◌then◌else◌}
use Rattle.std.specs.Prelude.{IfSome, unwrap_or, option_map, option_and_then, nat_eq, codes, count_by}
use Rattle.std.specs.List.{flat_map, before_last, after_last, starts_with}
use Rattle.std.specs.Option.{option_or}
use Rattle.std.proofs.lemmas.Bool.{and_parts, false≢true}
use Rattle.std.proofs.lemmas.List.{length-drop, length-take-le}
use Rattle.std.proofs.lemmas.List.Folds.{list_any_at}
use Rattle.std.proofs.lemmas.List.Sums.{sum_by-append}
use Rattle.dump_io.specs.Colons.{is_colon, has_colon}
use Rattle.field_lines.specs.Lines.{TextLine, IsPart}
use Rattle.term_forms.specs.Elements.{Element}
use Rattle.term_forms.specs.Laws.Texts.{whole_of-some}
use Rattle.term_forms.specs.Reading.{front, whole_of}
use Rattle.root_views.specs.Roots.{Term, Dist, Unread, BodyRoot, has_text, message, token, behind_colon, dist_roots, pair_roots, mail_line, is_message, IsInside}
use Rattle.root_views.proofs.LineFacts.{roots_inside}
use Rattle.root_views.proofs.RootFacts.{message_inside, pair_inside}
use Rattle.root_views.proofs.SplitFacts.{last_colon}

-- ---- the three cases of a line

or_cases : (Q : List BodyRoot → Type 0) (m : List BodyRoot) (a b : Option (List BodyRoot)) → IfSome a Q → IfSome b Q → Q m → Q (unwrap_or (option_or a b) m)
or_cases Q m None None first second none = none
or_cases Q m None (Some y) first second none = second
or_cases Q m (Some x) b first second none = first

dist_cases : (l : TextLine) (Q : List BodyRoot → Type 0)
    → ((e : Element) → has_colon l.text ≡ true → whole_of (after_last is_colon l.text) ≡ Some e
    → Q (message l.at (Dist (before_last is_colon l.text)) ∷ token (l.at + length (before_last is_colon l.text) + 1) e ∷ []))
    → IfSome (dist_roots l) Q
dist_cases l Q case = of (starts_with nat_eq l.text (codes "D") && has_colon l.text) refl (whole_of (after_last is_colon l.text)) refl
  where
    of : (b : Bool) → (starts_with nat_eq l.text (codes "D") && has_colon l.text) ≡ b → (o : Option Element) → whole_of (after_last is_colon l.text) ≡ o
        → IfSome (if b then option_map (λ e. message l.at (Dist (before_last is_colon l.text)) ∷ token (l.at + length (before_last is_colon l.text) + 1) e ∷ []) o else None) Q
    of false e o read = tt
    of true e None read = tt
    of true e (Some d) read = case d (and_parts (starts_with nat_eq l.text (codes "D")) (has_colon l.text) e).1 read

pair_cases : (l : TextLine) (Q : List BodyRoot → Type 0)
    → ((e d : Element) (n : ℕ) → whole_of (drop 1 (drop n l.text)) ≡ Some d → Q (message l.at (Term e) ∷ token (l.at + n + 1) d ∷ []))
    → IfSome (pair_roots l) Q
pair_cases l Q case = of (front l.text)
  where
    last : (e : Element) (n : ℕ) (o : Option Element) → whole_of (drop 1 (drop n l.text)) ≡ o
        → IfSome (option_map (λ d. message l.at (Term e) ∷ token (l.at + n + 1) d ∷ []) o) Q
    last e n None read = tt
    last e n (Some d) read = case e d n read

    next : (e : Element) (n : ℕ) (b : Bool)
        → IfSome (option_map (λ d. message l.at (Term e) ∷ token (l.at + n + 1) d ∷ []) (option_and_then whole_of (if b then Some (drop 1 (drop n l.text)) else None))) Q
    next e n false = tt
    next e n true = last e n (whole_of (drop 1 (drop n l.text))) refl

    of : (o : Option (Element × ℕ))
        → IfSome (option_and_then (λ found. option_map (λ d. message l.at (Term found.0) ∷ token (l.at + found.1 + 1) d ∷ [])
        (option_and_then whole_of (behind_colon (drop found.1 l.text)))) o) Q
    of None = tt
    of (Some found) = next found.0 found.1 (starts_with nat_eq (drop found.1 l.text) (codes ":"))

pub mail_cases : (l : TextLine) (Q : List BodyRoot → Type 0)
    → ((e : Element) → has_colon l.text ≡ true → whole_of (after_last is_colon l.text) ≡ Some e
    → Q (message l.at (Dist (before_last is_colon l.text)) ∷ token (l.at + length (before_last is_colon l.text) + 1) e ∷ []))
    → ((e d : Element) (n : ℕ) → whole_of (drop 1 (drop n l.text)) ≡ Some d → Q (message l.at (Term e) ∷ token (l.at + n + 1) d ∷ []))
    → Q (message l.at Unread ∷ []) → Q (mail_line l)
mail_cases l Q dist pair unread = or_cases Q (message l.at Unread ∷ []) (dist_roots l) (pair_roots l) (dist_cases l Q dist) (pair_cases l Q pair) unread

-- ---- each line is one message

line_counts : (l : TextLine) → count_by is_message (mail_line l) ≡ 1
line_counts l = mail_cases l (λ rs. count_by is_message rs ≡ 1) (λ e some read. refl) (λ e d n read. refl) refl

pub lines_count : (ls : List TextLine) → count_by is_message (flat_map mail_line ls) ≡ length ls
lines_count [] = refl
lines_count (l ∷ ls) = omega (arith, sum_by-append (λ r. if is_message r then 1 else 0) (mail_line l) (flat_map mail_line ls), line_counts l, lines_count ls)

-- ---- where they stand

-- where the last colon of a text stands
record LastPlace (text : List ℕ) : Type 0 where
  at : ℕ
  within : at < length text
  here : is_colon (get_or text at 0) ≡ true
  after : (j : ℕ) → at + 1 ≤ j → j < length text → is_colon (get_or text j 0) ≡ true → ⊥

last_place : (text : List ℕ) → has_colon text ≡ true → LastPlace text
last_place [] h = cc
last_place (c ∷ text) h = of (has_colon text) refl h (last_place text)
  where
    later : (r : LastPlace text) (j : ℕ) → suc r.at + 1 ≤ j → j < suc (length text) → is_colon (get_or (c ∷ text) j 0) ≡ true → ⊥
    later r zero low high passes = omega (arith, low)
    later r (suc j) low high passes = r.after j (omega (arith, low)) (omega (arith, high)) passes

    none : has_colon text ≡ false → (j : ℕ) → 0 + 1 ≤ j → j < suc (length text) → is_colon (get_or (c ∷ text) j 0) ≡ true → ⊥
    none e zero low high passes = omega (arith, low)
    none e (suc j) low high passes = false≢true (sym e ∙ list_any_at is_colon text j 0 (omega (arith, high)) passes)

    first : (b : Bool) → (b || false) ≡ true → b ≡ true
    first true h = refl
    first false h = h

    of : (b : Bool) → has_colon text ≡ b → (is_colon c || b) ≡ true → (has_colon text ≡ true → LastPlace text) → LastPlace (c ∷ text)
    of true e h rest = let r = rest e in record { at = suc r.at; within = omega (arith, r.within); here = r.here; after = later r }
    of false e h rest = record { at = 0; within = omega arith; here = first (is_colon c) h; after = none e }

dist_fits : (text : List ℕ) (e : Element) → has_colon text ≡ true → whole_of (after_last is_colon text) ≡ Some e → length (before_last is_colon text) + 1 < length text
dist_fits text e some read =
    let p = last_place text some in
    let parts = last_colon text p.at p.within p.after p.here in
    let front_len : length (before_last is_colon text) ≡ p.at = ap length parts.1 ∙ length-take-le p.at text (omega (arith, p.within)) in
    let rest : 0 < length (drop (p.at + 1) text) = whole_of-some (drop (p.at + 1) text) e (ap whole_of (sym parts.2) ∙ read) in
    omega (arith, front_len, rest, length-drop (p.at + 1) text)

pair_fits : (text : List ℕ) (n : ℕ) (d : Element) → whole_of (drop 1 (drop n text)) ≡ Some d → n + 1 < length text
pair_fits text n d read =
    let rest = whole_of-some (drop 1 (drop n text)) d read in
    omega (arith, rest, length-drop 1 (drop n text), length-drop n text)

line_inside : (body : List ℕ) (l : TextLine) → IsPart body l → has_text l ≡ true → All (IsInside body) (mail_line l)
line_inside body l part some =
    mail_cases l (All (IsInside body))
    (λ e colon read. pair_inside body l (Dist (before_last is_colon l.text)) (l.at + length (before_last is_colon l.text) + 1) e part some (omega (arith, dist_fits l.text e colon read)))
    (λ e d n read. pair_inside body l (Term e) (l.at + n + 1) d part some (omega (arith, pair_fits l.text n d read)))
    (message_inside body l Unread part some)

pub mail_inside : (body : List ℕ) (ls : List TextLine) → All (IsPart body) ls → All (IsInside body) (flat_map mail_line (filter has_text ls))
mail_inside body ls parts = roots_inside body mail_line (line_inside body) ls parts
