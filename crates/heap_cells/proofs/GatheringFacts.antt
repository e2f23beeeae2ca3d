-- Gathering heap lines.
use Rattle.std.proofs.Common.{◌≡◌, ℕ, suc, ◌+◌, ◌-◌, ◌<◌, ◌≤◌, List, [], ◌∷◌, ◌++◌, length, take, drop, Option, None, Some, refl, sym, ◌∙◌, ap, subst, arith, length-append, append_assoc, inl, inr}
use Rattle.std.specs.Prelude.{codes, ◌⊎◌, slice_range}
use Rattle.std.specs.Option.{option_map}
use Rattle.std.specs.List.{filter_map, cons_option}
use Rattle.std.proofs.Math.Seq.{drop-append_seam}
use Rattle.field_lines.specs.Lines.{TextLine, IsPart as IsLinePart}
use Rattle.std.proofs.lemmas.List.{append-nil, drop-drop, drop-take, length-map, map-append, take-take}
use Rattle.std.proofs.lemmas.List.Sums.{sum_by-cons, sum_by-append}
use Rattle.binary_payloads.specs.declared.enc.Enc.{Enc}
use Rattle.term_forms.specs.Elements.{Element, IsElem, Nil, Small, Atom, Pid, Port, Ref}
use Rattle.term_forms.specs.Forms as forms
use Rattle.term_forms.specs.Forms.{HeapForm, IsForm}
use Rattle.term_forms.specs.Joined.{IsJoined}
use Rattle.term_forms.specs.Places.{elements_of}
use Rattle.term_forms.specs.ReadingForms.{form_of}
use Rattle.term_forms.specs.Words.{comma, colon, bar, IsLed, led_of}
use Rattle.heap_cells.specs.declared.gathering.Gathering.{Gathering}
use Rattle.heap_cells.specs.declared.texts.Texts.{Texts}
use Rattle.heap_cells.specs.Cells.{Cell, spelled_cell, cell_of, line_cells, elements_in, cell_weight}
use Rattle.heap_cells.specs.Inner.Gathering.{AllStandIn, AreAll, Gathers, HoldsCells, IsBodyAt, IsLineAt, IsNothing, StandsIn}
use Rattle.heap_cells.specs.Inner.Texts.{text_of, seam_of}
use Rattle.heap_graph.specs.declared.held.Held.{Held}
use Rattle.heap_graph.specs.Held.{HeapLine, heap_line_with, Gains}
use Rattle.heap_graph.specs.Laws.Elements.{alike-slots, appended-alike}
use Rattle.heap_graph.specs.Laws.Gains.{IsHeld-then, length-parts}

-- ---- a text that spells a form has no fewer bytes than the form has elements

elem-port : (text port : List ℕ) → (text ≡ codes "p" ++ port) ⊎ (text ≡ codes "p#Port" ++ port) → 0 < length text
elem-port text port (inl short) = let n = ap length short in omega (arith, n)
elem-port text port (inr long) = let n = ap length long in omega (arith, n)

elem-some : (text : List ℕ) (e : Element) → IsElem text e → 0 < length text
elem-some text Nil is = let n = ap length is in omega (arith, n)
elem-some text (Small integer) is = let n = ap length is.0 in omega (arith, n)
elem-some text (Atom bytes) is = let n = ap length is.1 in omega (arith, n)
elem-some text (Pid pid) is = let n = ap length is.0 in omega (arith, n)
elem-some text (Port port) is = elem-port text port is.0
elem-some text (Ref address) is = let n = ap length is.1 in omega (arith, n)

joined-few : (text : List ℕ) (es : List Element) → IsJoined text es → length es ≤ length text
joined-few text [] is = omega arith
joined-few text (e ∷ []) is = let some = elem-some text e is in omega (arith, some)
joined-few text (e ∷ d ∷ es) is =
    let later = joined-few is.1 (d ∷ es) is.4 in
    let n = ap length is.2 in
    omega (arith, later, n, length-append is.0 (comma ∷ is.1))

led-longer : (text : List ℕ) (n : ℕ) (rest : List ℕ) → IsLed text n rest → length rest < length text
led-longer text n rest is = let n = ap length is.2 in omega (arith, n, length-append is.0 (colon ∷ rest))

form-few : (enc : Enc) (text : List ℕ) (f : HeapForm) → IsForm enc text f → length (elements_of f) ≤ length text
form-few enc text (forms.Cons head tail) is =
    let one = elem-some is.0 head is.3 in
    let n = ap length is.2 in
    omega (arith, n, one, length-append is.0 (bar ∷ is.1))
form-few enc text (forms.Tuple es) is =
    let few = joined-few is.1 es is.4 in let led = led-longer is.0 (length es) is.1 is.3 in let n = ap length is.2 in omega (arith, few, led, n)
form-few enc text (forms.Float bytes) is = omega arith
form-few enc text (forms.Long number) is = omega arith
form-few enc text (forms.Pid pid) is = omega arith
form-few enc text (forms.Port port) is = omega arith
form-few enc text (forms.Ext size chars) is = omega arith
form-few enc text (forms.HeapBin size chars) is = omega arith
form-few enc text (forms.RefBin address offset size) is = omega arith
form-few enc text (forms.SubBin address offset size) is = omega arith
form-few enc text (forms.Flat keys values) is =
    let few = joined-few is.2 values is.6 in
    let led = led-longer is.0 (length values) (is.1 ++ colon ∷ is.2) is.4 in
    let n = ap length is.3 in
    omega (arith, few, led, n, length-append is.1 (colon ∷ is.2))
form-few enc text (forms.Hash size children) is =
    let few = joined-few is.2 children is.6 in
    let counted = led-longer is.1 (length children) is.2 is.5 in
    let led = led-longer is.0 size is.1 is.4 in
    let n = ap length is.3 in
    omega (arith, few, counted, led, n)
form-few enc text (forms.Node children) is =
    let few = joined-few is.1 children is.4 in let led = led-longer is.0 (length children) is.1 is.3 in let n = ap length is.2 in omega (arith, few, led, n)

pub spelled-few : (enc : Enc) (text : List ℕ) → ((f : HeapForm) → form_of enc text ≡ Some f → IsForm enc text f) → length (elements_in (form_of enc text)) ≤ length text
spelled-few enc text law = of (form_of enc text) refl
  where
    of : (o : Option HeapForm) → form_of enc text ≡ o → length (elements_in o) ≤ length text
    of None e = omega arith
    of (Some f) e = form-few enc text f (law f e)

-- ---- parts of a text

pub slice-slice : (text : List ℕ) (base n from upto : ℕ) → from ≤ upto → upto ≤ n
    → slice_range (slice_range text base (base + n)) from upto ≡ slice_range text (base + from) (base + upto)
slice-slice text base n from upto ordered within =
    let whole : base + n - base ≡ from + (n - from) = omega arith in
    let size : base + upto - (base + from) ≡ upto - from = omega arith in
    ap (λ k. take (upto - from) (drop from (take k (drop base text)))) whole
    ∙ ap (take (upto - from)) (drop-take from (n - from) (drop base text))
    ∙ take-take (upto - from) (n - from) (drop from (drop base text)) (omega arith)
    ∙ ap (take (upto - from)) (drop-drop from base text)
    ∙ ap (λ k. take k (drop (base + from) text)) (sym size)

-- ---- a line

-- what stands behind the colon of a line stands at the line's end
pub behind-colon : (text : List ℕ) (at : ℕ) (line : List ℕ) (address : ℕ) (spelled : List ℕ) → slice_range text at (at + length line) ≡ line → IsLed line address spelled
    → slice_range text (at + length line - length spelled) (at + length line) ≡ spelled
behind-colon text at line address spelled stands led =
    let hex = led.0 in
    let n = length hex + 1 in
    let lens : length line ≡ length hex + suc (length spelled) = ap length led.2 ∙ length-append hex (colon ∷ spelled) in
    let size : at + length line - (at + length line - length spelled) ≡ length spelled = omega (arith, lens) in
    let from : at + length line - length spelled ≡ at + n = omega (arith, lens) in
    let whole : take (length line) (drop at text) ≡ line = ap (λ k. take k (drop at text)) (omega arith) ∙ stands in
    let split : n + length spelled ≡ length line = omega (arith, lens) in
    let ends : drop n line ≡ spelled =
    ap (drop n) led.2 ∙ ap (λ l. drop n l) (sym (append_assoc hex (colon ∷ []) spelled))
    ∙ ap (λ k. drop k ((hex ++ colon ∷ []) ++ spelled)) (sym (length-append hex (colon ∷ []))) ∙ drop-append_seam (hex ++ colon ∷ []) spelled in
    ap (λ k. take k (drop (at + length line - length spelled) text)) size
    ∙ ap (λ k. take (length spelled) (drop k text)) from
    ∙ ap (take (length spelled)) (sym (drop-drop n at text))
    ∙ sym (drop-take n (length spelled) (drop at text))
    ∙ ap (λ k. drop n (take k (drop at text))) split
    ∙ ap (drop n) whole
    ∙ ends

-- the cells of a heap line and of the lines behind it
pub line-cells : (enc : Enc) (line : TextLine) (address : ℕ) (spelled : List ℕ) (rest : List TextLine) → Some (address, spelled) ≡ led_of line.text
    → filter_map (cell_of enc) (line ∷ rest) ≡ spelled_cell enc (address, spelled) ∷ filter_map (cell_of enc) rest
line-cells enc line address spelled rest led = ap (λ o. cons_option (option_map (spelled_cell enc) o) (filter_map (cell_of enc) rest)) (sym led)

-- ---- a line of a body

pub line-at : (text : List ℕ) (seam base : ℕ) (body : List ℕ) (line : TextLine) → IsBodyAt text seam base body → IsLinePart body line → IsLineAt text seam base line
line-at text seam base body line stands part = record {
  part = let whole = stands.part in let within = part.within in
      record { ordered = omega arith; within = omega (arith, whole.within, within); one_body = λ before. let one = whole.one_body (omega (arith, before)) in omega (arith, one, within) };
  stands =
      let end : base + line.at + length line.text ≡ base + (line.at + length line.text) = omega arith in
      ap (slice_range text (base + line.at)) end
      ∙ sym (slice-slice text base (length body) line.at (line.at + length line.text) (omega arith) part.within)
      ∙ ap (λ l. slice_range l line.at (line.at + length line.text)) stands.stands
      ∙ part.stands;
}

-- its text is no longer than the body
pub line-few : (body : List ℕ) (line : TextLine) → IsLinePart body line → length line.text ≤ length body
line-few body line part = let within = part.within in omega (arith, within)

-- ---- cells that are held

pub stand-append : (text : List ℕ) (seam : ℕ) (enc : Enc) (xs ys : List HeapLine) → AllStandIn text seam enc xs → AllStandIn text seam enc ys → AllStandIn text seam enc (xs ++ ys)
stand-append text seam enc [] ys one other = other
stand-append text seam enc (x ∷ xs) ys one other = (one.0, stand-append text seam enc xs ys one.1 other)

-- one more line is held
pub holds-more : (texts : Texts) (old new : Held) (line : HeapLine) (front : List Cell) → Gains old new (line ∷ []) → StandsIn (text_of texts) (seam_of texts) texts.enc line → HoldsCells texts old front
    → HoldsCells texts new (front ++ line.cell ∷ [])
holds-more texts old new line front gains stands held = record {
  lines = held.lines ++ line ∷ [];
  held_is = IsHeld-then old new held.lines (line ∷ []) held.held_is gains;
  slots = alike-slots old.elements new.elements (appended-alike old.elements new.elements gains.elements.fs gains.elements.appended) held.slots;
  stand = stand-append (text_of texts) (seam_of texts) texts.enc held.lines (line ∷ []) held.stand (stands, tt);
  cells_are = map-append (λ (l : HeapLine). l.cell) held.lines (line ∷ []) ∙ ap (λ l. l ++ line.cell ∷ []) held.cells_are;
}

pub Gathers-none : (texts : Texts) (g : Gathering) → Gathers texts g g []
Gathers-none texts g = record { weight = omega arith; held = λ few front held. subst (HoldsCells texts g.held) (sym (append-nil front)) held }

pub Gathers-then : (texts : Texts) (a b c : Gathering) (xs ys : List Cell) → b.dense ≡ a.dense → Gathers texts a b xs → Gathers texts b c ys → Gathers texts a c (xs ++ ys)
Gathers-then texts a b c xs ys same one other = record {
  weight = omega (arith, one.weight, other.weight, sum_by-append cell_weight xs ys);
  held = λ few front held.
      subst (HoldsCells texts c.held) (append_assoc front xs ys)
      (other.held (omega (arith, few, same)) (front ++ xs) (one.held (omega (arith, few, other.weight)) front held));
}

-- a line that is no heap line
pub Gathers-no-line : (texts : Texts) (g : Gathering) (line : TextLine) → led_of line.text ≡ None → Gathers texts g g (filter_map (cell_of texts.enc) (line ∷ []))
Gathers-no-line texts g line is = subst (Gathers texts g g) (sym (ap (λ o. cons_option (option_map (spelled_cell texts.enc) o) []) is)) (Gathers-none texts g)

-- a heap line
pub Gathers-line : (texts : Texts) (old new : Gathering) (mid : Held) (line : TextLine) (base at from address elements : ℕ) (spelled : List ℕ) → IsLineAt (text_of texts) (seam_of texts) base line
    → IsLed line.text address spelled → Some (address, spelled) ≡ led_of line.text → at ≡ base + line.at → from ≡ at + (length line.text - length spelled)
    → Gains old.held mid (heap_line_with texts.enc at from (address, spelled) ∷ []) → elements ≡ length (elements_in (form_of texts.enc spelled)) → new.weight ≡ old.weight + (1 + elements)
    → (new.weight ≤ old.dense → new.held ≡ mid) → Gathers texts old new (filter_map (cell_of texts.enc) (line ∷ []))
Gathers-line texts old new mid line base at from address elements spelled line_at led is at_is from_is gains count weight held_is =
    let text = text_of texts in
    let one = heap_line_with texts.enc at from (address, spelled) in
    let lens : length line.text ≡ length led.0 + suc (length spelled) = ap length led.2 ∙ length-append led.0 (colon ∷ spelled) in
    let end : from + length spelled ≡ base + line.at + length line.text = omega (arith, at_is, from_is, lens) in
    let begin : base + line.at + length line.text - length spelled ≡ from = omega (arith, at_is, from_is, lens) in
    let part = line_at.part in
    let stands : StandsIn text (seam_of texts) texts.enc one = record {
      part = record {
        ordered = omega arith;
        within = omega (arith, end, part.within);
        one_body = λ before. let whole = part.one_body (omega (arith, before, begin)) in omega (arith, end, whole);
      };
      stands = ap (slice_range text from) end ∙ ap (λ n. slice_range text n (base + line.at + length line.text)) (sym begin)
          ∙ behind-colon text (base + line.at) line.text address spelled line_at.stands led;
      form = refl;
    } in
    subst (Gathers texts old new) (sym (line-cells texts.enc line address spelled [] is))
    (record {
      weight = weight ∙ ap (λ n. old.weight + (1 + n)) count ∙ omega (arith, sum_by-cons cell_weight (spelled_cell texts.enc (address, spelled)) []);
      held = λ few front held. subst (λ (h : Held). HoldsCells texts h (front ++ spelled_cell texts.enc (address, spelled) ∷ [])) (sym (held_is few)) (holds-more texts old.held mid one front gains stands held);
    })

-- ---- the lines of a body

-- the cells of the first lines were gathered, and these lines are left
pub record GathersFront (texts : Texts) (old new : Gathering) (cells : List Cell) (left : List TextLine) : Type 0 where
  pub front : List Cell
  pub cells_are : cells ≡ front ++ filter_map (cell_of texts.enc) left
  pub gathers : Gathers texts old new front

pub front-none : (texts : Texts) (g : Gathering) (lines : List TextLine) → GathersFront texts g g (filter_map (cell_of texts.enc) lines) lines
front-none texts g lines = record { front = []; cells_are = refl; gathers = Gathers-none texts g }

pub front-more : (texts : Texts) (old mid new : Gathering) (cells : List Cell) (left rest : List TextLine) (line : TextLine) → left ≡ line ∷ rest → mid.dense ≡ old.dense
    → GathersFront texts old mid cells left → Gathers texts mid new (filter_map (cell_of texts.enc) (line ∷ [])) → GathersFront texts old new cells rest
front-more texts old mid new cells left rest line is same so_far one = record {
  front = so_far.front ++ filter_map (cell_of texts.enc) (line ∷ []);
  cells_are =
      so_far.cells_are ∙ ap (λ l. so_far.front ++ filter_map (cell_of texts.enc) l) is
      ∙ ap (λ l. so_far.front ++ l) (split (cell_of texts.enc line) (filter_map (cell_of texts.enc) rest))
      ∙ sym (append_assoc so_far.front (filter_map (cell_of texts.enc) (line ∷ [])) (filter_map (cell_of texts.enc) rest));
  gathers = Gathers-then texts old mid new so_far.front (filter_map (cell_of texts.enc) (line ∷ [])) same so_far.gathers one;
}
  where
    split : (o : Option Cell) (l : List Cell) → cons_option o l ≡ cons_option o [] ++ l
    split None l = refl
    split (Some c) l = refl

pub front-all : (texts : Texts) (old new : Gathering) (cells : List Cell) → GathersFront texts old new cells [] → Gathers texts old new cells
front-all texts old new cells so_far = subst (Gathers texts old new) (sym (so_far.cells_are ∙ append-nil so_far.front)) so_far.gathers

-- ---- both bodies

pub all-gathered : (texts : Texts) (g first last : Gathering) (own : ℕ) → IsNothing g → first.dense ≡ g.dense → last.dense ≡ first.dense → Gathers texts g first (line_cells texts.enc texts.heap.items)
    → Gathers texts first last (line_cells texts.enc texts.literals.items) → own ≡ length first.held.parts.items → AreAll texts last own
all-gathered texts g first last own none same same' one other own_is =
    let heap = line_cells texts.enc texts.heap.items in
    let literals = line_cells texts.enc texts.literals.items in
    let both = Gathers-then texts g first last heap literals same one other in
    let nothing : HoldsCells texts g.held [] = record { lines = []; held_is = none.held; slots = none.slots; stand = tt; cells_are = refl } in
    record {
      weight_is = omega (arith, both.weight, none.weight);
      held = λ few. both.held (omega (arith, few, same, same')) [] nothing;
      own_is = λ few.
          let held = one.held (omega (arith, few, same, same', other.weight)) [] nothing in
          own_is ∙ ap length held.held_is.parts ∙ length-parts first.held.elements 0 held.lines
          ∙ sym (length-map held.lines (λ (l : HeapLine). l.cell)) ∙ ap length held.cells_are;
    }
