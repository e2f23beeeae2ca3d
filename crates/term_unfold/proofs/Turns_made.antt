-- Turns, by what the walk writes and where it stands then.
use Rattle.std.proofs.Common.{◌≡◌, ℕ, suc, ◌+◌, ◌<◌, ◌≤◌, Bool, true, false, cond, List, [], ◌∷◌, ◌++◌, length, drop, Some, refl, sym, ◌∙◌, ap, subst, append_assoc, append-nil, arith}
use Rattle.std.specs.Borrow.{Bor}
use Rattle.std.proofs.lemmas.List.{length-drop}
use Rattle.term_forms.specs.declared.shapes.Elem.{Elem}
use Rattle.term_forms.specs.declared.shapes.Elem.TheVariants as elem
use Rattle.term_forms.specs.Seen.{element}
use Rattle.heap_cells.specs.Cells.{Cell}
use Rattle.heap_cells.specs.HeapMap.{HeapMap}
use Rattle.cell_records.specs.declared.cells.Why.{Why}
use Rattle.term_unfold.specs.declared.children.Child.{Child as PlacedChild}
use Rattle.term_unfold.specs.declared.openings.Opened.{Opened}
use Rattle.term_unfold.specs.declared.openings.Opened.TheVariants as opened
use Rattle.term_unfold.specs.declared.path.Entry.{Entry}
use Rattle.term_unfold.specs.declared.turns.Own.TheVariants as own
use Rattle.term_unfold.specs.Inner.Coming.{entered_by}
use Rattle.term_unfold.specs.Inner.Entries.{Entered, path_of, next_of, stepped, outside, is_item}
use Rattle.term_unfold.specs.Inner.Children.{child_shown}
use Rattle.term_unfold.specs.Inner.Openings.{immediate_of, is_item_child, IsOpened}
use Rattle.term_unfold.specs.Inner.Rest.{rest, to_show, child_text, HasText, IsTurn, HasItems, AtChild}
use Rattle.term_unfold.specs.Rules.{Child}
use Rattle.term_unfold.specs.Text.{comma_text}
use Rattle.term_unfold.specs.Places.{is_nil}
use Rattle.term_unfold.specs.Trees.{Value, Immediate}
use Rattle.term_unfold.proofs.Stepping.{show-opened, immediate-is, immediate-text, step-items, list-bad, list-opened, items-child}

pub opened-text : (heap : List Cell) (path : List ℕ) (child : Child) (o : Opened) → IsOpened heap path child o → HasText heap child o
opened-text heap path child opened.Immediate is = is.1
opened-text heap path child (opened.Leaf ix) is = is.at
opened-text heap path child o is = tt

entered-more : (o : Opened) (b : Bool) (entries : List Entry) → length (entered_by o b entries) ≤ length entries + 1
entered-more opened.Immediate b entries = omega arith
entered-more o b entries = omega arith

stepped-length : (came : Bool) (entries : List Entry) → length (stepped came entries) ≡ length entries
stepped-length came [] = refl
stepped-length came (e ∷ es) = refl

pub advanced-more : (o : Opened) (b came : Bool) (before after : List Entry) → after ≡ entered_by o b (stepped came before) → length after ≤ length before + 1
advanced-more o b came before after is = omega (arith, ap length is, entered-more o b (stepped came before), stepped-length came before)

pub popped-more : (before after : List Entry) → after ≡ drop 1 before → length after ≤ length before + 1
popped-more before after now = omega (arith, ap length now, length-drop 1 before)

module _ (heap : HeapMap) (path : Entered) (e : Entry) (placed : PlacedChild) (o : Opened) (at : AtChild heap path e placed o) where
  pub few-top : length (e ∷ drop 1 path.entries) ≤ length heap.cells
  few-top = subst (λ es. length es ≤ length heap.cells) at.top at.few

  pub opens-top : IsOpened heap.cells (path_of heap.cells (e ∷ drop 1 path.entries)) (child_shown heap.cells placed) o
  opens-top = subst (λ es. IsOpened heap.cells (path_of heap.cells es) (child_shown heap.cells placed) o) at.top at.opens.found_is

  pub advanced-top : (after : List Entry) (b came : Bool) → after ≡ entered_by o b (stepped came path.entries) → after ≡ entered_by o b (next_of came e ∷ drop 1 path.entries)
  advanced-top after b came now = now ∙ ap (λ es. entered_by o b (stepped came es)) at.top

  -- a text in front, and the child's own text
  pub IsTurn-own : (after : List Entry) (front : Bor (List ℕ)) (words : List ℕ) (came : Bool) → is_item_child (child_shown heap.cells placed) ≡ false → front.now ≡ words
      → after ≡ entered_by o false (stepped came path.entries)
      → ((leaf : Value → List ℕ) (m : ℕ) → rest leaf heap.cells (e ∷ drop 1 path.entries) (suc m) ≡ words ++ to_show leaf heap.cells (next_of came e ∷ drop 1 path.entries) (child_shown heap.cells placed) m)
      → IsTurn heap.cells path.entries after (child_shown heap.cells placed) (record { front = front; own = own.Child o })
  IsTurn-own after front words came term front_is now leads =
      let es = drop 1 path.entries in
      let child = child_shown heap.cells placed in
      record {
        text = λ leaf m.
            let own = child_text leaf heap.cells child o in
            let last = rest leaf heap.cells (entered_by o false (next_of came e ∷ es)) m in
            ap (λ es. rest leaf heap.cells es (suc m)) at.top ∙ leads leaf m
            ∙ ap (λ l. words ++ l) (show-opened leaf heap.cells (next_of came e ∷ es) child o m few-top term opens-top)
            ∙ sym (append_assoc words own last) ∙ ap (λ l. (l ++ own) ++ last) (sym front_is)
            ∙ ap (λ es. (front.now ++ own) ++ rest leaf heap.cells es m) (sym (advanced-top after false came now));
        more = advanced-more o false came path.entries after now;
        own = opened-text heap.cells (path_of heap.cells path.entries) child o at.opens.found_is;
      }

  -- the same for an immediate that is in hand
  pub IsTurn-immediate : (after : List Entry) (front : Bor (List ℕ)) (e : Elem) → immediate_of (child_shown heap.cells placed) ≡ Some (element e)
      → IsTurn heap.cells path.entries after (child_shown heap.cells placed) (record { front = front; own = own.Child o })
      → IsTurn heap.cells path.entries after (child_shown heap.cells placed) (record { front = front; own = own.Immediate e })
  IsTurn-immediate after front e is turn =
      record {
        text = λ leaf m.
            turn.text leaf m ∙ ap (λ l. (front.now ++ l) ++ rest leaf heap.cells after m) (immediate-text leaf heap.cells (path_of heap.cells path.entries) (child_shown heap.cells placed) o (element e) is at.opens.found_is);
        more = turn.more;
        own = immediate-is (child_shown heap.cells placed) (element e) is;
      }

  -- a text in front alone
  pub IsTurn-none : (after : List Entry) (front : Bor (List ℕ)) (words : List ℕ) → front.now ≡ words → length after ≤ length path.entries + 1
      → ((leaf : Value → List ℕ) (m : ℕ) → rest leaf heap.cells (e ∷ drop 1 path.entries) (suc m) ≡ words ++ rest leaf heap.cells after m)
      → IsTurn heap.cells path.entries after (child_shown heap.cells placed) (record { front = front; own = own.Nothing })
  IsTurn-none after front words front_is more leads =
      record {
        text = λ leaf m.
            ap (λ es. rest leaf heap.cells es (suc m)) at.top ∙ leads leaf m ∙ ap (λ l. l ++ rest leaf heap.cells after m) (sym front_is ∙ sym (append-nil front.now));
        more = more;
        own = tt;
      }

  -- a bad item
  pub IsTurn-bad : (after : List Entry) (front : Bor (List ℕ)) (address : ℕ) (why : Why) → HasItems e.kind → o ≡ opened.Bad address why → front.now ≡ comma_text e.came
      → after ≡ entered_by o false (stepped true path.entries) → IsTurn heap.cells path.entries after (child_shown heap.cells placed) (record { front = front; own = own.Child o })
  IsTurn-bad after front address why has is front_is now =
      let es = drop 1 path.entries in
      let child = child_shown heap.cells placed in
      record {
        text = λ leaf m.
            let last = rest leaf heap.cells (next_of true e ∷ es) m in
            ap (λ es. rest leaf heap.cells es (suc m)) at.top ∙ step-items leaf heap.cells true e es child m has at.at
            ∙ list-bad leaf heap.cells (next_of true e ∷ es) e.came child address why m few-top (subst (IsOpened heap.cells (path_of heap.cells (e ∷ es)) child) is opens-top)
            ∙ ap (λ o. (comma_text e.came ++ child_text leaf heap.cells child o) ++ last) (sym is)
            ∙ ap (λ l. (l ++ child_text leaf heap.cells child o) ++ last) (sym front_is)
            ∙ ap (λ es. (front.now ++ child_text leaf heap.cells child o) ++ rest leaf heap.cells es m)
            (sym (advanced-top after false true now ∙ ap (λ o. entered_by o false (next_of true e ∷ es)) is));
        more = advanced-more o false true path.entries after now;
        own = opened-text heap.cells (path_of heap.cells path.entries) child o at.opens.found_is;
      }

  -- another item
  pub IsTurn-item : (after : List Entry) (front : Bor (List ℕ)) → HasItems e.kind → ((address : ℕ) (why : Why) → o ≡ opened.Bad address why → ⊥) → front.now ≡ []
      → after ≡ entered_by o e.came (stepped e.came path.entries) → IsTurn heap.cells path.entries after (child_shown heap.cells placed) (record { front = front; own = own.Nothing })
  IsTurn-item after front has good front_is now =
      let es = drop 1 path.entries in
      let child = child_shown heap.cells placed in
      IsTurn-none after front [] front_is (advanced-more o e.came e.came path.entries after now)
      (λ leaf m. step-items leaf heap.cells e.came e es child m has at.at
      ∙ list-opened leaf heap.cells e.came e es child o m few-top (items-child heap.cells e child has at.at) opens-top good
      ∙ ap (λ es. rest leaf heap.cells es m) (sym (advanced-top after e.came e.came now)))

-- an immediate other than the end of a list
pub not-nil : (e : Elem) → (e ≡ elem.Nil → ⊥) → is_nil (Immediate (element e)) ≡ false
not-nil elem.Nil other = absurd (other refl)
not-nil e other = refl

-- fewer cells are open outside of a node

outside-some : (b : Bool) (es : List Entry) → length (outside es) ≤ length es → length (cond b (outside es) es) ≤ length es
outside-some true es le = le
outside-some false es le = omega arith

outside-less : (es : List Entry) → length (outside es) ≤ length es
outside-less [] = omega arith
outside-less (e ∷ es) = omega (arith, outside-some (is_item e.kind) es (outside-less es))

pub outside-fewer : (before after : List Entry) (e : Entry) → before ≡ e ∷ drop 1 before → after ≡ outside before → length after < length before
outside-fewer before after e top now =
    let left : after ≡ cond (is_item e.kind) (outside (drop 1 before)) (drop 1 before) = now ∙ ap outside top in
    omega (arith, ap length left, ap length top, outside-some (is_item e.kind) (drop 1 before) (outside-less (drop 1 before)))

-- a node is cut: what stands for all that is left of it was written, and the walk is outside of it
pub cut-turn : (leaf : Value → List ℕ) (heap : List Cell) (before after : List Entry) (e : Entry) (front written : List ℕ) → before ≡ e ∷ drop 1 before → after ≡ outside before → written ≡ front
    → rest leaf heap (e ∷ drop 1 before) 0 ≡ front ++ rest leaf heap (outside (e ∷ drop 1 before)) 0 → rest leaf heap before 0 ≡ written ++ rest leaf heap after 0
cut-turn leaf heap before after e front written top left is cuts =
    ap (λ es. rest leaf heap es 0) top ∙ cuts ∙ ap (λ l. l ++ rest leaf heap (outside (e ∷ drop 1 before)) 0) (sym is)
    ∙ ap (λ es. written ++ rest leaf heap es 0) (sym (left ∙ ap outside top))
