-- What the text of a cell's form spells, as it is read.
use Rattle.std.proofs.Common.{◌≡◌, ℕ, ◌+◌, true, false, List, [], ◌∷◌, ◌++◌, length, map, Option, None, Some, All, refl, sym, ◌∙◌, ap, ap₂, subst, arith, length-append, append_assoc}
use Rattle.std.specs.Prelude.{IfSome}
use Rattle.std.specs.Option.{option_map, option_and_then, is_some}
use Rattle.std.proofs.lemmas.List.{append-nil, length-map, map-append}
use Rattle.std.proofs.lemmas.List.Elements.{All-append, All-nil, All-push}
use Rattle.term_forms.specs.Elements.{Element}
use Rattle.term_forms.specs.Forms.{HeapForm, Cons}
use Rattle.term_forms.specs.Places.{Placed, StandsAt, elements_of}
use Rattle.term_forms.specs.Unread.{Unread, IsFirstOf, form_with}
use Rattle.cell_records.specs.declared.cells.Kind.{Kind}
use Rattle.heap_graph.specs.Words.{words_in}
use Rattle.heap_graph.specs.Kinds.{kind_words, payload_words}
use Rattle.heap_graph.specs.Laws.Words.{form-words}
use Rattle.heap_graph.specs.Cells.{kind_of}
use Rattle.heap_graph.specs.declared.elements.Elements.{Elements}
use Rattle.heap_graph.specs.declared.forms.Read.{Read}
use Rattle.heap_graph.specs.Elements.{elements_at, found_at, found_in, Appends, AreIn, PushesElements, PushesForm, PushesRead}
use Rattle.heap_graph.specs.Reading.{read_of, read_with}
use Rattle.heap_graph.specs.Laws.Elements.{Appends-none, Appends-then}

-- ---- elements that are read one after another

-- some of the elements of a text were read and appended, and these are left
pub record HasRead (from : ℕ) (all left : Unread) (old new : Elements) : Type 0 where
  pub ps : List Placed
  pub stand : All (StandsAt all.text) ps
  pub text_is : left.text ≡ all.text
  pub count_is : length ps + left.count ≡ all.count
  pub elements : all.elements ≡ option_and_then (λ es. Some (elements_at ps ++ es)) left.elements
  pub appended : Appends old new (map (found_at from) ps)

pub read-none : (from : ℕ) (all : Unread) (old : Elements) → HasRead from all all old old
read-none from all old = record { ps = []; stand = All-nil (StandsAt all.text); text_is = refl; count_is = omega arith; elements = of all.elements; appended = Appends-none old }
  where
    of : (o : Option (List Element)) → o ≡ option_and_then (λ es. Some ([] ++ es)) o
    of None = refl
    of (Some es) = refl

pub read-more : (from : ℕ) (all mid left : Unread) (p : Placed) (old new newer : Elements) → HasRead from all mid old new → IsFirstOf mid left p → Appends new newer (found_at from p ∷ []) → HasRead from all left old newer
read-more from all mid left p old new newer so_far first appended =
    let ps = so_far.ps in
    record {
      ps = ps ++ p ∷ [];
      stand = All-push (StandsAt all.text) ps p so_far.stand (subst (λ t. StandsAt t p) so_far.text_is first.stands);
      text_is = first.text ∙ so_far.text_is;
      count_is = omega (arith, so_far.count_is, first.count, length-append ps (p ∷ []));
      elements =
          so_far.elements ∙ ap (option_and_then (λ es. Some (elements_at ps ++ es))) first.elements ∙ later left.elements
          ∙ ap (λ xs. option_and_then (λ es. Some (xs ++ es)) left.elements) (sym (map-append (λ (q : Placed). q.element) ps (p ∷ [])));
      appended = subst (Appends old newer) (sym (map-append (found_at from) ps (p ∷ []))) (Appends-then old new newer (map (found_at from) ps) (found_at from p ∷ []) so_far.appended appended);
    }
  where
    later : (o : Option (List Element)) → option_and_then (λ es. Some (elements_at so_far.ps ++ es)) (option_and_then (λ es. Some (p.element ∷ es)) o)
        ≡ option_and_then (λ es. Some ((elements_at so_far.ps ++ p.element ∷ []) ++ es)) o
    later None = refl
    later (Some es) = ap (λ l. Some l) (sym (append_assoc (elements_at so_far.ps) (p.element ∷ []) es))

-- the text doesn't spell the elements that are left
pub read-broken : (from : ℕ) (all left : Unread) (old new : Elements) → HasRead from all left old new → left.elements ≡ None → all.elements ≡ None
read-broken from all left old new so_far none = so_far.elements ∙ ap (option_and_then (λ es. Some (elements_at so_far.ps ++ es))) none

-- none are left
pub read-whole : (from : ℕ) (all left : Unread) (old new : Elements) → (so_far : HasRead from all left old new) → left.elements ≡ Some [] → all.elements ≡ Some (elements_at so_far.ps)
read-whole from all left old new so_far over =
    so_far.elements ∙ ap (option_and_then (λ es. Some (elements_at so_far.ps ++ es))) over ∙ ap (λ l. Some l) (append-nil (elements_at so_far.ps))

pub pushes-broken : (from : ℕ) (all left : Unread) (old new : Elements) → HasRead from all left old new → left.elements ≡ None → PushesElements from all.text old new all.elements
pushes-broken from all left old new so_far none = record {
  ps = so_far.ps;
  stand = so_far.stand;
  are = subst (λ o. IfSome o (λ es. elements_at so_far.ps ≡ es)) (sym (read-broken from all left old new so_far none)) tt;
  appended = so_far.appended;
}

pub pushes-whole : (from : ℕ) (all left : Unread) (old new : Elements) → HasRead from all left old new → left.elements ≡ Some [] → PushesElements from all.text old new all.elements
pushes-whole from all left old new so_far over = record {
  ps = so_far.ps;
  stand = so_far.stand;
  are = subst (λ o. IfSome o (λ es. elements_at so_far.ps ≡ es)) (sym (read-whole from all left old new so_far over)) refl;
  appended = so_far.appended;
}

-- ---- the form that they make

-- a form whose elements these are, behind those that were read before them
pub form-read : (from : ℕ) (text : List ℕ) (form : List Element → HeapForm) (es : Unread) (before : List Placed) (old mid new : Elements) → es.text ≡ text
    → ((l : List Element) → elements_of (form l) ≡ elements_at before ++ l) → ((l : List Element) (ps : List Placed) → found_in from (Some (form l)) ps ≡ map (found_at from) ps)
    → All (StandsAt text) before → Appends old mid (map (found_at from) before) → PushesElements from es.text mid new es.elements → PushesRead from text old new (form_with form es)
form-read from text form es before old mid new same is found stand appended read = record {
  fs = map (found_at from) (before ++ read.ps);
  are = of es.elements read.are;
  appended = subst (Appends old new) (sym (map-append (found_at from) before read.ps)) (Appends-then old mid new (map (found_at from) before) (map (found_at from) read.ps) appended read.appended);
}
  where
    of : (o : Option (List Element)) → IfSome o (λ l. elements_at read.ps ≡ l) → IfSome (option_and_then (λ l. Some (form l)) o) (λ f. AreIn from text (Some f) (map (found_at from) (before ++ read.ps)))
    of None are = tt
    of (Some l) are = record {
      ps = before ++ read.ps;
      stand = All-append (StandsAt text) before read.ps stand (subst (λ t. All (StandsAt t) read.ps) same read.stand);
      elements = map-append (λ (p : Placed). p.element) before read.ps ∙ ap (λ xs. elements_at before ++ xs) are ∙ sym (is l);
      found = sym (found l (before ++ read.ps));
    }

-- a form of which all elements are read one after another
pub joined-form : (from : ℕ) (text : List ℕ) (form : List Element → HeapForm) (es : Unread) (old new : Elements) → es.text ≡ text → ((l : List Element) → elements_of (form l) ≡ l)
    → ((l : List Element) (ps : List Placed) → found_in from (Some (form l)) ps ≡ map (found_at from) ps) → PushesElements from es.text old new es.elements → PushesRead from text old new (form_with form es)
joined-form from text form es old new same is found read = form-read from text form es [] old old new same is found (All-nil (StandsAt text)) (Appends-none old) read

-- a form with these two elements
pub pair-form : (from : ℕ) (text : List ℕ) (p q : Placed) (old new : Elements) → StandsAt text p → StandsAt text q → Appends old new (found_at from p ∷ found_at from q ∷ [])
    → PushesRead from text old new (Some (Cons p.element q.element))
pair-form from text p q old new one other appended = record {
  fs = found_at from p ∷ found_at from q ∷ [];
  are = record { ps = p ∷ q ∷ []; stand = All-push (StandsAt text) (p ∷ []) q (All-push (StandsAt text) [] p (All-nil (StandsAt text)) one) other; elements = refl; found = refl };
  appended = appended;
}

-- a form without elements
pub plain-form : (from : ℕ) (text : List ℕ) (form : HeapForm) (old new : Elements) → elements_of form ≡ [] → Appends old new (found_in from (Some form) []) → PushesRead from text old new (Some form)
plain-form from text form old new none appended = record {
  fs = found_in from (Some form) [];
  are = record { ps = []; stand = All-nil (StandsAt text); elements = sym none; found = refl };
  appended = appended;
}

-- ---- its kind and its words

abbrev read_made : Option Kind → ℕ → ℕ → Read
read_made kind words count = record { kind = kind; words = words; count = count }

-- those of a form without elements
pub plain-read : (form : HeapForm) (kind : Kind) (words payload : ℕ) → elements_of form ≡ [] → kind ≡ kind_of form → words ≡ kind_words kind 0 → payload ≡ payload_words form
    → read_made (Some kind) (words + payload) 0 ≡ read_of (Some form)
plain-read form kind words payload none kind_is words_is payload_is =
    ap₂ (λ k w. read_made k w 0) (ap Some kind_is)
    (ap₂ (λ a b. a + b) (words_is ∙ ap₂ kind_words kind_is (sym (ap length none))) payload_is ∙ sym (form-words form))
    ∙ ap (read_made (Some (kind_of form)) (words_in (Some form))) (sym (ap length none))

-- those of a form whose elements are all read
pub joined-read : (from : ℕ) (all left : Unread) (old new : Elements) (kind : Kind) (before count total words n : ℕ) → HasRead from all left old new → left.elements ≡ Some [] → left.count ≡ 0
    → count ≡ all.count → total ≡ before + count → words ≡ kind_words kind total → n ≡ total → read_made (Some kind) words n ≡ read_with kind before all.elements
joined-read from all left old new kind before count total words n so_far over none count_is total_is words_is n_is =
    let size : total ≡ before + length (elements_at so_far.ps) =
    omega (arith, so_far.count_is, none, count_is, total_is, length-map so_far.ps (λ (p : Placed). p.element)) in
    ap₂ (read_made (Some kind)) (words_is ∙ ap (kind_words kind) size) (n_is ∙ size) ∙ ap (read_with kind before) (sym (read-whole from all left old new so_far over))

-- ---- what stays of it

-- nothing stays of a text that spells none
pub nothing-stays : (from : ℕ) (text : List ℕ) (form : Option HeapForm) (old new : Elements) → is_some (option_map kind_of form) ≡ false → Appends old new [] → PushesForm from text old new form
nothing-stays from text None old new none appended = record { fs = []; are = record { ps = []; stand = All-nil (StandsAt text); elements = refl; found = refl }; appended = appended }
nothing-stays from text (Some form) old new none appended = cc

-- what was read is known to be all
pub all-read : (from : ℕ) (text : List ℕ) (form : Option HeapForm) (old new : Elements) → PushesRead from text old new form → is_some (option_map kind_of form) ≡ true → PushesForm from text old new form
all-read from text None old new read some = cc
all-read from text (Some form) old new read some = record { fs = read.fs; are = read.are; appended = read.appended }
