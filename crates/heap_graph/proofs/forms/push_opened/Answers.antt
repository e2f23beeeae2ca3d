use Rattle.std.proofs.Common.{◌≡◌, ◌∷◌, [], Some, refl, sym, ◌∙◌, ap, subst}
use Rattle.std.proofs.lemmas.List.Elements.{All-nil, All-push}
use Rattle.std.proofs.lemmas.Result.{IfOk-weaker}
use Rattle.term_forms.specs.Forms.{Cons, Flat}
use Rattle.term_forms.specs.Places.{StandsAt}
use Rattle.term_forms.specs.ReadingForms.{form_of}
use Rattle.term_forms.specs.Seen.{element}
use Rattle.term_forms.specs.SeenOpened.{opened_form, IsOpenedIn}
use Rattle.term_forms.specs.SeenPlaces.{placed}
use Rattle.term_forms.specs.SeenForms.{heap_form}
use Rattle.term_forms.specs.Unread.{form_with}
use Rattle.heap_graph.specs.Elements.{PushesRead}
use Rattle.heap_graph.proofs.ReadFacts.{form-read, pair-form, plain-form}
use Rattle.heap_graph.proofs.forms.push_opened.Goals as goal

pub returns-in_ok-push_pair-in-List-clause-pushed : goal.returns-in_ok-push_pair-in-List-clause-pushed
returns-in_ok-push_pair-in-List-clause-pushed c =
    let text = c.args.text.now in
    let head = c.in-List.head in
    let tail = c.in-List.tail in
    let places : StandsAt text (placed head) × StandsAt text (placed tail) = subst (IsOpenedIn text) c.in-List.is c.in-Some.ensures.places in
    let form : Some (Cons (element head.elem) (element tail.elem)) ≡ form_of c.args.enc text = sym (ap opened_form c.in-List.is) ∙ c.in-Some.ensures.form in
    let old = c.args.elements.now in
    let new = c.push_pair.new.elements in
    subst (PushesRead c.args.«from» text old new) form (pair-form c.args.«from» text (placed head) (placed tail) old new places.0 places.1 c.in_ok-push_pair-in-List.ensures)

pub returns-in_ok-push_elem-in-Flat-clause-pushed : goal.returns-in_ok-push_elem-in-Flat-clause-pushed
returns-in_ok-push_elem-in-Flat-clause-pushed c =
    let text = c.args.text.now in
    let keys = placed c.in-Flat.keys in
    let values = c.in-Flat.values in
    let places : StandsAt text keys × (values.text ≡ text) = subst (IsOpenedIn text) c.in-Flat.is c.in-Some.ensures.places in
    let form : form_with (Flat keys.element) values ≡ form_of c.args.enc text = sym (ap opened_form c.in-Flat.is) ∙ c.in-Some.ensures.form in
    let old = c.args.elements.now in
    let mid = c.push_elem.new.elements in
    let new = c.push_joined-in-Flat.new.kept in
    IfOk-weaker c.push_joined-in-Flat.result _ _
    (λ u read.
    subst (PushesRead c.args.«from» text old new) form
    (form-read c.args.«from» text (Flat keys.element) values (keys ∷ []) old mid new places.1 (λ l. refl) (λ l ps. refl) (All-push (StandsAt text) [] keys (All-nil (StandsAt text)) places.0)
    c.in_ok-push_elem-in-Flat.ensures read))
    c.push_joined-in-Flat.ensures.pushed

pub returns-in-Plain-clause-pushed : goal.returns-in-Plain-clause-pushed
returns-in-Plain-clause-pushed c =
    let from = c.args.«from» in
    let text = c.args.text.now in
    let plain = heap_form c.in-Plain.form in
    let form : Some plain ≡ form_of c.args.enc text = sym (ap opened_form c.in-Plain.is) ∙ c.in-Some.ensures.form in
    let none = subst (IsOpenedIn text) c.in-Plain.is c.in-Some.ensures.places in
    let old = c.args.elements.now in
    let new = c.push_plain.new.elements in
    IfOk-weaker c.push_plain.result _ _
    (λ u pushed. subst (PushesRead from text old new) form (plain-form from text plain old new none (pushed from)))
    c.push_plain.ensures.pushed
