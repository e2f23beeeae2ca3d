-- The elements of a cell that are read one after another.
use Rattle.std.proofs.Common.{◌≡◌, ℕ, ◌+◌, ◌-◌, ◌≤◌, List, [], ◌∷◌, ◌++◌, length, take, drop, Option, None, Some, refl, sym, ◌∙◌, ap, subst, append_assoc, append-nil, arith, length-append, length-drop}
use Rattle.std.specs.Prelude.{◌↔◌, IfSome, slice_range}
use Rattle.std.specs.Option.{option_and_then}
use Rattle.std.proofs.lemmas.List.{take_all}
use Rattle.std.proofs.Math.Seq.{take-append_seam}
use Rattle.term_forms.specs.Elements.{Element, IsElem, IsFront}
use Rattle.term_forms.specs.Forms.{Tuple}
use Rattle.term_forms.specs.Places.{Placed, StandsAt}
use Rattle.term_forms.specs.Reading.{front, whole_of}
use Rattle.term_forms.specs.Unread.{Unread, IsFirstOf, form_with}
use Rattle.tuple_fronts.specs.declared.kept.Kept.{Kept}
use Rattle.tuple_fronts.specs.Inner.Hearing.{listed_elements}
use Rattle.tuple_fronts.specs.Inner.Kept.{Begins, IsKept, IsKeptWith, IsPushed}
use Rattle.tuple_fronts.proofs.KeptFacts.{kept-push}

-- ---- the spelling of an element that stands in a text

-- the front of a text is the longest prefix that spells an element
abbrev pub IsLongest : Type 0
IsLongest = (text : List ℕ) (e : Element) (n : ℕ) → (front text ≡ Some (e, n)) ↔ IsFront text e n

-- what is read of a whole text is the element that it spells
abbrev pub IsRead : Type 0
IsRead = (text : List ℕ) (e : Element) → (whole_of text ≡ Some e) ↔ IsElem text e

pub stands-within : (text : List ℕ) (p : Placed) → IsLongest → StandsAt text p → p.at + p.len ≤ length text
stands-within text p longest stands =
    let is : IsFront (drop p.at text) p.element p.len = (longest (drop p.at text) p.element p.len).0 stands.read in
    let before = stands.within in
    let within = is.within in
    omega (arith, before, within, length-drop p.at text)

pub stands-read : (text : List ℕ) (p : Placed) → IsLongest → IsRead → StandsAt text p → whole_of (slice_range text p.at (p.at + p.len)) ≡ Some p.element
stands-read text p longest read stands =
    let is : IsFront (drop p.at text) p.element p.len = (longest (drop p.at text) p.element p.len).0 stands.read in
    let count : p.at + p.len - p.at ≡ p.len = omega arith in
    ap (λ n. whole_of (take n (drop p.at text))) count ∙ (read (take p.len (drop p.at text)) p.element).1 is.spells

-- ---- elements that are read one after another

-- so many were read and kept of the elements that a text spells, and these are left
pub record HasBegun (all left : Unread) (old new : Kept) (count : ℕ) : Type 0 where
  pub read : List Element
  pub count_is : length read ≡ count
  pub text_is : left.text ≡ all.text
  pub most_is : new.most ≡ old.most
  pub elements : all.elements ≡ option_and_then (λ es. Some (read ++ es)) left.elements
  pub later : (before : List (Option (List Element))) → IsKept before old → IsKeptWith before read new

as-it-is : (o : Option (List Element)) → o ≡ option_and_then (λ es. Some es) o
as-it-is None = refl
as-it-is (Some es) = refl

pub begun-none : (all : Unread) (a : Kept) → HasBegun all all a a 0
begun-none all a = record { read = []; count_is = refl; text_is = refl; most_is = refl; elements = as-it-is all.elements; later = λ before kept. kept }

pub begun-more : (all mid left : Unread) (p : Placed) (old new newer : Kept) (count next : ℕ) (text : List ℕ) → HasBegun all mid old new count → IsFirstOf mid left p → whole_of text ≡ Some p.element
    → IsPushed new newer text → next ≡ count + 1 → HasBegun all left old newer next
begun-more all mid left p old new newer count next text so_far first is pushed next_is =
    let read = so_far.read in
    record {
      read = read ++ p.element ∷ [];
      count_is = omega (arith, so_far.count_is, next_is, length-append read (p.element ∷ []));
      text_is = first.text ∙ so_far.text_is;
      most_is = pushed.most ∙ so_far.most_is;
      elements = so_far.elements ∙ ap (option_and_then (λ es. Some (read ++ es))) first.elements ∙ later left.elements;
      later = λ before kept. kept-push before read new newer text p.element is pushed (so_far.later before kept);
    }
  where
    later : (o : Option (List Element)) → option_and_then (λ es. Some (so_far.read ++ es)) (option_and_then (λ es. Some (p.element ∷ es)) o)
        ≡ option_and_then (λ es. Some ((so_far.read ++ p.element ∷ []) ++ es)) o
    later None = refl
    later (Some es) = ap (λ l. Some l) (sym (append_assoc so_far.read (p.element ∷ []) es))

known-whole : (most : ℕ) (read : List Element) (left all : Option (List Element)) → length read ≤ most → all ≡ option_and_then (λ es. Some (read ++ es)) left → IfSome left (λ es. es ≡ [])
    → IfSome all (λ es. read ≡ take most es)
known-whole most read None all few is none = subst (λ o. IfSome o (λ es. read ≡ take most es)) (sym is) tt
known-whole most read (Some es) all few is none =
    subst (λ o. IfSome o (λ es. read ≡ take most es)) (sym is) (sym (ap (λ l. take most (read ++ l)) none ∙ ap (take most) (append-nil read) ∙ take_all most read few))

known-front : (most : ℕ) (read : List Element) (left all : Option (List Element)) → length read ≡ most → all ≡ option_and_then (λ es. Some (read ++ es)) left → IfSome all (λ es. read ≡ take most es)
known-front most read None all full is = subst (λ o. IfSome o (λ es. read ≡ take most es)) (sym is) tt
known-front most read (Some es) all full is =
    subst (λ o. IfSome o (λ es. read ≡ take most es)) (sym is) (sym (ap (λ n. take n (read ++ es)) (sym full) ∙ take-append_seam read es))

-- none are left, or the text doesn't spell as many
pub begun-whole : (all left : Unread) (old new : Kept) (count : ℕ) → HasBegun all left old new count → count ≤ old.most → IfSome left.elements (λ es. es ≡ []) → Begins old new all.elements
begun-whole all left old new count so_far few none =
    let most : length so_far.read ≤ old.most = omega (arith, so_far.count_is, few) in
    record {
      most = so_far.most_is;
      front = so_far.read;
      is = record { few = most; are = known-whole old.most so_far.read left.elements all.elements most so_far.elements none };
      later = so_far.later;
    }

-- as many are read as are kept
pub begun-front : (all left : Unread) (old new : Kept) (count : ℕ) → HasBegun all left old new count → count ≡ old.most → Begins old new all.elements
begun-front all left old new count so_far full =
    let most : length so_far.read ≡ old.most = so_far.count_is ∙ full in
    record {
      most = so_far.most_is;
      front = so_far.read;
      is = record { few = omega (arith, most); are = known-front old.most so_far.read left.elements all.elements most so_far.elements };
      later = so_far.later;
    }

-- ---- the tuple that they make

with-tuple : (o : Option (List Element)) → listed_elements (option_and_then (λ es. Some (Tuple es)) o) ≡ o
with-tuple None = refl
with-tuple (Some es) = refl

pub tuple-with : (es : Unread) → listed_elements (form_with Tuple es) ≡ es.elements
tuple-with es = with-tuple es.elements

-- ---- a list

-- none of head and tail is kept
pub pair-none : (old : Kept) (head tail : Element) → old.most ≡ 0 → Begins old old (Some (head ∷ tail ∷ []))
pair-none old head tail none = record {
  most = refl;
  front = [];
  is = record { few = omega arith; are = sym (ap (λ n. take n (head ∷ tail ∷ [])) none) };
  later = λ before kept. kept;
}

-- the head alone is
pub pair-head : (old new : Kept) (head tail : Element) (text : List ℕ) → old.most ≡ 1 → whole_of text ≡ Some head → IsPushed old new text → Begins old new (Some (head ∷ tail ∷ []))
pair-head old new head tail text one is pushed = record {
  most = pushed.most;
  front = head ∷ [];
  is = record { few = omega (arith, one); are = sym (ap (λ n. take n (head ∷ tail ∷ [])) one) };
  later = λ before kept. kept-push before [] old new text head is pushed kept;
}

-- both are
pub pair-both : (old mid new : Kept) (head tail : Element) (text next : List ℕ) → 2 ≤ old.most → whole_of text ≡ Some head → IsPushed old mid text → whole_of next ≡ Some tail → IsPushed mid new next
    → Begins old new (Some (head ∷ tail ∷ []))
pair-both old mid new head tail text next two is pushed next_is pushed_too = record {
  most = pushed_too.most ∙ pushed.most;
  front = head ∷ tail ∷ [];
  is = record { few = omega (arith, two); are = sym (take_all old.most (head ∷ tail ∷ []) (omega (arith, two))) };
  later = λ before kept. kept-push before (head ∷ []) mid new next tail next_is pushed_too (kept-push before [] old mid text head is pushed kept);
}
