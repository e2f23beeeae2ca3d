-- What is kept of cells: one more text, and one more front.
use Rattle.std.proofs.Common.{◌≡◌, ℕ, zero, suc, ◌+◌, List, [], ◌∷◌, ◌++◌, length, map, take, Option, None, Some, refl, sym, ◌∙◌, ap, ap₂, subst, append_assoc, append-nil, arith, length-append}
use Rattle.std.proofs.lemmas.List.{map-append}
use Rattle.term_forms.specs.Elements.{Element}
use Rattle.term_forms.specs.Reading.{whole_of}
use Rattle.tuple_fronts.specs.declared.kept.Kept.{Kept}
use Rattle.tuple_fronts.specs.Inner.Kept.{joined, ends_from, Holds, IsFrontOf, AreFrontsOf, IsKeptWith, IsKept, IsPushed, IsEnded, Keeps, Begins}

-- ---- lists one behind the other, and where they end

pub joined-append : {X : Type 0} (xs ys : List (List X)) → joined (xs ++ ys) ≡ joined xs ++ joined ys
joined-append [] ys = refl
joined-append (x ∷ xs) ys = ap (λ l. x ++ l) (joined-append xs ys) ∙ sym (append_assoc x (joined xs) (joined ys))

joined-push : {X : Type 0} (lists : List (List X)) (list : List X) → joined (lists ++ list ∷ []) ≡ joined lists ++ list
joined-push lists list = joined-append lists (list ∷ []) ∙ ap (λ l. joined lists ++ l) (append-nil list)

ends-push : {X : Type 0} (at : ℕ) (lists : List (List X)) (list : List X)
    → ends_from at (lists ++ list ∷ []) ≡ ends_from at lists ++ (at + length (joined lists) + length list) ∷ []
ends-push at [] list = let e : at + length list ≡ at + 0 + length list = omega arith in ap (λ n. n ∷ []) e
ends-push at (l ∷ lists) list =
    let e : at + length l + length (joined lists) + length list ≡ at + length (l ++ joined lists) + length list = omega (arith, length-append l (joined lists)) in
    ap (λ ends. (at + length l) ∷ ends) (ends-push (at + length l) lists list ∙ ap (λ n. ends_from (at + length l) lists ++ n ∷ []) e)

-- the same from 0 on
ends-more : {X : Type 0} (lists : List (List X)) (list : List X) → ends_from 0 (lists ++ list ∷ []) ≡ ends_from 0 lists ++ (length (joined lists) + length list) ∷ []
ends-more lists list =
    let e : 0 + length (joined lists) + length list ≡ length (joined lists) + length list = omega arith in
    ends-push 0 lists list ∙ ap (λ n. ends_from 0 lists ++ n ∷ []) e

pub length-ends : {X : Type 0} (at : ℕ) (lists : List (List X)) → length (ends_from at lists) ≡ length lists
length-ends at [] = refl
length-ends at (l ∷ lists) = ap suc (length-ends (at + length l) lists)

-- ---- the vectors

holds-push : (fronts : List (List Element)) (begun : List Element) (texts ends lasts text : List ℕ) (e : Element) → whole_of text ≡ Some e → Holds fronts begun texts ends lasts
    → Holds fronts (begun ++ e ∷ []) (texts ++ text) (ends ++ (length texts + length text) ∷ []) lasts
holds-push fronts begun texts ends lasts text e is holds =
    let all = joined holds.front_texts ++ holds.begun_texts in
    let more : all ++ text ∷ [] ≡ joined holds.front_texts ++ (holds.begun_texts ++ text ∷ []) = append_assoc (joined holds.front_texts) holds.begun_texts (text ∷ []) in
    record {
      front_texts = holds.front_texts;
      begun_texts = holds.begun_texts ++ text ∷ [];
      texts_are = ap (λ t. t ++ text) holds.texts_are ∙ sym (joined-push all text) ∙ ap joined more;
      ends_are =
          ap₂ (λ e t. e ++ (length t + length text) ∷ []) holds.ends_are holds.texts_are ∙ sym (ends-more all text) ∙ ap (ends_from 0) more;
      lasts_are = holds.lasts_are;
      spelled = holds.spelled;
      begun_spelled = map-append whole_of holds.begun_texts (text ∷ []) ∙ ap₂ (λ l o. l ++ o ∷ []) holds.begun_spelled is ∙ sym (map-append Some begun (e ∷ []));
    }

holds-end : (fronts : List (List Element)) (begun : List Element) (texts ends lasts : List ℕ) → Holds fronts begun texts ends lasts
    → Holds (fronts ++ begun ∷ []) [] texts ends (lasts ++ length ends ∷ [])
holds-end fronts begun texts ends lasts holds =
    let all = joined holds.front_texts ++ holds.begun_texts in
    let more : all ≡ joined (holds.front_texts ++ holds.begun_texts ∷ []) ++ [] = sym (joined-push holds.front_texts holds.begun_texts) ∙ sym (append-nil (joined (holds.front_texts ++ holds.begun_texts ∷ []))) in
    let count : length ends ≡ length (joined holds.front_texts) + length holds.begun_texts = ap length holds.ends_are ∙ length-ends 0 all ∙ length-append (joined holds.front_texts) holds.begun_texts in
    record {
      front_texts = holds.front_texts ++ holds.begun_texts ∷ [];
      begun_texts = [];
      texts_are = holds.texts_are ∙ ap joined more;
      ends_are = holds.ends_are ∙ ap (ends_from 0) more;
      lasts_are = ap₂ (λ l n. l ++ n ∷ []) holds.lasts_are count ∙ sym (ends-more holds.front_texts holds.begun_texts);
      spelled =
          map-append (map whole_of) holds.front_texts (holds.begun_texts ∷ []) ∙ ap₂ (λ l o. l ++ o ∷ []) holds.spelled holds.begun_spelled
          ∙ sym (map-append (map Some) fronts (begun ∷ []));
      begun_spelled = refl;
    }

-- ---- what is known of them

fronts-push : (most : ℕ) (knowns : List (Option (List Element))) (fronts : List (List Element)) (known : Option (List Element)) (front : List Element) → AreFrontsOf most knowns fronts → IsFrontOf most known front
    → AreFrontsOf most (knowns ++ known ∷ []) (fronts ++ front ∷ [])
fronts-push most [] [] known front are is = (is, tt)
fronts-push most [] (f ∷ fronts) known front are is = absurd are
fronts-push most (k ∷ knowns) [] known front are is = absurd are
fronts-push most (k ∷ knowns) (f ∷ fronts) known front are is = (are.0, fronts-push most knowns fronts known front are.1 is)

pub kept-push : (before : List (Option (List Element))) (begun : List Element) (old new : Kept) (text : List ℕ) (e : Element) → whole_of text ≡ Some e → IsPushed old new text
    → IsKeptWith before begun old → IsKeptWith before (begun ++ e ∷ []) new
kept-push before begun old new text e is pushed kept = record {
  fronts = kept.fronts;
  holds =
      rw pushed.texts (rw pushed.ends (rw pushed.lasts (holds-push kept.fronts begun old.texts.items old.ends.items old.lasts.items text e is kept.holds)));
  are = subst (λ m. AreFrontsOf m before kept.fronts) (sym pushed.most) kept.are;
}

pub kept-end : (before : List (Option (List Element))) (known : Option (List Element)) (front : List Element) (old new : Kept) → IsFrontOf old.most known front → IsEnded old new
    → IsKeptWith before front old → IsKept (before ++ known ∷ []) new
kept-end before known front old new is ended kept = record {
  fronts = kept.fronts ++ front ∷ [];
  holds =
      rw ended.texts (rw ended.ends (rw ended.lasts (holds-end kept.fronts front old.texts.items old.ends.items old.lasts.items kept.holds)));
  are = subst (λ m. AreFrontsOf m (before ++ known ∷ []) (kept.fronts ++ front ∷ [])) (sym ended.most) (fronts-push old.most before kept.fronts known front kept.are is);
}

pub keeps-ended : (old mid new : Kept) (known : Option (List Element)) → Begins old mid known → IsEnded mid new → Keeps old new (known ∷ [])
keeps-ended old mid new known begins ended = record {
  most = ended.most ∙ begins.most;
  later = λ before kept.
      kept-end before known begins.front mid new (subst (λ m. IsFrontOf m known begins.front) (sym begins.most) begins.is) ended (begins.later before kept);
}

pub Keeps-none : (a : Kept) → Keeps a a []
Keeps-none a = record { most = refl; later = λ before kept. subst (λ l. IsKept l a) (sym (append-nil before)) kept }

pub Keeps-then : (a b c : Kept) (xs ys : List (Option (List Element))) → Keeps a b xs → Keeps b c ys → Keeps a c (xs ++ ys)
Keeps-then a b c xs ys one two = record {
  most = two.most ∙ one.most;
  later = λ before kept. subst (λ l. IsKept l c) (append_assoc before xs ys) (two.later (before ++ xs) (one.later before kept));
}

take-nil : (n : ℕ) → (let none : List Element = [] in take n none) ≡ []
take-nil zero = refl
take-nil (suc n) = refl

-- nothing was appended of a cell of which nothing is known, or that has no elements
pub begins-none : (a : Kept) → Begins a a None
begins-none a = record { most = refl; front = []; is = record { few = omega arith; are = tt }; later = λ before kept. kept }

pub begins-empty : (a : Kept) → Begins a a (Some [])
begins-empty a = record { most = refl; front = []; is = record { few = omega arith; are = sym (take-nil a.most) }; later = λ before kept. kept }
