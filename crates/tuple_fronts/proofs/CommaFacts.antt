-- Texts with commas between them, one after another.
use Rattle.std.proofs.Common.{◌≡◌, ℕ, zero, suc, ◌+◌, ◌<◌, ◌≤◌, Bool, List, [], ◌∷◌, ◌++◌, length, map, take, Some, sym, ◌∙◌, ap, arith, append_assoc}
use Rattle.std.specs.Prelude.{codes, slice_get, ◌==◌, if◌then◌else◌}
use Rattle.std.specs.Option.{option_map}
use Rattle.std.proofs.lemmas.Bool.{eqb-true, false_from_ne_true}
use Rattle.std.proofs.lemmas.List.{length-take-le, take_all}
use Rattle.std.proofs.lemmas.Option.{none-some, same_Some, slice_get-map, slice_get_within}
use Rattle.dump_io.specs.Laws.Lists.{take-at}
use Rattle.term_forms.specs.Elements.{Element}
use Rattle.tuple_fronts.specs.Shapes.{comma_list, or_pid, tag_text, tags_with}
use Rattle.tuple_fronts.specs.CellTexts.{comma_behind, tag_at}
use Rattle.tuple_fronts.specs.Laws.CellTexts.{comma-last}

-- no other element stands at the first place
other-place : (pids : Bool) (i : ℕ) (e : Element) → or_pid pids (codes "_") e ≡ tag_at pids (suc i) e
other-place pids i e = ap (λ b. or_pid pids (if b then tag_text e else codes "_") e) (sym (false_from_ne_true (suc i == 0) (λ is. no-zero (eqb-true (suc i) 0 is))))
  where
    no-zero : suc i ≡ 0 → ⊥
    no-zero is = omega (arith, is)

-- the next text behind those before
pub comma-next : (texts : List (List ℕ)) (i : ℕ) (text before now comma after : List ℕ) → slice_get texts i ≡ Some text → now ≡ before ++ comma_list (take i texts) → comma ≡ now ++ comma_behind i → after ≡ comma ++ text
    → after ≡ before ++ comma_list (take (i + 1) texts)
comma-next texts i text before now comma after at now_is comma_is after_is =
    let inside : i < length texts = slice_get_within texts i text at in
    let count : length (take i texts) ≡ i = length-take-le i texts (omega (arith, inside)) in
    after_is
    ∙ ap (λ l. l ++ text) (comma_is ∙ ap (λ l. l ++ comma_behind i) now_is)
    ∙ append_assoc (before ++ comma_list (take i texts)) (comma_behind i) text
    ∙ append_assoc before (comma_list (take i texts)) (comma_behind i ++ text)
    ∙ ap (λ l. before ++ l)
    (ap (λ n. comma_list (take i texts) ++ (comma_behind n ++ text)) (sym count)
    ∙ sym (comma-last (take i texts) text)
    ∙ ap comma_list (sym (take-at texts i text at)))

-- all of them
pub comma-all : (texts : List (List ℕ)) (i : ℕ) (before now : List ℕ) → length texts ≤ i → now ≡ before ++ comma_list (take i texts) → now ≡ before ++ comma_list texts
comma-all texts i before now all is = is ∙ ap (λ l. before ++ comma_list l) (take_all i texts all)

-- ---- the elements of a tuple inside a message

pub tag-there : (pids : Bool) (es : List Element) (i : ℕ) (e : Element) → slice_get es i ≡ Some e → slice_get (tags_with pids es) i ≡ Some (tag_at pids i e)
tag-there pids [] zero e is = absurd (none-some e is)
tag-there pids [] (suc i) e is = absurd (none-some e is)
tag-there pids (first ∷ es) zero e is = ap (λ f. Some (or_pid pids (tag_text f) f)) (same_Some first e is)
tag-there pids (first ∷ es) (suc i) e is =
    slice_get-map (or_pid pids (codes "_")) es i ∙ ap (option_map (or_pid pids (codes "_"))) is ∙ ap Some (other-place pids i e)

-- ---- those of a message

pub text-there : (f : Element → List ℕ) (es : List Element) (i : ℕ) (e : Element) → slice_get es i ≡ Some e → slice_get (map f es) i ≡ Some (f e)
text-there f es i e is = slice_get-map f es i ∙ ap (option_map f) is
