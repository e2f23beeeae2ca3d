-- The roots of lines.
use Rattle.std.proofs.Common.{◌≡◌, ℕ, ◌+◌, ◌<◌, true, List, [], ◌∷◌, length, map, filter, All, Option, Some, None, refl, subst, arith}
use Rattle.std.proofs.lemmas.Bool.{ltb-true}
use Rattle.std.proofs.lemmas.List.Concat.{flat_map_single}
use Rattle.std.proofs.lemmas.List.Elements.{All-nil, All-cons}
use Rattle.field_lines.specs.Lines.{TextLine, IsPart}
use Rattle.term_forms.specs.Elements.{Element}
use Rattle.root_views.specs.Roots.{Content, BodyRoot, has_text, labelled, stack_root, dict_root, message, token, IsInside}
use Rattle.root_views.proofs.LineFacts.{roots_inside}

-- ---- where they stand

line_inside : (body : List ℕ) (l : TextLine) → IsPart body l → has_text l ≡ true → l.at < length body
line_inside body l part some = omega (arith, part.within, ltb-true 0 (length l.text) some)

one_inside : (body : List ℕ) (l : TextLine) (r : BodyRoot) → r.at ≡ l.at → IsPart body l → has_text l ≡ true → All (IsInside body) (r ∷ [])
one_inside body l r same part some =
    let here : r.at < length body = omega (arith, same, line_inside body l part some) in
    All-cons (IsInside body) r [] here (All-nil (IsInside body))

labelled-at : (at : ℕ) (label : List ℕ) (o : Option Content) → (labelled at label o).at ≡ at
labelled-at at label None = refl
labelled-at at label (Some content) = refl

pub stack_inside : (body : List ℕ) (ls : List TextLine) → All (IsPart body) ls → All (IsInside body) (map stack_root (filter has_text ls))
stack_inside body ls parts =
    subst (All (IsInside body)) (flat_map_single stack_root (filter has_text ls))
    (roots_inside body (λ l. stack_root l ∷ []) (λ l part some. one_inside body l (stack_root l) (labelled-at l.at _ _) part some) ls parts)

pub dict_inside : (body : List ℕ) (ls : List TextLine) → All (IsPart body) ls → All (IsInside body) (map dict_root (filter has_text ls))
dict_inside body ls parts =
    subst (All (IsInside body)) (flat_map_single dict_root (filter has_text ls))
    (roots_inside body (λ l. dict_root l ∷ []) (λ l part some. one_inside body l (dict_root l) refl part some) ls parts)

-- ---- a line of the mailbox

-- a message, and a token behind it that is there or not
pub message_inside : (body : List ℕ) (l : TextLine) (c : Content) → IsPart body l → has_text l ≡ true → All (IsInside body) (message l.at c ∷ [])
message_inside body l c part some = one_inside body l (message l.at c) refl part some

pub pair_inside : (body : List ℕ) (l : TextLine) (c : Content) (at : ℕ) (e : Element) → IsPart body l → has_text l ≡ true → at < l.at + length l.text
    → All (IsInside body) (message l.at c ∷ token at e ∷ [])
pair_inside body l c at e part some within =
    let here : at < length body = omega (arith, within, part.within) in
    All-cons (IsInside body) (message l.at c) (token at e ∷ []) (line_inside body l part some)
    (All-cons (IsInside body) (token at e) [] here (All-nil (IsInside body)))
