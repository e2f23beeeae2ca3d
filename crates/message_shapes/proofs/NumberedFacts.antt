-- The numbers of the shapes of messages.
use Rattle.std.proofs.Common.{◌≡◌, ℕ, ◌+◌, ◌<◌, List, [], ◌∷◌, ◌++◌, length, get_or, map, take, None, Some, refl, sym, ◌∙◌, ap, ap₂, subst, arith, length-append}
use Rattle.std.specs.Prelude.{All, slice_get}
use Rattle.std.specs.Option.{option_map}
use Rattle.std.specs.Str.{bytes_eq}
use Rattle.std.proofs.Math.ListN.{get_or-append}
use Rattle.std.proofs.lemmas.List.{get_or-map, get_or_default, length-map, map-append}
use Rattle.std.proofs.lemmas.List.Quantifiers.{position-Some}
use Rattle.std.proofs.lemmas.Option.{slice_get-get_or, slice_get-map}
use Rattle.dump_io.specs.Laws.Lists.{position-at, take-at}
use Rattle.text_groups.specs.Numbers.{number_in, weightless, HaveNumbers, IsGrown}
use Rattle.message_shapes.specs.Messages.{Message, item_of, message_at}
use Rattle.message_shapes.specs.Inner.Shaped.{message_with, messages_with, shape_with, shapes_of}
use Rattle.message_shapes.specs.Inner.Telling.{Told, told_at, OfText}

-- more texts change no number
number-kept : (known more : List (List ℕ)) (text : List ℕ) (n : ℕ) → number_in known text ≡ Some n → number_in (known ++ more) text ≡ Some n
number-kept known more text n is =
    let found = position-Some (bytes_eq text) known n [] is in
    let inside : n < length known = found.0 in
    position-at (bytes_eq text) (known ++ more) [] n (get_or known n [])
    (λ k below. ap (bytes_eq text) (get_or-append known more [] k (omega (arith, below, inside))) ∙ found.2 k below)
    (slice_get-get_or (known ++ more) n [] (omega (arith, inside, length-append known more)) ∙ ap Some (get_or-append known more [] n inside))
    found.1

numbers-kept : (known more texts : List (List ℕ)) (numbers : List ℕ) → map (number_in known) texts ≡ map Some numbers → map (number_in (known ++ more)) texts ≡ map Some numbers
numbers-kept known more [] [] are = refl
numbers-kept known more [] (n ∷ numbers) are = cc
numbers-kept known more (text ∷ texts) [] are = cc
numbers-kept known more (text ∷ texts) (n ∷ numbers) are =
    let first : number_in known text ≡ Some n = cc in
    let rest : map (number_in known) texts ≡ map Some numbers = cc in
    ap₂ (λ a b. a ∷ b) (number-kept known more text n first) (numbers-kept known more texts numbers rest)

pub have-grown : (old new texts : List (List ℕ)) (numbers : List ℕ) → IsGrown old new → HaveNumbers old texts numbers → HaveNumbers new texts numbers
have-grown old new texts numbers grown have =
    subst (λ known. HaveNumbers known texts numbers) (sym grown.are) (record { each = numbers-kept old grown.more texts numbers have.each })

-- one more text
pub have-more : (old new texts : List (List ℕ)) (i : ℕ) (text : List ℕ) (numbers after : List ℕ) (n : ℕ) → IsGrown old new → slice_get texts i ≡ Some text → number_in new text ≡ Some n → after ≡ numbers ++ n ∷ []
    → HaveNumbers old (take i texts) numbers → HaveNumbers new (take (i + 1) texts) after
have-more old new texts i text numbers after n grown at is after_is have =
    let before = have-grown old new (take i texts) numbers grown have in
    record {
      each = ap (map (number_in new)) (take-at texts i text at)
          ∙ map-append (number_in new) (take i texts) (text ∷ [])
          ∙ ap₂ (λ a b. a ++ b ∷ []) before.each is
          ∙ sym (map-append Some numbers (n ∷ []))
          ∙ ap (map Some) (sym after_is);
    }

same-length : (known texts : List (List ℕ)) (numbers : List ℕ) → HaveNumbers known texts numbers → length texts ≡ length numbers
same-length known texts numbers have = sym (length-map texts (number_in known)) ∙ ap length have.each ∙ length-map numbers Some

-- the number of the text at a place
pub have-at : (known texts : List (List ℕ)) (numbers : List ℕ) (i : ℕ) → HaveNumbers known texts numbers → i < length texts → number_in known (get_or texts i []) ≡ Some (get_or numbers i 0)
have-at known texts numbers i have inside =
    sym (get_or-map (number_in known) texts i [] None inside)
    ∙ ap (λ l. get_or l i None) have.each
    ∙ get_or-map Some numbers i 0 None (omega (arith, inside, same-length known texts numbers have))

pub have-within : (known texts : List (List ℕ)) (numbers : List ℕ) → HaveNumbers known texts numbers → All (λ n. n < length known) numbers
have-within known texts numbers have = λ k d inside.
    let there : k < length texts = omega (arith, inside, same-length known texts numbers have) in
    let found = position-Some (bytes_eq (get_or texts k [])) known (get_or numbers k 0) [] (have-at known texts numbers k have there) in
    omega (arith, found.0, get_or_default numbers k d 0 inside)

-- the shape of the message at a place
pub shape-at : (cells : List ℕ) (shapes : List (List ℕ)) (heard : List Told) (i : ℕ) → i < length heard
    → (message_at (messages_with cells shapes heard) i).shape ≡ shape_with cells shapes (told_at heard i).source
shape-at cells shapes heard i inside =
    ap (λ (m : Message). m.shape) (get_or-map (message_with cells shapes) heard i (record { at = 0; source = OfText [] }) (record { at = 0; shape = [] }) inside)

pub shape-there : (cells : List ℕ) (shapes : List (List ℕ)) (heard : List Told) (i : ℕ) → i < length heard
    → slice_get (shapes_of (messages_with cells shapes heard)) i ≡ Some (message_at (messages_with cells shapes heard) i).shape
shape-there cells shapes heard i inside =
    let messages = messages_with cells shapes heard in
    let within : i < length messages = omega (arith, inside, length-map heard (message_with cells shapes)) in
    slice_get-map (λ (m : Message). m.shape) messages i ∙ ap (option_map (λ (m : Message). m.shape)) (slice_get-get_or messages i (record { at = 0; shape = [] }) within)

-- a message as one of those that are grouped
pub items-are : (messages : List Message) → map weightless (shapes_of messages) ≡ map item_of messages
items-are [] = refl
items-are (message ∷ messages) = ap (λ l. item_of message ∷ l) (items-are messages)
