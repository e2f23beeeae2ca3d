-- Mailboxes are judged and counted one after another.
use Rattle.std.proofs.Common.{◌≡◌, ℕ, ◌+◌, ◌<◌, ◌≤◌, List, [], ◌∷◌, ◌++◌, length, take, Option, None, Some, sym, ◌∙◌, ap, append-nil, arith}
use Rattle.std.specs.Prelude.{All, get_or, drop}
use Rattle.std.specs.Option.{option_map}
use Rattle.std.proofs.lemmas.List.{map-append, take_more, take-append-drop}
use Rattle.std.proofs.lemmas.List.Sums.{sum_by-append}
use Rattle.std.proofs.lemmas.List.Elements.{All-nil, All-cons, All-head, All-tail, filter_map-append}
use Rattle.dump_sections.specs.Bodies.{body_length, section_at, at_place}
use Rattle.dump_sections.specs.Index.{Contents, sections_in}
use Rattle.dump_sections.specs.Sections.{Section}
use Rattle.dump_sections.specs.Loading.{bodies_length, sections_at}
use Rattle.dump_audit.specs.Mailboxes.{mailboxes_at}
use Rattle.dump_audit.specs.Inner.Mailboxes.{IsSmall}

bodies-append : (sections : List Section) (xs ys : List (Option ℕ))
    → bodies_length (mailboxes_at sections (xs ++ ys)) ≡ bodies_length (mailboxes_at sections xs) + bodies_length (mailboxes_at sections ys)
bodies-append sections xs ys =
    ap bodies_length (filter_map-append (option_map (at_place sections)) xs ys) ∙ sum_by-append body_length (mailboxes_at sections xs) (mailboxes_at sections ys)

module _ (sections : List Section) (places : List (Option ℕ)) (i : ℕ) (d : Option ℕ) (inside : i < length places) where
  pub bodies-more : bodies_length (mailboxes_at sections (take (i + 1) places)) ≡ bodies_length (mailboxes_at sections (take i places)) + bodies_length (mailboxes_at sections (get_or places i d ∷ []))
  bodies-more = ap (λ ps. bodies_length (mailboxes_at sections ps)) (take_more places i d inside) ∙ bodies-append sections (take i places) (get_or places i d ∷ [])

  pub bodies-upto : bodies_length (mailboxes_at sections (take i places)) + bodies_length (mailboxes_at sections (get_or places i d ∷ [])) ≤ bodies_length (mailboxes_at sections places)
  bodies-upto =
      omega (
        arith,
        bodies-more,
        ap (λ ps. bodies_length (mailboxes_at sections ps)) (sym (take-append-drop (i + 1) places)),
        bodies-append sections (take (i + 1) places) (drop (i + 1) places),
      )

-- one that isn't there is passed over, and another is taken
module _ (index : Contents) (places : List (Option ℕ)) (i : ℕ) (inside : i < length places) where
  mailboxes-more : mailboxes_at (sections_in index) (take (i + 1) places) ≡ mailboxes_at (sections_in index) (take i places) ++ mailboxes_at (sections_in index) (get_or places i None ∷ [])
  mailboxes-more =
      ap (mailboxes_at (sections_in index)) (take_more places i None inside)
      ∙ filter_map-append (option_map (at_place (sections_in index))) (take i places) (get_or places i None ∷ [])

  pub present-passed : (present : List ℕ) → get_or places i None ≡ None → sections_at index present ≡ mailboxes_at (sections_in index) (take i places)
      → sections_at index present ≡ mailboxes_at (sections_in index) (take (i + 1) places)
  present-passed present none so_far =
      so_far ∙ sym (append-nil (mailboxes_at (sections_in index) (take i places)))
      ∙ ap (λ o. mailboxes_at (sections_in index) (take i places) ++ mailboxes_at (sections_in index) (o ∷ [])) (sym none) ∙ sym mailboxes-more

  pub present-taken : (present : List ℕ) (j : ℕ) → get_or places i None ≡ Some j → sections_at index present ≡ mailboxes_at (sections_in index) (take i places)
      → sections_at index (present ++ j ∷ []) ≡ mailboxes_at (sections_in index) (take (i + 1) places)
  present-taken present j some so_far =
      map-append (section_at index) present (j ∷ []) ∙ ap (λ l. l ++ section_at index j ∷ []) so_far
      ∙ ap (λ o. mailboxes_at (sections_in index) (take i places) ++ mailboxes_at (sections_in index) (o ∷ [])) (sym some) ∙ sym mailboxes-more

-- where no mailbox is refused, none is too large
pub All-within : (index : Contents) (limit : ℕ) (places : List (Option ℕ)) → All (λ s. body_length s ≤ limit) (mailboxes_at (sections_in index) places) → All (IsSmall index limit) places
All-within index limit [] small = All-nil (IsSmall index limit)
All-within index limit (None ∷ places) small = All-cons (IsSmall index limit) None places tt (All-within index limit places small)
All-within index limit (Some i ∷ places) small =
    let mailboxes = mailboxes_at (sections_in index) places in
    All-cons (IsSmall index limit) (Some i) places (All-head (λ s. body_length s ≤ limit) (section_at index i) mailboxes small)
    (All-within index limit places (All-tail (λ s. body_length s ≤ limit) (section_at index i) mailboxes small))
