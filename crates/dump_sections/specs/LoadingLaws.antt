-- Laws of the definitions, each with its proof, for the proofs of callers: bodies that are judged, and why they aren't loaded.
use Rattle.std.proofs.Common.{◌≡◌, ℕ, ◌+◌, ◌≤◌, Bool, true, false, List, [], ◌∷◌, ◌++◌, Option, None, Some, refl, sym, ◌∙◌, ap, arith}
use Rattle.std.specs.Prelude.{All, cond, is_some, nat_lt}
use Rattle.std.specs.Option.{option_map, option_or, option_to_list}
use Rattle.dump_sections.specs.Bodies.{body_length, body_size}
use Rattle.dump_sections.specs.Sections.{Section}
use Rattle.dump_sections.specs.declared.bodies.BodyFault.{BodyFault}
use Rattle.dump_sections.specs.declared.bodies.BodyFault.TheVariants.{SectionTooLarge, Read, Memory}
use Rattle.dump_sections.specs.Loading.{bodies_length, first_large, large_section, large_fault, AreRefused, IsUnloaded}
use Rattle.dump_io.specs.Dumps.{DeviceState, DeviceFailed}
use Rattle.dump_io.specs.Laws.Options.{both-none, or-second, or-some}
use Rattle.std.proofs.lemmas.Bool.{ltb-false}
use Rattle.std.proofs.lemmas.List.Elements.{All-nil, All-cons}

-- the first of two lists that is too large is one of the first list, or one of the second
pub large-append : (limit : ℕ) (xs ys : List Section) → large_fault limit (xs ++ ys) ≡ option_or (large_fault limit xs) (large_fault limit ys)
large-append limit [] ys = refl
large-append limit (s ∷ xs) ys =
    elim (nat_lt limit (body_length s)) as (λ b. option_map large_section (cond b (Some s) (first_large limit (xs ++ ys)))
    ≡ option_or (option_map large_section (cond b (Some s) (first_large limit xs))) (large_fault limit ys)) [ true ↦ refl | false ↦ large-append limit xs ys ]

-- where none of both lists is too large, none of either is
pub small-both : (limit : ℕ) (xs ys : List Section) → large_fault limit (xs ++ ys) ≡ None → (large_fault limit xs ≡ None) × (large_fault limit ys ≡ None)
small-both limit xs ys none = both-none (large_fault limit xs) (large_fault limit ys) (sym (large-append limit xs ys) ∙ none)

-- where the first of two lists has a body that is too large, the refusal is that of both lists
pub large-first : (limit : ℕ) (xs ys : List Section) → is_some (large_fault limit xs) ≡ true → large_fault limit xs ≡ large_fault limit (xs ++ ys)
large-first limit xs ys some = sym (large-append limit xs ys ∙ or-some (large_fault limit xs) (large_fault limit ys) some)

-- where the first of two lists has no body that is too large, the refusal of the second is that of both lists
pub large-second : (limit : ℕ) (xs ys : List Section) → is_some (large_fault limit xs) ≡ false → large_fault limit ys ≡ large_fault limit (xs ++ ys)
large-second limit xs ys none = sym (large-append limit xs ys ∙ or-second (large_fault limit xs) (large_fault limit ys) none)

-- where nothing is refused, each body is within the limit
pub All-small : (limit : ℕ) (sections : List Section) → large_fault limit sections ≡ None → All (λ s. body_length s ≤ limit) sections
All-small limit [] none = All-nil (λ s. body_length s ≤ limit)
All-small limit (s ∷ sections) none = by (nat_lt limit (body_length s)) refl (All-small limit sections)
  where
    is_first : (b : Bool) → nat_lt limit (body_length s) ≡ b → option_map large_section (cond b (Some s) (first_large limit sections)) ≡ None
    is_first b is = sym (ap (λ b. option_map large_section (cond b (Some s) (first_large limit sections))) is) ∙ none

    by : (b : Bool) → nat_lt limit (body_length s) ≡ b → (large_fault limit sections ≡ None → All (λ s. body_length s ≤ limit) sections)
        → All (λ s. body_length s ≤ limit) (s ∷ sections)
    by true is rest = let large = is_first true is in absurd (let no : ⊥ = cc (large) in no)
    by false is rest = All-cons (λ s. body_length s ≤ limit) s sections (ltb-false _ _ is) (rest (is_first false is))

-- where no body is too large, a fault of judging and reading the bodies is one of reading alone
pub IsUnloaded-small : (limit : ℕ) (sections : List Section) (before after : DeviceState) (fault : BodyFault) → large_fault limit sections ≡ None
    → AreRefused sections limit before after fault → IsUnloaded before after fault
IsUnloaded-small limit sections before after Read none cause = (refl, cause.1)
IsUnloaded-small limit sections before after Memory none cause = tt
IsUnloaded-small limit sections before after (SectionTooLarge at len) none cause = absurd (let no : ⊥ = cc (none, cause) in no)

-- where no body is too large, a fault of reading alone is one of judging and reading the bodies
pub AreRefused-unread : (limit : ℕ) (sections : List Section) (before after : DeviceState) (fault : BodyFault) → large_fault limit sections ≡ None
    → IsUnloaded before after fault → AreRefused sections limit before after fault
AreRefused-unread limit sections before after Read none cause = (none, cause.1)
AreRefused-unread limit sections before after Memory none cause = tt
AreRefused-unread limit sections before after (SectionTooLarge at len) none cause = absurd (let no : ⊥ = cc (cause) in no)

-- a failure in one step of a call is one in the call
pub IsUnloaded-later : (step step' before after : DeviceState) (fault : BodyFault) → (DeviceFailed step step' → DeviceFailed before after)
    → IsUnloaded step step' fault → IsUnloaded before after fault
IsUnloaded-later step step' before after Read later cause = (refl, later cause.1)
IsUnloaded-later step step' before after Memory later cause = tt
IsUnloaded-later step step' before after (SectionTooLarge at len) later cause = absurd (let no : ⊥ = cc (cause) in no)

-- how many bytes two bodies have, either of which may be missing
pub bodies-two : (one other : Option Section) → bodies_length (option_to_list one ++ option_to_list other) ≡ body_size one + body_size other
bodies-two None None = refl
bodies-two None (Some other) = omega arith
bodies-two (Some one) None = omega arith
bodies-two (Some one) (Some other) = omega arith

-- how many bytes a body has that may be missing
pub bodies-one : (found : Option Section) → body_size found ≡ bodies_length (option_to_list found)
bodies-one None = refl
bodies-one (Some section) = omega arith
