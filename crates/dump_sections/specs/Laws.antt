-- Laws of the definitions, each with its proof, for the proofs of callers.
use Rattle.std.proofs.Common.{◌≡◌, ℕ, suc, ◌+◌, Bool, true, false, ◌&&◌, List, [], ◌∷◌, ◌++◌, length, Option, None, Some, refl, ap, arith, if◌then◌else◌}
use Rattle.std.specs.Prelude.{position}
use Rattle.std.specs.List.{position_from}
use Rattle.std.specs.Option.{option_eq, option_or}
use Rattle.std.specs.Str.{bytes_eq}
use Rattle.std.proofs.lemmas.Iterator.Adapters.{position_from-zero}
use Rattle.dump_io.specs.Dumps.{Now, closed, told, sized, size_of, IsOpen}
use Rattle.dump_io.specs.Lines.{Header, headers}
use Rattle.dump_sections.specs.Index.{Contents, IsBuiltOver, IsIndexOf, index_of}
use Rattle.dump_sections.specs.Lookups.{has_tag, is_named}
use Rattle.dump_sections.specs.Sections.{Section, id_of, sections_of}
use Rattle.dump_sections.specs.declared.version.Version.{Version}
use Rattle.dump_io.specs.Laws.Options.{or-none}

-- what an index holds
abbrev contents : List Header → ℕ → Version → Contents
contents headers size version = record { headers = headers; size = size; version = version }

-- there are as many sections as headers
pub length-sections_of : (headers : List Header) (size : ℕ) → length (sections_of headers size) ≡ length headers
length-sections_of [] size = refl
length-sections_of (header ∷ rest) size = ap suc (length-sections_of rest size)

-- an index of accepted bytes is the one that they have
pub index-is : (bytes : List ℕ) (index : Contents) → IsIndexOf bytes index → index ≡ index_of bytes
index-is bytes index of = grind arith

-- what is open has the size of the index that was built over it
pub built-size : (now : Now) (index : Contents) → IsBuiltOver now index → IsOpen now × (index.size ≡ size_of now)
built-size closed index over = absurd over
built-size (told dump) index over = (tt, over.size)
built-size (sized size) index over = (tt, over)

-- ---- the first section with a tag and an id, where a section comes behind the others

-- the first place of one element more
from-last : {X : Type 0} (p : X → Bool) (n : ℕ) (xs : List X) (y : X)
    → position_from p n (xs ++ y ∷ []) ≡ option_or (position_from p n xs) (if p y then Some (n + length xs) else None)
from-last p n [] y = let here : n ≡ n + 0 = omega arith in ap (λ m. if p y then Some m else None) here
from-last p n (x ∷ xs) y = grind (arith, from-last p (n + 1) xs y)

pub position-last : {X : Type 0} (p : X → Bool) (xs : List X) (y : X)
    → position p (xs ++ y ∷ []) ≡ option_or (position p xs) (if p y then Some (length xs) else None)
position-last p xs y = grind (arith, position_from-zero, from-last)

none-named : (b : Bool) (o : Option (List ℕ)) (id : List ℕ) → (if b then o else None) ≡ None → (b && option_eq bytes_eq o (Some id)) ≡ false
none-named b o id is = grind arith

some-named : (b : Bool) (o : Option (List ℕ)) (here id : List ℕ) → (if b then o else None) ≡ Some here → (b && option_eq bytes_eq o (Some id)) ≡ bytes_eq here id
some-named true o here id is = ap (λ o. option_eq bytes_eq o (Some id)) is
some-named false o here id is = absurd (let no : ⊥ = cc (is) in no)

-- the place of the first section with a tag and an id
abbrev first_named : List ℕ → List Section → List ℕ → Option ℕ
first_named tag sections id = position (λ section. is_named tag (Some id) section.text) sections

first-last : (tag : List ℕ) (before : List Section) (s : Section) (id : List ℕ)
    → first_named tag (before ++ s ∷ []) id ≡ option_or (first_named tag before id) (if is_named tag (Some id) s.text then Some (length before) else None)
first-last tag before s id = position-last (λ (section : Section). is_named tag (Some id) section.text) before s

-- a section without the tag, or without an id, is passed over
pub first-passed : (tag : List ℕ) (before : List Section) (s : Section) (id : List ℕ) → (if has_tag tag s.text then id_of s.text else None) ≡ None
    → first_named tag (before ++ s ∷ []) id ≡ first_named tag before id
first-passed tag before s id none = grind (arith, first-last, none-named, or-none)

-- a section with the tag and an id is the first with its id, unless one before it is
pub first-more : (tag : List ℕ) (before : List Section) (s : Section) (here id : List ℕ) → (if has_tag tag s.text then id_of s.text else None) ≡ Some here
    → first_named tag (before ++ s ∷ []) id ≡ option_or (first_named tag before id) (if bytes_eq here id then Some (length before) else None)
first-more tag before s here id some = grind (arith, first-last, some-named)
