-- The bytes of what is open that were read, piece by piece.
use Rattle.std.proofs.Common.{◌≡◌, ℕ, true, List, [], ◌∷◌, ◌++◌, length, take, drop, refl, sym, ◌∙◌, ap, subst, arith}
use Rattle.std.specs.List.{starts_with}
use Rattle.std.specs.Prelude.{nat_eq}
use Rattle.std.specs.Cmp.Lexicographic.{pointwise}
use Rattle.std.proofs.lemmas.Bool.{and_parts, and_from, false≢true}
use Rattle.std.proofs.lemmas.List.{take-append-drop}
use Rattle.dump_io.specs.Limits.{Numbers}
use Rattle.dump_io.specs.Dumps.{Now, told, Gives}
use Rattle.dump_io.specs.Laws.Reads.{Gives-append}
use Rattle.section_index.specs.declared.opening.OpenFault.{OpenFault}
use Rattle.section_index.specs.Inner.Scanning.{IsHeaderFault, IsOfAHeader}
use Rattle.section_index.specs.Inner.Reading.{IsHeaderRefusal}

-- the first bytes, and the next
pub Gives-next : (now : Now) (bytes piece : List ℕ) (at : ℕ) → at ≡ length bytes → Gives now 0 bytes → Gives now at piece → Gives now 0 (bytes ++ piece)
Gives-next now bytes piece at place first second = grind (arith, Gives-append)

-- the whole is its first bytes and the rest
pub Gives-whole : (bytes all : List ℕ) → Gives (told all) 0 bytes → all ≡ bytes ++ drop (length bytes) all
Gives-whole bytes all first = sym (take-append-drop (length bytes) all) ∙ ap (λ r. r ++ drop (length bytes) all) (sym first)

pointwise-append : (start bytes more : List ℕ) → pointwise nat_eq start (take (length start) bytes) ≡ true → pointwise nat_eq start (take (length start) (bytes ++ more)) ≡ true
pointwise-append [] bytes more is = refl
pointwise-append (c ∷ start) [] more is = absurd (false≢true is)
pointwise-append (c ∷ start) (b ∷ bytes) more is =
    let parts = and_parts _ _ is in
    and_from _ _ parts.0 (pointwise-append start bytes more parts.1)

-- more bytes don't change how the first begin
pub starts_with-append : (bytes more start : List ℕ) → starts_with nat_eq bytes start ≡ true → starts_with nat_eq (bytes ++ more) start ≡ true
starts_with-append bytes more start is = pointwise-append start bytes more is

-- the refusal of a header of the first bytes
pub IsHeaderRefusal-first : (limits : Numbers) (now : Now) (bytes : List ℕ) (fault : OpenFault) → Gives now 0 bytes → IsOfAHeader fault
    → ((more : List ℕ) → IsHeaderFault limits (bytes ++ more) fault) → IsHeaderRefusal limits now fault
IsHeaderRefusal-first limits now bytes fault first kind refused = record {
  kind = kind;
  refusal = λ all is.
      subst (λ b. IsHeaderFault limits b fault) (sym (Gives-whole bytes all (subst (λ n. Gives n 0 bytes) is first))) (refused (drop (length bytes) all));
}
