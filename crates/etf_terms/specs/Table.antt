-- The table of tags. Each row is what follows its tag, up to the terms.
use Rattle.std.specs.Prelude.{ℕ, ◌*◌, ◌==◌, ◌||◌, ◌&&◌, nat_le, Bool, List, [], ◌∷◌, Option, None, Some, is_some, unwrap_or, if◌then◌else◌}
use Rattle.etf_terms.specs.Heads.{Head, Float, Bits, Pid, Port, Ref, Small, Int, Atom, Tuple, Nil, Chars, Linked, Bin, Big, Fun, Export, Pairs}
use Rattle.etf_terms.specs.Layouts.{Layout, end, byte, any_byte, run, number2, number4, number8}

-- a number, and that many bytes
abbrev pub sized : ((ℕ → Layout) → Layout) → (List ℕ → Layout) → Layout
sized number next = number (λ n. run n next)

-- a term of tag 100, 115, 118 or 119
abbrev pub atom : (List ℕ → Layout) → Layout
atom next =
    byte (λ tag. tag == 100 || (tag == 115 || (tag == 118 || tag == 119)))
    (λ tag. if tag == 100 then sized number2 next else (if tag == 115 then sized any_byte next
    else (if tag == 118 then sized number2 next else sized any_byte next)))

-- a term of tag 97
abbrev pub small : (ℕ → Layout) → Layout
small next = byte (λ tag. tag == 97) (λ tag. any_byte next)

-- a term of tag 97 or 98
abbrev pub integer : (List ℕ → Layout) → Layout
integer next = byte (λ tag. tag == 97 || tag == 98) (λ tag. if tag == 97 then run 1 next else run 4 next)

-- what follows tag 88 or 103, which differ in how the creation is written
abbrev pub pid_with : ((ℕ → Layout) → Layout) → (Head → Layout) → Layout
pid_with number next = atom (λ name. number4 (λ id. number4 (λ serial. number (λ creation. next (Pid name id serial creation)))))

-- a term of tag 88 or 103
abbrev pub pid : (Head → Layout) → Layout
pid next = byte (λ tag. tag == 88 || tag == 103) (λ tag. if tag == 88 then pid_with number4 next else pid_with any_byte next)

-- 0 or 1
abbrev pub sign : (ℕ → Layout) → Layout
sign next = byte (λ b. nat_le b 1) next

-- from 1 to 8
abbrev pub bits : (ℕ → Layout) → Layout
bits next = byte (λ b. nat_le 1 b && nat_le b 8) next

-- what follows tag 112
abbrev pub closure : Layout
closure =
    number4 (λ size. any_byte (λ arity. run 16 (λ unique. number4 (λ index. number4 (λ n.
    atom (λ name. integer (λ old_index. integer (λ old_unique. pid (λ owner. end (Fun name index arity n))))))))))

-- the tags, each with what follows it
abbrev pub table : List (ℕ × Layout)
table =
    (70, run 8 (λ bytes. end (Float bytes))) ∷
    (77, number4 (λ n. bits (λ b. run n (λ bytes. end (Bits b bytes))))) ∷
    (88, pid_with number4 (λ found. end found)) ∷
    (89, atom (λ name. number4 (λ id. number4 (λ creation. end (Port name id creation))))) ∷
    (90, number2 (λ n. atom (λ name. number4 (λ creation. run (4 * n) (λ words. end (Ref name creation words)))))) ∷
    (97, any_byte (λ b. end (Small b))) ∷
    (98, number4 (λ n. end (Int n))) ∷
    (100, sized number2 (λ name. end (Atom name))) ∷
    (102, atom (λ name. number4 (λ id. any_byte (λ creation. end (Port name id creation))))) ∷
    (103, pid_with any_byte (λ found. end found)) ∷
    (104, any_byte (λ n. end (Tuple n))) ∷
    (105, number4 (λ n. end (Tuple n))) ∷
    (106, end Nil) ∷
    (107, sized number2 (λ bytes. end (Chars bytes))) ∷
    (108, number4 (λ n. end (Linked n))) ∷
    (109, sized number4 (λ bytes. end (Bin bytes))) ∷
    (110, any_byte (λ n. sign (λ s. run n (λ digits. end (Big s digits))))) ∷
    (111, number4 (λ n. sign (λ s. run n (λ digits. end (Big s digits))))) ∷
    (112, closure) ∷
    (113, atom (λ name. atom (λ function. small (λ arity. end (Export name function arity))))) ∷
    (114, number2 (λ n. atom (λ name. any_byte (λ creation. run (4 * n) (λ words. end (Ref name creation words)))))) ∷
    (115, sized any_byte (λ name. end (Atom name))) ∷
    (116, number4 (λ n. end (Pairs n))) ∷
    (118, sized number2 (λ name. end (Atom name))) ∷
    (119, sized any_byte (λ name. end (Atom name))) ∷
    (120, atom (λ name. number8 (λ id. number4 (λ creation. end (Port name id creation))))) ∷
    []

-- what follows a tag in a list of rows, if the tag is in it
abbrev pub row_in : List (ℕ × Layout) → ℕ → Option Layout
row_in [] tag = None
row_in (row ∷ rows) tag = if tag == row.0 then Some row.1 else row_in rows tag

-- whether a byte is a tag
unfoldable pub is_tag : ℕ → Bool
is_tag tag = is_some (row_in table tag)

-- what follows a tag; it isn't asked for any byte that is no tag
unfoldable pub row : ℕ → Layout
row tag = unwrap_or (row_in table tag) (end Nil)

-- a tag and its row
abbrev pub head_layout : Layout
head_layout = byte is_tag row
