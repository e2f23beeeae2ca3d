-- How the readers proceed: each takes what it reads off the front, or
-- returns how many bytes are left from the first that isn't allowed there.
use Rattle.std.specs.Prelude.{◌≡◌, ℕ, suc, ◌*◌, ◌==◌, ◌&&◌, nat_le, Bool, true, false, List, [], ◌∷◌, length, take, drop, Option, None, Some, Result, Ok, Err, if◌then◌else◌}
use Rattle.std.specs.Int.{w16, w32, w64, from_be_bytes}
use Rattle.etf_terms.specs.Heads.{Head, Float, Bits, Pid, Port, Ref, Small, Int, Atom, Tuple, Nil, Chars, Linked, Bin, Big, Fun, Export, Pairs}
use Rattle.etf_terms.specs.Table.{head_layout}
use Rattle.etf_terms.specs.Inner.Walks.{Reading, Got, Off, reading}
use Rattle.etf_terms.specs.declared.heads.HeadRead.{HeadRead}
use Rattle.etf_terms.specs.declared.heads.HeadRead.TheVariants as heads

-- a value and the bytes after it
abbrev pub Parsed : Type 0 → Type 0
Parsed A = Result (A × List ℕ) ℕ

infixl 10 ◌>>=◌
abbrev pub ◌>>=◌ : {A B : Type 0} → Parsed A → (A × List ℕ → Parsed B) → Parsed B
(Ok x) >>= f = f x
(Err left) >>= f = Err left

-- what a function returned, as contracts see it, is what was read
abbrev pub Gives : {X Y : Type 0} → (X → Y) → Result X ℕ → Result Y ℕ → Type 0
Gives view (Ok x) read = read ≡ Ok (view x)
Gives view (Err left) read = read ≡ Err left

-- a head, regardless of where it lies in memory
abbrev pub head : HeadRead → Head
head (heads.Float bytes) = Float bytes.now
head (heads.Bits bits bytes) = Bits bits bytes.now
head (heads.Pid name id serial creation) = Pid name.now id serial creation
head (heads.Port name id creation) = Port name.now id creation
head (heads.Ref name creation words) = Ref name.now creation words.now
head (heads.Small value) = Small value
head (heads.Int value) = Int value
head (heads.Atom name) = Atom name.now
head (heads.Tuple n) = Tuple n
head heads.Nil = Nil
head (heads.Chars bytes) = Chars bytes.now
head (heads.Linked n) = Linked n
head (heads.Bin bytes) = Bin bytes.now
head (heads.Big sign digits) = Big sign digits.now
head (heads.Fun name index arity n) = Fun name.now index arity n
head (heads.Export name function arity) = Export name.now function.now arity
head (heads.Pairs n) = Pairs n

-- a head of the one value that a part reads
abbrev pub headed : {A : Type 0} → (A → Head) → Parsed A → Parsed Head
headed make part = part >>= λ found. Ok (make found.0, found.1)

unfoldable pub byte_of : List ℕ → Parsed ℕ
byte_of [] = Err 0
byte_of (b ∷ bytes) = Ok (b, bytes)

unfoldable pub run_of : ℕ → List ℕ → Parsed (List ℕ)
run_of n bytes = if nat_le n (length bytes) then Ok (take n bytes, drop n bytes) else Err 0

unfoldable pub number2_of : List ℕ → Parsed ℕ
number2_of bytes = run_of 2 bytes >>= λ two. Ok (from_be_bytes w16 two.0, two.1)

unfoldable pub number4_of : List ℕ → Parsed ℕ
number4_of bytes = run_of 4 bytes >>= λ four. Ok (from_be_bytes w32 four.0, four.1)

-- a count in one, two or four bytes, and that many bytes
unfoldable pub sized1_of : List ℕ → Parsed (List ℕ)
sized1_of bytes = byte_of bytes >>= λ n. run_of n.0 n.1

unfoldable pub sized2_of : List ℕ → Parsed (List ℕ)
sized2_of bytes = number2_of bytes >>= λ n. run_of n.0 n.1

unfoldable pub sized4_of : List ℕ → Parsed (List ℕ)
sized4_of bytes = number4_of bytes >>= λ n. run_of n.0 n.1

unfoldable pub number8_of : List ℕ → Parsed ℕ
number8_of bytes = run_of 8 bytes >>= λ eight. Ok (from_be_bytes w64 eight.0, eight.1)

unfoldable pub atom_of : List ℕ → Parsed (List ℕ)
atom_of [] = Err 0
atom_of (tag ∷ bytes) =
    if tag == 100 then sized2_of bytes
    else (if tag == 115 then sized1_of bytes
    else (if tag == 118 then sized2_of bytes
    else (if tag == 119 then sized1_of bytes else Err (suc (length bytes)))))

unfoldable pub small_of : List ℕ → Parsed ℕ
small_of [] = Err 0
small_of (tag ∷ bytes) = if tag == 97 then byte_of bytes else Err (suc (length bytes))

unfoldable pub integer_of : List ℕ → Parsed (List ℕ)
integer_of [] = Err 0
integer_of (tag ∷ bytes) = if tag == 97 then run_of 1 bytes else (if tag == 98 then run_of 4 bytes else Err (suc (length bytes)))

-- a number in four bytes, or in one
unfoldable pub creation_of : Bool → List ℕ → Parsed ℕ
creation_of wide bytes = if wide then number4_of bytes else byte_of bytes

unfoldable pub pid_with_of : Bool → List ℕ → Parsed Head
pid_with_of wide bytes =
    atom_of bytes >>= λ name. number4_of name.1 >>= λ id. number4_of id.1 >>= λ serial. creation_of wide serial.1 >>= λ creation.
    Ok (Pid name.0 id.0 serial.0 creation.0, creation.1)

unfoldable pub pid_of : List ℕ → Parsed Head
pid_of [] = Err 0
pid_of (tag ∷ bytes) = if tag == 88 then pid_with_of true bytes else (if tag == 103 then pid_with_of false bytes else Err (suc (length bytes)))

unfoldable pub sign_of : List ℕ → Parsed ℕ
sign_of [] = Err 0
sign_of (b ∷ bytes) = if nat_le b 1 then Ok (b, bytes) else Err (suc (length bytes))

unfoldable pub part_of : List ℕ → Parsed ℕ
part_of [] = Err 0
part_of (b ∷ bytes) = if nat_le 1 b && nat_le b 8 then Ok (b, bytes) else Err (suc (length bytes))

unfoldable pub float_of : List ℕ → Parsed Head
float_of bytes = run_of 8 bytes >>= λ eight. Ok (Float eight.0, eight.1)

unfoldable pub bits_of : List ℕ → Parsed Head
bits_of bytes = number4_of bytes >>= λ n. part_of n.1 >>= λ b. run_of n.0 b.1 >>= λ found. Ok (Bits b.0 found.0, found.1)

unfoldable pub port_with_of : Bool → List ℕ → Parsed Head
port_with_of wide bytes =
    atom_of bytes >>= λ name. number4_of name.1 >>= λ id. creation_of wide id.1 >>= λ creation.
    Ok (Port name.0 id.0 creation.0, creation.1)

unfoldable pub port120_of : List ℕ → Parsed Head
port120_of bytes = atom_of bytes >>= λ name. number8_of name.1 >>= λ id. number4_of id.1 >>= λ creation. Ok (Port name.0 id.0 creation.0, creation.1)

unfoldable pub ref_with_of : Bool → List ℕ → Parsed Head
ref_with_of wide bytes =
    number2_of bytes >>= λ n. atom_of n.1 >>= λ name. creation_of wide name.1 >>= λ creation. run_of (4 * n.0) creation.1 >>= λ words.
    Ok (Ref name.0 creation.0 words.0, words.1)

-- the sign of a big number and its digits
unfoldable pub big_of : ℕ → List ℕ → Parsed Head
big_of n bytes = sign_of bytes >>= λ s. run_of n s.1 >>= λ digits. Ok (Big s.0 digits.0, digits.1)

unfoldable pub small_big_of : List ℕ → Parsed Head
small_big_of bytes = byte_of bytes >>= λ n. big_of n.0 n.1

unfoldable pub large_big_of : List ℕ → Parsed Head
large_big_of bytes = number4_of bytes >>= λ n. big_of n.0 n.1

-- the two integers and the pid after a function's name
unfoldable pub owner_of : List ℕ → Parsed Head
owner_of bytes = integer_of bytes >>= λ old_index. integer_of old_index.1 >>= λ old_unique. pid_of old_unique.1

unfoldable pub closure_of : List ℕ → Parsed Head
closure_of bytes =
    number4_of bytes >>= λ size. byte_of size.1 >>= λ arity. run_of 16 arity.1 >>= λ unique. number4_of unique.1 >>= λ index. number4_of index.1 >>= λ n.
    atom_of n.1 >>= λ name. owner_of name.1 >>= λ owner. Ok (Fun name.0 index.0 arity.0 n.0, owner.1)

unfoldable pub export_of : List ℕ → Parsed Head
export_of bytes = atom_of bytes >>= λ name. atom_of name.1 >>= λ function. small_of function.1 >>= λ arity. Ok (Export name.0 function.0 arity.0, arity.1)

-- a reading in the form that the readers return
abbrev pub parsed : Reading → Parsed Head
parsed (Got head rest) = Ok (head, rest)
parsed (Off rest) = Err (length rest)

-- the head at the front, as the table lays it out
unfoldable pub head_of : List ℕ → Parsed Head
head_of bytes = parsed (reading head_layout bytes)

-- a head behind which nothing is left
abbrev pub only_head : Head → List ℕ → Option Head
only_head head [] = Some head
only_head head (b ∷ rest) = None
