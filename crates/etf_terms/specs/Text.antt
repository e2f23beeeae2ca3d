-- The text of a term.
use Rattle.std.specs.Prelude.{ℕ, ◌+◌, ◌-◌, ◌^◌, ◌%◌, ◌==◌, ◌&&◌, nat_lt, Bool, false, List, [], ◌∷◌, ◌++◌, length, take, reverse, codes, decimal, if◌then◌else◌}
use Rattle.std.specs.Int.{w32, from_be_bytes}
use Rattle.std.specs.List.{flat_map}
use Rattle.dump_io.specs.Atoms.{atom_text}
use Rattle.dump_io.specs.Numbers.{hex_byte}
use Rattle.etf_terms.specs.declared.stack.Kind.{Kind}
use Rattle.etf_terms.specs.declared.stack.Kind.TheVariants as kinds
use Rattle.etf_terms.specs.Heads.{Head, Float, Bits, Pid, Port, Ref, Small, Int, Atom, Tuple, Nil, Chars, Linked, Bin, Big, Fun, Export, Pairs, kids}
use Rattle.etf_terms.specs.Terms.{Term, node, Terms, none, more}

-- how the terms after a head are written
abbrev pub terms_kind : Head → Kind
terms_kind (Tuple n) = kinds.Tuple
terms_kind (Linked n) = kinds.Linked
terms_kind (Fun name index arity n) = kinds.Fun
terms_kind (Pairs n) = kinds.Pairs
terms_kind head = kinds.Plain

-- the first 32 bytes of a binary, in upper-case hex
abbrev pub first_bytes_text : List ℕ → List ℕ
first_bytes_text bytes = flat_map hex_byte (take 32 bytes) ++ ((if nat_lt 32 (length bytes) then codes ".." else []) ++ codes ">")

-- the size of a binary, and its first bytes
abbrev pub bin_text : List ℕ → List ℕ
bin_text bytes = codes "#Bin<" ++ (decimal (length bytes) ++ (codes ":" ++ first_bytes_text bytes))

-- the size of a bit string, how many bits of its last byte count, and its first bytes
abbrev pub bits_text : ℕ → List ℕ → List ℕ
bits_text bits bytes = codes "#Bits<" ++ (decimal (length bytes) ++ (codes "/" ++ (decimal bits ++ (codes ":" ++ first_bytes_text bytes))))

-- the eight bytes of a float in hex
abbrev pub float_text : List ℕ → List ℕ
float_text bytes = codes "#Float<" ++ (flat_map hex_byte bytes ++ codes ">")

-- a `.` and a number
abbrev pub dotted : ℕ → List ℕ
dotted n = codes "." ++ decimal n

-- the node's name, and the three numbers of a pid
abbrev pub pid_text : List ℕ → ℕ → ℕ → ℕ → List ℕ
pid_text name id serial creation = codes "#Pid<" ++ (atom_text name ++ (dotted id ++ (dotted serial ++ (dotted creation ++ codes ">"))))

-- the node's name, and the two numbers of a port
abbrev pub external_port_text : List ℕ → ℕ → ℕ → List ℕ
external_port_text name id creation = codes "#Port<" ++ (atom_text name ++ (dotted id ++ (dotted creation ++ codes ">")))

-- each word of four bytes
abbrev pub words_text : List ℕ → List ℕ
words_text (a ∷ b ∷ c ∷ d ∷ bytes) = dotted (from_be_bytes w32 (a ∷ b ∷ c ∷ d ∷ [])) ++ words_text bytes
words_text bytes = []

-- the node's name, the creation, and the words of a reference
abbrev pub ref_text : List ℕ → ℕ → List ℕ → List ℕ
ref_text name creation words = codes "#Ref<" ++ (atom_text name ++ (dotted creation ++ (words_text words ++ codes ">")))

-- four bytes in two's complement
abbrev pub int_text : ℕ → List ℕ
int_text n = if nat_lt n (2 ^ 31) then decimal n else codes "-" ++ decimal (2 ^ 32 - n)

-- a comma and a number
abbrev pub comma_number : ℕ → List ℕ
comma_number n = codes "," ++ decimal n

-- a list of bytes as numbers
abbrev pub chars_text : List ℕ → List ℕ
chars_text [] = codes "[]"
chars_text (b ∷ bytes) = codes "[" ++ (decimal b ++ (flat_map comma_number bytes ++ codes "]"))

-- the module's name, the index and the arity of a function, before its terms
abbrev pub fun_text : List ℕ → ℕ → ℕ → List ℕ
fun_text name index arity = codes "#Fun<" ++ (atom_text name ++ (codes "/" ++ (decimal index ++ (codes "/" ++ (decimal arity ++ codes ":")))))

-- the names of a module and of a function, and its arity
abbrev pub export_text : List ℕ → List ℕ → ℕ → List ℕ
export_text name function arity = codes "fun " ++ (atom_text name ++ (codes ":" ++ (atom_text function ++ (codes "/" ++ decimal arity))))

-- the digits in base 256 from the last to the first
abbrev pub digits_text : List ℕ → List ℕ
digits_text digits = if length digits == 0 then codes "00" else flat_map hex_byte (reverse digits)

-- the sign of a big number, and its digits
abbrev pub big_text : ℕ → List ℕ → List ℕ
big_text sign digits = (if sign == 1 then codes "-" else []) ++ (codes "16#" ++ digits_text digits)

-- a head's own text, before its terms
abbrev pub opening_text : Head → List ℕ
opening_text (Float bytes) = float_text bytes
opening_text (Bits bits bytes) = bits_text bits bytes
opening_text (Pid name id serial creation) = pid_text name id serial creation
opening_text (Port name id creation) = external_port_text name id creation
opening_text (Ref name creation words) = ref_text name creation words
opening_text (Small value) = decimal value
opening_text (Int value) = int_text value
opening_text (Atom name) = atom_text name
opening_text (Tuple n) = codes "{"
opening_text Nil = codes "[]"
opening_text (Chars bytes) = chars_text bytes
-- without elements it is only the tail
opening_text (Linked n) = if n == 0 then [] else codes "["
opening_text (Bin bytes) = bin_text bytes
opening_text (Big sign digits) = big_text sign digits
opening_text (Fun name index arity n) = fun_text name index arity
opening_text (Export name function arity) = export_text name function arity
opening_text (Pairs n) = codes "#{"

-- what comes after this many terms
abbrev pub closing : Kind → ℕ → List ℕ
closing kinds.Plain count = []
closing kinds.Tuple count = codes "}"
closing kinds.Linked count = if count == 1 then [] else codes "]"
closing kinds.Fun count = codes ">"
closing kinds.Pairs count = codes "}"

-- what comes before the term with number i
abbrev pub between : Kind → ℕ → ℕ → List ℕ
between kinds.Plain count i = []
-- the last is the tail
between kinds.Linked count i = if i == 0 then [] else (if i + 1 == count then codes "|" else codes ",")
between kinds.Pairs count i = if i == 0 then [] else (if i % 2 == 1 then codes "=>" else codes ",")
-- the elements of a tuple, and the terms of a function
between kind count i = if i == 0 then [] else codes ","

-- a tail of tag 106 isn't written after elements
abbrev pub is_end : Kind → ℕ → ℕ → Head → Bool
is_end kinds.Linked count i Nil = nat_lt 0 i && i + 1 == count
is_end kind count i head = false

-- what comes before the terms of the term with number i
abbrev pub own_text : Kind → ℕ → ℕ → Head → List ℕ
own_text kind count i head = if is_end kind count i head then [] else between kind count i ++ opening_text head

abbrev mutual
  -- a head's own text, and its terms
  pub text : Term → List ℕ
  text (node head terms) = opening_text head ++ inner (terms_kind head) (kids head) 0 terms

  -- the terms of a head from number i on
  pub inner : Kind → ℕ → ℕ → Terms → List ℕ
  inner kind count i none = closing kind count
  inner kind count i (more term terms) = placed kind count i term ++ inner kind count (i + 1) terms

  -- the term with number i, and what comes before it
  pub placed : Kind → ℕ → ℕ → Term → List ℕ
  placed kind count i (node head terms) = own_text kind count i head ++ inner (terms_kind head) (kids head) 0 terms
