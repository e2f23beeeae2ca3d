-- Elements of a dump's text: what a stack, a dictionary, a mailbox and the forms of a heap hold.
use Rattle.std.specs.Prelude.{◌≡◌, ◌⊎◌, ℕ, ◌≤◌, List, [], ◌∷◌, ◌++◌, length, take, Some, IsTrue, codes}
use Rattle.dump_io.specs.Numbers.{hex_number, hexadecimal}
use Rattle.term_forms.specs.Words.{comma, colon, bar, is_integer, IsBracketed, IsLed}

-- an element, regardless of where it lies in memory
pub data Element : Type 0 where
  Nil : Element
  Small : List ℕ → Element
  Atom : List ℕ → Element
  Pid : List ℕ → Element
  Port : List ℕ → Element
  Ref : ℕ → Element

-- the texts that spell an element
abbrev pub IsElem : List ℕ → Element → Type 0
-- `N` is the empty list
IsElem text Nil = text ≡ codes "N"
-- `I`, an optional minus, digits
IsElem text (Small integer) = (text ≡ codes "I" ++ integer) × IsTrue (is_integer integer)
-- `A`, a hex length, `:`, exactly that many bytes
IsElem text (Atom bytes) = (led : List ℕ) × (text ≡ codes "A" ++ led) × IsLed led (length bytes) bytes
-- `P<`, one or more of `0` to `9` and `.`, `>`
IsElem text (Pid pid) = (text ≡ codes "P" ++ pid) × IsBracketed pid
-- `p<` or `p#Port<`, one or more of `0` to `9` and `.`, `>`
IsElem text (Port port) = ((text ≡ codes "p" ++ port) ⊎ (text ≡ codes "p#Port" ++ port)) × IsBracketed port
-- `H`, a hex address
IsElem text (Ref address) = (hex : List ℕ) × (text ≡ codes "H" ++ hex) × (hex_number hex ≡ Some address)

-- the first n bytes of the text are the longest prefix of it that spells an element, which is e
pub record IsFront (text : List ℕ) (e : Element) (n : ℕ) : Type 0 where
  pub within : n ≤ length text
  pub spells : IsElem (take n text) e
  pub longest : (m : ℕ) (other : Element) → m ≤ length text → IsElem (take m text) other → m ≤ n

-- the plain spelling: numbers without leading zeros, ports as `p<..>`, and everything that is kept as it is
abbrev pub plain_elem : Element → List ℕ
plain_elem Nil = codes "N"
plain_elem (Small integer) = codes "I" ++ integer
plain_elem (Atom bytes) = codes "A" ++ (hexadecimal (length bytes) ++ colon ∷ bytes)
plain_elem (Pid pid) = codes "P" ++ pid
plain_elem (Port port) = codes "p" ++ port
plain_elem (Ref address) = codes "H" ++ hexadecimal address

-- the text is empty, or begins with one of the bytes that may follow an element
abbrev pub EndsElement : List ℕ → Type 0
EndsElement [] = Unit {0}
EndsElement (c ∷ text) = (c ≡ bar) ⊎ ((c ≡ comma) ⊎ (c ≡ colon))
