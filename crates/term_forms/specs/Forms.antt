-- The forms of heap cells.
use Rattle.std.specs.Prelude.{◌≡◌, ◌⊎◌, ℕ, List, ◌∷◌, ◌++◌, length, Some, IsTrue, codes}
use Rattle.dump_io.specs.Numbers.{hex_number, hexadecimal}
use Rattle.binary_payloads.specs.declared.enc.Enc.{Enc}
use Rattle.term_forms.specs.Words.{colon, bar, is_long, IsBracketed, IsLed}
use Rattle.term_forms.specs.Elements.{Element, IsElem, plain_elem}
use Rattle.term_forms.specs.Joined.{IsJoined, plain_joined}
use Rattle.binary_payloads.specs.Payload.{IsPayloadOf}

-- a form, regardless of where it lies in memory
pub data HeapForm : Type 0 where
  Cons : Element → Element → HeapForm
  Tuple : List Element → HeapForm
  Float : List ℕ → HeapForm
  Long : List ℕ → HeapForm
  Pid : List ℕ → HeapForm
  Port : List ℕ → HeapForm
  Ext : ℕ → List ℕ → HeapForm
  HeapBin : ℕ → List ℕ → HeapForm
  RefBin : ℕ → ℕ → ℕ → HeapForm
  SubBin : ℕ → ℕ → ℕ → HeapForm
  Flat : Element → List Element → HeapForm
  Hash : ℕ → List Element → HeapForm
  Node : List Element → HeapForm

-- an address, an offset and a size, with a `:` between them
abbrev pub IsRange : List ℕ → ℕ → ℕ → ℕ → Type 0
IsRange text address offset size =
    (behind : List ℕ) × (digits : List ℕ) × IsLed text address behind × IsLed behind offset digits × (hex_number digits ≡ Some size)

-- the texts that spell a form
abbrev pub IsForm : Enc → List ℕ → HeapForm → Type 0
-- `l`, an element, `|`, an element
IsForm enc text (Cons head tail) =
    (first : List ℕ) × (rest : List ℕ) × (text ≡ codes "l" ++ (first ++ bar ∷ rest)) × IsElem first head × IsElem rest tail
-- `t`, a hex arity, `:`, that many elements joined by `,`
IsForm enc text (Tuple elements) =
    (led : List ℕ) × (rest : List ℕ) × (text ≡ codes "t" ++ led) × IsLed led (length elements) rest × IsJoined rest elements
-- `F`, a hex length, `:`, exactly that many bytes
IsForm enc text (Float bytes) = (led : List ℕ) × (text ≡ codes "F" ++ led) × IsLed led (length bytes) bytes
-- `B`, an optional minus, and either digits, or `16#` and hex digits
IsForm enc text (Long number) = (text ≡ codes "B" ++ number) × IsTrue (is_long number)
-- `P<`, one or more of `0` to `9` and `.`, `>`
IsForm enc text (Pid pid) = (text ≡ codes "P" ++ pid) × IsBracketed pid
-- `p<` or `p#Port<`, one or more of `0` to `9` and `.`, `>`
IsForm enc text (Port port) = ((text ≡ codes "p" ++ port) ⊎ (text ≡ codes "p#Port" ++ port)) × IsBracketed port
-- `E`, a hex length, `:`, the payload of that many bytes
IsForm enc text (Ext size chars) = (led : List ℕ) × (text ≡ codes "E" ++ led) × IsLed led size chars × IsPayloadOf enc chars size
-- `Yh`, a hex length, `:`, the payload of that many bytes
IsForm enc text (HeapBin size chars) =
    (led : List ℕ) × (text ≡ codes "Yh" ++ led) × IsLed led size chars × IsPayloadOf enc chars size
-- `Yc`, a hex address, `:`, a hex offset, `:`, a hex size
IsForm enc text (RefBin address offset size) = (range : List ℕ) × (text ≡ codes "Yc" ++ range) × IsRange range address offset size
-- `Ys`, a hex address, `:`, a hex offset, `:`, a hex size
IsForm enc text (SubBin address offset size) = (range : List ℕ) × (text ≡ codes "Ys" ++ range) × IsRange range address offset size
-- `Mf`, a hex size, `:`, the keys element, `:`, that many values joined by `,`
IsForm enc text (Flat keys values) =
    (led : List ℕ) × (first : List ℕ) × (rest : List ℕ) × (text ≡ codes "Mf" ++ led)
    × IsLed led (length values) (first ++ colon ∷ rest) × IsElem first keys × IsJoined rest values
-- `Mh`, a hex size, `:`, a hex count, `:`, as many children as the count says, joined by `,`
IsForm enc text (Hash size children) =
    (led : List ℕ) × (counted : List ℕ) × (rest : List ℕ) × (text ≡ codes "Mh" ++ led)
    × IsLed led size counted × IsLed counted (length children) rest × IsJoined rest children
-- `Mn`, a hex count, `:`, that many children joined by `,`
IsForm enc text (Node children) =
    (led : List ℕ) × (rest : List ℕ) × (text ≡ codes "Mn" ++ led) × IsLed led (length children) rest × IsJoined rest children

-- the plain spelling: numbers without leading zeros, ports as `p<..>`, and everything that is kept as it is
abbrev pub plain_form : HeapForm → List ℕ
plain_form (Cons head tail) = codes "l" ++ (plain_elem head ++ bar ∷ plain_elem tail)
plain_form (Tuple elements) = codes "t" ++ (hexadecimal (length elements) ++ colon ∷ plain_joined elements)
plain_form (Float bytes) = codes "F" ++ (hexadecimal (length bytes) ++ colon ∷ bytes)
plain_form (Long number) = codes "B" ++ number
plain_form (Pid pid) = codes "P" ++ pid
plain_form (Port port) = codes "p" ++ port
plain_form (Ext size chars) = codes "E" ++ (hexadecimal size ++ colon ∷ chars)
plain_form (HeapBin size chars) = codes "Yh" ++ (hexadecimal size ++ colon ∷ chars)
plain_form (RefBin address offset size) = codes "Yc" ++ (hexadecimal address ++ colon ∷ (hexadecimal offset ++ colon ∷ hexadecimal size))
plain_form (SubBin address offset size) = codes "Ys" ++ (hexadecimal address ++ colon ∷ (hexadecimal offset ++ colon ∷ hexadecimal size))
plain_form (Flat keys values) = codes "Mf" ++ (hexadecimal (length values) ++ colon ∷ (plain_elem keys ++ colon ∷ plain_joined values))
plain_form (Hash size children) = codes "Mh" ++ (hexadecimal size ++ colon ∷ (hexadecimal (length children) ++ colon ∷ plain_joined children))
plain_form (Node children) = codes "Mn" ++ (hexadecimal (length children) ++ colon ∷ plain_joined children)
