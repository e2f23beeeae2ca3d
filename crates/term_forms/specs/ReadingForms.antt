-- The form that a text spells, as a function with which the definitions of the crates above compute. Nobody
-- has to believe it, since it says no more than `Forms` does: the law `form_is_read` connects the two.
use Rattle.std.specs.Prelude.{ℕ, zero, suc, ◌==◌, List, [], ◌∷◌, drop, Option, None, Some, if◌then◌else◌, Bool, false, length, codes, nat_eq}
use Rattle.std.specs.Option.{unwrap_or, option_map_or}
use Rattle.dump_io.specs.Letters.{letter}
use Rattle.term_forms.specs.Words.{comma, colon, bar, led_of, is_long}
use Rattle.term_forms.specs.Elements.{Element}
use Rattle.term_forms.specs.Reading.{front, whole_of, ◌>>=◌, bracketed_len, port_word}
use Rattle.binary_payloads.specs.declared.enc.Enc.{Enc}
use Rattle.binary_payloads.specs.ReadingPayloads.{payload_bytes}
use Rattle.std.specs.List.{starts_with}
use Rattle.dump_io.specs.Numbers.{hex_number}
use Rattle.term_forms.specs.Forms.{HeapForm, Cons, Float, Port, HeapBin, RefBin, SubBin, Flat, Hash, Node, Tuple, Long, Pid, Ext}

-- what stands after the byte that begins the text, if that is the given one
unfoldable pub behind : ℕ → List ℕ → Option (List ℕ)
behind stop [] = None
behind stop (c ∷ text) = if c == stop then Some text else None

-- the element that begins the text, and what stands after the stop byte, which follows it
unfoldable pub until_of : ℕ → List ℕ → Option (Element × List ℕ)
until_of stop text = front text >>= λ found. behind stop (drop found.1 text) >>= λ rest. Some (found.0, rest)

-- the elements that the whole text spells, joined by commas, if it spells this many
unfoldable pub joined_of : ℕ → List ℕ → Option (List Element)
joined_of zero [] = Some []
joined_of zero (c ∷ text) = None
joined_of (suc zero) text = whole_of text >>= λ e. Some (e ∷ [])
joined_of (suc (suc n)) text = until_of comma text >>= λ found. joined_of (suc n) found.1 >>= λ es. Some (found.0 ∷ es)

-- the elements that the whole text spells, joined by commas; none if it doesn't spell this many
abbrev pub joined_list : ℕ → List ℕ → List Element
joined_list count text = unwrap_or (joined_of count text) []

-- the elements, from the first of them and the text of the others, of which this many are left
unfoldable pub with_first : ℕ → Option (Element × List ℕ) → Option (List Element)
with_first left found = found >>= λ found. joined_of left found.1 >>= λ es. Some (found.0 ∷ es)

-- whether the characters are the payload of this many bytes
unfoldable pub payload_test : Enc → ℕ → List ℕ → Bool
payload_test enc size chars = option_map_or (λ bytes. length bytes == size) (payload_bytes enc chars) false

-- each of the rest is given what stands after the tag of a form
-- a cons cell: the head, a bar, and the tail
unfoldable pub cons_of : List ℕ → Option HeapForm
cons_of text = until_of bar text >>= λ head. whole_of head.1 >>= λ tail. Some (Cons head.0 tail)

-- a number, and that many elements
unfoldable pub counted_of : List ℕ → Option (List Element)
counted_of text = led_of text >>= λ led. joined_of led.0 led.1

-- a float: its length, and exactly that many bytes
unfoldable pub float_of : List ℕ → Option HeapForm
float_of text = led_of text >>= λ led. if length led.1 == led.0 then Some (Float led.1) else None

-- the whole text, if it is a bracketed number
unfoldable pub bracketed_of : List ℕ → Option (List ℕ)
bracketed_of text = bracketed_len text >>= λ n. if n == length text then Some text else None

-- a port, with or without `#Port`
unfoldable pub port_of : List ℕ → Option HeapForm
port_of text = bracketed_of (drop (if starts_with nat_eq text port_word then 5 else 0) text) >>= λ port. Some (Port port)

-- a length, and the characters of that many bytes
unfoldable pub payload_of : Enc → List ℕ → Option (ℕ × List ℕ)
payload_of enc text = led_of text >>= λ led. if payload_test enc led.0 led.1 then Some led else None

-- an address, an offset and a size
unfoldable pub range_of : List ℕ → Option (ℕ × ℕ × ℕ)
range_of text =
    led_of text >>= λ address. led_of address.1 >>= λ offset. hex_number offset.1 >>= λ size. Some (address.0, offset.0, size)

-- a heap binary, a reference to a binary, or a sub binary, by the second letter
unfoldable pub binary_of : Enc → List ℕ → Option HeapForm
binary_of enc [] = None
binary_of enc (c ∷ text) =
    if c == letter (codes "h") then (payload_of enc text >>= λ bin. Some (HeapBin bin.0 bin.1))
    else (if c == letter (codes "c") then (range_of text >>= λ range. Some (RefBin range.0 range.1 range.2))
    else (if c == letter (codes "s") then (range_of text >>= λ range. Some (SubBin range.0 range.1 range.2)) else None))

-- a flat map: its size, the keys, and that many values
unfoldable pub flat_of : List ℕ → Option HeapForm
flat_of text =
    led_of text >>= λ led. until_of colon led.1 >>= λ keys. joined_of led.0 keys.1 >>= λ values. Some (Flat keys.0 values)

-- a hash map: its size, and its children with their number
unfoldable pub hash_of : List ℕ → Option HeapForm
hash_of text = led_of text >>= λ led. counted_of led.1 >>= λ children. Some (Hash led.0 children)

-- a flat map, a hash map, or an inner node of one, by the second letter
unfoldable pub map_of : List ℕ → Option HeapForm
map_of [] = None
map_of (c ∷ text) =
    if c == letter (codes "f") then flat_of text
    else (if c == letter (codes "h") then hash_of text
    else (if c == letter (codes "n") then (counted_of text >>= λ children. Some (Node children)) else None))

-- the form that the whole text spells
unfoldable pub form_of : Enc → List ℕ → Option HeapForm
form_of enc [] = None
form_of enc (c ∷ text) =
    if c == letter (codes "l") then cons_of text
    else (if c == letter (codes "t") then (counted_of text >>= λ elements. Some (Tuple elements))
    else (if c == letter (codes "F") then float_of text
    else (if c == letter (codes "B") then (if is_long text then Some (Long text) else None)
    else (if c == letter (codes "P") then (bracketed_of text >>= λ pid. Some (Pid pid))
    else (if c == letter (codes "p") then port_of text
    else (if c == letter (codes "E") then (payload_of enc text >>= λ ext. Some (Ext ext.0 ext.1))
    else (if c == letter (codes "Y") then binary_of enc text
    else (if c == letter (codes "M") then map_of text else None))))))))
