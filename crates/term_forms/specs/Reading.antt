-- The element that a text spells, as functions with which the definitions of the crates above
-- compute. Nobody has to believe them, since they say no more than `Elements` does: the laws
-- `front_is_longest` and `whole_is_read` connect the two. `led_of` is in `Words`.
use Rattle.std.specs.Prelude.{ℕ, ◌+◌, ◌-◌, ◌==◌, ◌&&◌, List, [], ◌∷◌, length, take, drop, Option, None, Some, nat_eq, nat_lt, nat_le, codes, if◌then◌else◌, option_and_then}
use Rattle.std.specs.List.{prefix_len, starts_with}
use Rattle.std.specs.Char.{is_ascii_digit}
use Rattle.dump_io.specs.Numbers.{hex_number}
use Rattle.dump_io.specs.Letters.{letter}
use Rattle.term_forms.specs.Words.{is_hex_digit, is_number_byte}
use Rattle.term_forms.specs.Elements.{Element, Nil, Small, Atom, Pid, Port, Ref}
pub use Rattle.term_forms.specs.Words.{led_of}

infixl 10 ◌>>=◌
-- a value, if there is one, passed on to a function that may give none
abbrev pub ◌>>=◌ : {A B : Type 0} → Option A → (A → Option B) → Option B
o >>= f = option_and_then f o

-- the byte `-`
abbrev pub minus : ℕ
minus = letter (codes "-")

-- the byte `<`
abbrev pub less : ℕ
less = letter (codes "<")

-- the byte `>`
abbrev pub greater : ℕ
greater = letter (codes ">")

-- what may follow the tag of a port
abbrev pub port_word : List ℕ
port_word = codes "#Port"

-- how many digits begin the text, if there are any
unfoldable pub digits_len : List ℕ → Option ℕ
digits_len text = let n = prefix_len is_ascii_digit text in if n == 0 then None else Some n

-- the length of the integer that begins the text
unfoldable pub integer_len : List ℕ → Option ℕ
integer_len [] = None
integer_len (c ∷ text) = if c == minus then (digits_len text >>= λ n. Some (n + 1)) else digits_len (c ∷ text)

-- the length of the bracketed number that begins the text
unfoldable pub bracketed_len : List ℕ → Option ℕ
bracketed_len [] = None
bracketed_len (c ∷ text) =
    let n = prefix_len is_number_byte text in
    if c == less && nat_lt 0 n && starts_with nat_eq (drop n text) (greater ∷ []) then Some (n + 2) else None

-- each of the next five is given what stands after the tag of an element, and counts the tag's byte too
-- an integer
unfoldable pub small_front : List ℕ → Option (Element × ℕ)
small_front text = integer_len text >>= λ n. Some (Small (take n text), n + 1)

-- an atom: its length, and that many bytes
unfoldable pub atom_front : List ℕ → Option (Element × ℕ)
atom_front text = led_of text >>= λ led.
    if nat_le led.0 (length led.1) then Some (Atom (take led.0 led.1), length text - length led.1 + led.0 + 1) else None

-- a pid
unfoldable pub pid_front : List ℕ → Option (Element × ℕ)
pid_front text = bracketed_len text >>= λ n. Some (Pid (take n text), n + 1)

-- a port, with or without `#Port`
unfoldable pub port_front : List ℕ → Option (Element × ℕ)
port_front text =
    let skip = (if starts_with nat_eq text port_word then 5 else 0) in
    bracketed_len (drop skip text) >>= λ n. Some (Port (take n (drop skip text)), skip + n + 1)

-- a reference: the address, of at most 16 digits
unfoldable pub ref_front : List ℕ → Option (Element × ℕ)
ref_front text =
    let n = prefix_len is_hex_digit (take 16 text) in
    hex_number (take n text) >>= λ address. Some (Ref address, n + 1)

-- the longest prefix that spells an element: that element, and the prefix's length
unfoldable pub front : List ℕ → Option (Element × ℕ)
front [] = None
front (c ∷ text) =
    if c == letter (codes "N") then Some (Nil, 1)
    else (if c == letter (codes "I") then small_front text
    else (if c == letter (codes "A") then atom_front text
    else (if c == letter (codes "P") then pid_front text
    else (if c == letter (codes "p") then port_front text
    else (if c == letter (codes "H") then ref_front text else None)))))

-- the element that is the whole text
unfoldable pub whole_of : List ℕ → Option Element
whole_of text = option_and_then (λ found. if found.1 == length text then Some found.0 else None) (front text)
