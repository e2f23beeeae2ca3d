-- The texts of pids, ports and references in a link list.
use Rattle.std.specs.Prelude.{ℕ, ◌+◌, ◌-◌, ◌==◌, Bool, false, ◌&&◌, ◌||◌, List, length, take, drop, Option, None, Some, codes, nat_eq, nat_lt, if◌then◌else◌}
use Rattle.std.specs.List.{list_all, starts_with, ends_with, position}
use Rattle.std.specs.Option.{is_some, option_and_then, option_map_or}
use Rattle.std.specs.Char.{is_ascii_digit}
use Rattle.dump_io.specs.Letters.{letter}
use Rattle.dump_io.specs.Numbers.{is_digits}

infixl 10 ◌>>=◌
-- a value, if there is one, passed on to a function that may give none
abbrev pub ◌>>=◌ : {A B : Type 0} → Option A → (A → Option B) → Option B
o >>= f = option_and_then f o

-- what stands after a front, if the text begins with it
unfoldable pub behind : List ℕ → List ℕ → Option (List ℕ)
behind front text = if starts_with nat_eq text front then Some (drop (length front) text) else None

-- what stands before a back, if the text ends with it
unfoldable pub before : List ℕ → List ℕ → Option (List ℕ)
before back text = if ends_with nat_eq text back then Some (take (length text - length back) text) else None

-- what stands between an opening and a closing, if the text begins and ends with them
unfoldable pub inside : List ℕ → List ℕ → List ℕ → Option (List ℕ)
inside front back text = behind front text >>= before back

-- whether a byte is a dot
abbrev pub is_dot : ℕ → Bool
is_dot c = c == letter (codes ".")

-- one or more digits and dots
abbrev pub is_dotted : List ℕ → Bool
is_dotted text = nat_lt 0 (length text) && list_all (λ c. is_ascii_digit c || is_dot c) text

-- what stands before and after the first dot, if there is one
unfoldable pub at_first_dot : List ℕ → Option (List ℕ × List ℕ)
at_first_dot text = position is_dot text >>= λ at. Some (take at text, drop (at + 1) text)

-- digits, a dot and digits
unfoldable pub is_pair : List ℕ → Bool
is_pair text = option_map_or (λ found. is_digits found.0 && is_digits found.1) (at_first_dot text) false

-- digits, a dot, digits, a dot and digits
unfoldable pub is_triple : List ℕ → Bool
is_triple text = option_map_or (λ found. is_digits found.0 && is_pair found.1) (at_first_dot text) false

-- a pid: `<`, digits, `.`, digits, `.`, digits, `>`
unfoldable pub is_pid : List ℕ → Bool
is_pid text = option_map_or is_triple (inside (codes "<") (codes ">") text) false

-- whether a pid is local: its first digits are exactly `0`
unfoldable pub is_local : List ℕ → Bool
is_local text = is_pid text && is_some (behind (codes "<0.") text)

-- a port: `#Port<`, one or more digits and dots, `>`
unfoldable pub is_port : List ℕ → Bool
is_port text = option_map_or is_dotted (inside (codes "#Port<") (codes ">") text) false

-- a reference: `#Ref<`, one or more digits and dots, `>`
unfoldable pub is_reference : List ℕ → Bool
is_reference text = option_map_or is_dotted (inside (codes "#Ref<") (codes ">") text) false

-- a registered name and its node, in braces: any bytes
unfoldable pub is_braced : List ℕ → Bool
is_braced text = is_some (inside (codes "{") (codes "}") text)
