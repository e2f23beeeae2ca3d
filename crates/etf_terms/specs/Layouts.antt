-- Layouts: which bytes are allowed at a place, depending on the bytes before it.
use Rattle.std.specs.Prelude.{◌≡◌, ℕ, zero, suc, Bool, true, List, [], ◌∷◌, IsTrue}
use Rattle.std.specs.Int.{w16, w32, w64, from_be_bytes}
use Rattle.etf_terms.specs.Heads.{Head}

-- which byte may come first, and what may follow it
pub data Layout : Type 0 where
  -- nothing more, and what the bytes are
  end : Head → Layout
  -- one byte that passes a test, followed by what depends on it
  byte : (ℕ → Bool) → (ℕ → Layout) → Layout

-- the bytes are laid out so, and are those of the head
abbrev pub IsLaid : Layout → List ℕ → Head → Type 0
IsLaid (end found) [] head = found ≡ head
IsLaid (end found) (b ∷ bytes) head = ⊥
IsLaid (byte test next) [] head = ⊥
IsLaid (byte test next) (b ∷ bytes) head = IsTrue (test b) × IsLaid (next b) bytes head

-- any byte
abbrev pub any_byte : (ℕ → Layout) → Layout
any_byte next = byte (λ b. true) next

-- this many bytes
abbrev pub run : ℕ → (List ℕ → Layout) → Layout
run zero next = next []
run (suc n) next = any_byte (λ b. run n (λ bytes. next (b ∷ bytes)))

-- a number in two bytes
abbrev pub number2 : (ℕ → Layout) → Layout
number2 next = run 2 (λ bytes. next (from_be_bytes w16 bytes))

-- a number in four bytes
abbrev pub number4 : (ℕ → Layout) → Layout
number4 next = run 4 (λ bytes. next (from_be_bytes w32 bytes))

-- a number in eight bytes
abbrev pub number8 : (ℕ → Layout) → Layout
number8 next = run 8 (λ bytes. next (from_be_bytes w64 bytes))
