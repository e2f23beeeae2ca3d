-- The bytes that characters write.
use Rattle.std.specs.Prelude.{ℕ, ◌==◌, List, length, Option, None, Some, if◌then◌else◌}
use Rattle.std.specs.Global.{Vec}
use Rattle.std.specs.Option.{option_map, option_and_then}
use Rattle.binary_payloads.specs.declared.enc.Enc.{Enc}
use Rattle.binary_payloads.specs.ReadingPayloads.{payload_bytes}

-- the bytes whose payload the characters are, if there are exactly this many
abbrev pub counted_bytes : Enc → ℕ → List ℕ → Option (List ℕ)
counted_bytes enc count chars = option_and_then (λ bytes. if length bytes == count then Some bytes else None) (payload_bytes enc chars)

-- the bytes of a vector, if there is one
abbrev pub bytes_in : Option (Vec ℕ) → Option (List ℕ)
bytes_in bytes = option_map (λ (v : Vec ℕ). v.items) bytes
