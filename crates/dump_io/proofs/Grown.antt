-- Writes one after another.
use Rattle.std.proofs.Common.{◌≡◌, ℕ, ◌+◌, ◌-◌, List, length, take, drop, Option, arith}
use Rattle.std.proofs.lemmas.Grind.{common_steps}
use Rattle.dump_io.specs.Sinks.{grown}
use Rattle.dump_io.specs.Laws.Puts.{grown-grown}
use Rattle.dump_io.specs.Laws.Reads.{take-two}

-- a slice to the end
pub rest-of : (bytes : List ℕ) (d : ℕ) → take (length bytes - d) (drop d bytes) ≡ drop d bytes
rest-of bytes d = grind (arith, common_steps)

-- the front of a piece that was written after another front
pub grown-next : (w v u : Option (List ℕ)) (bytes : List ℕ) (d n : ℕ) → v ≡ grown w (take d bytes)
    → u ≡ grown v (take n (take (length bytes - d) (drop d bytes))) → u ≡ grown w (take (d + n) bytes)
grown-next w v u bytes d n first second = grind (arith, rest-of, grown-grown, take-two)
