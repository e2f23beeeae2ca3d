-- What contracts see of external terms, regardless of where they lie in memory.
use Rattle.std.specs.Prelude.{ℕ, List}
use denote.Ref.{Bor}
use Rattle.wait_requests.specs.declared.externals.External.{External}

-- how many bytes it has, and its characters
abbrev pub shown_sized : ℕ × Bor (List ℕ) → ℕ × List ℕ
shown_sized sized = (sized.0, sized.1.now)

-- the address of its line, how many bytes it has, and its characters
abbrev pub shown_external : External → ℕ × ℕ × List ℕ
shown_external line = (line.address, line.size, line.chars.now)
