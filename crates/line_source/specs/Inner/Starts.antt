-- Where headers begin within a part of the stream.
use Rattle.std.specs.Prelude.{◌≡◌, ℕ, ◌-◌, ◌==◌, Bool, true, not, List, slice_index, if◌then◌else◌}
use Rattle.dump_io.specs.Lines.{lf, equals_sign}

-- whether a line begins at this place; `begun` says whether the first line of the bytes began before them
abbrev pub begins_line : Bool → List ℕ → ℕ → Bool
begins_line begun bytes k = if k == 0 then not begun else slice_index bytes (k - 1) == lf

-- a header begins at this place
abbrev pub BeginsHeader : Bool → List ℕ → ℕ → Type 0
BeginsHeader begun bytes k = (slice_index bytes k ≡ equals_sign) × (begins_line begun bytes k ≡ true)
