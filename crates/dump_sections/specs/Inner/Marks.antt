-- Numbers that tell tags apart without reading them.
use Rattle.std.specs.Prelude.{ℕ, ◌+◌, ◌*◌, ◌%◌, ◌^◌, List}
use Rattle.std.specs.Cmp.Lexicographic.{slice_cmp}
use Rattle.std.specs.List.{fold}
use Rattle.std.specs.Ordering.{nat_cmp, ordering_then}
use Rattle.std.specs.declared.cmp.Ordering.{Ordering}
use denote.Ref.{Bor}

-- the mark of a tag, computed from one byte after another
unfoldable pub mark_of : List ℕ → ℕ
mark_of tag = fold (λ mark b. ((mark * 1099511628211) % 2 ^ 64 + b) % 2 ^ 64) 0 tag

-- how a tag compares to a tag and its mark: the marks are compared first
abbrev pub mark_cmp : List ℕ → ℕ × Bor (List ℕ) → Ordering
mark_cmp tag key = ordering_then (nat_cmp (mark_of tag) key.0) (slice_cmp nat_cmp tag key.1.now)
