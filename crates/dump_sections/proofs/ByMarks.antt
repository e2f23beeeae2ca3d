-- Tags that are sought by their marks first.
use Rattle.std.proofs.Common.{arith, ◌≡◌, ℕ, false, List, Option}
use Rattle.std.specs.BTreeMap.{BTreeMap, UpdatesBy, get_by}
use Rattle.std.specs.Cmp.Lexicographic.{slice_cmp}
use Rattle.std.specs.Map.{update}
use Rattle.std.specs.Ordering.{nat_cmp, is_eq, ordering_then}
use Rattle.std.specs.Str.{bytes_eq}
use Rattle.std.specs.declared.cmp.Ordering.{Ordering}
use Rattle.std.specs.declared.cmp.Ordering.TheVariants.{Equal}
use Rattle.std.proofs.lemmas.Cmp.{nat_cmp_total, tied_itself}
use Rattle.std.proofs.lemmas.Map.Text.{is_eq-slice_cmp}
use Rattle.std.proofs.lemmas.Slice.Eq.{bytes_eq-Decides}
use denote.Ref.{Bor}
use Rattle.dump_sections.specs.Inner.Marks.{mark_of, mark_cmp}

-- tags whose marks differ differ
apart : (tag other : List ℕ) → (nat_cmp (mark_of tag) (mark_of other) ≡ Equal → ⊥) → false ≡ bytes_eq tag other
apart tag other unequal = grind (arith, bytes_eq-Decides, tied_itself, nat_cmp_total)

-- what compares as equal by marks and tags are the same tags
marks-same : (tag other : List ℕ) → is_eq (ordering_then (nat_cmp (mark_of tag) (mark_of other)) (slice_cmp nat_cmp tag other)) ≡ bytes_eq tag other
marks-same tag other = grind (arith, apart, is_eq-slice_cmp)

-- how two keys of the tree compare
abbrev pub key_cmp : ℕ × Bor (List ℕ) → ℕ × Bor (List ℕ) → Ordering
key_cmp x y = ordering_then (nat_cmp x.0 y.0) (slice_cmp nat_cmp x.1.now y.1.now)

-- a tag that is put in with its mark is found, and every other tag as before
pub marked-more : (tag : List ℕ) (key : ℕ × Bor (List ℕ)) (before after : BTreeMap (ℕ × Bor (List ℕ)) ℕ) (number : Option ℕ) → key.0 ≡ mark_of tag → key.1.now ≡ tag
    → UpdatesBy key_cmp (key_cmp key) before after number
    → (other : List ℕ) → get_by (mark_cmp other) after ≡ update bytes_eq (λ t. get_by (mark_cmp t) before) tag number other
marked-more tag key before after number mark text updates other =
    cc (updates.0 (mark_of other, record { ref_ptr = (0, 0); now = other }), marks-same tag other)
