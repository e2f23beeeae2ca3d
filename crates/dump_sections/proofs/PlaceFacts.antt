-- The section at a place.
use Rattle.std.proofs.Common.{◌≡◌, ℕ, zero, suc, ◌+◌, List, [], ◌∷◌, length, slice_get, Some, ap, Bool, codes, if◌then◌else◌, arith}
use Rattle.dump_io.specs.Lines.{Header}
use Rattle.dump_sections.specs.Sections.{section, sections_of, end_at, tag_of}
use Rattle.dump_sections.specs.Index.{last_text, dump_state}
use Rattle.dump_sections.specs.declared.index.State.TheVariants.{Whole, TruncatedIn}
use Rattle.std.specs.Str.{bytes_eq}

pub sections_of-at : (headers : List Header) (size i : ℕ) (header : Header) → slice_get headers i ≡ Some header
    → slice_get (sections_of headers size) i ≡ Some (section header.at header.body (end_at headers size i) header.text)
sections_of-at [] size i header is = cc
sections_of-at (first ∷ rest) size zero header is = grind arith
sections_of-at (first ∷ rest) size (suc i) header is = grind (arith, sections_of-at rest size i header is)

pub last_text-at : (headers : List Header) (i : ℕ) (header : Header) → i + 1 ≡ length headers → slice_get headers i ≡ Some header → last_text headers ≡ header.text
last_text-at [] i header last is = cc
last_text-at (first ∷ []) zero header last is = let same : first ≡ header = cc in ap (λ (h : Header). h.text) same
last_text-at (first ∷ []) (suc i) header last is = cc
last_text-at (first ∷ next ∷ rest) zero header last is = absurd (omega arith)
last_text-at (first ∷ next ∷ rest) (suc i) header last is = last_text-at (next ∷ rest) i header (omega arith) is

-- the state, by the tag of the last header
pub state_of-last : (headers : List Header) (i : ℕ) (header : Header) (tag : List ℕ) (b : Bool) → i + 1 ≡ length headers → slice_get headers i ≡ Some header
    → tag ≡ tag_of header.text → b ≡ bytes_eq tag (codes "end") → dump_state headers ≡ (if b then Whole else TruncatedIn i)
state_of-last headers i header tag b last is same whole = grind (arith, last_text-at)
