-- Pieces of a dump: where its sections begin and end, which is too large, and what is made of some of them.
use Rattle.std.proofs.Common.{◌≡◌, ℕ, zero, suc, ◌+◌, ◌<◌, Bool, true, false, cond, ◌&&◌, List, [], ◌∷◌, length, drop, slice_get, get_or, Option, None, Some, if◌then◌else◌, refl, sym, ◌∙◌, ap, arith, nat_lt, ◌-◌, ◌≤◌, take, ◌⊎◌, inl, inr, subst, ◌++◌, ap₂, append_assoc}
use Rattle.std.specs.Prelude.{option_map, unwrap_or, min}
use Rattle.std.specs.Option.{option_or}
use Rattle.std.specs.List.{between}
use Rattle.std.proofs.lemmas.Option.{slice_get-get_or}
use Rattle.std.proofs.lemmas.Bool.{cases_lt}
use Rattle.std.proofs.lemmas.List.{length-take-le, take-take, drop-take, drop-drop, take_all, take_at, drop_at}
use Rattle.std.proofs.lemmas.List.Edits.{length-between}
use Rattle.dump_sections.specs.Bodies.{body_length, section_at}
use Rattle.dump_sections.specs.Index.{index_of, Contents, sections_in, AreBounded, IsIndexOf, IsBuiltOver}
use Rattle.dump_sections.specs.Sections.{Section, section, sections, sections_of, next_at, tag_of}
use Rattle.dump_io.specs.Dumps.{Now, told, size_of, Gives}
use borrow.Rule.Slice.PartMut.{put_mid}
use Rattle.dump_io.specs.Lines.{Header, headers}
use Rattle.dump_sections.specs.Tiling.{Tile}
use Rattle.dump_sections.specs.declared.version.Version.TheVariants.{V05}
use Rattle.binary_payloads.specs.declared.enc.Enc.{Enc}
use Rattle.heap_cells.specs.Loading.{enc_of}
use Rattle.dump_redact.specs.declared.faults.RedactFault.{RedactFault}
use Rattle.dump_redact.specs.declared.faults.RedactFault.TheVariants.{SectionTooLarge}
use Rattle.dump_redact.specs.Refusals.{heap_sections, large_heap}
use Rattle.dump_sections.specs.Loading.{first_large}
use Rattle.dump_redact.specs.Inner.Places.{fault_at, offset_of, text_between, text_of_section, redacted_between}
use Rattle.dump_redact.specs.declared.parts.Part.{Part}
use Rattle.dump_redact.specs.declared.parts.Part.TheVariants.{Other}
use Rattle.dump_redact.specs.Bodies.{redacted_body}
use Rattle.dump_redact.specs.Laws.{IsRedacted}
use Rattle.dump_redact.specs.Redacted.{is_heap_tag, redacted, part_of}
use Rattle.dump_redact.proofs.Alike.{keeps-length}
use Rattle.dump_redact.proofs.Sections.{redacts-sections, keeps-others}
use Rattle.dump_redact.proofs.Stretches.{between-join}
use Rattle.dump_io.specs.Laws.Lists.{All-at, drop-at}
use Rattle.dump_sections.specs.Laws.{length-sections_of}
use Rattle.dump_sections.specs.TilingLaws.{Tile-size}

abbrev fault_of : Section → RedactFault
fault_of s = SectionTooLarge s.at (body_length s)

-- the refusal among the sections of heaps, of which the first may be one more
abbrev fault_in : ℕ → Bool → Section → List Section → Option RedactFault
fault_in limit heap s heaps = option_map fault_of (first_large limit (cond heap (s ∷ heaps) heaps))

-- the first section is refused, or else those behind it decide
pub one-more : (limit : ℕ) (s : Section) (sections : List Section) → large_heap limit (s ∷ sections) ≡ option_or (fault_at limit s) (large_heap limit sections)
one-more limit s sections = by (is_heap_tag (tag_of s.text)) (nat_lt limit (body_length s)) refl
  where
    heaps : List Section
    heaps = heap_sections sections

    by : (heap more : Bool) → nat_lt limit (body_length s) ≡ more
        → fault_in limit heap s heaps ≡ option_or (if heap && more then Some (fault_of s) else None) (option_map fault_of (first_large limit heaps))
    by false more h = refl
    by true true h = ap (λ b. option_map fault_of (cond b (Some s) (first_large limit heaps))) h
    by true false h = ap (λ b. option_map fault_of (cond b (Some s) (first_large limit heaps))) h

-- the section at a place is refused, or those behind it decide
module _ (limit : ℕ) (sections : List Section) (i : ℕ) (s : Section) (is : slice_get sections i ≡ Some s) where
  left : large_heap limit (drop i sections) ≡ option_or (fault_at limit s) (large_heap limit (drop (i + 1) sections))
  left = ap (large_heap limit) (drop-at sections i s is) ∙ one-more limit s (drop (i + 1) sections)

  pub found-here : (fault : RedactFault) → fault_at limit s ≡ Some fault → large_heap limit (drop i sections) ≡ Some fault
  found-here fault found = left ∙ ap (λ o. option_or o (large_heap limit (drop (i + 1) sections))) found

  pub passed-here : fault_at limit s ≡ None → large_heap limit (drop i sections) ≡ large_heap limit (drop (i + 1) sections)
  passed-here none = left ∙ ap (λ o. option_or o (large_heap limit (drop (i + 1) sections))) none

-- the section at a place is one of the list
pub place-at : (index : Contents) (i : ℕ) → i < length (sections_in index) → slice_get (sections_in index) i ≡ Some (section_at index i)
place-at index i inside =
    let there : slice_get (sections_in index) i ≡ Some (get_or (sections_in index) i (section 0 0 0 [])) = slice_get-get_or (sections_in index) i (section 0 0 0 []) inside in
    there ∙ ap (λ o. Some (unwrap_or o (section 0 0 0 []))) (sym there)

-- ---- pieces of what is open

-- a file that is told has as many bytes as its size
pub told-size : (now : Now) (dump : List ℕ) (upto : ℕ) → now ≡ told dump → upto ≤ size_of now → upto ≤ length dump
told-size now dump upto is within = subst (λ n. upto ≤ size_of n) is within

-- a piece that was read is what the dump has there
pub piece-told : (now : Now) (from count : ℕ) (buffer dump : List ℕ) → now ≡ told dump → Gives now from (take count buffer) → count ≤ length buffer
    → take count buffer ≡ between from (from + count) dump
piece-told now from count buffer dump is gives within =
    let read : take count buffer ≡ take (length (take count buffer)) (drop from dump) = subst (λ n. Gives n from (take count buffer)) is gives in
    let size : length (take count buffer) ≡ from + count - from = omega (arith, length-take-le count buffer within) in
    read ∙ ap (λ n. take n (drop from dump)) size

pub length-part : (dump : List ℕ) (from upto : ℕ) → upto ≤ length dump → length (between from upto dump) ≡ upto - from
length-part dump from upto within = length-between dump from upto within

-- a piece is a front of what lies between two offsets, and the rest follows
pub piece-take : (dump : List ℕ) (from count upto : ℕ) → from + count ≤ upto → between from (from + count) dump ≡ take count (between from upto dump)
piece-take dump from count upto within =
    let size : from + count - from ≡ count = omega arith in
    ap (λ n. take n (drop from dump)) size ∙ sym (take-take count (upto - from) (drop from dump) (omega (arith, within)))

pub piece-drop : (dump : List ℕ) (from count upto : ℕ) → from + count ≤ upto → drop count (between from upto dump) ≡ between (from + count) upto dump
piece-drop dump from count upto within =
    let size : upto - from ≡ count + (upto - (from + count)) = omega (arith, within) in
    ap (λ n. drop count (take n (drop from dump))) size
    ∙ drop-take count (upto - (from + count)) (drop from dump)
    ∙ ap (take (upto - (from + count))) (drop-drop count from dump)

-- a piece has 17 bytes, or it is all there is
pub piece-long : (room size count total : ℕ) → 17 ≤ room → count ≡ min room size → total ≡ size → (17 ≤ count) ⊎ (count ≡ total)
piece-long room size count total big is all =
    by (cases_lt room size)
  where
    by : (room < size) ⊎ (size ≤ room) → (17 ≤ count) ⊎ (count ≡ total)
    by (inl less) = inl (omega (arith, less, is, big))
    by (inr more) = inr (omega (arith, more, is, all))

-- ---- where the sections of a dump begin and end, and what is made of a piece with some of them

-- the index of a dump that is told
pub built-told : (now : Now) (index : Contents) (dump : List ℕ) → IsBuiltOver now index → now ≡ told dump → IsIndexOf dump index
built-told now index dump over is = subst (λ n. IsBuiltOver n index) is over

pub index-sections : (dump : List ℕ) (index : Contents) → IsIndexOf dump index → sections_in index ≡ sections dump
index-sections dump index of = ap (λ hs. sections_of hs index.size) of.headers ∙ ap (sections_of (headers dump)) of.size

pub index-enc : (dump : List ℕ) (index : Contents) → IsIndexOf dump index → enc_of (index_of dump).version ≡ enc_of index.version
index-enc dump index of = ap (λ o. enc_of (unwrap_or o V05)) of.version

-- the section at a place is redacted by itself
pub section-redacted : (dump : List ℕ) (index : Contents) (i : ℕ) (s : Section) → IsIndexOf dump index → slice_get (sections_in index) i ≡ Some s
    → IsRedacted (enc_of index.version) dump (redacted dump) s
section-redacted dump index i s of is =
    subst (λ enc. IsRedacted enc dump (redacted dump) s) (index-enc dump index of)
    (All-at (IsRedacted (enc_of (index_of dump).version) dump (redacted dump)) (sections dump) i s (redacts-sections dump)
    (ap (λ l. slice_get l i) (sym (index-sections dump index of)) ∙ is))

-- ---- offsets

-- an index that has a header has a byte
pub size-some : (heads : List Header) (size : ℕ) → 1 ≤ length heads → Tile 0 size (sections_of heads size) → 0 < size
size-some [] size some tile = absurd (omega (arith, some))
size-some (header ∷ heads) size some tile =
    omega (arith, tile.1, tile.2, Tile-size (next_at (slice_get heads 0) size) size (sections_of heads size) tile.3)

rise : (heads : List Header) (size from i j : ℕ) → Tile from size (sections_of heads size) → i ≤ j → j ≤ length heads
    → next_at (slice_get heads i) size ≤ next_at (slice_get heads j) size
rise [] size from i j tile le within = omega arith
rise (header ∷ heads) size from zero zero tile le within = omega arith
rise (header ∷ heads) size from zero (suc j) tile le within =
    omega (arith, tile.1, tile.2, rise heads size (next_at (slice_get heads 0) size) zero j tile.3 (omega arith) (omega (arith, within)))
rise (header ∷ heads) size from (suc i) zero tile le within = absurd (omega (arith, le))
rise (header ∷ heads) size from (suc i) (suc j) tile le within =
    rise heads size (next_at (slice_get heads 0) size) i j tile.3 (omega (arith, le)) (omega (arith, within))

first-offset : (heads : List Header) (size : ℕ) → Tile 0 size (sections_of heads size) → next_at (slice_get heads 0) size ≡ 0
first-offset [] size tile = sym tile
first-offset (header ∷ heads) size tile = tile.0

last-offset : (heads : List Header) (size : ℕ) → next_at (slice_get heads (length heads)) size ≡ size
last-offset [] size = refl
last-offset (header ∷ heads) size = last-offset heads size

offsets : (heads : List Header) (size i : ℕ) (s : Section) → slice_get (sections_of heads size) i ≡ Some s
    → (s.at ≡ next_at (slice_get heads i) size) × (s.end ≡ next_at (slice_get heads (i + 1)) size)
offsets [] size i s is = cc
offsets (header ∷ heads) size zero s is =
    let same : section header.at header.body (next_at (slice_get heads 0) size) header.text ≡ s = cc in
    (ap (λ (x : Section). x.at) (sym same), ap (λ (x : Section). x.end) (sym same))
offsets (header ∷ heads) size (suc i) s is =
    let next : suc (i + 1) ≡ suc i + 1 = omega arith in
    let rest = offsets heads size i s is in
    (rest.0, rest.1 ∙ ap (λ n. next_at (slice_get (header ∷ heads) n) size) next)

ordered : (heads : List Header) (size from i : ℕ) (s : Section) → Tile from size (sections_of heads size) → slice_get (sections_of heads size) i ≡ Some s
    → (s.at < s.body) × (s.body ≤ s.end)
ordered [] size from i s tile is = cc
ordered (header ∷ heads) size from zero s tile is =
    let same : section header.at header.body (next_at (slice_get heads 0) size) header.text ≡ s = cc in
    subst (λ (x : Section). (x.at < x.body) × (x.body ≤ x.end)) same (tile.1, tile.2)
ordered (header ∷ heads) size from (suc i) s tile is = ordered heads size (next_at (slice_get heads 0) size) i s tile.3 is

-- the section at a place is one of the list
pub place-in : (index : Contents) (i : ℕ) → i < length index.headers → slice_get (sections_in index) i ≡ Some (section_at index i)
place-in index i inside = place-at index i (omega (arith, inside, length-sections_of index.headers index.size))

-- where it begins, and where it ends
pub at-offset : (index : Contents) (i : ℕ) → i < length index.headers → (section_at index i).at ≡ offset_of index i
at-offset index i inside = (offsets index.headers index.size i (section_at index i) (place-in index i inside)).0

pub end-offset : (index : Contents) (i : ℕ) → i < length index.headers → (section_at index i).end ≡ offset_of index (i + 1)
end-offset index i inside = (offsets index.headers index.size i (section_at index i) (place-in index i inside)).1

-- offsets rise from place to place
module _ (index : Contents) (bounded : AreBounded index) where
  pub offset-start : offset_of index 0 ≡ 0
  offset-start = first-offset index.headers index.size bounded.tiled

  pub offset-end : (i : ℕ) → i ≡ length index.headers → offset_of index i ≡ index.size
  offset-end i is = ap (offset_of index) is ∙ last-offset index.headers index.size

  pub offset-rise : (i j : ℕ) → i ≤ j → j ≤ length index.headers → offset_of index i ≤ offset_of index j
  offset-rise i j le within = rise index.headers index.size 0 i j bounded.tiled le within

  pub offset-within : (i : ℕ) → i ≤ length index.headers → offset_of index i ≤ index.size
  offset-within i within = omega (arith, offset-rise i (length index.headers) within (omega arith), offset-end (length index.headers) refl)

  pub is-ordered : (i : ℕ) → i < length index.headers → ((section_at index i).at < (section_at index i).body) × ((section_at index i).body ≤ (section_at index i).end)
  is-ordered i inside = ordered index.headers index.size 0 i (section_at index i) bounded.tiled (place-in index i inside)

  pub offset-next : (i : ℕ) → i < length index.headers → offset_of index i < offset_of index (i + 1)
  offset-next i inside = omega (arith, at-offset index i inside, end-offset index i inside, (is-ordered i inside).0, (is-ordered i inside).1)

  pub offset-less : (i j : ℕ) → i < j → j ≤ length index.headers → offset_of index i < offset_of index j
  offset-less i j less within = omega (arith, offset-next i (omega (arith, less, within)), offset-rise (i + 1) j (omega (arith, less)) within)

-- what a dump has of a section, with its body redacted, is what the redacted dump has there
pub section-text : (index : Contents) (i : ℕ) → i < length index.headers → (section_at index i).at < (section_at index i).body → (section_at index i).body ≤ (section_at index i).end
    → (part : Part) → part_of (tag_of (section_at index i).text) ≡ part → (dump : List ℕ) → IsIndexOf dump index
    → text_of_section (enc_of index.version) part (section_at index i) dump ≡ text_between index i (i + 1) (redacted dump)
section-text index i inside line body part named dump of =
    let s = section_at index i in
    let own = section-redacted dump index i s of (place-in index i inside) in
    ap (λ p. text_of_section (enc_of index.version) p s dump) (sym named)
    ∙ ap₂ (λ l m. l ++ m) (sym own.line) (sym own.body)
    ∙ between-join (redacted dump) s.at s.body s.end (omega (arith, line)) body
    ∙ ap₂ (λ a e. between a e (redacted dump)) (at-offset index i inside) (end-offset index i inside)

-- and a body without payloads is copied with what stands before it
pub other-text : (enc : Enc) (s : Section) (dump : List ℕ) → s.at < s.body → s.body ≤ s.end → between s.at s.end dump ≡ text_of_section enc Other s dump
other-text enc s dump line body =
    sym (between-join dump s.at s.body s.end (omega (arith, line)) body) ∙ ap (λ l. between s.at s.body dump ++ l) (sym (keeps-others enc (between s.body s.end dump)))

-- from the first section up to the last one is the whole dump
pub whole-text : (index : Contents) → AreBounded index → (dump : List ℕ) → IsIndexOf dump index → between (offset_of index 0) index.size (redacted dump) ≡ redacted dump
whole-text index bounded dump of =
    let all : index.size - 0 ≡ index.size = omega arith in
    ap (λ n. between n index.size (redacted dump)) (offset-start index bounded) ∙ ap (λ n. take n (redacted dump)) all ∙ take_all index.size (redacted dump) (omega (arith, keeps-length dump, of.size))

-- ---- a piece of several sections

-- a part of a piece is written anew as a redacted body
pub redacted-part : (enc : Enc) (part : Part) (low high : ℕ) (piece new : List ℕ) → low ≤ high → new ≡ redacted_body enc part (take (high - low) (drop low piece))
    → put_mid low (high - low) piece new ≡ redacted_between enc part low high piece
redacted-part enc part low high piece new le is =
    let ends : low + (high - low) ≡ high = omega (arith, le) in
    ap (λ l. take low piece ++ (l ++ drop (high - low) (drop low piece))) is
    ∙ ap (λ l. take low piece ++ (redacted_body enc part (between low high piece) ++ l)) (drop-drop (high - low) low piece ∙ ap (λ n. drop n piece) ends)

-- a piece with what is redacted up to an offset `a`, and as it was from there on: one more part of it is redacted, from `b` to `e`
redact-more : (enc : Enc) (part : Part) (from a b e upto : ℕ) (dump new piece : List ℕ) → length new ≡ length dump → from ≤ a → a ≤ b → b ≤ e → e ≤ upto → upto ≤ length dump
    → between a b new ≡ between a b dump → between b e new ≡ redacted_body enc part (between b e dump)
    → piece ≡ between from a new ++ between a upto dump
    → redacted_between enc part (b - from) (e - from) piece ≡ between from e new ++ between e upto dump
redact-more enc part from a b e upto dump new piece same low line some high within stays redacts is =
    let front = between from b new in
    let body = between b e dump in
    let rest = between e upto dump in
    let parts : piece ≡ front ++ (body ++ rest) =
    is
    ∙ ap (λ l. between from a new ++ l) (sym (between-join dump a b upto line (omega (arith, some, high))) ∙ ap (λ l. l ++ between b upto dump) (sym stays))
    ∙ sym (append_assoc (between from a new) (between a b new) (between b upto dump))
    ∙ ap (λ l. l ++ between b upto dump) (between-join new from a b low line)
    ∙ ap (λ l. front ++ l) (sym (between-join dump b e upto some high)) in
    let long : length front ≡ b - from = length-part new from b (omega (arith, same, some, high, within)) in
    let size : length body ≡ e - b = length-part dump b e (omega (arith, high, within)) in
    let count : e - from - (b - from) ≡ e - b = omega (arith, low, line) in
    let ends : b - from + (e - b) ≡ e - from = omega (arith, low, line, some) in
    let behind : drop (b - from) piece ≡ body ++ rest = ap (drop (b - from)) parts ∙ drop_at front (body ++ rest) (b - from) long in
    let before : take (b - from) piece ≡ front = ap (take (b - from)) parts ∙ take_at front (body ++ rest) (b - from) long in
    let middle : between (b - from) (e - from) piece ≡ body = ap (λ n. take n (drop (b - from) piece)) count ∙ ap (take (e - b)) behind ∙ take_at body rest (e - b) size in
    let after : drop (e - from) piece ≡ rest =
    ap (λ n. drop n piece) (sym ends) ∙ sym (drop-drop (e - b) (b - from) piece) ∙ ap (drop (e - b)) behind ∙ drop_at body rest (e - b) size in
    ap₂ (λ l m. l ++ m) before (ap₂ (λ l m. redacted_body enc part l ++ m) middle after)
    ∙ ap (λ l. front ++ (l ++ rest)) (sym redacts)
    ∙ sym (append_assoc front (between b e new) rest)
    ∙ ap (λ l. l ++ rest) (between-join new from b e (omega (arith, low, line)) some)

-- a piece of the sections from `i` up to `next`, of which those up to `k` are redacted
abbrev pub redacted_upto : Contents → ℕ → ℕ → ℕ → List ℕ → List ℕ
redacted_upto index i k next dump = text_between index i k (redacted dump) ++ text_between index k next dump

-- with one more of them redacted
pub one-more-section : (index : Contents) → AreBounded index → (i k next : ℕ) → i ≤ k → k < next → next ≤ length index.headers → (dump piece : List ℕ) → IsIndexOf dump index
    → piece ≡ redacted_upto index i k next dump
    → redacted_between (enc_of index.version) (part_of (tag_of (section_at index k).text)) ((section_at index k).body - offset_of index i) ((section_at index k).end - offset_of index i) piece
    ≡ redacted_upto index i (k + 1) next dump
one-more-section index bounded i k next low high within dump piece of is =
    let s = section_at index k in
    let inside : k < length index.headers = omega (arith, high, within) in
    let own = section-redacted dump index k s of (place-in index k inside) in
    let order = is-ordered index bounded k inside in
    let at = at-offset index k inside in
    let end = end-offset index k inside in
    redact-more (enc_of index.version) (part_of (tag_of s.text)) (offset_of index i) s.at s.body s.end (offset_of index next) dump (redacted dump) piece
    (keeps-length dump)
    (omega (arith, at, offset-rise index bounded i k low (omega (arith, inside))))
    (omega (arith, order.0)) order.1
    (omega (arith, end, offset-rise index bounded (k + 1) next (omega (arith, high)) within))
    (omega (arith, of.size, offset-within index bounded next within))
    own.line own.body
    (is ∙ ap (λ a. between (offset_of index i) a (redacted dump) ++ between a (offset_of index next) dump) (sym at))
    ∙ ap (λ e. between (offset_of index i) e (redacted dump) ++ between e (offset_of index next) dump) end
