-- What holds of all sections holds of those that are looked up.
use Rattle.std.proofs.Common.{◌≡◌, ℕ, zero, suc, ◌+◌, ◌≤◌, List, [], ◌∷◌, Option, None, Some, refl, ◌∙◌, ap, arith, nat_lt}
use Rattle.std.specs.Prelude.{All, slice_get, unwrap_or}
use Rattle.std.specs.List.{enumerate_from}
use Rattle.std.specs.Option.{option_map, option_to_list}
use Rattle.std.proofs.lemmas.Bool.{cond-false, le-ltb}
use Rattle.std.proofs.lemmas.List.Elements.{All-nil, All-cons, All-head, All-tail, All-filter, All-map}
use Rattle.dump_io.specs.Limits.{usual}
use Rattle.dump_sections.specs.Sections.{Section}
use Rattle.dump_sections.specs.Bodies.{body_length, section_at, section_in}
use Rattle.dump_sections.specs.Index.{Contents, sections_in}
use Rattle.dump_sections.specs.Loading.{large_fault, large_section}
use Rattle.process_table.specs.Records.{PlacedSection, is_process, placed_sections, process_sections, records, record_sections}
use Rattle.process_table.specs.Laws.{All-first_of_each}

-- the body of a section is within the usual limit
abbrev pub IsSmall : Section → Type 0
IsSmall section = body_length section ≤ usual.section

small-get : (sections : List Section) (i : ℕ) (default : Section) → IsSmall default → All IsSmall sections → IsSmall (unwrap_or (slice_get sections i) default)
small-get [] i default small all = small
small-get (s ∷ sections) zero default small all = All-head IsSmall s sections all
small-get (s ∷ sections) (suc i) default small all = small-get sections i default small (All-tail IsSmall s sections all)

-- the section at a place
pub small-at : (index : Contents) (i : ℕ) → All IsSmall (sections_in index) → IsSmall (section_at index i)
small-at index i all = small-get (sections_in index) i _ (omega arith) all

-- a section that may be there
pub small-in : (index : Contents) (place : Option ℕ) → All IsSmall (sections_in index) → All IsSmall (option_to_list (section_in index place))
small-in index None all = All-nil IsSmall
small-in index (Some i) all = All-cons IsSmall (section_at index i) [] (small-at index i all) (All-nil IsSmall)

-- the same with a place
abbrev pub IsSmallPlaced : PlacedSection → Type 0
IsSmallPlaced p = IsSmall p.1

small-placed : (n : ℕ) (sections : List Section) → All IsSmall sections → All IsSmallPlaced (enumerate_from n sections)
small-placed n [] all = All-nil IsSmallPlaced
small-placed n (s ∷ sections) all =
    All-cons IsSmallPlaced (n, s) (enumerate_from (n + 1) sections) (All-head IsSmall s sections all) (small-placed (n + 1) sections (All-tail IsSmall s sections all))

-- the sections of processes
pub small-records : (sections : List Section) → All IsSmall sections → All IsSmall (record_sections sections)
small-records sections all =
    All-map IsSmall (λ (r : PlacedSection). r.1) (records sections)
    (All-first_of_each IsSmallPlaced (process_sections (placed_sections sections)) (All-filter (λ (p : PlacedSection). is_process p.1) IsSmallPlaced (placed_sections sections) (small-placed 0 sections all)))

-- none of them is too large
pub none-large : (sections : List Section) → All IsSmall sections → large_fault usual.section sections ≡ None
none-large [] all = refl
none-large (s ∷ sections) all =
    ap (option_map large_section)
    (cond-false (nat_lt usual.section (body_length s)) _ _ (le-ltb usual.section (body_length s) (All-head IsSmall s sections all)))
    ∙ none-large sections (All-tail IsSmall s sections all)
