-- The records are sections of the index, each with its place.
use Rattle.std.proofs.Common.{◌≡◌, ◌<◌, length, All, arith}
use Rattle.std.proofs.lemmas.List.{get_or_default}
use Rattle.std.proofs.lemmas.List.FromFn.{get_or-enumerate_from, length-enumerate_from}
use Rattle.std.proofs.lemmas.List.Elements.{All-filter, filter_passes}
use Rattle.std.proofs.lemmas.Option.{unwrap_or-slice_get}
use Rattle.dump_sections.specs.Bodies.{section_at}
use Rattle.dump_sections.specs.Index.{Contents, sections_in}
use Rattle.dump_sections.specs.Laws.{length-sections_of}
use Rattle.process_table.specs.Records.{PlacedSection, placed_sections, is_process, process_sections, records}
use Rattle.process_table.specs.Inner.Finding.{IsRecordOf}
use Rattle.process_table.specs.Laws.{All-first_of_each}

-- a section of an index, at its place
IsPlaced : Contents → PlacedSection → Type 0
IsPlaced index p = (p.0 < length index.headers) × (section_at index p.0 ≡ p.1)

All-placed : (index : Contents) → All (IsPlaced index) (placed_sections (sections_in index))
unfolding IsPlaced
All-placed index k d inside = grind (arith, length-enumerate_from, get_or-enumerate_from, unwrap_or-slice_get, get_or_default, length-sections_of)

pub All-records : (index : Contents) → All (IsRecordOf index) (records (sections_in index))
unfolding IsPlaced
All-records index =
    let sections = placed_sections (sections_in index) in
    All-first_of_each (IsRecordOf index) (process_sections sections)
    (λ k d inside. record {
      place = (All-filter (λ p. is_process p.1) (IsPlaced index) sections (All-placed index) k d inside).0;
      section = (All-filter (λ p. is_process p.1) (IsPlaced index) sections (All-placed index) k d inside).1;
      process = filter_passes (λ (p : PlacedSection). is_process p.1) sections k d inside;
    })
