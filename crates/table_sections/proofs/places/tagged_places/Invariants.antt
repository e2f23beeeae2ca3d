use Rattle.std.proofs.Common.{◌≡◌, ◌<◌, length, map, take, All}
use Rattle.dump_sections.specs.Bodies.{section_at}
use Rattle.dump_sections.specs.Index.{sections_in}
use Rattle.table_sections.specs.Fields.{tagged}
use Rattle.table_sections.proofs.places.tagged_places.Given as goal

-- the places of those before `i` are found
abbrev pub invariant-loop-i : goal.invariant-loop-i
invariant-loop-i l = record {
  listed : map (section_at l.index) l.places.items ≡ tagged l.tag (take l.i (sections_in l.index));
  within : All (λ i. i < length l.index.headers) l.places.items;
}
