-- The whole binary in the section at a place of an index.
use Rattle.std.specs.Prelude.{ℕ, List, Option, Some, Result}
use Rattle.dump_io.specs.Dumps.{DeviceState}
use Rattle.dump_sections.specs.Bodies.{section_at}
use Rattle.dump_sections.specs.Index.{Contents}
use Rattle.heap_cells.specs.Loading.{enc_of}
use Rattle.binary_refs.specs.StoredBinaries.{body_at}
use Rattle.binary_refs.specs.declared.faults.BinFault.{BinFault}
use Rattle.binary_refs.specs.Wholes.{bytes_of_body, LoadsBinary}

-- the bytes of the binary whose section is at a place, from those of a dump
abbrev pub bytes_at : List ℕ → Contents → ℕ → Option (List ℕ)
bytes_at dump index place = bytes_of_body (enc_of index.version) (body_at dump index place)

-- what a call does that loads the binary whose section is at a place
abbrev pub LoadsBinaryAt : {D T : Type 0} → (D → DeviceState) → Contents → ℕ → ℕ → D → D → Result T BinFault → Type 0
LoadsBinaryAt state index place limit before after result =
    LoadsBinary state (Some (section_at index place)) limit before after result
