-- Why parts of a load fail.
use Rattle.std.specs.Prelude.{◌≡◌, ℕ, ◌<◌, None}
use Rattle.dump_io.specs.Dumps.{DeviceState}
use Rattle.dump_io.specs.Faults.{IsCauseOf}
use Rattle.heap_cells.specs.Inner.Texts.{weight_in}
use Rattle.heap_cells.specs.declared.texts.Texts.{Texts}
use Rattle.heap_cells.specs.declared.faults.HeapFault.{HeapFault}
use Rattle.heap_cells.specs.declared.faults.HeapFault.TheVariants.{TooDense, Memory}
use Rattle.heap_cells.specs.Loading.{heap_cause}

-- the bodies have this many lines and elements, more than the limit, or memory was lacking
abbrev pub IsOfTheTexts : Texts → ℕ → HeapFault → Type 0
IsOfTheTexts texts dense (TooDense count) = (count ≡ weight_in texts) × (dense < count)
IsOfTheTexts texts dense Memory = Unit {0}
IsOfTheTexts texts dense fault = ⊥

-- the device failed, or memory was lacking
abbrev pub IsReadFault : DeviceState → DeviceState → HeapFault → Type 0
IsReadFault before after fault = IsCauseOf None before after (heap_cause fault)
