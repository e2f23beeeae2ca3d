-- A device whose files are in memory.
use Rattle.std.specs.Prelude.{◌≡◌, ℕ, ◌%◌, ◌==◌, Bool, List, [], ◌∷◌, Option, None, Some, length, min, max, slice_get, slice_index, if◌then◌else◌}
use Rattle.std.specs.List.{list_any}
use Rattle.std.specs.Option.{option_map, option_and_then}
use Rattle.std.specs.Str.{bytes_eq}
use Rattle.dump_io.specs.declared.file.DumpFile.{DumpFile}
use Rattle.dump_io.specs.declared.mem_dumps.MemDumps.{MemDumps}
use Rattle.dump_io.specs.Count.{number_in}
use Rattle.dump_io.specs.File.{bytes_of, find_file}
use Rattle.dump_io.specs.Dumps.{DeviceState, Files, Now, closed, opened}

-- the bytes of the file at a place, if there is one
abbrev pub bytes_at : List DumpFile → Option ℕ → Option (List ℕ)
bytes_at files place = option_map bytes_of (option_and_then (slice_get files) place)

-- the files of the device
abbrev pub files_of : MemDumps → Files
files_of device = find_file device.files.items

-- what is open
abbrev pub now_of : MemDumps → Now
now_of device = opened (bytes_at device.files.items device.place)

-- how many calls were made
abbrev pub calls_of : MemDumps → ℕ
calls_of device = number_in device.calls

-- how many reads have succeeded
abbrev pub reads_of : MemDumps → ℕ
reads_of device = number_in device.reads

-- the state of a device in memory, which tells its files
abbrev pub state_of : MemDumps → DeviceState
state_of device = record {
  files = Some (files_of device);
  now = now_of device;
  faults = number_in device.faults;
  taken = number_in device.taken;
}

-- the numbers of the calls that fail
abbrev pub fails_of : MemDumps → List ℕ
fails_of device = device.fails.items

-- the most bytes that each read gives, in turn
abbrev pub cuts_of : MemDumps → List ℕ
cuts_of device = device.cuts.items

-- whether the last call was one of those that fail
abbrev pub is_failing : MemDumps → Bool
is_failing device = list_any (λ number. number == calls_of device) (fails_of device)

-- how many bytes read number k gives, if it may give `most`
abbrev pub cut_at : List ℕ → ℕ → ℕ → ℕ
cut_at [] k most = most
cut_at (cut ∷ cuts) k most = min most (max 1 (slice_index (cut ∷ cuts) (k % length (cut ∷ cuts))))

-- how many bytes the next read of a device gives, if it may give `most`
abbrev pub next_cut : MemDumps → ℕ → ℕ
next_cut device most = cut_at (cuts_of device) (reads_of device) most

-- the device has a file with this name and these bytes, and no other
abbrev pub HoldsFile : List ℕ → List ℕ → MemDumps → Type 0
HoldsFile name bytes device = (asked : List ℕ) → files_of device asked ≡ (if bytes_eq name asked then Some bytes else None)

-- nothing was called yet, no file is open, and these are the cuts and the numbers of the calls that fail
pub record IsUnused (cuts fails : List ℕ) (device : MemDumps) : Type 0 where
  pub cut : cuts_of device ≡ cuts
  pub failing : fails_of device ≡ fails
  pub now : now_of device ≡ closed
  pub calls : calls_of device ≡ 0
  pub reads : reads_of device ≡ 0
  pub faults : (state_of device).faults ≡ 0
  pub taken : (state_of device).taken ≡ 0
