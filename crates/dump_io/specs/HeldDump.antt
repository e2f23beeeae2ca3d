-- A device that holds one file.
use Rattle.std.specs.Prelude.{[], ◌∷◌, None, Some, if◌then◌else◌}
use Rattle.std.specs.Option.{option_map}
use Rattle.dump_io.specs.declared.file.DumpFile.{DumpFile}
use Rattle.dump_io.specs.declared.held_dump.HeldDump.{HeldDump}
use Rattle.dump_io.specs.Count.{number_in}
use Rattle.dump_io.specs.File.{bytes_of, find_file}
use Rattle.dump_io.specs.Dumps.{DeviceState, Now, opened}

-- the file of the device
abbrev pub file_of : HeldDump → DumpFile
file_of device = device.file

-- what is open: the file, or nothing
abbrev pub now_of : HeldDump → Now
now_of device = opened (option_map bytes_of (if device.is_open then Some device.file else None))

-- the state of a device that holds one file: it tells the file, and never fails
abbrev pub state_of : HeldDump → DeviceState
state_of device = record {
  files = Some (find_file (device.file ∷ []));
  now = now_of device;
  faults = 0;
  taken = number_in device.taken;
}
