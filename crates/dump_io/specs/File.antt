-- A named file in memory.
use Rattle.std.specs.Prelude.{ℕ, ◌^◌, ◌<◌, List, [], ◌∷◌, Option, None, Some, if◌then◌else◌}
use Rattle.std.specs.Option.{option_map}
use Rattle.std.specs.Str.{bytes_eq}
use Rattle.std.specs.String.{string_bytes}
use Rattle.std.proofs.Common.{lit<}
use Rattle.dump_io.specs.declared.file.DumpFile.{DumpFile}
use Rattle.dump_io.specs.Dumps.{Files, opened, size_of}

-- the name of the file
abbrev pub name_of : DumpFile → List ℕ
name_of file = string_bytes file.name

-- the bytes of the file
abbrev pub bytes_of : DumpFile → List ℕ
bytes_of file = file.bytes.items

-- the files by name: of two files with the same name the first counts
abbrev pub find_file : List DumpFile → Files
find_file [] name = None
find_file (file ∷ files) name = if bytes_eq (name_of file) name then Some (bytes_of file) else find_file files name

-- the size of what is open is a number of 64 bits
pub opened-small : (file : Option DumpFile) → size_of (opened (option_map bytes_of file)) < 2 ^ 64
opened-small None = lit< tt
opened-small (Some file) = file.fits
