-- A file is found by its name.
use Rattle.std.proofs.Common.{arith, ◌≡◌, ℕ, ◌<◌, List, length, drop, get_or, true, Some, drop-cons}
use Rattle.std.proofs.lemmas.Option.{slice_get-get_or}
use Rattle.std.specs.Str.{bytes_eq}
use Rattle.dump_io.specs.declared.file.DumpFile.{DumpFile}
use Rattle.dump_io.specs.File.{name_of, find_file}
use Rattle.dump_io.specs.MemDumps.{bytes_at}

pub found : (files : List DumpFile) (name : List ℕ) (i : ℕ) (file : DumpFile) → i < length files → file ≡ get_or files i file
    → find_file files name ≡ find_file (drop i files) name → bytes_eq (name_of file) name ≡ true → bytes_at files (Some i) ≡ find_file files name
found files name i file l is passed same = grind (arith, drop-cons, slice_get-get_or)
