-- What a dump that was opened says, and one that wasn't.
use Rattle.std.proofs.Common.{◌≡◌, ◌⊎◌, ℕ, ◌≤◌, List, length, Option, None, Some, Ok, Err, refl, sym, ◌∙◌, ap, subst, inl, inr, arith}
use Rattle.std.specs.Prelude.{IsErrOf}
use Rattle.dump_io.specs.Dumps.{Files, Now, closed, told, sized, size_of, IsAbsent, DeviceState, DeviceFailed}
use Rattle.dump_io.specs.Limits.{Numbers}
use Rattle.dump_sections.specs.Index.{Contents, IsBuiltOver}
use Rattle.dump_sections.specs.Laws.{index-is}
use Rattle.section_index.specs.Answers.{IsAnswerFor, IsClosedOrNamed, IsFileOf, IsHeld, ReadsFile}
use Rattle.section_index.specs.declared.opening.OpenFault.{OpenFault}
use Rattle.section_index.specs.declared.opening.OpenFault.TheVariants.{Read, Memory}
use Rattle.dump_questions.specs.Reading.{HasOpened, IsUnopened, IsUnopenedFor}
use Rattle.dump_questions.specs.Stops.{stop_of_opening}

-- if a file is open, it is the one with that name
named-is : (told_files : Option Files) (name : List ℕ) (now : Now) (bytes : List ℕ) → IsClosedOrNamed told_files name now
    → IsHeld told_files name bytes ⊎ (now ≡ told bytes) → (now ≡ closed) ⊎ (now ≡ told bytes)
named-is told_files name now bytes named (inr is) = inr is
named-is None name now bytes named (inl is) = absurd is
named-is (Some files) name closed bytes named (inl is) = inl refl
named-is (Some files) name now bytes named (inl is) = let same : named.0 ≡ bytes = cc (named.1, is) in inr (named.2 ∙ ap told same)

-- what is open has at most the size of that file
size-file : (now : Now) (bytes : List ℕ) → (now ≡ closed) ⊎ (now ≡ told bytes) → size_of now ≤ length bytes
size-file now bytes (inl is) = omega (arith, ap size_of is)
size-file now bytes (inr is) = omega (arith, ap size_of is)

-- where an index was built over what is open, the file is open
told-file : (now : Now) (bytes : List ℕ) (index : Contents) → IsBuiltOver now index → (now ≡ closed) ⊎ (now ≡ told bytes) → now ≡ told bytes
told-file now bytes index over (inl is) = absurd (subst (λ n. IsBuiltOver n index) is over)
told-file now bytes index over (inr is) = is

-- where no file has the name, none is open
closed-absent : (told_files : Option Files) (name : List ℕ) (now : Now) → IsClosedOrNamed told_files name now → IsAbsent told_files name → now ≡ closed
closed-absent None name now named gone = absurd gone
closed-absent (Some files) name closed named gone = refl
closed-absent (Some files) name (told all) named gone = absurd (let no : ⊥ = cc (sym gone ∙ named.1) in no)
closed-absent (Some files) name (sized size) named gone = absurd (let no : ⊥ = cc (sym gone ∙ named.1) in no)

-- an index was built
pub HasOpened-built : (name : List ℕ) (limits : Numbers) (before after : DeviceState) (index : Contents) → ReadsFile before after name
    → ((bytes : List ℕ) → IsFileOf before after name bytes → IsAnswerFor bytes limits (Ok index))
    → (IsAbsent before.files name → IsErrOf (Ok index) Read) → IsBuiltOver after.now index → HasOpened name limits before after index
HasOpened-built name limits before after index reads answer absent over =
    record {
      there = λ gone. let no : ⊥ = cc (absent gone) in no;
      same_files = reads.same_files;
      later = reads.later;
      over = over;
      told = λ bytes file.
          let right = answer bytes file in
          record {
            accepted = right.0;
            of = right.1;
            is = index-is bytes index right.1;
            opened = told-file after.now bytes index over (named-is before.files name after.now bytes reads.now file);
          };
      taken = λ bytes file. omega (arith, reads.taken_most, size-file after.now bytes (named-is before.files name after.now bytes reads.now file));
    }

-- no index was built
pub IsUnopened-built : (name : List ℕ) (limits : Numbers) (before after : DeviceState) (fault : OpenFault) → ReadsFile before after name
    → ((bytes : List ℕ) → IsFileOf before after name bytes → IsAnswerFor bytes limits (Err fault))
    → (IsAbsent before.files name → IsErrOf {T = Contents} (Err fault) Read)
    → (IsErrOf {T = Contents} (Err fault) Read → DeviceFailed before after ⊎ IsAbsent before.files name)
    → IsUnopened name limits before after (stop_of_opening fault)
IsUnopened-built name limits before after fault reads answer absent read =
    record {
      cause = by fault answer absent read;
      gone = λ gone.
          let shut = closed-absent before.files name after.now reads.now gone in
          record { closed = shut; same_taken = omega (arith, reads.taken_least, reads.taken_most, ap size_of shut) };
      same_files = reads.same_files;
      later = reads.later;
      taken = λ bytes file. omega (arith, reads.taken_most, size-file after.now bytes (named-is before.files name after.now bytes reads.now file));
    }
  where
    by : (fault : OpenFault) → ((bytes : List ℕ) → IsFileOf before after name bytes → IsAnswerFor bytes limits (Err fault))
        → (IsAbsent before.files name → IsErrOf {T = Contents} (Err fault) Read)
        → (IsErrOf {T = Contents} (Err fault) Read → DeviceFailed before after ⊎ IsAbsent before.files name)
        → IsUnopenedFor name limits before after (stop_of_opening fault)
    by Read answer absent read = read refl
    by Memory answer absent read = tt
    by fault answer absent read =
        record { proper = tt; there = λ gone. let no : ⊥ = cc (absent gone) in no; told = λ bytes file. (fault, answer bytes file, refl) }
