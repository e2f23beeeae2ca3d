-- What the answer tells of the bytes of a dump.
use Rattle.std.proofs.lemmas.Grind.{common_steps}
use Rattle.std.proofs.Common.{◌≡◌, ℕ, ◌-◌, ◌≤◌, true, List, [], ◌++◌, length, take, drop, min, Option, None, Ok, Err, Result, refl, sym, ◌∙◌, ap, subst, arith, ◌⊎◌, ⊎_elim}
use Rattle.std.specs.List.{starts_with}
use Rattle.std.specs.Prelude.{nat_eq, IfErr, IsErrOf}
use Rattle.std.proofs.lemmas.List.{take_all, length-drop, append-nil, length-take-le}
use Rattle.dump_io.specs.Limits.{Numbers}
use Rattle.dump_io.specs.Lines.{Header, headers}
use Rattle.dump_io.specs.Dumps.{Files, Now, told, size_of, IsOpen, IsNamed, IsAbsent, Gives}
use Rattle.section_index.specs.declared.opening.OpenFault.{OpenFault}
use Rattle.section_index.specs.declared.opening.OpenFault.TheVariants.{Read}
use Rattle.dump_sections.specs.declared.version.Version.{Version}
use Rattle.dump_sections.specs.Versions.{signature}
use Rattle.section_index.specs.Opening.{header_fault, open_fault}
use Rattle.section_index.specs.Inner.Beginning.{IsAllOrLong, BeginsAs, IsJudged, IsOfTheBeginning}
use Rattle.section_index.specs.Opening.{fault_of}
use Rattle.section_index.specs.Inner.Scanning.{IsHeaderFault, IsOfAHeader}
use Rattle.dump_sections.specs.Index.{Contents, IsIndexOf, IsBuiltOver}
use Rattle.section_index.specs.Answers.{IsAnswerFor, IsClosedOrNamed, IsHeld, IsTooLargeFor}
use Rattle.section_index.specs.Inner.Reading.{IsNotTooLarge}
use Rattle.section_index.specs.Inner.Reading.{IsHeaderRefusal}
use Rattle.section_index.proofs.Grown.{Gives-whole}

-- the first piece is all, or long
pub first-piece : (all first : List ℕ) (size : ℕ) → length first ≡ min 16384 (size - 0) → length all ≡ size → IsAllOrLong first (drop (length first) all)
first-piece all first size count whole short = grind (arith, common_steps, length-drop)

opening-small : (bytes : List ℕ) (limits : Numbers) → length bytes ≤ limits.dump → open_fault bytes limits ≡ fault_of bytes limits
opening-small bytes limits small = grind arith

pub answer-judged : (bytes : List ℕ) (limits : Numbers) (fault : OpenFault) → length bytes ≤ limits.dump → IsJudged limits bytes (Err fault) → IsAnswerFor bytes limits (Err fault)
answer-judged bytes limits fault small is = grind (arith, opening-small)

pub answer-header : (bytes : List ℕ) (limits : Numbers) (version : Version) (fault : OpenFault) → length bytes ≤ limits.dump → BeginsAs limits bytes version
    → IsHeaderFault limits bytes fault → IsAnswerFor bytes limits (Err fault)
answer-header bytes limits version fault small accepted is = grind (arith, opening-small)

pub answer-index : (bytes : List ℕ) (limits : Numbers) (version : Version) (heard : List Header) (size : ℕ) → length bytes ≡ size → length bytes ≤ limits.dump
    → BeginsAs limits bytes version → heard ≡ headers bytes → header_fault bytes limits ≡ None
    → IsAnswerFor bytes limits (Ok (record { headers = heard; size = size; version = version }))
answer-index bytes limits version heard size whole small accepted all none = grind (arith, opening-small)

-- what was read of a file is all of it
pub Gives-all : (bytes all : List ℕ) → length bytes ≡ length all → Gives (told all) 0 bytes → bytes ≡ all
Gives-all bytes all size first = first ∙ take_all (length bytes) all (omega (arith, size))

pub built-over : (now : Now) (index : Contents) (size : ℕ) → IsOpen now → size_of now ≡ size → index.size ≡ size
    → ((bytes : List ℕ) → now ≡ told bytes → IsIndexOf bytes index) → IsBuiltOver now index
built-over now index size open' whole same told' = grind arith

-- the first piece of a file whose bytes are told
pub record IsFirstPiece (all first : List ℕ) (size : ℕ) : Type 0 where
  pub rest : List ℕ
  pub whole : first ++ rest ≡ all
  pub long : IsAllOrLong first rest
  pub size' : length all ≡ size

pub piece-size : (old buffer : List ℕ) (count size : ℕ) → length buffer ≡ length old → length old ≡ 16384 → count ≡ min (length old) (size - 0)
    → length (take count buffer) ≡ min 16384 (size - 0)
piece-size old buffer count size same room is = length-take-le count buffer (omega (arith, same, room, is)) ∙ omega (arith, room, is)

pub IsFirstPiece-read : (all old buffer : List ℕ) (now : Now) (count size : ℕ) → now ≡ told all → Gives now 0 (take count buffer) → length buffer ≡ length old → length old ≡ 16384
    → count ≡ min (length old) (size - 0) → size_of now ≡ size → IsFirstPiece all (take count buffer) size
IsFirstPiece-read all old buffer now count size is gives same room counted whole =
    let first = take count buffer in
    let told' : Gives (told all) 0 first = subst (λ n. Gives n 0 first) is gives in
    let sized' : length all ≡ size = ap size_of (sym is) ∙ whole in
    record {
      rest = drop (length first) all;
      whole = sym (Gives-whole first all told');
      long = first-piece all first size (piece-size old buffer count size same room counted) sized';
      size' = sized';
    }

pub judged-whole : (all first : List ℕ) (size : ℕ) (limits : Numbers) (answer : Result Version OpenFault) → IsFirstPiece all first size
    → ((more : List ℕ) → IsAllOrLong first more → IsJudged limits (first ++ more) answer) → IsJudged limits all answer
judged-whole all first size limits answer piece judged = subst (λ b. IsJudged limits b answer) piece.whole (judged piece.rest piece.long)

-- the first piece begins as a dump
pub signed-first : (first : List ℕ) (limits : Numbers) (version : Version) → ((more : List ℕ) → IsAllOrLong first more → IsJudged limits (first ++ more) (Ok version))
    → starts_with nat_eq first signature ≡ true
signed-first first limits version judged = subst (λ b. starts_with nat_eq b signature ≡ true) (append-nil first) (judged [] (λ lt. refl)).signed

-- a refusal by the bytes isn't that the dump is too large
pub small-by-bytes : (fault : OpenFault) → IsOfTheBeginning fault → IsNotTooLarge fault
small-by-bytes fault of = grind arith

-- nor is it that reading failed
pub beginning-isnt-read : {A : Type 0} (fault : OpenFault) → IsOfTheBeginning fault → IsErrOf {T = A} (Err fault) Read → ⊥
beginning-isnt-read fault of is = let same : fault ≡ Read = cc in subst IsOfTheBeginning same of

-- a header's refusal is neither of the two
pub small-by-header : (fault : OpenFault) → IsOfAHeader fault → IsNotTooLarge fault
small-by-header fault of = grind arith

pub header-isnt-read : {A : Type 0} (fault : OpenFault) → IsOfAHeader fault → IsErrOf {T = A} (Err fault) Read → ⊥
header-isnt-read fault of is = let same : fault ≡ Read = cc in subst IsOfAHeader same of

-- nor is a fault of the rest of the file that the dump is too large, though reading may have failed
pub small-by-rest : (bounds : Numbers) (now : Now) (fault : OpenFault) → (fault ≡ Read) ⊎ IsHeaderRefusal bounds now fault → IsNotTooLarge fault
small-by-rest bounds now fault why = ⊎_elim (λ read. subst IsNotTooLarge (sym read) tt) (λ refused. small-by-header fault refused.kind) why

-- a value is no fault
pub ok-isnt-read : {A : Type 0} (value : A) → IsErrOf (Ok value) Read → ⊥
ok-isnt-read value is = let never : ⊥ = cc in never

-- the same fault in the result of another call
pub read-too : {A B : Type 0} (fault : OpenFault) → IsErrOf {T = A} (Err fault) Read → IsErrOf {T = B} (Err fault) Read
read-too fault is = let same : fault ≡ Read = cc in ap Err same

-- a fault of the rest of the file
pub answer-rest : (bytes : List ℕ) (limits bounds : Numbers) (version : Version) (now : Now) (fault : OpenFault) → length bytes ≤ limits.dump → BeginsAs limits bytes version
    → limits ≡ bounds → now ≡ told bytes → (fault ≡ Read) ⊎ IsHeaderRefusal bounds now fault → IsAnswerFor bytes limits (Err fault)
answer-rest bytes limits bounds version now fault small accepted same is why =
    ⊎_elim
    (λ read. subst (λ f. IsAnswerFor bytes limits (Err f)) (sym read) tt)
    (λ refused. answer-header bytes limits version fault small accepted (subst (λ l. IsHeaderFault l bytes fault) (sym same) (refused.refusal bytes is)))
    why

pub none-too_large : (now : Now) (limits : Numbers) (answer : Result Contents OpenFault) → IfErr answer IsNotTooLarge → IfErr answer (IsTooLargeFor now limits)
none-too_large now limits answer small = grind arith

-- the open file, where its bytes are told by its name or as what is open
pub told-file : (files : Option Files) (name : List ℕ) (now : Now) (bytes : List ℕ) → IsNamed files name now → IsHeld files name bytes ⊎ (now ≡ told bytes) → now ≡ told bytes
told-file files name now bytes named h5 = grind arith

-- the file that was opened by its name is the one that is open
pub IsClosedOrNamed-named : (files : Option Files) (name : List ℕ) (now : Now) → IsNamed files name now → IsClosedOrNamed files name now
IsClosedOrNamed-named files name now named = grind arith

-- a file that was opened is there
pub present-named : (files : Option Files) (name : List ℕ) (now : Now) → IsNamed files name now → IsAbsent files name → ⊥
present-named files name now named gone = grind arith
