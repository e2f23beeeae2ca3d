-- What a device of dumps holds, and what a call does to it.
use Rattle.std.specs.Prelude.{◌≡◌, ◌⊎◌, ℕ, ◌+◌, ◌-◌, ◌≤◌, List, length, min, take, drop, Option, None, Some, Result, MatchResult, OnErr, OnOk, IfOk}
use Rattle.std.specs.Option.{option_map_or}
use Rattle.dump_io.specs.Counts.{Rose, plus_capped}

-- the files by name: the bytes of each, or `None`
abbrev pub Files : Type 0
Files = List ℕ → Option (List ℕ)

-- what is open: nothing, a file whose bytes the device tells, or one of which it tells the size alone
pub data Now : Type 0 where
  closed : Now
  told : List ℕ → Now
  sized : ℕ → Now

-- what is open if it is these bytes, or if it is nothing
abbrev pub opened : Option (List ℕ) → Now
opened bytes = option_map_or told bytes closed

-- a file is open
abbrev pub IsOpen : Now → Type 0
IsOpen closed = ⊥
IsOpen now = Unit {0}

-- the size of what is open, in bytes
abbrev pub size_of : Now → ℕ
size_of closed = 0
size_of (told bytes) = length bytes
size_of (sized size) = size

-- if the device tells its files, what is open is the file with this name
abbrev pub IsNamed : Option Files → List ℕ → Now → Type 0
IsNamed None name now = Unit {0}
IsNamed (Some files) name now = (bytes : List ℕ) × (files name ≡ Some bytes) × (now ≡ told bytes)

-- the device tells its files, and none has this name
abbrev pub IsAbsent : Option Files → List ℕ → Type 0
IsAbsent None name = ⊥
IsAbsent (Some files) name = files name ≡ None

-- what is open has these bytes from this offset on, if the device tells its bytes
abbrev pub Gives : Now → ℕ → List ℕ → Type 0
Gives closed at bytes = ⊥
Gives (told all) at bytes = bytes ≡ take (length bytes) (drop at all)
Gives (sized size) at bytes = Unit {0}

-- the bytes of what is open have this property, if the device tells them
abbrev pub IfTold : Now → (List ℕ → Type 0) → Type 0
IfTold now Holds = (bytes : List ℕ) → now ≡ told bytes → Holds bytes

-- a read at this offset gave the first n bytes of the buffer
pub record Reads (now : Now) (at : ℕ) (buffer : List ℕ) (n : ℕ) : Type 0 where
  pub some : 1 ≤ n
  pub within : n ≤ length buffer
  pub inside : at + n ≤ size_of now
  pub bytes : Gives now at (take n buffer)

-- what a device is at one time
pub record DeviceState : Type 0 where
  -- the files, where the device tells them
  pub files : Option Files
  -- what is open
  pub now : Now
  -- how often the device has failed
  pub faults : ℕ
  -- how many bytes the device has given
  pub taken : ℕ

-- the device's count of faults rose
abbrev pub DeviceFailed : DeviceState → DeviceState → Type 0
DeviceFailed before after = Rose before.faults after.faults

-- the device gave this many bytes
abbrev pub Took : DeviceState → DeviceState → ℕ → Type 0
Took before after n = after.taken ≡ plus_capped before.taken n

-- the most bytes that a read at this offset may give into a buffer
abbrev pub most_at : Now → ℕ → List ℕ → ℕ
most_at now at buffer = min (size_of now - at) (length buffer)

-- what a call that opens a file by its name does: on `Ok` the file with that name is open and its size is returned;
-- on `Err` none is open, and the count of faults rose, or the device tells its files and none has that name
pub record Opens {E : Type 0} (before after : DeviceState) (name : List ℕ) (result : Result ℕ E) : Type 0 where
  pub same_files : after.files ≡ before.files
  pub same_taken : after.taken ≡ before.taken
  pub later : before.faults ≤ after.faults
  pub opened : IfOk result (λ size. IsOpen after.now × (size_of after.now ≡ size))
  pub named : OnOk result (IsNamed before.files name after.now)
  pub failed : OnErr result (after.now ≡ closed)
  pub cause : OnErr result (DeviceFailed before after ⊎ IsAbsent before.files name)

-- what one read at an offset into a buffer does: on `Ok(n)` it gave n bytes, and on `Err`
-- none; what is open stays open, and the read fails only if the count of faults rose
pub record ReadsSome {E : Type 0} (before after : DeviceState) (at : ℕ) (buffer : List ℕ) (result : Result ℕ E) : Type 0 where
  pub same_files : after.files ≡ before.files
  pub same_now : after.now ≡ before.now
  pub later : before.faults ≤ after.faults
  pub failed : OnErr result (DeviceFailed before after)
  pub read : IfOk result (Reads before.now at buffer)
  pub taken : MatchResult result (Took before after) (λ _. after.taken ≡ before.taken)

-- what each call that reads at most this many bytes of what is open does: the
-- files and what is open stay the same, and the count of faults doesn't fall
pub record ReadsAtMost (before after : DeviceState) (bytes : ℕ) : Type 0 where
  pub same_files : after.files ≡ before.files
  pub same_now : after.now ≡ before.now
  pub later : before.faults ≤ after.faults
  pub taken_least : before.taken ≤ after.taken
  pub taken_most : after.taken ≤ plus_capped before.taken bytes
