-- Reads one after another.
use Rattle.std.proofs.Common.{◌≡◌, ℕ, ◌+◌, ◌^◌, ◌<◌, ◌≤◌, List, ◌++◌, length, take, drop, refl, arith, length-append}
use Rattle.std.proofs.lemmas.Grind.{common_steps}
use Rattle.std.proofs.lemmas.List.{take-append-drop, drop-take, drop-drop}
use Rattle.dump_io.specs.Dumps.{DeviceState, Now, Gives, ReadsAtMost}

-- nothing was read
pub ReadsAtMost-none : {a : DeviceState} (most : ℕ) → a.taken < 2 ^ 64 → ReadsAtMost a a most
ReadsAtMost-none most small =
    record { same_files = refl; same_now = refl; later = omega arith; taken_least = omega arith; taken_most = omega (arith, small) }

-- two calls in a row take at most what both may take
pub ReadsAtMost-then : {a b c : DeviceState} {few more : ℕ} → ReadsAtMost a b few → ReadsAtMost b c more → ReadsAtMost a c (few + more)
ReadsAtMost-then first second = grind arith

-- what takes at most `few` takes at most `most`
pub ReadsAtMost-within : {a b : DeviceState} {few most : ℕ} → few ≤ most → ReadsAtMost a b few → ReadsAtMost a b most
ReadsAtMost-within le reads = grind arith

-- two calls in a row take at most what both may take together
pub ReadsAtMost-both : {a b c : DeviceState} {few more most : ℕ} → ReadsAtMost a b few → ReadsAtMost b c more → few + more ≤ most → ReadsAtMost a c most
ReadsAtMost-both first second le = ReadsAtMost-within le (ReadsAtMost-then first second)

-- the first bytes in two parts
pub take-two : {X : Type 0} (m n : ℕ) (l : List X) → take (m + n) l ≡ take m l ++ take n (drop m l)
take-two m n l =
    cc (take-append-drop m (take (m + n) l), let e : take m (take (m + n) l) ≡ take m l = grind (arith, common_steps) in e, drop-take m n l)

-- what one read gave, followed by what the next one gave
pub Gives-append : (now : Now) (at : ℕ) (xs ys : List ℕ) → Gives now at xs → Gives now (at + length xs) ys → Gives now at (xs ++ ys)
Gives-append now at xs ys first second = grind (arith, length-append, take-two, drop-drop)
