-- A buffer is filled by one read after another.
use Rattle.std.proofs.Common.{arith, ◌≡◌, ℕ, ◌+◌, ◌≤◌, List, ◌++◌, length, take}
use Rattle.std.proofs.lemmas.List.{length-take-le, take-append-le}
use Rattle.std.proofs.Math.Seq.{take-append-add}
use borrow.Rule.Slice.PartMut.{put_mid}
use Rattle.dump_io.specs.Dumps.{Now, Gives}
use Rattle.dump_io.specs.Laws.Reads.{Gives-append}

-- a buffer's front grows by what a read put behind it
pub take-filled : (d n k : ℕ) (xs ys : List ℕ) → d ≤ length xs → n ≤ length ys → take (d + n) (put_mid d k xs ys) ≡ take d xs ++ take n ys
take-filled d n k xs ys l m = grind (arith, length-take-le, take-append-add, take-append-le)

pub Gives-filled : (now : Now) (at d n k : ℕ) (xs ys : List ℕ) → d ≤ length xs → n ≤ length ys
    → Gives now at (take d xs) → Gives now (at + d) (take n ys) → Gives now at (take (d + n) (put_mid d k xs ys))
Gives-filled now at d n k xs ys l m first second = grind (arith, length-take-le, take-filled, Gives-append)
