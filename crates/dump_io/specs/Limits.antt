-- The limits within which a dump is read.
use Rattle.std.specs.Prelude.{ℕ, ◌≤◌}

-- the six limits, and what each of them counts
pub record Numbers : Type 0 where
  -- bytes of the file
  pub dump : ℕ
  -- bytes of a line that begins with `=`, before its LF; a CR counts
  pub header : ℕ
  -- headers
  pub sections : ℕ
  -- bytes of all header texts together
  pub pool : ℕ
  -- bytes of a body that is loaded
  pub section : ℕ
  -- heap lines and elements of one loaded heap
  pub dense : ℕ

-- the usual limits
abbrev pub usual : Numbers
usual = record {
  dump = 68719476736;
  header = 4096;
  sections = 8000000;
  pool = 268435456;
  section = 536870912;
  dense = 100000000;
}

-- each number is at most the usual one, and the limit on the length of a header is at least 1
pub record AreAllowed (n : Numbers) : Type 0 where
  pub dump : n.dump ≤ usual.dump
  pub header : n.header ≤ usual.header
  pub some_header : 1 ≤ n.header
  pub sections : n.sections ≤ usual.sections
  pub pool : n.pool ≤ usual.pool
  pub section : n.section ≤ usual.section
  pub dense : n.dense ≤ usual.dense
