use Rattle.std.proofs.Common.{◌≡◌, ◌≤◌, List, ℕ, length}
use Rattle.dump_sections.specs.Index.{IsIndexOf}
use Rattle.dump_redact.specs.Inner.Places.{text_between}
use Rattle.dump_redact.proofs.Offsets.{redacted_upto}
use Rattle.dump_redact.proofs.spans.redact_sections.Given as goal

-- the sections up to `k` are redacted
abbrev pub invariant-loop-k : goal.invariant-loop-k
invariant-loop-k l = record {
  low : l.i ≤ l.k;
  high : l.k ≤ l.next;
  size : length l.piece ≡ length l.initial.piece;
  redacts : (dump : List ℕ) → IsIndexOf dump l.index → l.initial.piece ≡ text_between l.index l.i l.next dump → l.piece ≡ redacted_upto l.index l.i l.k l.next dump;
}
