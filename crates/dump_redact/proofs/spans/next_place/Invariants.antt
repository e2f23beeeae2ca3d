use Rattle.std.proofs.Common.{◌≡◌, ◌+◌, ◌-◌, ◌<◌, ◌≤◌, ◌⊎◌, length}
use Rattle.dump_redact.specs.Inner.Places.{length_between}
use Rattle.dump_redact.proofs.spans.next_place.Given as goal

-- the sections up to `next` are few enough
abbrev pub invariant-loop-next : goal.invariant-loop-next
invariant-loop-next l = record {
  some : l.i < l.next;
  within : l.next ≤ length l.index.headers;
  fits : (l.next ≡ l.i + 1) ⊎ (length_between l.index l.i l.next ≤ l.most);
}

abbrev pub decreases-loop-next : goal.decreases-loop-next
decreases-loop-next l = length l.index.headers - l.next
