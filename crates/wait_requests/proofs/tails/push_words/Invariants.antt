use Rattle.std.proofs.Common.{◌≡◌, ◌*◌, ◌≤◌, ◌++◌, drop, length}
use Rattle.wait_requests.specs.References.{words_backwards}
use Rattle.wait_requests.proofs.tails.push_words.Given as goal

-- the words behind those that are left were appended
abbrev pub invariant-loop-left : goal.invariant-loop-left
invariant-loop-left l = record {
  within : 4 * l.left ≤ length l.words;
  pushed : l.tail.items ≡ l.initial.tail.items ++ words_backwards (drop (4 * l.left) l.words);
}

abbrev pub decreases-loop-left : goal.decreases-loop-left
decreases-loop-left l = l.left
