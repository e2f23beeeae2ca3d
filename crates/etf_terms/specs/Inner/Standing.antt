-- What is still to be written.
use Rattle.std.specs.Prelude.{◌≡◌, ℕ, suc, ◌+◌, ◌≤◌, List, [], ◌∷◌, ◌++◌, ◌==◌, length, Result, MatchResult, OnErr, if◌then◌else◌}
use Rattle.std.specs.Borrow.{Bor}
use Rattle.dump_io.specs.Sinks.{SinkState, SinkFailed, GainedFront, HasPutPart}
use Rattle.etf_terms.specs.declared.stack.Entry.{Entry}
use Rattle.etf_terms.specs.Depth.{deepest}
use Rattle.etf_terms.specs.Heads.{Head, kids}
use Rattle.etf_terms.specs.Terms.{Terms, count, AreTerms}
use Rattle.etf_terms.specs.Text.{terms_kind, closing, inner, own_text}
use Rattle.etf_terms.specs.Inner.Open.{Open}

-- a head that was just read
abbrev pub entry_of : Head → Entry
entry_of head = record { kind = terms_kind head; kids = kids head; next = 0 }

-- the entries, with that of a head in front if the head has terms
abbrev pub entered : Head → List Entry → List Entry
entered head entries = if kids head == 0 then entries else entry_of head ∷ entries

-- what closes a head at once, if it has no terms
abbrev pub ended : Head → List ℕ
ended head = if kids head == 0 then closing (terms_kind head) (kids head) else []

-- an entry, one term further
abbrev pub next_of : Entry → Entry
next_of e = record { kind = e.kind; kids = e.kids; next = e.next + 1 }

-- the bytes are the terms that the entries still need, from the innermost
-- outwards, this is what has to be written, and the stack has room for it
abbrev pub Stands : ℕ → List Entry → List ℕ → List ℕ → Type 0
Stands room [] rest to_come = (rest ≡ []) × (to_come ≡ [])
Stands room (e ∷ es) rest to_come =
    (terms : Terms) × (front : List ℕ) × (behind : List ℕ) × (below : List ℕ) × (rest ≡ front ++ behind) × AreTerms front terms
    × (count terms + e.next ≡ e.kids) × (to_come ≡ inner e.kind e.kids e.next terms ++ below)
    × (suc (length es) + deepest terms ≤ room) × Stands room es behind below

-- a part was written and the rest comes after it, or it failed somewhere in the whole
pub record Moves {E : Type 0} (before after : SinkState) (whole : List ℕ) (room : ℕ) (entries : List Entry) (result : Result (Bor (List ℕ)) E) : Type 0 where
  pub later : before.faults ≤ after.faults
  pub writes : MatchResult result
      (λ rest. (to_come : List ℕ) × HasPutPart before after whole to_come × Stands room entries rest.now to_come)
      (λ _. GainedFront before after whole)
  pub failed : OnErr result (SinkFailed before after)

-- with one more entry, which was taken off
abbrev pub StandsWith : Entry → Open → List ℕ → List ℕ → Type 0
StandsWith e stack rest to_come = Stands stack.room (e ∷ stack.entries) rest to_come

-- what the next term of an entry writes before its own terms
abbrev pub own_of : Entry → Head → List ℕ
own_of e head = own_text e.kind e.kids e.next head
