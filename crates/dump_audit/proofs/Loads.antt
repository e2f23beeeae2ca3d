-- The bodies of an audit are judged in a row, and then read one after another.
use Rattle.std.proofs.Common.{◌≡◌, ℕ, Bool, true, false, List, [], ◌∷◌, ◌++◌, length, map, Option, None, Some, refl, sym, ◌∙◌, ap, if◌then◌else◌}
use Rattle.std.specs.Prelude.{Err, IfSome, Ok, OnOk, Result}
use Rattle.std.specs.Bool.{then_some}
use Rattle.std.specs.Global.{Vec}
use Rattle.std.specs.Option.{option_map}
use Rattle.std.proofs.lemmas.List.{length-map}
use Rattle.dump_sections.specs.Index.{Contents, sections_in}
use Rattle.dump_sections.specs.Sections.{Section}
use Rattle.process_table.specs.Processes.{AreProcessesOver, Process, ProcessTable}
use Rattle.process_table.specs.Records.{PlacedSection, ProcPlaces, named_place, pid_of, proc_places, record_sections, records}
use Rattle.dump_audit.specs.Mailboxes.{audited_sections, mailbox_place, mailbox_places, mailboxes_at, pids_in}

pub on-ok : {T E P : Type 0} (r : Result T E) → P → OnOk r P
on-ok (Ok value) p = p
on-ok (Err fault) p = tt

-- the pids that were found are those of the process table
pub pids-found : (found : ProcPlaces) (sections : List Section) → found ≡ proc_places sections → map (λ (p : List ℕ × ℕ). p.0) found.places ≡ pids_in sections
pids-found found sections is = ap (λ (t : ProcPlaces). map (λ (p : List ℕ × ℕ). p.0) t.places) is ∙ named (records sections)
  where
    named : (rs : List PlacedSection) → map (λ (p : List ℕ × ℕ). p.0) (map named_place rs) ≡ map (λ (r : PlacedSection). pid_of r.1) rs
    named [] = refl
    named (r ∷ rs) = ap (λ l. pid_of r.1 ∷ l) (named rs)

-- the bodies at the places that were found are those of the audit
pub bodies-found : (full : Bool) (sections : List Section) (places : List (Option ℕ)) → places ≡ (if full then mailbox_places sections else [])
    → record_sections sections ++ mailboxes_at sections places ≡ audited_sections full sections
bodies-found true sections places is = ap (λ ps. record_sections sections ++ mailboxes_at sections ps) is
bodies-found false sections places is = ap (λ ps. record_sections sections ++ mailboxes_at sections ps) is

-- what was counted at these places
pub counts-found : (full : Bool) (sections : List Section) (places : List (Option ℕ)) (mail : Option ℕ → Option ℕ) (counts : Vec (Option ℕ))
    → places ≡ (if full then mailbox_places sections else []) → counts.items ≡ map mail places
    → option_map (λ (c : Vec (Option ℕ)). c.items) (then_some full counts) ≡ (if full then Some (map mail (mailbox_places sections)) else None)
counts-found true sections places mail counts is counted = ap Some (counted ∙ ap (map mail) is)
counts-found false sections places mail counts is counted = refl

pub counts-all : (full : Bool) (index : Contents) (places : List (Option ℕ)) (counts : Vec (Option ℕ)) (table : ProcessTable)
    → places ≡ (if full then mailbox_places (sections_in index) else []) → length counts.items ≡ length places → AreProcessesOver index table
    → IfSome (then_some full counts) (λ c. length c.items ≡ length table.processes)
counts-all true index places counts table is all over =
    all ∙ ap length is ∙ length-map (pids_in (sections_in index)) (mailbox_place (sections_in index)) ∙ ap length (sym over.pids) ∙ length-map table.processes (λ (p : Process). p.pid)
counts-all false index places counts table is all over = tt
