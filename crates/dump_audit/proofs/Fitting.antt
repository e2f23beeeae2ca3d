-- What is found fits the processes.
use Rattle.std.proofs.Common.{◌≡◌, ℕ, suc, ◌+◌, ◌<◌, Bool, true, false, List, [], ◌∷◌, ◌++◌, length, Option, None, Some, Result, Ok, Err, refl, sym, ap, subst, arith, if◌then◌else◌}
use Rattle.std.specs.Prelude.{All, IfOk, IfSome, IsSomeAnd, ◌==◌, flat_map, slice_get, nat_lt, unwrap_or}
use Rattle.std.specs.List.{enumerate_from, filter_map, cons_option}
use Rattle.std.specs.Option.{option_map, option_to_list}
use Rattle.std.specs.Str.{bytes_eq}
use Rattle.std.proofs.lemmas.List.Elements.{All-nil, All-cons, All-append}
use Rattle.std.proofs.lemmas.Option.{slice_get_within}
use Rattle.dump_io.specs.Laws.Lists.{position-within}
use Rattle.dump_io.specs.Numbers.{dec_number}
use Rattle.section_rows.specs.Rows.{Kept}
use Rattle.process_table.specs.Processes.{Process, nobody, process_at}
use Rattle.link_graph.specs.Kinds.{Kind, Link, LinkPort, To, From}
use Rattle.link_graph.specs.Entries.{LinkEntry}
use Rattle.link_graph.specs.Texts.{is_local}
use Rattle.link_graph.specs.Graph.{links_of}
use Rattle.dump_audit.specs.Findings.{Audit, count_findings, entry_finding, entry_findings, findings, gone, is_dumped, link_findings, mail_of, one_sided, partner_finding, process_place, process_findings, queue_findings, section_offset, stated_findings}
use Rattle.dump_audit.specs.Fitting.{Fits, HasEntry, is_link, is_to, is_from}
use Rattle.dump_audit.specs.declared.finding.Finding.{Finding}
use Rattle.dump_audit.specs.declared.finding.Finding.TheVariants.{UnreadLinks, UnreadQueue, Mailbox, QueueCount}

-- ---- what holds of each element of a list with its place
All-numbered : {X Y : Type 0} (P : Y → Type 0) (f : ℕ × X → List Y) (n : ℕ) (xs : List X)
    → ((i : ℕ) (x : X) → slice_get xs i ≡ Some x → All P (f (n + i, x))) → All P (flat_map f (enumerate_from n xs))
All-numbered P f n [] all = All-nil P
All-numbered P f n (x ∷ xs) all =
    let here : n + 0 ≡ n = omega arith in
    All-append P (f (n, x)) (flat_map f (enumerate_from (n + 1) xs)) (subst (λ m. All P (f (m, x))) here (all 0 x refl))
    (All-numbered P f (n + 1) xs (λ i y at. let there : n + suc i ≡ n + 1 + i = omega arith in subst (λ m. All P (f (m, y))) there (all (suc i) y at)))

All-cons_option : {Y : Type 0} (P : Y → Type 0) (o : Option Y) (ys : List Y) → IfSome o P → All P ys → All P (cons_option o ys)
All-cons_option P None ys first rest = rest
All-cons_option P (Some y) ys first rest = All-cons P y ys first rest

All-told : {X Y : Type 0} (P : Y → Type 0) (h : ℕ × X → Option Y) (n : ℕ) (xs : List X)
    → ((i : ℕ) (x : X) → slice_get xs i ≡ Some x → IfSome (h (n + i, x)) P) → All P (filter_map h (enumerate_from n xs))
All-told P h n [] all = All-nil P
All-told P h n (x ∷ xs) all =
    let here : n + 0 ≡ n = omega arith in
    All-cons_option P (h (n, x)) (filter_map h (enumerate_from (n + 1) xs)) (subst (λ m. IfSome (h (m, x)) P) here (all 0 x refl))
    (All-told P h (n + 1) xs (λ i y at. let there : n + suc i ≡ n + 1 + i = omega arith in subst (λ m. IfSome (h (m, y)) P) there (all (suc i) y at)))

All-places : {X Y : Type 0} (P : Y → Type 0) (f : ℕ × X → List Y) (xs : List X)
    → ((i : ℕ) (x : X) → slice_get xs i ≡ Some x → All P (f (i, x))) → All P (flat_map f (enumerate_from 0 xs))
All-places P f xs all = All-numbered P f 0 xs (λ i x at. let there : i ≡ 0 + i = omega arith in subst (λ m. All P (f (m, x))) there (all i x at))

All-numbers : {X Y : Type 0} (P : Y → Type 0) (h : ℕ × X → Option Y) (xs : List X)
    → ((i : ℕ) (x : X) → slice_get xs i ≡ Some x → IfSome (h (i, x)) P) → All P (filter_map h (enumerate_from 0 xs))
All-numbers P h xs all = All-told P h 0 xs (λ i x at. let there : i ≡ 0 + i = omega arith in subst (λ m. IfSome (h (m, x)) P) there (all i x at))

All-if : {Y : Type 0} (P : Y → Type 0) (b : Bool) (xs ys : List Y) → All P xs → All P ys → All P (if b then xs else ys)
All-if P true xs ys first second = first
All-if P false xs ys first second = second

some-if : {Y : Type 0} (P : Y → Type 0) (b : Bool) (o : Option Y) → IfSome o P → IfSome (if b then o else None) P
some-if P true o holds = holds
some-if P false o holds = tt

-- ---- places
place-within : (processes : List Process) (pid : List ℕ) → IfSome (process_place processes pid) (λ q. q < length processes)
place-within processes pid = position-within (λ process. bytes_eq pid process.pid) processes

-- ---- links and monitors
some-entry : (entries : List LinkEntry) (n : ℕ) (e : LinkEntry) (is_kind : Kind → Bool) → slice_get entries n ≡ Some e → is_kind e.kind ≡ true
    → IsSomeAnd (slice_get entries n) (λ found. is_kind found.kind ≡ true)
some-entry entries n e is_kind at is = subst (λ o. IsSomeAnd o (λ found. is_kind found.kind ≡ true)) (sym at) is

-- what is said of a partner fits where what is said of one that is there does, and of one that isn't
partner-fits : (a : Audit) (p : ℕ) (process : Process) (entry at : ℕ) (kind : Kind) (pid : List ℕ) (place : Option ℕ) → IfSome place (λ q. q < length a.processes)
    → ((q other : ℕ) → q < length a.processes → IfSome (one_sided kind p q entry at other) (Fits a.processes))
    → ((other : ℕ) → IfSome (gone kind p entry at other) (Fits a.processes))
    → IfSome (partner_finding a p process entry at kind pid place) (Fits a.processes)
partner-fits a p process entry at kind pid None inside there absent = some-if (Fits a.processes) _ _ (absent (section_offset a.index process))
partner-fits a p process entry at kind pid (Some q) inside there absent =
    some-if (Fits a.processes) _ _ (there q (section_offset a.index (process_at a.processes q)) inside)

kind-fits : (a : Audit) (p entry at : ℕ) (process : Process) (kind : Kind)
    → ((is_kind : Kind → Bool) → is_kind kind ≡ true → HasEntry is_kind a.processes p entry)
    → IfSome (entry_finding a p process entry at kind) (Fits a.processes)
kind-fits a p entry at process (Link pid) has =
    partner-fits a p process entry at (Link pid) pid (process_place a.processes pid) (place-within a.processes pid) (λ q other inside. (has is_link refl, inside)) (λ other. has is_link refl)
kind-fits a p entry at process (To pid reference) has =
    partner-fits a p process entry at (To pid reference) pid (process_place a.processes pid) (place-within a.processes pid) (λ q other inside. (has is_to refl, inside)) (λ other. has is_to refl)
kind-fits a p entry at process (From pid reference) has =
    partner-fits a p process entry at (From pid reference) pid (process_place a.processes pid) (place-within a.processes pid) (λ q other inside. (has is_from refl, inside)) (λ other. has is_from refl)
kind-fits a p entry at process LinkPort has = tt
kind-fits a p entry at process kind has = tt

entries-fit : (a : Audit) (p : ℕ) → p < length a.processes
    → All (Fits a.processes) (entry_findings a p (process_at a.processes p) (links_of (process_at a.processes p).links).entries)
entries-fit a p inside =
    let process = process_at a.processes p in
    let entries = (links_of process.links).entries in
    All-numbers (Fits a.processes) (λ numbered. entry_finding a p process numbered.0 numbered.1.at numbered.1.kind) entries
    (λ n e at. kind-fits a p n e.at process e.kind (λ is_kind is. record { inside = inside; there = some-entry entries n e is_kind at is }))

unread-fits : (a : Audit) (p other : ℕ) (line : Option Kept) → p < length a.processes
    → All (Fits a.processes) (option_to_list (option_map (λ line. UnreadLinks p line.at other) line))
unread-fits a p other None inside = All-nil (Fits a.processes)
unread-fits a p other (Some line) inside = All-cons (Fits a.processes) (UnreadLinks p line.at other) [] inside (All-nil (Fits a.processes))

links-fit : (a : Audit) (p : ℕ) → p < length a.processes → All (Fits a.processes) (link_findings a p (process_at a.processes p))
links-fit a p inside =
    let process = process_at a.processes p in
    let unread = option_to_list (option_map (λ line. UnreadLinks p line.at (section_offset a.index process)) process.links) in
    let entries = entry_findings a p process (links_of process.links).entries in
    All-if (Fits a.processes) (links_of process.links).unread unread (if is_local process.pid then entries else []) (unread-fits a p (section_offset a.index process) process.links inside)
    (All-if (Fits a.processes) (is_local process.pid) entries [] (entries-fit a p inside) (All-nil (Fits a.processes)))

-- ---- message queues
counts-fit : (processes : List Process) (p : ℕ) (line : Kept) (other stated : ℕ) (found : Option ℕ) → p < length processes
    → All (Fits processes) (count_findings p line other stated found)
counts-fit processes p line other stated None inside = All-nil (Fits processes)
counts-fit processes p line other stated (Some found) inside =
    All-if (Fits processes) (found == stated) [] (QueueCount p stated found line.at other ∷ []) (All-nil (Fits processes)) (All-cons (Fits processes) (QueueCount p stated found line.at other) [] inside (All-nil (Fits processes)))

stated-fit : (a : Audit) (p : ℕ) (line : Kept) (other : ℕ) (stated : Option ℕ) → p < length a.processes
    → All (Fits a.processes) (stated_findings a p line other stated)
stated-fit a p line other None inside = All-cons (Fits a.processes) (UnreadQueue p line.at other) [] inside (All-nil (Fits a.processes))
stated-fit a p line other (Some stated) inside =
    All-append (Fits a.processes) (if nat_lt a.limit stated then Mailbox p stated line.at other ∷ [] else []) (count_findings p line other stated (mail_of a p))
    (All-if (Fits a.processes) (nat_lt a.limit stated) (Mailbox p stated line.at other ∷ []) [] (All-cons (Fits a.processes) (Mailbox p stated line.at other) [] inside (All-nil (Fits a.processes))) (All-nil (Fits a.processes)))
    (counts-fit a.processes p line other stated (mail_of a p) inside)

queue-fits : (a : Audit) (p : ℕ) (process : Process) (line : Option Kept) → p < length a.processes → All (Fits a.processes) (queue_findings a p process line)
queue-fits a p process None inside = All-nil (Fits a.processes)
queue-fits a p process (Some line) inside = stated-fit a p line (section_offset a.index process) (dec_number line.text) inside

-- ---- all processes
process-fits : (a : Audit) (p : ℕ) → p < length a.processes → All (Fits a.processes) (process_findings a (p, process_at a.processes p))
process-fits a p inside =
    let process = process_at a.processes p in
    All-if (Fits a.processes) (is_dumped a.index process) (link_findings a p process ++ queue_findings a p process process.queue) []
    (All-append (Fits a.processes) (link_findings a p process) (queue_findings a p process process.queue) (links-fit a p inside) (queue-fits a p process process.queue inside))
    (All-nil (Fits a.processes))

pub findings-fit : (a : Audit) → All (Fits a.processes) (findings a)
findings-fit a =
    All-places (Fits a.processes) (process_findings a) a.processes
    (λ p process at. subst (λ q. All (Fits a.processes) (process_findings a (p, q))) (ap (λ o. unwrap_or o nobody) at)
    (process-fits a p (slice_get_within a.processes p process at)))

pub found-fits : {T E : Type 0} (items : T → List Finding) (a : Audit) (found : Result T E) → IfOk found (λ f. items f ≡ findings a)
    → IfOk found (λ f. All (Fits a.processes) (items f))
found-fits items a (Ok f) is = subst (All (Fits a.processes)) (sym is) (findings-fit a)
found-fits items a (Err e) is = tt
