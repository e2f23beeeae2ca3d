-- The numbers of each command are in the ranges that it takes.
use Rattle.std.proofs.Common.{◌≡◌, ℕ, ◌<◌, ◌≤◌, ◌&&◌, Bool, true, false, if◌then◌else◌, List, [], ◌∷◌, Option, None, Some, nat_le, refl, sym, subst, arith}
use Rattle.std.specs.Prelude.{codes}
use Rattle.std.specs.Option.{option_and_then, option_map, IfSome}
use Rattle.std.specs.Str.{bytes_eq}
use Rattle.std.proofs.lemmas.Bool.{leb-true}
use Rattle.dump_io.specs.Numbers.{dec_number, hex_number}
use Rattle.root_views.specs.declared.kinds.RootKind.{RootKind}
use Rattle.root_views.specs.declared.kinds.RootKind.TheVariants as bodies
use Rattle.table_sections.specs.declared.kinds.TableKind.TheVariants as kinds
use Rattle.command_words.specs.Budgets.{budget, budget_of, counted, is_mark}
use Rattle.command_words.specs.Command.{Ask, Command, audit, audit_json, audit_query, audit_settled, binaries, binary, cell_query, cells, command, counted_shapes, ext, field, fields, fields_query, full_of, heavy, heavy_query, holders, index, info, is_pids, links, made_command, make, memory, on, path, peek_query, peek_roots, peek_term, plain_query, proc, process_query, procs, reach, redact, roots_query, shapes, shapes_query, shown_command, some_roots_query, stacks, table, term, term_query, trial, triage, waits, weigh, weigh_cell, weigh_query, word_command, word_query, IsAskInRange, IsInRange}
use Rattle.command_words.specs.Ranges.{number_upto}
use Rattle.command_words.specs.declared.words.Cmd.{Cmd}

-- ---- values that may be missing

-- a value, if there is one, has a property
record Has {A : Type 0} (P : A → Type 0) (o : Option A) : Type 0 where
  it : IfSome o P

nothing : {A : Type 0} {P : A → Type 0} → Has P None
nothing = record { it = tt }

some : {A : Type 0} {P : A → Type 0} (a : A) → P a → Has P (Some a)
some a p = record { it = p }

either : {A : Type 0} {P : A → Type 0} (b : Bool) {o p : Option A} → Has P o → Has P p → Has P (if b then o else p)
either true one other = one
either false one other = other

mapped : {A B : Type 0} {P : A → Type 0} {Q : B → Type 0} (f : A → B) (o : Option A) → Has P o → ((a : A) → P a → Q (f a)) → Has Q (option_map f o)
mapped f None has next = nothing
mapped f (Some a) has next = some (f a) (next a has.it)

followed : {A B : Type 0} {Q : B → Type 0} (f : A → Option B) (o : Option A) → ((a : A) → Has Q (f a)) → Has Q (option_and_then f o)
followed f None next = nothing
followed f (Some a) next = next a

any : {A : Type 0} (o : Option A) → Has (λ _. Unit {0}) o
any None = nothing
any (Some a) = some a tt

-- ---- numbers

-- a number from 1 to a maximum
abbrev Upto : ℕ → ℕ → Type 0
Upto most n = (1 ≤ n) × (n ≤ most)

tested : (most n : ℕ) (a b : Bool) → nat_le 1 n ≡ a → nat_le n most ≡ b → Has (Upto most) (if a && b then Some n else None)
tested most n true true least greatest = some n (leb-true 1 n least, leb-true n most greatest)
tested most n true false least greatest = nothing
tested most n false b least greatest = nothing

upto : (most : ℕ) (word : List ℕ) → Has (Upto most) (number_upto most word)
upto most word = followed (λ n. if nat_le 1 n && nat_le n most then Some n else None) (dec_number word) (λ n. tested most n (nat_le 1 n) (nat_le n most) refl refl)

counted-nodes : (marked : Bool) (word : List ℕ) → Has (λ b. 0 < b.nodes) (counted marked word)
counted-nodes marked word = mapped (budget marked) (number_upto 1000000000 word) (upto 1000000000 word) (λ n range. omega (arith, range.0))

budget-nodes : (words : List (List ℕ)) → Has (λ b. 0 < b.nodes) (budget_of words)
budget-nodes [] = some (budget false 10000) (omega arith)
budget-nodes (word ∷ []) = either (is_mark word) (some (budget true 10000) (omega arith)) (counted-nodes false word)
budget-nodes (nodes ∷ mark ∷ []) = either (is_mark mark) (counted-nodes true nodes) nothing
budget-nodes (a ∷ b ∷ c ∷ words) = nothing

-- ---- what is asked

abbrev Ranged : Option Ask → Type 0
Ranged = Has IsAskInRange

ranged-plain : (name : List ℕ) → Ranged (plain_query name)
ranged-plain name =
    let ten : Upto 1000 10 = (omega arith, omega arith) in
    either (bytes_eq name (codes "index")) (some index tt) (
    either (bytes_eq name (codes "info")) (some info tt) (
    either (bytes_eq name (codes "procs")) (some procs tt) (
    either (bytes_eq name (codes "memory")) (some memory tt) (
    either (bytes_eq name (codes "ets")) (some (table kinds.Ets) tt) (
    either (bytes_eq name (codes "ports")) (some (table kinds.Ports) tt) (
    either (bytes_eq name (codes "nodes")) (some (table kinds.Nodes) tt) (
    either (bytes_eq name (codes "mods")) (some (table kinds.Mods) tt) (
    either (bytes_eq name (codes "binaries")) (some binaries tt) (
    either (bytes_eq name (codes "triage")) (some (triage 10) ten) (
    either (bytes_eq name (codes "stacks")) (some (stacks 10) ten) (
    either (bytes_eq name (codes "waits")) (some (waits 10) ten) (
    either (bytes_eq name (codes "links")) (some links tt) (
    either (bytes_eq name (codes "redact")) (some redact tt) nothing)))))))))))))

ranged-roots : (kind : RootKind) (pid : List ℕ) (words : List (List ℕ)) → Ranged (roots_query kind pid words)
ranged-roots kind pid words = mapped _ (budget_of words) (budget-nodes words) (λ b nodes. nodes)

ranged-term : (form : List ℕ → ℕ → ℕ → Bool → Ask) (pid : List ℕ) (words : List (List ℕ)) → ((a n : ℕ) (marked : Bool) → 0 < n → IsAskInRange (form pid a n marked)) → Ranged (term_query form pid words)
ranged-term form pid [] range = nothing
ranged-term form pid (addr ∷ words) range = followed _ (hex_number addr) (λ a. mapped _ (budget_of words) (budget-nodes words) (λ b nodes. range a b.nodes b.marked nodes))

ranged-some : (kind : RootKind) (pid : List ℕ) (words : List (List ℕ)) → Ranged (some_roots_query kind pid words)
ranged-some kind pid [] = nothing
ranged-some kind pid (first ∷ []) = nothing
ranged-some kind pid (first ∷ count ∷ words) =
    followed _ (dec_number first) (λ f. counted-some f (number_upto 1000 count) (upto 1000 count))
  where
    counted-some : (f : ℕ) (number : Option ℕ) → Has (Upto 1000) number → Ranged (option_and_then (λ c. option_map (λ b. peek_roots kind pid f c b.nodes b.marked) (budget_of words)) number)
    counted-some f None range = nothing
    counted-some f (Some c) range = mapped _ (budget_of words) (budget-nodes words) (λ b nodes. (nodes, range.it.0, range.it.1))

ranged-peek : (pid : List ℕ) (words : List (List ℕ)) → Ranged (peek_query pid words)
ranged-peek pid [] = nothing
ranged-peek pid (what ∷ words) =
    either (bytes_eq what (codes "stack")) (ranged-some bodies.Stack pid words) (
    either (bytes_eq what (codes "dict")) (ranged-some bodies.Dict pid words) (
    either (bytes_eq what (codes "mail")) (ranged-some bodies.Mail pid words) (ranged-term peek_term pid (what ∷ words) (λ a n marked nodes. nodes))))

ranged-cell : (form : List ℕ → ℕ → Ask) (pid : List ℕ) (words : List (List ℕ)) → ((a : ℕ) → IsAskInRange (form pid a)) → Ranged (cell_query form pid words)
ranged-cell form pid [] range = nothing
ranged-cell form pid (addr ∷ []) range = mapped (form pid) (hex_number addr) (any (hex_number addr)) (λ a _. range a)
ranged-cell form pid (addr ∷ more ∷ words) range = nothing

ranged-counted : (pid : List ℕ) (pids : Bool) (word : List ℕ) → Ranged (counted_shapes pid pids word)
ranged-counted pid pids word = mapped _ (number_upto 1000 word) (upto 1000 word) (λ n range. range)

ranged-shapes : (pid : List ℕ) (words : List (List ℕ)) → Ranged (shapes_query pid words)
ranged-shapes pid [] = some (shapes pid 10 false) (omega arith, omega arith)
ranged-shapes pid (word ∷ []) = either (is_pids word) (some (shapes pid 10 true) (omega arith, omega arith)) (ranged-counted pid false word)
ranged-shapes pid (count ∷ last ∷ []) = either (is_pids last) (ranged-counted pid true count) nothing
ranged-shapes pid (a ∷ b ∷ c ∷ words) = nothing

ranged-weigh : (pid : List ℕ) (words : List (List ℕ)) → Ranged (weigh_query pid words)
ranged-weigh pid [] = some (weigh pid 10) (omega arith, omega arith)
ranged-weigh pid (count ∷ []) = mapped (weigh pid) (number_upto 1000 count) (upto 1000 count) (λ n range. range)
ranged-weigh pid (count ∷ addr ∷ []) = counted-cell (number_upto 1000 count) (upto 1000 count)
  where
    counted-cell : (number : Option ℕ) → Has (Upto 1000) number → Ranged (option_and_then (λ n. option_map (weigh_cell pid n) (hex_number addr)) number)
    counted-cell None range = nothing
    counted-cell (Some n) range = mapped (weigh_cell pid n) (hex_number addr) (any (hex_number addr)) (λ a _. range.it)
ranged-weigh pid (a ∷ b ∷ c ∷ words) = nothing

ranged-heavy : (pid : List ℕ) (words : List (List ℕ)) → Ranged (heavy_query pid words)
ranged-heavy pid [] = some (heavy pid 3) (omega arith, omega arith)
ranged-heavy pid (count ∷ []) = mapped (heavy pid) (number_upto 1000 count) (upto 1000 count) (λ n range. range)
ranged-heavy pid (a ∷ b ∷ words) = nothing

ranged-fields : (tag : List ℕ) (words : List (List ℕ)) → Ranged (fields_query tag words)
ranged-fields tag [] = nothing
ranged-fields tag (key ∷ []) = some (fields tag key) tt
ranged-fields tag (a ∷ b ∷ words) = nothing

ranged-audit : (form : ℕ → Bool → Ask) (limit : List ℕ) (words : List (List ℕ)) → ((n : ℕ) (full : Bool) → IsAskInRange (form n full)) → Ranged (audit_query form limit words)
ranged-audit form limit words range = followed _ (dec_number limit) (λ n. mapped (form n) (full_of words) (any (full_of words)) (λ full _. range n full))

ranged-process : (name word : List ℕ) (words : List (List ℕ)) → Ranged (process_query name word words)
ranged-process name word words =
    either (bytes_eq name (codes "stack")) (ranged-roots bodies.Stack word words) (
    either (bytes_eq name (codes "dict")) (ranged-roots bodies.Dict word words) (
    either (bytes_eq name (codes "mail")) (ranged-roots bodies.Mail word words) (
    either (bytes_eq name (codes "term")) (ranged-term term word words (λ a n marked nodes. nodes)) (
    either (bytes_eq name (codes "peek")) (ranged-peek word words) (
    either (bytes_eq name (codes "shapes")) (ranged-shapes word words) (
    either (bytes_eq name (codes "weigh")) (ranged-weigh word words) (
    either (bytes_eq name (codes "heavy")) (ranged-heavy word words) (
    either (bytes_eq name (codes "ext")) (ranged-cell ext word words (λ a. tt)) (
    either (bytes_eq name (codes "path")) (ranged-cell path word words (λ a. tt)) (
    either (bytes_eq name (codes "fields")) (ranged-fields word words) (
    either (bytes_eq name (codes "audit")) (ranged-audit audit word words (λ n full. tt)) (
    either (bytes_eq name (codes "audit-json")) (ranged-audit audit_json word words (λ n full. tt)) (
    either (bytes_eq name (codes "audit-settled")) (ranged-audit audit_settled word words (λ n full. tt)) nothing)))))))))))))

ranged-word : (name word : List ℕ) → Ranged (word_query name word)
ranged-word name word =
    let numbered : (form : ℕ → Ask) → ((n : ℕ) → Upto 1000 n → IsAskInRange (form n)) → Ranged (option_map form (number_upto 1000 word)) =
    λ form range. mapped form (number_upto 1000 word) (upto 1000 word) range in
    let placed : (form : ℕ → Ask) → ((n : ℕ) → IsAskInRange (form n)) → Ranged (option_map form (hex_number word)) =
    λ form range. mapped form (hex_number word) (any (hex_number word)) (λ n _. range n) in
    either (bytes_eq name (codes "proc")) (some (proc word) tt) (
    either (bytes_eq name (codes "field")) (some (field word) tt) (
    either (bytes_eq name (codes "reach")) (some (reach word) tt) (
    either (bytes_eq name (codes "cells")) (some (cells word) tt) (
    either (bytes_eq name (codes "binary")) (placed binary (λ n. tt)) (
    either (bytes_eq name (codes "holders")) (placed holders (λ n. tt)) (
    either (bytes_eq name (codes "triage")) (numbered triage (λ n range. range)) (
    either (bytes_eq name (codes "stacks")) (numbered stacks (λ n range. range)) (
    either (bytes_eq name (codes "waits")) (numbered waits (λ n range. range)) (ranged-process name word [])))))))))

-- ---- commands

made : (form : ℕ → ℕ → Command) (seed count : List ℕ) → ((s n : ℕ) → Upto 200000 n → IsInRange (form s n)) → Has IsInRange (made_command form seed count)
made form seed count range = followed _ (dec_number seed) (λ s. mapped (form s) (number_upto 200000 count) (upto 200000 count) (range s))

of-file : (file : List ℕ) (ask : Option Ask) → Ranged ask → Has IsInRange (option_map (on file) ask)
of-file file ask range = mapped (on file) ask range (λ a it. it)

in-range : (words : List (List ℕ)) → Has IsInRange (command words)
in-range [] = nothing
in-range (name ∷ []) = nothing
in-range (name ∷ file ∷ []) = of-file file (plain_query name) (ranged-plain name)
in-range (name ∷ file ∷ word ∷ []) =
    either (bytes_eq name (codes "make")) (made make file word (λ s n range. range))
    (either (bytes_eq name (codes "trial")) (made trial file word (λ s n range. range)) (of-file file (word_query name word) (ranged-word name word)))
in-range (name ∷ file ∷ word ∷ more ∷ words) = of-file file (process_query name word (more ∷ words)) (ranged-process name word (more ∷ words))

shown : (cmd : Option Cmd) → Has IsInRange (option_map shown_command cmd) → IfSome cmd (λ cmd. IsInRange (shown_command cmd))
shown None range = tt
shown (Some cmd) range = range.it

-- what is read as a command from words is in range
pub read-in-range : (cmd : Option Cmd) (words : List (List ℕ)) → option_map shown_command cmd ≡ command words → IfSome cmd (λ cmd. IsInRange (shown_command cmd))
read-in-range cmd words is = shown cmd (subst (Has IsInRange) (sym is) (in-range words))
