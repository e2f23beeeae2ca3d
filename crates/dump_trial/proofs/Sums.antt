-- The counts of some processes, and of one more, and of the bodies of one.
use Rattle.std.proofs.Common.{◌≡◌, ℕ, ◌+◌, List, ◌++◌, length, take, Some, sym, ◌∙◌, ap, length-append}
use Rattle.std.specs.Prelude.{slice_get}
use Rattle.std.specs.List.{sum_by}
use Rattle.std.proofs.lemmas.List.Sums.{sum_by_more, sum_by-append}
use Rattle.std.proofs.lemmas.Option.{slice_get_within, get_or_from_slice_get}
use Rattle.process_table.specs.Processes.{Process}
use Rattle.heap_cells.specs.Cells.{Cell}
use Rattle.root_views.specs.Kinds.{roots_in}
use Rattle.root_views.specs.Roots.{BodyRoot}
use Rattle.root_views.specs.declared.kinds.RootKind.{RootKind}
use Rattle.term_unfold.specs.Walks.{Walk}
use Rattle.dump_trial.specs.declared.tally.Tally.{Tally}
use Rattle.dump_trial.specs.Tallies.{bad_content, bad_roots}
use Rattle.dump_trial.specs.Trial.{root_body, judged_nodes, tally_in, process_tally, tally_of}
use Rattle.dump_trial.specs.Inner.Tallies.{plus}

sum-more : (f : Process → ℕ) (processes : List Process) (i : ℕ) (process : Process) → slice_get processes i ≡ Some process
    → sum_by f (take (i + 1) processes) ≡ sum_by f (take i processes) + f process
sum-more f processes i process at =
    sum_by_more f processes i process (slice_get_within processes i process at)
    ∙ ap (λ p. sum_by f (take i processes) + f p) (get_or_from_slice_get processes i process process at)

abbrev tally : ℕ → ℕ → Tally
tally roots bad = record { roots = roots; bad = bad }

pub tally-more : (bytes : List ℕ) (processes : List Process) (i : ℕ) (process : Process) → slice_get processes i ≡ Some process
    → tally_of bytes (take (i + 1) processes) ≡ plus (tally_of bytes (take i processes)) (process_tally bytes process.pid)
tally-more bytes processes i process at =
    let roots : Process → ℕ = λ p. (process_tally bytes p.pid).roots in
    let bad : Process → ℕ = λ p. (process_tally bytes p.pid).bad in
    ap (λ n. tally n (sum_by bad (take (i + 1) processes))) (sum-more roots processes i process at)
    ∙ ap (tally (sum_by roots (take i processes) + roots process)) (sum-more bad processes i process at)

-- the roots of two bodies over the same cells
pub tally-append : (cells : List Cell) (xs ys : List BodyRoot) → tally_in cells (xs ++ ys) ≡ plus (tally_in cells xs) (tally_in cells ys)
tally-append cells xs ys =
    ap (λ n. tally n (bad_roots cells judged_nodes (xs ++ ys))) (length-append xs ys)
    ∙ ap (tally (length xs + length ys)) (sum_by-append (λ (root : BodyRoot). bad_content cells judged_nodes root.content) xs ys)

-- those of three
pub tally-three : (cells : List Cell) (xs ys zs : List BodyRoot) (x y z : Tally) → x ≡ tally_in cells xs → y ≡ tally_in cells ys → z ≡ tally_in cells zs
    → plus x (plus y z) ≡ tally_in cells (xs ++ (ys ++ zs))
tally-three cells xs ys zs x y z first second third =
    ap (λ t. plus t (plus y z)) first ∙ ap (λ t. plus (tally_in cells xs) (plus t z)) second ∙ ap (λ t. plus (tally_in cells xs) (plus (tally_in cells ys) t)) third
    ∙ ap (plus (tally_in cells xs)) (sym (tally-append cells ys zs)) ∙ sym (tally-append cells xs (ys ++ zs))

-- a count over a walk and a dump, and the same over those that they are equal to
pub tally-read : (before after : Walk) (held bytes pid : List ℕ) (kind : RootKind) (x : Tally) → after ≡ before → held ≡ bytes → x ≡ tally_in after.heap.cells (roots_in kind (root_body held kind pid))
    → x ≡ tally_in before.heap.cells (roots_in kind (root_body bytes kind pid))
tally-read before after held bytes pid kind x walker same is =
    is ∙ ap (λ (w : Walk). tally_in w.heap.cells (roots_in kind (root_body held kind pid))) walker ∙ ap (λ b. tally_in before.heap.cells (roots_in kind (root_body b kind pid))) same
