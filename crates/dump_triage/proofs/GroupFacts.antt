-- The processes as they are grouped, one after another.
use Rattle.std.proofs.Common.{◌≡◌, ℕ, ◌+◌, List, [], ◌∷◌, ◌++◌, length, map, take, Some, ◌∙◌, ap, arith}
use Rattle.std.specs.Prelude.{slice_get}
use Rattle.std.specs.List.{enumerate_from}
use Rattle.std.proofs.lemmas.List.{length-take-le, map_push}
use Rattle.std.proofs.lemmas.Option.{slice_get_within}
use Rattle.dump_io.specs.Laws.Lists.{enumerate-push, take-at}
use Rattle.section_rows.specs.Rows.{Row}
use Rattle.process_table.specs.Processes.{Process}
use Rattle.dump_triage.specs.Triage.{stand_item, stand_items}

-- one process more
pub stands-more : (processes : List Process) (stands : List Row) (p : ℕ) (process : Process) → slice_get processes p ≡ Some process
    → stand_items (take (p + 1) processes) stands ≡ stand_items (take p processes) stands ++ stand_item stands (p, process) ∷ []
stands-more processes stands p process at =
    let size : 0 + length (take p processes) ≡ p = omega (arith, length-take-le p processes (omega (arith, slice_get_within processes p process at))) in
    ap (λ l. map (stand_item stands) (enumerate_from 0 l)) (take-at processes p process at)
    ∙ ap (map (stand_item stands)) (enumerate-push 0 (take p processes) process)
    ∙ map_push (stand_item stands) (enumerate_from 0 (take p processes)) (0 + length (take p processes), process)
    ∙ ap (λ n. stand_items (take p processes) stands ++ stand_item stands (n, process) ∷ []) size
