use Rattle.std.proofs.Common.{◌∙◌, ◌≡◌, ℕ, ◌+◌, ◌-◌, Bool, List, ◌++◌, length, ap, arith}
use Rattle.std.specs.List.{flat_map}
use Rattle.std.proofs.Math.Path.{fun_ext}
use Rattle.dump_io.specs.Laws.Puts.{Puts-then, Puts-stopped, Puts-as}
use Rattle.heap_reach.specs.Reached.{is_in, Reaching}
use Rattle.heap_cells.specs.HeapMap.{HeapMap}
use Rattle.term_forms.specs.Elements.{Element}
use Rattle.heap_reach.specs.Rounds.{reached_by, IsReachOf}
use Rattle.heap_reach.specs.Unreached.{count_below, unreached_of}
use Rattle.term_text.specs.Reach.{reach_report, totals_line, unreached_line}
use Rattle.term_text.proofs.reach_report.put_reach.Goals as goal

-- the text of what was counted
report-told : (heap : HeapMap) (p : ℕ → Bool) (unreached : List ℕ) (own cells reached literals : ℕ) → unreached ≡ unreached_of heap p → own ≡ heap.own → cells ≡ length heap.cells
    → reached + count_below p 0 ≡ count_below p own → literals + count_below p own ≡ count_below p cells
    → flat_map unreached_line unreached ++ totals_line own reached literals ≡ reach_report heap p
report-told heap p unreached own cells reached literals told mine all first rest =
    let one : reached ≡ count_below p heap.own = omega (arith, first, ap (count_below p) mine) in
    let two : literals ≡ count_below p (length heap.cells) - count_below p heap.own = omega (arith, rest, ap (count_below p) mine, ap (count_below p) all) in
    ap (λ xs. flat_map unreached_line xs ++ totals_line own reached literals) told
    ∙ ap (λ n. flat_map unreached_line (unreached_of heap p) ++ totals_line n reached literals) mine
    ∙ ap (λ n. flat_map unreached_line (unreached_of heap p) ++ totals_line heap.own n literals) one
    ∙ ap (λ n. flat_map unreached_line (unreached_of heap p) ++ totals_line heap.own (count_below p heap.own) n) two

-- and where exactly what roots reach was counted
report-exact : (reach : Reaching) (heap : HeapMap) (roots : List Element) → reach.heap ≡ heap → IsReachOf reach roots
    → reach_report heap (is_in reach.marks) ≡ reach_report heap (reached_by heap.cells roots)
report-exact reach heap roots same exact =
    ap (reach_report heap) (fun_ext (λ n. exact n ∙ ap (λ (h : HeapMap). reached_by h.cells roots n) same))

pub returns-in_err-put_each : goal.returns-in_err-put_each
returns-in_err-put_each g c = λ roots exact.
    let heap = c.args.heap.now in
    let reach = c.args.reach.now in
    Puts-as (report-told heap (is_in reach.marks) c.args.unreached.now c.own-own.result c.cells.result c.count_reached-reached.result c.count_reached-literals.result
    c.requires.unreached c.own-own.ensures.value c.cells.ensures.value c.count_reached-reached.ensures c.count_reached-literals.ensures ∙ report-exact reach heap roots c.requires.heap exact)
    (Puts-stopped _ c.from_residual.ensures.0 c.in_err-put_each.ensures)

pub returns : goal.returns
returns g c = λ roots exact.
    let heap = c.args.heap.now in
    let reach = c.args.reach.now in
    Puts-as (report-told heap (is_in reach.marks) c.args.unreached.now c.own-own.result c.cells.result c.count_reached-reached.result c.count_reached-literals.result
    c.requires.unreached c.own-own.ensures.value c.cells.ensures.value c.count_reached-reached.ensures c.count_reached-literals.ensures ∙ report-exact reach heap roots c.requires.heap exact)
    (Puts-then c.in_ok-put_each.ensures c.put_totals.ensures)
