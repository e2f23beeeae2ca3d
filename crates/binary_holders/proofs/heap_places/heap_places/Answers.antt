use Rattle.std.proofs.Common.{◌≡◌, ℕ, ◌<◌, arith, Option, [], ◌∷◌, ◌++◌, length, map, take, sym, ◌∙◌, ap, subst}
use Rattle.std.specs.Prelude.{All, IfSome, Some, position}
use Rattle.std.proofs.lemmas.List.{map_push}
use Rattle.std.proofs.lemmas.List.Elements.{All-push}
use Rattle.dump_io.specs.Laws.Lists.{slice_get-there, take-at}
use Rattle.dump_sections.specs.Bodies.{IsPlaceIn}
use Rattle.dump_sections.specs.Index.{sections_in}
use Rattle.dump_sections.specs.Lookups.{is_named}
use Rattle.process_table.specs.Processes.{Process, nobody, process_at}
use Rattle.binary_holders.specs.Inner.Places.{heap_place}
use Rattle.binary_holders.proofs.heap_places.heap_places.Goals as goal

pub loop-process-preserved : goal.loop-process-preserved
loop-process-preserved c =
    let index = c.args.index.now in
    let processes = c.args.procs.now.processes in
    let heap_of : Process → Option ℕ = λ process. heap_place (sections_in index) process.pid in
    let n = c.loop-process.process in
    let before = take n processes in
    let p = process_at processes n in
    let firsts = c.in_ok-firsts.firsts in
    let place : c.get.result ≡ heap_of p =
    c.get.ensures.place
    ∙ ap (λ tag. position (λ s. is_named tag (Some c.pid.result.now) s.text) (sections_in firsts.index)) (c.in_ok-firsts.ensures.tag ∙ c.as_slice.ensures)
    ∙ ap (λ i. heap_place (sections_in i) c.pid.result.now) c.in_ok-firsts.ensures.index
    ∙ ap (heap_place (sections_in index)) c.pid.ensures in
    record {
      places = c.in_ok-push.ensures.items
          ∙ ap (λ l. l ++ c.get.result ∷ []) c.loop-process.invariant.places
          ∙ ap (λ o. map heap_of before ++ o ∷ []) place
          ∙ sym (map_push heap_of before p)
          ∙ ap (map heap_of) (sym (take-at processes n p (slice_get-there processes n nobody (omega (arith, c.loop-process-test.true, c.len-process-end.ensures.value)))));
      within = subst (All (IsPlaceIn index)) (sym c.in_ok-push.ensures.items)
          (All-push (IsPlaceIn index) c.loop-process.heaps.items c.get.result c.loop-process.invariant.within
          (subst (λ i. IfSome c.get.result (λ n. n < length i.headers)) c.in_ok-firsts.ensures.index c.get.ensures.within));
    }
