use Rattle.std.proofs.Common.{◌≡◌, ◌+◌, ◌-◌, ◌≤◌, ◌<◌, [], ◌∷◌, ◌++◌, drop, length, sym, ◌∙◌, ap, arith, append-nil}
use Rattle.std.specs.List.{flat_map}
use Rattle.std.proofs.lemmas.List.{append_assoc, drop_all, drop_more}
use Rattle.std.proofs.lemmas.Option.{get_or_from_slice_get}
use Rattle.dump_io.specs.Laws.Puts.{HasPut-as, HasPut-none, HasPut-then, HasPut-whole, Puts-as, Puts-behind, Puts-stopped}
use Rattle.dump_sections.specs.Bodies.{section_at}
use Rattle.dump_sections.specs.Index.{sections_in}
use Rattle.dump_sections.specs.Laws.{length-sections_of}
use Rattle.glance_text.specs.Triage.{last_line}
use Rattle.glance_text.proofs.triage_report.put_last_two.Goals as goal

pub loop-i-init : goal.loop-i-init
loop-i-init g c =
    let sections = sections_in c.args.index.now in
    let same : c.saturating_sub-i.result ≡ length sections - 2 = omega (arith, c.saturating_sub-i.ensures, c.len-count.ensures, length-sections_of c.args.index.now.headers c.args.index.now.size) in
    ([], HasPut-none, ap (λ n. flat_map last_line (drop n sections)) same)

pub loop-i-preserved : goal.loop-i-preserved
loop-i-preserved g c =
    let sections = sections_in c.args.index.now in
    let i = c.loop-i.i in
    let s = section_at c.args.index.now i in
    let there = c.put_last_section.ensures.there in
    let so_far = c.loop-i.invariant in
    let inside : i < length sections = omega (arith, c.loop-i-test.true, c.len-count.ensures, length-sections_of c.args.index.now.headers c.args.index.now.size) in
    let here : drop i sections ≡ s ∷ drop (i + 1) sections = drop_more sections i s inside ∙ ap (λ x. x ∷ drop (i + 1) sections) (get_or_from_slice_get sections i s s there) in (
      so_far.0 ++ last_line s,
      HasPut-then so_far.1 c.in_ok-put_last_section.ensures.puts,
      append_assoc so_far.0 (last_line s) (flat_map last_line (drop (i + 1) sections)) ∙ ap (λ l. so_far.0 ++ flat_map last_line l) (sym here) ∙ so_far.2,
    )

pub returns-in_err-put_last_section : goal.returns-in_err-put_last_section
returns-in_err-put_last_section g c =
    let sections = sections_in c.args.index.now in
    let i = c.loop-i.i in
    let s = section_at c.args.index.now i in
    let there = c.put_last_section.ensures.there in
    let so_far = c.loop-i.invariant in
    let inside : i < length sections = omega (arith, c.loop-i-test.true, c.len-count.ensures, length-sections_of c.args.index.now.headers c.args.index.now.size) in
    let here : drop i sections ≡ s ∷ drop (i + 1) sections = drop_more sections i s inside ∙ ap (λ x. x ∷ drop (i + 1) sections) (get_or_from_slice_get sections i s s there) in
    Puts-as (ap (λ l. so_far.0 ++ flat_map last_line l) (sym here) ∙ so_far.2)
    (Puts-behind so_far.1 (Puts-stopped (flat_map last_line (drop (i + 1) sections)) c.from_residual.ensures.0 c.in_err-put_last_section.ensures.puts))

pub returns : goal.returns
returns g c =
    let sections = sections_in c.args.index.now in
    let i = c.loop-i.i in
    let so_far = c.loop-i.invariant in
    let all : length sections ≤ i = omega (arith, c.loop-i-test.false, c.len-count.ensures, length-sections_of c.args.index.now.headers c.args.index.now.size) in
    HasPut-whole (HasPut-as (sym (ap (λ l. so_far.0 ++ flat_map last_line l) (drop_all i sections all) ∙ append-nil so_far.0) ∙ so_far.2) so_far.1)
