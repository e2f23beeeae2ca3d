use Rattle.std.proofs.Common.{◌≤◌, ◌<◌, [], ◌∷◌, ◌++◌, length, map, take, sym, ◌∙◌, ap, arith}
use Rattle.std.proofs.lemmas.List.{map_more, take_all}
use Rattle.std.proofs.lemmas.Option.{unwrap_or-slice_get}
use Rattle.section_rows.specs.Rows.{Row}
use Rattle.process_table.specs.Signals.{is_signalled}
use Rattle.process_table.proofs.signals.signalled.Goals as goal

pub loop-i-preserved : goal.loop-i-preserved
loop-i-preserved c =
    let rows = c.args.rows.now.rows in
    let i = c.loop-i.i in
    let none : Row = record { at = 0; cells = [] } in
    let inside : i < length rows = omega arith in
    c.in_ok-push.ensures.items
    ∙ ap (λ l. l ++ c.is_signalled.result ∷ []) c.loop-i.invariant
    ∙ ap (λ b. map is_signalled (take i rows) ++ b ∷ []) (c.is_signalled.ensures ∙ ap is_signalled (unwrap_or-slice_get rows i none))
    ∙ sym (map_more is_signalled rows i none inside)

pub returns : goal.returns
returns c =
    let rows = c.args.rows.now.rows in
    let all : length rows ≤ c.loop-i.i = omega arith in
    c.loop-i.invariant ∙ ap (map is_signalled) (take_all c.loop-i.i rows all)
