use Rattle.std.proofs.Common.{◌≡◌, ◌+◌, ◌-◌, ◌*◌, suc, take, replicate, refl, ◌∙◌, ap, arith, ◌++◌}
use Rattle.std.proofs.lemmas.List.{take_all}
use Rattle.std.proofs.lemmas.Option.{slice_get-get_or}
use Rattle.dump_io.specs.declared.pieces.Piece.TheVariants.{Bytes}
use Rattle.dump_io.specs.Laws.Puts.{Puts-as}
use Rattle.report_lines.proofs.Spread.{spread, length-front, length-pieces, set-spread, text-pieces}
use Rattle.report_lines.proofs.count_lines.put_line.Goals as goal

pub loop-part-init : goal.loop-part-init
loop-part-init g c = (Bytes c.args.between, refl, refl, refl)

pub loop-part-preserved : goal.loop-part-preserved
loop-part-preserved g c =
    let parts = c.args.parts.now in
    let i = c.loop-part.part-index in
    let so_far = c.loop-part.invariant in
    let room : 16 - 2 * i ≡ suc (suc (16 - 2 * (i + 1))) = omega (arith, c.requires.few, c.loop-part-test.true) in (
      so_far.0,
      so_far.1,
      omega (arith, so_far.2),
      set-spread so_far.0 parts c.loop-part.pieces i c.loop-part.end (16 - 2 * (i + 1)) _
          (so_far.3 ∙ ap (λ n. spread so_far.0 (take i parts) ++ replicate n so_far.0) room) so_far.2 c.loop-part-test.true
          (slice_get-get_or parts i _ c.loop-part-test.true),
    )

pub slice_bounds-put_pieces-end : goal.slice_bounds-put_pieces-end
slice_bounds-put_pieces-end g c =
    let so_far = c.loop-part.invariant in
    let wide = length-pieces so_far.0 c.args.parts.now c.loop-part.pieces c.loop-part.part-index so_far.3 c.loop-part.auto.part-index-end c.requires.few in
    length-front c.loop-part.pieces c.loop-part.end (c.loop-part.end - 1) _ (omega (arith, wide, so_far.2, c.loop-part.auto.part-index-end, c.requires.few))

pub returns : goal.returns
returns g c =
    let parts = c.args.parts.now in
    let i = c.loop-part.part-index in
    let so_far = c.loop-part.invariant in
    let all : take i parts ≡ parts = take_all i parts c.loop-part-test.false in
    Puts-as (text-pieces c.args.between.now so_far.0 _ parts c.loop-part.pieces _ c.loop-part.end so_far.1
    (so_far.3 ∙ ap (λ ps. spread so_far.0 ps ++ replicate (16 - 2 * i) so_far.0) all)
    (omega (arith, so_far.2, c.loop-part-test.false, c.loop-part.auto.part-index-end)) c.requires.some refl) c.put_pieces.ensures
