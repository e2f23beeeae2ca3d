use Rattle.std.proofs.lemmas.Option.{slice_get-get_or}
use Rattle.dump_io.specs.Laws.Puts.{HasPut-none, HasPut-more, Puts-broken, Puts-all}
use Rattle.etf_terms.specs.Text.{comma_number}
use Rattle.etf_terms.proofs.printing.put_numbers.Goals as goal

pub loop-c-init : goal.loop-c-init
loop-c-init g c = HasPut-none

pub loop-c-preserved : goal.loop-c-preserved
loop-c-preserved g c =
    HasPut-more comma_number c.args.bytes.now c.loop-c.c-index _ (slice_get-get_or c.args.bytes.now c.loop-c.c-index 0 c.loop-c-test.true)
    c.loop-c.invariant c.in_ok-put_comma_number.ensures

pub returns-in_err-put_comma_number : goal.returns-in_err-put_comma_number
returns-in_err-put_comma_number g c =
    Puts-broken comma_number c.args.bytes.now c.loop-c.c-index _ (slice_get-get_or c.args.bytes.now c.loop-c.c-index 0 c.loop-c-test.true)
    c.loop-c.invariant c.from_residual.ensures.0 c.in_err-put_comma_number.ensures

pub returns : goal.returns
returns g c = Puts-all comma_number c.args.bytes.now c.loop-c.c-index c.loop-c-test.false c.loop-c.invariant
