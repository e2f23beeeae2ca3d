use Rattle.std.proofs.Common.{◌==◌, ◌∙◌, ap, ap₂}
use Rattle.std.specs.Prelude.{bit_xor, min}
use Rattle.binary_payloads.proofs.Distances.{nearest-tells}
use Rattle.binary_payloads.proofs.payloads.distance.Goals as goal

pub returns : goal.returns
returns c =
    let either = c.min.ensures ∙ ap₂ min c.saturating_sub-letters.ensures c.saturating_sub-others.ensures in
    ap (λ n. n == 0) (c.min-2.ensures ∙ ap (λ n. min n (bit_xor c.args.c 43)) either) ∙ nearest-tells c.args.c c.ranges.c.fits
