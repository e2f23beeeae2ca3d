use Rattle.std.proofs.Common.{ap, ◌∙◌, arith, ◌-◌}
use Rattle.std.specs.Int.RustNames.{bit_and}
use Rattle.std.proofs.lemmas.Nat.{and_mask, one_shl}
use Rattle.cell_records.proofs.ranks.low_bits.Goals as goal

pub returns : goal.returns
returns c = ap (λ n. bit_and c.args.rank (n - 1)) (one_shl c.args.bits 64 (omega (arith, c.requires))) ∙ and_mask c.args.rank c.args.bits
