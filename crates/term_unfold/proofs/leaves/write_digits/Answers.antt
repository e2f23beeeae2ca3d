use Rattle.std.proofs.Common.{◌∙◌, ap, map, arith}
use Rattle.std.specs.Char.{to_ascii_uppercase}
use Rattle.term_unfold.proofs.HexTexts.{upper-encode, bytes-encode, on-ok}
use Rattle.term_unfold.proofs.leaves.write_digits.Goals as goal

pub returns : goal.returns
returns c =
    let wrote = c.encode_to_slice.ensures in
    let lower = on-ok c.encode_to_slice.result _ (wrote.fits.1 c.requires) wrote.written in
    c.make_ascii_uppercase.ensures.after ∙ ap (λ l. map to_ascii_uppercase l) lower ∙ upper-encode c.args.bytes.now ∙ bytes-encode c.args.bytes.now (λ k. let small = c.type_inv.bytes k in omega (arith, small))
