use Rattle.std.proofs.Common.{◌≡◌, ◌+◌, ◌-◌, length, drop, take, subst, arith}
use Rattle.std.proofs.lemmas.List.{take_all, length-drop}
use Rattle.memchr.specs.Find.{Passes, is_byte, Nowhere}
use Rattle.dump_redact.specs.Inner.Places.{AreMarksFrom}
use Rattle.dump_redact.proofs.PlainLines.{without-letter}
use Rattle.dump_redact.proofs.heaps.letter_from.Goals as goal

pub returns-in-Some-clause-marks : goal.returns-in-Some-clause-marks
returns-in-Some-clause-marks c marks =
    let rest = drop c.args.at c.args.bytes.now in
    let whole : take (length c.args.bytes.now - c.args.at) rest ≡ rest = take_all (length c.args.bytes.now - c.args.at) rest (omega (arith, length-drop c.args.at c.args.bytes.now)) in
    without-letter c.args.at c.in-Some.skipped c.args.bytes.now (subst (λ l. Nowhere (Passes (is_byte 89) l) 0 c.in-Some.skipped) whole c.in-Some.ensures.0.before) marks

pub returns-in-None-clause-marks : goal.returns-in-None-clause-marks
returns-in-None-clause-marks c marks =
    let bytes = c.args.bytes.now in
    let at = c.args.at in
    let rest = drop at bytes in
    let whole : take (length bytes - at) rest ≡ rest = take_all (length bytes - at) rest (omega (arith, length-drop at bytes)) in
    let all : at + length rest ≡ length bytes = omega (arith, length-drop at bytes, c.requires) in
    subst (λ n. AreMarksFrom n bytes) all (without-letter at (length rest) bytes (subst (λ l. Nowhere (Passes (is_byte 89) l) 0 (length l)) whole c.in-None.ensures) marks)
