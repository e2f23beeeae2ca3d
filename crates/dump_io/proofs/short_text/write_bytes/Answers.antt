use Rattle.std.proofs.Common.{◌≡◌, ◌-◌, ◌++◌, ◌∙◌, ap, drop, length, refl, rules, arith}
use Rattle.dump_io.proofs.Fronts.{single, front-byte, front-copied}
use Rattle.dump_io.proofs.short_text.write_bytes.Goals as goal

pub returns-in-len1-clause-written : goal.returns-in-len1-clause-written
returns-in-len1-clause-written c =
    let one : length c.args.bytes.now ≡ 1 = omega (arith, c.in-len1.len_at_least, c.in-len1.len_below) in
    front-byte c.args.buffer.now c.args.bytes.now c.args.end _ (single c.args.bytes.now one) c.requires.0 c.requires.1

pub returns-clause-written : goal.returns-clause-written
returns-clause-written c =
    let copied : c.copy_from_slice.new.self ≡ c.args.bytes.now = search rules in
    front-copied c.args.buffer.now c.copy_from_slice.new.self (c.args.end - length c.args.bytes.now) c.args.end _ (omega (arith, c.requires.0)) c.requires.1 refl
    ∙ ap (λ l. l ++ drop c.args.end c.args.buffer.now) copied
