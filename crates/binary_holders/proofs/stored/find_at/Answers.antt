use Rattle.std.proofs.Common.{◌≡◌, length, Some, sym, ◌∙◌, ap, arith}
use Rattle.binary_holders.proofs.StoredFacts.{found-passed, found-again, found-new}
use Rattle.binary_holders.proofs.stored.find_at.Goals as goal

pub returns-in_default-clause-found : goal.returns-in_default-clause-found
returns-in_default-clause-found c = found-passed c.args.index.now c.args.i c.binary_number.ensures.section c.args.found.now c.requires.before (sym c.in_default.ensures.number)

pub returns-then-contains_key-clause-found : goal.returns-then-contains_key-clause-found
returns-then-contains_key-clause-found c =
    found-again c.args.index.now c.args.i c.binary_number.ensures.section c.args.found.now c.requires.before c.in-Some.number (sym c.in-Some.ensures.number) (sym c.contains_key.ensures ∙ c.if-contains_key.true)

pub returns-clause-found : goal.returns-clause-found
returns-clause-found c =
    let size : c.len-place.result ≡ length c.args.found.now.binaries.items = omega (arith, c.len-place.ensures, c.args.found.now.binaries.ok.0) in
    found-new c.args.index.now c.args.i c.binary_number.ensures.section c.args.found.now c.requires.before c.in-Some.number (record {
      binaries = c.push.new.self;
      places = c.insert.new.self;
    }) (sym c.in-Some.ensures.number) (sym c.contains_key.ensures ∙ c.if-contains_key.false) c.requires.place c.in_ok-push.ensures.items
    (c.in_ok-insert.ensures.updates.1 ∙ ap Some size) c.in_ok-insert.ensures.updates.2
