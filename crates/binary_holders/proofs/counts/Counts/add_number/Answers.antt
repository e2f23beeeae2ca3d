use Rattle.std.proofs.Common.{◌≡◌, ◌+◌, ◌-◌, ◌^◌, ◌<◌, length, get_or, sym, ◌∙◌, ap, arith}
use Rattle.std.specs.Prelude.{min}
use Rattle.std.proofs.lemmas.List.{get_or_read}
use Rattle.binary_holders.proofs.CountFacts.{add-unknown, add-again, add-new, known, no_binary, length-numbers, unknown}
use Rattle.binary_holders.proofs.counts.Counts.add_number.Goals as goal

pub returns-in_default-clause-adds : goal.returns-in_default-clause-adds
returns-in_default-clause-adds c = add-unknown c.args.targets.now c.args.self.now c.args.number c.in_default.ensures

pub returns-then-index-self-clause-adds : goal.returns-then-index-self-clause-adds
returns-then-index-self-clause-adds c =
    let h = c.hold.ensures in
    let binaries = c.args.targets.now in
    let p = c.in-Some.place in
    let few : length binaries + 1 < 2 ^ 64 = let room = c.binaries.type_inv in let same = ap length c.binaries.ensures.value in omega (arith, room, same) in
    let size : (get_or c.binaries.result.now p no_binary).size ≡ (get_or binaries p no_binary).size = ap (λ (l : _). (get_or l p no_binary).size) c.binaries.ensures.value in
    let inside : p < length c.args.self.now.seen.items = omega (arith, c.in-Some.ensures.0, length-numbers c.args.targets.now, c.requires.seen) in
    add-new binaries c.args.number p c.in-Some.ensures c.args.self.now c.hold.new.self c.binaries.ensures.small few c.requires.turn
    (λ held. c.if-index-self.true (get_or_read c.args.self.now.seen.items p c.index.result.now inside c.index.ensures 0 ∙ held))
    h.turn h.seen h.holders h.count
    (h.total ∙ ap (λ m. min (c.args.self.now.total + m) (2 ^ 128 - 1)) size)

pub returns-else-index-self-clause-adds : goal.returns-else-index-self-clause-adds
returns-else-index-self-clause-adds c =
    let p = c.in-Some.place in
    let inside : p < length c.args.self.now.seen.items = omega (arith, c.in-Some.ensures.0, length-numbers c.args.targets.now, c.requires.seen) in
    add-again c.args.targets.now c.args.number p c.in-Some.ensures c.args.self.now
    (sym (get_or_read c.args.self.now.seen.items p c.index.result.now inside c.index.ensures 0) ∙ c.if-index-self.false)

pub returns-in_default-clause-known : goal.returns-in_default-clause-known
returns-in_default-clause-known c = sym (unknown c.args.targets.now c.args.number c.in_default.ensures)

pub returns-then-index-self-clause-known : goal.returns-then-index-self-clause-known
returns-then-index-self-clause-known c = sym (known c.args.targets.now c.args.number c.in-Some.place c.in-Some.ensures)

pub returns-else-index-self-clause-known : goal.returns-else-index-self-clause-known
returns-else-index-self-clause-known c = sym (known c.args.targets.now c.args.number c.in-Some.place c.in-Some.ensures)
