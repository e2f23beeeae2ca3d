use Rattle.std.proofs.Common.{◌<◌, ◌^◌, ◌≤◌, rules, length, take, drop, sym, ◌∙◌, subst, arith}
use Rattle.std.proofs.lemmas.List.{length-take-le}
use Rattle.std.proofs.lemmas.Bool.{false≢true}
use Rattle.binary_payloads.specs.Payload.{IsPayloadOf}
use Rattle.binary_payloads.proofs.Ranges.{payload_of-size, cover_within, cover_read, range_read, part_by}
use Rattle.binary_payloads.proofs.covering.payload_part.Goals as goal

pub cover-cover-requires-clause-small : goal.cover-cover-requires-clause-small
cover-cover-requires-clause-small c =
    let size = payload_of-size c.args.enc c.args.chars.now c.args.size c.requires.whole in
    let few : length c.args.chars.now < 2 ^ 63 = search rules in
    omega (arith, size, c.requires.within, few)

pub read_cover-requires : goal.read_cover-requires
read_cover-requires c = record {
  within = cover_within c.args.enc c.args.chars.now c.args.size c.args.from (length c.args.into.now) c.cover-cover.result c.requires.whole c.requires.within c.cover-cover.ensures.value;
}

pub returns-then-read_cover-clause-part : goal.returns-then-read_cover-clause-part
returns-then-read_cover-clause-part c = λ bytes is.
    c.copy_from_slice.ensures.after ∙ c.part.ensures
    ∙ range_read c.args.enc c.args.chars.now bytes c.read_cover.new.into c.args.size c.args.from (length c.args.into.now) c.cover-cover.result c.requires.whole is
    c.requires.within c.cover-cover.ensures.value (c.read_cover.ensures.bytes c.if-read_cover.true)

pub returns-then-read_cover-clause-exact : goal.returns-then-read_cover-clause-exact
returns-then-read_cover-clause-exact c =
    part_by c.args.enc c.args.chars.now c.copy_from_slice.new.self c.args.size c.args.from (length c.args.into.now) c.requires.whole
    (returns-then-read_cover-clause-part c)

pub returns-else-read_cover-clause-part : goal.returns-else-read_cover-clause-part
returns-else-read_cover-clause-part c = λ bytes whole.
    let cover = c.cover-cover.result in
    let is = cover_read c.args.enc c.args.chars.now c.args.size c.args.from (length c.args.into.now) cover c.requires.whole c.requires.within c.cover-cover.ensures.value in
    let fits : cover.bytes ≤ 36 = omega (arith, c.cover-cover.ensures.bytes, c.requires.few) in
    let yes = c.read_cover.ensures.found.1 (subst (IsPayloadOf c.args.enc (take cover.chars (drop cover.first c.args.chars.now))) (sym (length-take-le cover.bytes _ fits)) is) in
    absurd (false≢true (sym c.if-read_cover.false ∙ yes))

pub returns-else-read_cover-clause-exact : goal.returns-else-read_cover-clause-exact
returns-else-read_cover-clause-exact c =
    part_by c.args.enc c.args.chars.now c.args.into.now c.args.size c.args.from (length c.args.into.now) c.requires.whole
    (returns-else-read_cover-clause-part c)
