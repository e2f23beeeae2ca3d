use Rattle.std.proofs.Common.{take, drop, sym, ap, subst}
use Rattle.std.proofs.lemmas.Bool.{true≢false}
use Rattle.std.specs.Option.{option_map}
use Rattle.binary_payloads.specs.Payload.{IsPayloadOf}
use Rattle.binary_refs.proofs.BodyFacts.{payload-false, room-size}
use Rattle.binary_refs.proofs.ranges.decoded.Goals as goal

pub returns-then-not-payload : goal.returns-then-not-payload
returns-then-not-payload c =
    sym (ap (option_map (λ bytes. take c.args.count (drop c.args.cover.now.skip bytes)))
    (payload-false c.args.enc c.payload_bytes_are_read.ensures c.args.chars.now c.args.cover.now.bytes (λ is. true≢false (sym (c.if-not-payload.ensures.found.1 (subst (IsPayloadOf c.args.enc c.args.chars.now) (sym (room-size c.args.cover.now.bytes c.requires.bytes)) is))))))
