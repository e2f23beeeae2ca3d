use Rattle.std.proofs.Common.{sym, ap}
use Rattle.std.specs.Option.{option_map}
use Rattle.wait_requests.specs.Inner.Asking.{before_words}
use Rattle.std.proofs.Common.{subst}
use Rattle.std.proofs.lemmas.Bool.{true≢false}
use Rattle.binary_payloads.specs.Payload.{IsPayloadOf}
use Rattle.wait_requests.proofs.PayloadFacts.{not-payload, room}
use Rattle.wait_requests.proofs.externals.before_external.Goals as goal

pub returns-then-not-payload : goal.returns-then-not-payload
returns-then-not-payload c =
    sym (ap (option_map (before_words c.args.asked.now)) (not-payload c.args.enc c.args.size c.args.chars.now c.payload_bytes_are_read.ensures (λ is. true≢false (sym (c.if-not-payload.ensures.found.1 (subst (IsPayloadOf c.args.enc c.args.chars.now) (sym (room c.args.size c.requires)) is))))))
