use Rattle.std.proofs.Common.{◌≡◌, length, sym, subst, arith}
use Rattle.std.proofs.lemmas.Bool.{true≢false}
use Rattle.binary_payloads.specs.Payload.{IsPayloadOf}
use Rattle.binary_refs.proofs.BodyFacts.{payload-false, payload-count}
use Rattle.binary_refs.proofs.payloads.decode_payload.Goals as goal

pub returns-then-count-chars-clause-bytes : goal.returns-then-count-chars-clause-bytes
returns-then-count-chars-clause-bytes c =
    sym (payload-false c.args.enc c.payload_bytes_are_read.ensures c.args.chars.now c.args.count
    (λ is. omega (arith, c.if-count-chars.true, payload-count c.args.enc c.args.chars.now c.args.count c.payload_is_of_one.ensures.length is)))

pub returns-else-payload-clause-bytes : goal.returns-else-payload-clause-bytes
returns-else-payload-clause-bytes c =
    sym (payload-false c.args.enc c.payload_bytes_are_read.ensures c.args.chars.now c.args.count (λ is.
    let size : length c.deref_mut.result.now ≡ c.args.count = omega (arith, c.deref_mut.ensures.len, c.in_ok-bytes.ensures.len, c.in_ok-bytes.bytes.ok) in
    true≢false (sym (c.if-payload.ensures.found.1 (subst (IsPayloadOf c.args.enc c.args.chars.now) (sym size) is)))))
