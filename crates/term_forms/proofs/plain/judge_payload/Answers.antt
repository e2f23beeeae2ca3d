use Rattle.std.proofs.lemmas.Bool.Decides.{same_from_decides}
use Rattle.term_forms.proofs.PayloadTests.{payload_test-decides}
use Rattle.term_forms.proofs.plain.judge_payload.Goals as goal

pub returns : goal.returns
returns c =
    same_from_decides _ _ c.is_payload.ensures (payload_test-decides c.args.enc c.payload_bytes_are_read.ensures c.args.size c.args.chars.now)
