-- The definition of a redacted dump at worked examples, which the checker computes.
use Rattle.std.proofs.Common.{◌≡◌, refl}
use Rattle.std.specs.Prelude.{codes}
use Rattle.dump_redact.specs.Redacted.{redacted}
use Rattle.term_forms.specs.Words.{led_of}

-- of a binary the characters behind the number and its colon change, in the first line alone
first_line : redacted (codes "=erl_crash_dump:0.4\n=binary:10\n5:68656C6c6F\n5:68\n=end\n") ≡ codes "=erl_crash_dump:0.4\n=binary:10\n5:0000000000\n5:68\n=end\n"
unfolding led_of
first_line = refl

-- whatever they are: what writes no part of a byte stays, as padding and a CR do
padded_line : redacted (codes "=erl_crash_dump:0.5\n=binary:10\n5:aGVsbG8=\r\n=binary:20\nFf:+/9-:z==") ≡ codes "=erl_crash_dump:0.5\n=binary:10\n5:AAAAAAA=\r\n=binary:20\nFf:AAA-:A=="
unfolding led_of
padded_line = refl

-- without a number of 1 to 16 digits and its colon nothing changes, nor behind another header
other_lines : redacted (codes "=erl_crash_dump:0.5\n=binary:10\n:aGVsbG8=\n=binary:20\n00000000000000005:aGVsbG8=\n=binary:30\n=proc:<0.1.0>\n5:aGVsbG8=\n")
    ≡ codes "=erl_crash_dump:0.5\n=binary:10\n:aGVsbG8=\n=binary:20\n00000000000000005:aGVsbG8=\n=binary:30\n=proc:<0.1.0>\n5:aGVsbG8=\n"
unfolding led_of
other_lines = refl
