use Rattle.std.proofs.Common.{◌-◌, ◌%◌, take, drop, refl, sym, ◌∙◌, ap, arith}
use Rattle.std.proofs.lemmas.Bool.{false≢true}
use Rattle.binary_payloads.specs.Payload.{group_of}
use Rattle.binary_payloads.proofs.Pieces.{too_few}
use Rattle.binary_payloads.proofs.WholeGroups.{AreCut, cut-made, cut-digits, fewer}
use Rattle.binary_payloads.proofs.payloads.is_payload.Goals as goal

pub returns-then-size-chars : goal.returns-then-size-chars
returns-then-size-chars c = (λ no. cc no, λ is. absurd (fewer c.args.enc c.args.chars.now c.args.size c.if-size-chars.true is))

pub returns-in_default : goal.returns-in_default
returns-in_default c = (
  λ no. cc no,
  λ is. absurd (too_few c.args.enc c.args.chars.now (c.args.size - c.args.size % group_of c.args.enc) c.args.size c.front_len.result c.front_len.ensures (omega arith) c.in_default.ensures.cases is),
)

pub returns-then-are_digits : goal.returns-then-are_digits
returns-then-are_digits c =
    let front = c.in-Some.front.now in
    let last = c.in-Some.last.now in
    let size = c.args.size in
    let parts = c.in-Some.ensures.cases in
    let width = c.front_len.ensures in
    let cut : AreCut c.args.enc c.args.chars.now front last size c.left_of.result = record {
      fits = omega (arith, parts.0, width);
      front = parts.1 ∙ ap (λ n. take n c.args.chars.now) width;
      last = parts.2 ∙ ap (λ n. drop n c.args.chars.now) width;
      left = c.left_of.ensures.value;
    } in (
      λ yes. cut-made c.args.enc c.args.chars.now front last size c.left_of.result cut (sym c.are_digits.ensures ∙ c.if-are_digits.true) (c.is_last.ensures.0 yes),
      λ is. c.is_last.ensures.1 (cut-digits c.args.enc c.args.chars.now front last size c.left_of.result cut is).1,
    )

pub returns-else-are_digits : goal.returns-else-are_digits
returns-else-are_digits c =
    let front = c.in-Some.front.now in
    let last = c.in-Some.last.now in
    let size = c.args.size in
    let parts = c.in-Some.ensures.cases in
    let width = c.front_len.ensures in
    let cut : AreCut c.args.enc c.args.chars.now front last size (size % group_of c.args.enc) = record {
      fits = omega (arith, parts.0, width);
      front = parts.1 ∙ ap (λ n. take n c.args.chars.now) width;
      last = parts.2 ∙ ap (λ n. drop n c.args.chars.now) width;
      left = refl;
    } in (
      λ yes. absurd (false≢true (sym c.if-are_digits.false ∙ yes)),
      λ is. c.are_digits.ensures ∙ (cut-digits c.args.enc c.args.chars.now front last size (size % group_of c.args.enc) cut is).0,
    )
