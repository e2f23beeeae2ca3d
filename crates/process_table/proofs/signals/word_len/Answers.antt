use Rattle.std.proofs.Common.{◌≡◌, ◌<◌, ◌∷◌, drop, length, take, sym, ◌∙◌, ap, subst, arith}
use Rattle.std.specs.Prelude.{nat_eq}
use Rattle.std.specs.List.{starts_with}
use Rattle.process_table.specs.Signals.{separator, state_words}
use Rattle.process_table.specs.Inner.Words.{words_left}
use Rattle.process_table.proofs.Words.{words-end, words-found, words-step}
use Rattle.process_table.proofs.signals.word_len.Goals as goal

pub returns-then-starts_with-clause-words : goal.returns-then-starts_with-clause-words
returns-then-starts_with-clause-words c =
    let inside : c.loop-i.i < length c.args.state.now = omega arith in
    words-found c.args.state.now c.loop-i.i inside c.loop-i.invariant
    (ap (λ l. starts_with nat_eq l separator) (sym c.bytes_from.ensures) ∙ sym c.starts_with.ensures.value ∙ c.if-starts_with.true)

pub loop-i-preserved : goal.loop-i-preserved
loop-i-preserved c =
    let inside : c.loop-i.i < length c.args.state.now = omega arith in
    words-step c.args.state.now c.loop-i.i inside c.loop-i.invariant
    (ap (λ l. starts_with nat_eq l separator) (sym c.bytes_from.ensures) ∙ sym c.starts_with.ensures.value ∙ c.if-starts_with.false)

pub returns-clause-words : goal.returns-clause-words
returns-clause-words c =
    let state = c.args.state.now in
    let is : c.loop-i.i ≡ length state = omega arith in
    subst (λ n. state_words state ≡ take n state ∷ words_left (drop n state)) is (words-end state c.loop-i.i (omega arith) c.loop-i.invariant)
