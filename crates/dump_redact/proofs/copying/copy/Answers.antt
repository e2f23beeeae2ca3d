use Rattle.std.proofs.Common.{ℕ, ◌+◌, ◌-◌, ◌≤◌, List, ◌++◌, length, refl, sym, ◌∙◌, ap, arith}
use Rattle.std.specs.Prelude.{min}
use Rattle.std.specs.List.{between}
use Rattle.std.proofs.lemmas.Result.{err_from_is_err_and}
use Rattle.dump_redact.specs.Inner.Copying.{copied, stretch_behind}
use Rattle.dump_redact.proofs.Copies.{HasCopied-then, Copies-broken}
use Rattle.dump_redact.proofs.Stretches.{copied-join, behind-join}
use Rattle.dump_redact.proofs.copying.copy.Goals as goal

pub loop-at-preserved : goal.loop-at-preserved
loop-at-preserved g c =
    let all = c.loop-at.invariant in
    let one = c.in_ok-at.ensures in
    let first = c.args.stretch in
    let from = c.args.from in
    let at = c.loop-at.at in
    let n = c.in_ok-at.field-0 in
    let k = min (length c.loop-at.buffer) (c.args.upto - at) in
    let upto : at ≤ at + k = omega arith in
    record {
      from = omega (arith, all.from);
      inside = omega (arith, all.inside, one.count);
      copied = HasCopied-then (at + n - from) (λ dump. copied first (between from (at + n) dump)) all.copied one.copies (omega (arith, all.from, one.count)) (λ dump is.
          copied-join first c.loop-at.stretch dump from at (at + k) all.from upto (all.behind dump is)
          ∙ ap (λ m. copied first (between from (at + m) dump)) (sym one.count));
      behind = λ dump is.
          one.behind dump (all.copied.reads.same_now ∙ is)
          ∙ behind-join first c.loop-at.stretch dump from at (at + k) all.from upto (all.behind dump is)
          ∙ ap (λ m. stretch_behind first (between from (at + m) dump)) (sym one.count);
    }

pub returns-in_err-at : goal.returns-in_err-at
returns-in_err-at g c =
    let p = err_from_is_err_and c.from_residual.result c.from_residual.ensures.1 in
    let all = c.loop-at.invariant in
    let first = c.args.stretch in
    let from = c.args.from in
    let at = c.loop-at.at in
    let n = min (length c.loop-at.buffer) (c.args.upto - at) in
    let low : at ≤ at + n = omega arith in
    let high : at + n ≤ c.args.upto = omega (arith, all.inside) in
    let start : from ≤ at + n = omega (arith, all.from) in
    let behind = λ (dump : List ℕ). stretch_behind first (between from (at + n) dump) in
    let rest = λ (dump : List ℕ). copied (behind dump) (between (at + n) c.args.upto dump) in
    rw (p.1, p.2) (Copies-broken (c.args.upto - from) (λ dump. copied first (between from c.args.upto dump)) rest all.copied c.in_err-at.ensures.copies (omega (arith, all.from, all.inside)) (λ dump is.
    ap (λ l. l ++ rest dump) (copied-join first c.loop-at.stretch dump from at (at + n) all.from low (all.behind dump is))
    ∙ copied-join first (behind dump) dump from (at + n) c.args.upto start high refl))
