use Rattle.std.proofs.Common.{sym, ◌∙◌, ap, subst, inl, inr, arith}
use Rattle.std.specs.Prelude.{Err, [], ◌∷◌}
use Rattle.std.proofs.lemmas.Option.{none-some}
use Rattle.dump_io.specs.File.{find_file}
use Rattle.section_index.specs.Answers.{IsAnswerFor}
use Rattle.dump_trial.proofs.Memory.{memory-opening}
use Rattle.dump_trial.proofs.Opened.{file-held}
use Rattle.dump_trial.proofs.good_dump.GoodDump.open.Goals as goal

pub of_opening-requires : goal.of_opening-requires
of_opening-requires c =
    let bytes = c.args.bytes.items in
    let there = ap (λ f. find_file (f ∷ []) _) c.new-dumps.ensures.file ∙ file-held c.new.result _ bytes (c.new.ensures.name ∙ c.in_ok-name.ensures.ok) c.new.ensures.bytes in
    memory-opening bytes c.in-Err.fault c.requires.accepted
    (subst (λ limits. IsAnswerFor bytes limits (Err c.in-Err.fault)) c.usual-limits.ensures (c.in-Err.ensures.answer bytes (inl there)))
    (λ unread. elim (c.in-Err.ensures.read (ap Err unread)) [
      | inl failed ↦ absurd (omega (arith, failed))
      | inr gone ↦ absurd (none-some _ (sym gone ∙ there))
    ])
