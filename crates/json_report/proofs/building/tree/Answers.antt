use Rattle.std.proofs.Common.{sym, ap, ◌∙◌, subst, arith}
use Rattle.std.proofs.lemmas.Result.{IfOk-weaker}
use Rattle.dump_sections.specs.Index.{dump_state}
use Rattle.serde_json.specs.Written.{has_float}
use Rattle.json_report.specs.Laws.{IsReadBack}
use Rattle.json_report.specs.Trees.{state_text}
use Rattle.json_report.proofs.ReadingBack.{read-as, reads-back, whole-tree}
use Rattle.json_report.proofs.building.tree.Goals as goal

pub returns-clause-tree : goal.returns-clause-tree
returns-clause-tree c =
    let back = reads-back c.args.index.now c.args.procs.now.processes c.args.findings.now (omega arith) c.in_ok-text.ensures.bits in
    IfOk-weaker c.read_back.result _ _ (λ v is. read-as _ _ _ (c.deref.ensures.value ∙ c.in_ok-text.ensures.text) back is) c.read_back.ensures

pub returns-clause-no_float : goal.returns-clause-no_float
returns-clause-no_float c =
    let index = c.args.index.now in
    IfOk-weaker c.read_back.result _ _ (λ v is. ap has_float is ∙ whole-tree c.args.procs.now.processes c.args.findings.now (state_text index (dump_state index.headers))) (returns-clause-tree c)

pub returns-clause-reads_back : goal.returns-clause-reads_back
returns-clause-reads_back c =
    let back = reads-back c.args.index.now c.args.procs.now.processes c.args.findings.now (omega arith) c.in_ok-text.ensures.bits in
    IfOk-weaker c.read_back.result _ _ (λ v is. subst IsReadBack (sym is) back) (returns-clause-tree c)
