use Rattle.std.proofs.lemmas.Result.{on_ok_weaker}
use Rattle.json_report.proofs.sending.send_tree.Goals as goal

pub returns-clause-tree : goal.returns-clause-tree
returns-clause-tree g c =
    on_ok_weaker c.end_map.result (λ ended. (
      _,
      c.in_ok-begin_map.ensures,
      (
        _,
        _,
        c.in_ok-key.ensures,
        c.in_ok-u64.ensures,
        (_, _, c.in_ok-key-2.ensures, c.in_ok-send_findings.ensures.objects, (_, _, c.in_ok-key-3.ensures, c.in_ok-str.ensures, ended)),
      ),
    )) c.end_map.ensures

pub returns-clause-bits : goal.returns-clause-bits
returns-clause-bits g c = on_ok_weaker c.end_map.result (λ _. c.in_ok-send_findings.ensures.bits) c.end_map.ensures
