use Rattle.std.proofs.Common.{sym, ◌∙◌}
use Rattle.link_graph.proofs.Opening.{kind_opened, kind_pid, kind_port, kind_other}
use Rattle.link_graph.proofs.kinds.kind.Goals as goal

pub returns-then-is_opened : goal.returns-then-is_opened
returns-then-is_opened c = c.monitor_kind.ensures ∙ sym (kind_opened c.args.text.now (sym c.if-is_opened.ensures))

pub returns-then-is_pid : goal.returns-then-is_pid
returns-then-is_pid c = sym (kind_pid c.args.text.now (sym c.if-is_pid.ensures))

pub returns-then-is_port : goal.returns-then-is_port
returns-then-is_port c = sym (kind_port c.args.text.now (sym c.if-is_pid.ensures) (sym c.if-is_port.ensures))

pub returns : goal.returns
returns c = sym (kind_other c.args.text.now (sym c.if-is_opened.ensures) (sym c.if-is_pid.ensures) (sym c.if-is_port.ensures))
