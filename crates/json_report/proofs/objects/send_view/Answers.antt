use Rattle.std.proofs.Common.{Result, sym, subst}
use Rattle.serde.specs.Event.{Log}
use Rattle.serde_json.specs.Data.{object}
use Rattle.dump_audit.specs.FindingViews.{shown_view}
use Rattle.dump_audit.specs.declared.views.FindingView.{FindingView}
use Rattle.dump_audit.specs.declared.views.Named.{Named}
use Rattle.json_report.specs.Inner.Members.{Sends}
use Rattle.json_report.specs.Trees.{members, view_members}
use Rattle.json_report.proofs.objects.send_view.Goals as goal

-- what was sent of a view that names this
abbrev SendsNamed : {T E : Type 0} → FindingView → Log → Log → Result T E → Named → Type 0
SendsNamed view before after result named = Sends before after (object (members (view_members (shown_view (record { word = view.word; pid = view.pid; named = named; at = view.at; other = view.other }))))) result

pub returns-in-Nothing : goal.returns-in-Nothing
returns-in-Nothing g c =
    subst (SendsNamed c.args.view (g.S.Serializer.written c.args.out.now) (g.S.Serializer.written c.send_object.new.out) c.send_object.result) (sym c.in-Nothing.is) c.send_object.ensures

pub returns-in-Partner : goal.returns-in-Partner
returns-in-Partner g c =
    let sent = c.send_object-in-Partner in
    subst (SendsNamed c.args.view (g.S.Serializer.written c.args.out.now) (g.S.Serializer.written sent.new.out) sent.result) (sym c.in-Partner.is) sent.ensures

pub returns-in-Monitor : goal.returns-in-Monitor
returns-in-Monitor g c =
    let sent = c.send_object-in-Monitor in
    subst (SendsNamed c.args.view (g.S.Serializer.written c.args.out.now) (g.S.Serializer.written sent.new.out) sent.result) (sym c.in-Monitor.is) sent.ensures

pub returns-in-Count : goal.returns-in-Count
returns-in-Count g c =
    let sent = c.send_object-in-Count in
    subst (SendsNamed c.args.view (g.S.Serializer.written c.args.out.now) (g.S.Serializer.written sent.new.out) sent.result) (sym c.in-Count.is) sent.ensures

pub returns-in-Counts : goal.returns-in-Counts
returns-in-Counts g c =
    let sent = c.send_object-in-Counts in
    subst (SendsNamed c.args.view (g.S.Serializer.written c.args.out.now) (g.S.Serializer.written sent.new.out) sent.result) (sym c.in-Counts.is) sent.ensures
