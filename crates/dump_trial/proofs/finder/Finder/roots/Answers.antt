use Rattle.std.proofs.Common.{sym, ◌∙◌, ap}
use Rattle.dump_sections.specs.Index.{sections_in}
use Rattle.root_views.specs.Kinds.{roots_tag}
use Rattle.root_views.specs.declared.kinds.RootKind.TheVariants.{Stack, Dict, Mail}
use Rattle.root_views.specs.Sections.{root_section}
use Rattle.dump_trial.proofs.Looked.{looked}
use Rattle.dump_trial.proofs.finder.Finder.roots.Goals as goal

pub returns-in-Stack : goal.returns-in-Stack
returns-in-Stack c =
    let shown = c.args.self.now in
    let pid = c.args.pid.now in
    let there = looked c.self.inside.index.now shown (roots_tag Stack) pid _ c.get.result c.self.invariant.stack c.self.view_is (c.get.ensures.section, c.get.ensures.within) in
    record { section = there.0 ∙ sym (ap (λ kind. root_section kind pid (sections_in shown)) c.in-Stack.is); within = there.1 }

pub returns-in-Dict : goal.returns-in-Dict
returns-in-Dict c =
    let shown = c.args.self.now in
    let pid = c.args.pid.now in
    let there = looked c.self.inside.index.now shown (roots_tag Dict) pid _ c.get-in-Dict.result c.self.invariant.dictionary c.self.view_is (c.get-in-Dict.ensures.section, c.get-in-Dict.ensures.within) in
    record { section = there.0 ∙ sym (ap (λ kind. root_section kind pid (sections_in shown)) c.in-Dict.is); within = there.1 }

pub returns-in-Mail : goal.returns-in-Mail
returns-in-Mail c =
    let shown = c.args.self.now in
    let pid = c.args.pid.now in
    let there = looked c.self.inside.index.now shown (roots_tag Mail) pid _ c.get-in-Mail.result c.self.invariant.mail c.self.view_is (c.get-in-Mail.ensures.section, c.get-in-Mail.ensures.within) in
    record { section = there.0 ∙ sym (ap (λ kind. root_section kind pid (sections_in shown)) c.in-Mail.is); within = there.1 }
