use Rattle.std.proofs.Common.{◌≡◌, Bool, ◌&&◌, true, false, not, map, get_or, [], ◌++◌, refl, sym, ◌∙◌, ap, if◌then◌else◌}
use Rattle.std.specs.Option.{option_map, option_to_list}
use Rattle.std.proofs.lemmas.List.{append-nil, get_or-map}
use Rattle.std.proofs.lemmas.Option.{unwrap_or-slice_get}
use Rattle.process_table.specs.Processes.{nobody}
use Rattle.link_graph.specs.Texts.{is_local}
use Rattle.link_graph.specs.Graph.{links_of}
use Rattle.dump_audit.specs.declared.finding.Finding.TheVariants.{UnreadLinks}
use Rattle.dump_audit.specs.Findings.{Audit, is_judged, section_offset, entry_findings, link_findings}
use Rattle.dump_audit.specs.Inner.Audited.{held}
use Rattle.dump_audit.proofs.audited.Audited.add_links.Goals as goal

local_of : (b : Bool) → (b && true) ≡ false → b ≡ false
local_of false e = refl
local_of true e = e

-- a process that is dumped and whose list is read isn't judged where it is of another node
pub returns-else-self-holder : goal.returns-else-self-holder
returns-else-self-holder c =
    let a = c.args.self.now in
    let p = c.args.holder.now.p in
    let process = held a c.args.holder.now in
    let items = c.args.findings.now.items in
    let read : (links_of process.links).unread ≡ false = cc in
    let unjudged : is_judged a.index process ≡ false =
    ap (is_judged a.index) (unwrap_or-slice_get a.processes p nobody)
    ∙ sym (get_or-map (is_judged a.index) a.processes p nobody false c.requires.holder.place)
    ∙ ap (λ (v : Audit). get_or (map (is_judged v.index) v.processes) p false) (sym c.self.view_is)
    ∙ ap (λ l. get_or l p false) (sym c.self.invariant.judged)
    ∙ c.if-self-holder.false in
    let other : is_local process.pid ≡ false =
    local_of (is_local process.pid)
    (ap (λ u. is_local process.pid && not u) (sym read)
    ∙ ap (λ d. d && is_local process.pid && not (links_of process.links).unread) (sym c.requires.dumped)
    ∙ unjudged) in
    let none : link_findings a p process ≡ [] =
    ap (λ b. if b then option_to_list (option_map (λ line. UnreadLinks p line.at (section_offset a.index process)) process.links)
    else (if is_local process.pid then entry_findings a p process (links_of process.links).entries else [])) read
    ∙ ap (λ b. if b then entry_findings a p process (links_of process.links).entries else []) other in
    sym (ap (λ l. items ++ l) none ∙ append-nil items)
