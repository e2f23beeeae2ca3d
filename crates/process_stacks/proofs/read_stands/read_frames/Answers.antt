use Rattle.std.proofs.Common.{refl, sym, ◌∙◌, ap}
use Rattle.body_lines.specs.Lines.{lines_at}
use Rattle.dump_sections.specs.Bodies.{body_in, section_in}
use Rattle.process_stacks.proofs.FrameFacts.{frames-all, frames-full}
use Rattle.process_stacks.proofs.read_stands.read_frames.Goals as goal

pub returns-in-Ok-clause-frames : goal.returns-in-Ok-clause-frames
returns-in-Ok-clause-frames g c = λ dump is.
    let from = c.body_at-from.result.0 in
    let found = section_in c.args.index.now c.args.place in
    let heard = c.in-Ok.ensures.hears in
    frames-all (record { left = 20; lines = c.args.lines }) c.hear_whole_lines.new.sink from (body_in dump found) heard.lines refl (heard.are dump is ∙ ap (lines_at from) (c.body_at-from.ensures.body dump)) heard.heard

pub returns-in-Err-Stopped-Full-clause-frames : goal.returns-in-Err-Stopped-Full-clause-frames
returns-in-Err-Stopped-Full-clause-frames g c = λ dump is.
    let from = c.body_at-from.result.0 in
    let found = section_in c.args.index.now c.args.place in
    let arm = c.in-Err-Stopped-Full in
    let ends = rw (arm.field-0-is, arm.field-0-0-is) at arm.ensures.ends in
    let parts = ends.are dump is in
    frames-full (record { left = 20; lines = c.args.lines }) c.hear_whole_lines.new.sink from (body_in dump found) ends.lines parts.0 refl
    (ap (lines_at from) (sym (c.body_at-from.ensures.body dump)) ∙ parts.1) ends.stopped
