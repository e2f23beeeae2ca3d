use Rattle.std.proofs.Common.{◌∷◌, length, sym, ap, arith, length-append}
use Rattle.term_forms.specs.Seen.{element}
use Rattle.term_forms.proofs.FormParts.{until_sound}
use Rattle.term_forms.proofs.Ends.{end-behind, until-stands}
use Rattle.term_forms.proofs.opening.elem_in.Goals as goal

pub overflow_sub-len : goal.overflow_sub-len
overflow_sub-len c =
    let rest = c.args.rest.now in
    let behind = c.in_ok-elem.behind.now in
    let is = until_sound c.args.stop rest (element c.in_ok-elem.elem) behind (sym c.in_ok-elem.ensures) in
    omega (arith, ap length is.1, length-append is.0 (c.args.stop ∷ behind))

pub overflow_sub-len-2 : goal.overflow_sub-len-2
overflow_sub-len-2 c =
    let rest = c.args.rest.now in
    let behind = c.in_ok-elem.behind.now in
    let is = until_sound c.args.stop rest (element c.in_ok-elem.elem) behind (sym c.in_ok-elem.ensures) in
    omega (arith, ap length is.1, length-append is.0 (c.args.stop ∷ behind))

pub returns-clause-stands : goal.returns-clause-stands
returns-clause-stands c =
    until-stands c.args.text.now c.args.rest.now c.args.stop (element c.in_ok-elem.elem) c.in_ok-elem.behind.now c.requires (sym c.in_ok-elem.ensures)

pub returns-clause-end : goal.returns-clause-end
returns-clause-end c =
    let rest = c.args.rest.now in
    let behind = c.in_ok-elem.behind.now in
    let is = until_sound c.args.stop rest (element c.in_ok-elem.elem) behind (sym c.in_ok-elem.ensures) in
    end-behind c.args.text.now rest is.0 behind c.args.stop c.requires is.1
