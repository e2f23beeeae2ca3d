use Rattle.std.proofs.Common.{ℕ, ◌<◌, ◌≤◌, All, length, sym, subst, arith}
use Rattle.std.proofs.lemmas.List.{length-map, take_all}
use Rattle.text_groups.specs.Numbers.{HaveNumbers}
use Rattle.message_shapes.specs.Messages.{Message, message_at}
use Rattle.message_shapes.specs.Inner.Shaped.{message_with, messages_with, shapes_of}
use Rattle.message_shapes.proofs.NumberedFacts.{have-grown, have-more, have-within, shape-there}
use Rattle.message_shapes.proofs.shape_numbers.number_messages.Goals as goal

pub loop-i-preserved : goal.loop-i-preserved
loop-i-preserved c =
    let cells = c.args.cells.now in
    let shapes = c.args.shapes.now in
    let heard = c.args.heard.now in
    let i = c.loop-i.i in
    let inside : i < length heard = omega (arith, c.loop-i-test.true, c.len-i-end.ensures) in
    record {
      cells = have-grown c.loop-i.known c.number_message.new.known shapes c.in_ok-of_cells.of_cells.items c.number_message.ensures.grown c.loop-i.invariant.cells;
      messages = have-more c.loop-i.known c.number_message.new.known (shapes_of (messages_with cells shapes heard)) i (message_at (messages_with cells shapes heard) i).shape
          c.loop-i.numbers.items c.push.new.self.items c.in_ok-number.number
          c.number_message.ensures.grown (shape-there cells shapes heard i inside) c.in_ok-number.ensures.number c.in_ok-push.ensures.items c.loop-i.invariant.messages;
    }

pub returns : goal.returns
returns c =
    let messages = messages_with c.args.cells.now c.args.shapes.now c.args.heard.now in
    let texts = shapes_of messages in
    let numbers = c.loop-i.numbers.items in
    let all : length texts ≤ c.loop-i.i =
    omega (arith, c.loop-i-test.false, c.len-i-end.ensures, length-map c.args.heard.now (message_with c.args.cells.now c.args.shapes.now), length-map messages (λ (m : Message). m.shape)) in
    let have : HaveNumbers c.loop-i.known texts numbers = subst (λ l. HaveNumbers c.loop-i.known l numbers) (take_all c.loop-i.i texts all) c.loop-i.invariant.messages in
    record {
      known = c.loop-i.known;
      have = have;
      within = subst (λ (n : ℕ). All (λ m. m < n) numbers) (sym c.len-2.ensures) (have-within c.loop-i.known texts numbers have);
    }
