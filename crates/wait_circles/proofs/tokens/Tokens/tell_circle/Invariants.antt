use Rattle.std.proofs.Common.{map, take}
use Rattle.wait_circles.specs.declared.on_circle.OnCircle.{OnCircle}
use Rattle.wait_circles.specs.Inner.Telling.{AreTold}
use Rattle.wait_circles.proofs.tokens.Tokens.tell_circle.Given as goal

-- the numbers so far were told
abbrev pub invariant-loop-one : goal.invariant-loop-one
invariant-loop-one l = AreTold l.fn.self l.self (map (λ (one : OnCircle). one.process) (take l.one-index l.on)) l.all
