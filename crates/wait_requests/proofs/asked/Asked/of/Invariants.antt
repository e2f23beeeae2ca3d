use Rattle.std.proofs.Common.{◌≡◌, take}
use Rattle.std.specs.List.{filter_map}
use Rattle.link_graph.specs.Lists.{links_at}
use Rattle.link_graph.specs.Requests.{request_in}
use Rattle.wait_requests.proofs.asked.Asked.of.Given as goal

-- the requests among the entries so far
abbrev pub invariant-loop-n : goal.invariant-loop-n
invariant-loop-n l = l.asked ≡ filter_map request_in (take l.n (links_at l.graph l.p).entries)
