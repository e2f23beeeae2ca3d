-- The partner of a monitor is cut out of its text.
use Rattle.std.proofs.Common.{◌≡◌, ℕ, ◌+◌, ◌-◌, List, ◌++◌, length, take, drop, take_at, refl, sym, ◌∙◌, ap, ap₂, arith, length-append}
use Rattle.std.specs.Prelude.{codes}
use Rattle.link_graph.specs.Kinds.{IsMonitor, to_opening}
use Rattle.link_graph.specs.Requests.{AreNames, partner_in}
use Rattle.link_graph.specs.Texts.{is_braced}

cut-out : (name reference : List ℕ) → partner_in (codes "{to," ++ (name ++ (codes "," ++ (reference ++ codes "}")))) reference ≡ name
cut-out name reference =
    let behind = codes "," ++ (reference ++ codes "}") in
    let size : length (codes "{to," ++ (name ++ behind)) - (length reference + 2) - 4 ≡ length name =
    omega (arith, length-append name behind, length-append reference (codes "}")) in
    ap (λ n. take n (name ++ behind)) size ∙ take_at name behind (length name) refl

pub are-names : AreNames
are-names text name reference is = ap (λ t. partner_in t reference) is.spelled ∙ cut-out name reference
