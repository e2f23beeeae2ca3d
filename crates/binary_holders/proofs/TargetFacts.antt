-- A hint that is right is the only place of its number.
use Rattle.std.proofs.Common.{◌≡◌, ℕ, ◌<◌, List, length, Option, None, Some, sym, ◌∙◌}
use Rattle.std.specs.Prelude.{slice_index}
use Rattle.std.specs.BTreeMap.{BTreeMap, get}
use Rattle.std.specs.Ordering.{nat_cmp}
use Rattle.binary_holders.specs.Inner.Places.{ArePlaces, IsOnlyPlace}

pub hint-right : (places : BTreeMap ℕ ℕ) (numbers : List ℕ) (number p : ℕ) → ArePlaces places numbers → p < length numbers → slice_index numbers p ≡ number → IsOnlyPlace numbers number (Some p)
hint-right places numbers number p are inside is = by (get nat_cmp places number) (are.only number)
  where
    by : (o : Option ℕ) → IsOnlyPlace numbers number o → IsOnlyPlace numbers number (Some p)
    by None none = absurd (none p inside is)
    by (Some q) only = (inside, is, λ k within same. only.2 k within same ∙ sym (only.2 p inside is))
