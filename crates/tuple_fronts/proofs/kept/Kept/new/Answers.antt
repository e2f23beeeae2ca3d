use Rattle.std.proofs.Common.{refl, []}
use Rattle.tuple_fronts.proofs.kept.Kept.new.Goals as goal

pub returns-clause-kept : goal.returns-clause-kept
returns-clause-kept c = record {
  fronts = [];
  holds = record {
    front_texts = [];
    begun_texts = [];
    texts_are = c.new.ensures.items;
    ends_are = c.new-2.ensures.items;
    lasts_are = c.new-3.ensures.items;
    spelled = refl;
    begun_spelled = refl;
  };
  are = tt;
}
