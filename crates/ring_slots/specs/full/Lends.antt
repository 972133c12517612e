-- What a full cell ends as, where its item is lent for writing.
use Rattle.std.specs.Prelude.{Option, Some}
use Rattle.std.specs.Borrow.{Lends, Fml, RattleType, MutBor}
use Rattle.std.specs.contracts.option.Option as option

-- once the borrow r ends, the cell holds the last value written through r
abbrev pub lends_item : (T : RattleType) → MutBor (Option T.Denot) → MutBor T.Denot → Fml
lends_item T cell r = Lends (option.the_row T) T cell r Some
