-- What windows over rings are seen as.
use Rattle.std.specs.Prelude.{ℕ, List, Option}

-- the items that a window holds, oldest first, the most that it can hold, if there is such a number,
-- and how often an item was added to its tally and removed from it
pub record TalliedItems (T : Type 0) : Type 0 where
  pub contents : List T
  pub limit : Option ℕ
  pub added : ℕ
  pub removed : ℕ

-- the items that a window holds, oldest first, the most that it can hold, if there is such a number, how often it combined two values,
-- and for how many of its items it has yet to do so once more
pub record FoldedItems (T : Type 0) : Type 0 where
  pub contents : List T
  pub limit : Option ℕ
  pub calls : ℕ
  pub unfolded : ℕ

-- the items that a window holds, oldest first, the most that it can hold, if there is such a number,
-- how many items were pushed onto it, and how often it compared two
pub record RankedItems (T : Type 0) : Type 0 where
  pub contents : List T
  pub limit : Option ℕ
  pub pushed : ℕ
  pub compared : ℕ

-- the items that a window holds, oldest first, the most that it can hold, if there is such a number,
-- and how much older than the newest an item may be
pub record TimedItems (T : Type 0) : Type 0 where
  pub contents : List T
  pub limit : Option ℕ
  pub span : ℕ
