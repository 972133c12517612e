-- What follows for a caller of the least and of the greatest of some items.
use Rattle.std.specs.Prelude.{List, All, Contains}
use Rattle.std.specs.declared.cmp.Ordering.{Ordering}
use Rattle.std.proofs.lemmas.Option.{get_or_from_slice_get, slice_get_within}
use Rattle.window.specs.Least.{AtMost, IsFirstGreatest, IsFirstLeast}

-- The least stands among the items, and is above none of them.
pub least_is_held : {T : Type 0} {cmp : T → T → Ordering} {xs : List T} {x : T} → IsFirstLeast cmp xs x → Contains xs x
least_is_held {T} {cmp} {xs} {x} is = (is.place, slice_get_within xs is.place x is.stands, get_or_from_slice_get xs is.place x x is.stands)

pub none_below_least : {T : Type 0} {cmp : T → T → Ordering} {xs : List T} {x : T} → IsFirstLeast cmp xs x → All (AtMost cmp x) xs
none_below_least is = is.least.at_most

-- The greatest stands among them too, and none is above it.
pub greatest_is_held : {T : Type 0} {cmp : T → T → Ordering} {xs : List T} {x : T} → IsFirstGreatest cmp xs x → Contains xs x
greatest_is_held is = least_is_held is

pub none_above_greatest : {T : Type 0} {cmp : T → T → Ordering} {xs : List T} {x : T} → IsFirstGreatest cmp xs x → All (λ y. AtMost cmp y x) xs
none_above_greatest is = is.least.at_most
