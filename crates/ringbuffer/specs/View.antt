-- What a contract sees of a ring of a fixed capacity, and what each call makes of that.
use Rattle.std.specs.List.{refill, swap}
use Rattle.std.specs.Prelude.{ℕ, ◌+◌, ◌-◌, ◌*◌, min, List, [], ◌∷◌, ◌++◌, drop, length, take, Some, slice_set, if◌then◌else◌, nat_eq, nat_lt}
use Rattle.ring_core.specs.Contents.{keep_last}

-- its items, oldest first, how many changes its slots have had, and how many items it holds at most
pub record View (X : Type 0) : Type 0 where
  pub items : List X
  pub changes : ℕ
  pub capacity : ℕ

module _ {X : Type 0} where
  -- an item put last, which changes one slot
  abbrev pub after_put : View X → X → View X
  after_put v x = record v { items = v.items ++ x ∷ []; changes = v.changes + 1 }

  -- items put last in order
  abbrev pub after_puts : List X → View X → View X
  after_puts xs v = record v { items = v.items ++ xs; changes = v.changes + length xs }

  -- the first item taken, if there is one, which changes its slot
  abbrev pub after_take : View X → View X
  after_take v = record v { items = drop 1 v.items; changes = v.changes + min (length v.items) 1 }

  -- the last item taken, if there is one, which changes its slot
  abbrev pub after_pop : View X → View X
  after_pop v = record v { items = take (length v.items - 1) v.items; changes = v.changes + min (length v.items) 1 }

  -- an item pushed: one change for it, and one where the first item gives way
  abbrev pub after_push : ℕ → View X → X → View X
  after_push limit v x =
      record v { items = keep_last (Some limit) (v.items ++ x ∷ []); changes = v.changes + 1 + (length v.items + 1 - limit) }

  -- an item put first, which changes one slot
  abbrev pub after_put_first : View X → X → View X
  after_put_first v x = record v { items = x ∷ v.items; changes = v.changes + 1 }

  -- an item pushed in front: one change for it, and one where the last item gives way
  abbrev pub after_push_front : ℕ → View X → X → View X
  after_push_front limit v x =
      record v { items = take limit (x ∷ v.items); changes = v.changes + 1 + (length v.items + 1 - limit) }

  -- items pushed in order: one change for each, and one for each item that gives way
  abbrev pub after_extend : ℕ → View X → List X → View X
  after_extend limit v xs =
      record v { items = keep_last (Some limit) (v.items ++ xs); changes = v.changes + length xs + (length v.items + length xs - limit) }

  -- a slice pushed of which only the last items are put that the limit leaves: one change for each of those, and one for each item that gives way
  abbrev pub after_extend_from_slice : ℕ → View X → List X → View X
  after_extend_from_slice limit v xs =
      let put = min (length xs) limit in
      record v { items = keep_last (Some limit) (v.items ++ xs); changes = v.changes + put + (length v.items + put - limit) }

  -- the first k items taken, each of which changes its slot
  abbrev pub after_takes : ℕ → View X → View X
  after_takes k v = record v { items = drop k v.items; changes = v.changes + k }

  -- the first k items kept, and each of the others taken, which changes its slot
  abbrev pub after_truncate : ℕ → View X → View X
  after_truncate k v = record v { items = take k v.items; changes = v.changes + (length v.items - k) }

  -- the last k items kept, and each of the others taken, which changes its slot
  abbrev pub after_keep_newest : ℕ → View X → View X
  after_keep_newest k v = record v { items = keep_last (Some k) v.items; changes = v.changes + (length v.items - k) }

  -- all items taken
  abbrev pub after_clear : View X → View X
  after_clear v = record v { items = []; changes = v.changes + length v.items }

  -- all items taken, and then these put
  abbrev pub after_fill : View X → List X → View X
  after_fill v xs = record v { items = xs; changes = v.changes + length v.items + length xs }

  -- all items lent for writing, which counts as four changes of each
  abbrev pub after_rewrite : View X → List X → View X
  after_rewrite v xs = record v { items = refill (length v.items) v.items xs; changes = v.changes + 4 * length v.items }

  -- the item at an index written
  abbrev pub after_write : View X → ℕ → X → View X
  after_write v i x = record v { items = slice_set v.items i x; changes = v.changes + 1 }

  -- a list from item n on, and the first n items after
  abbrev pub rotated : ℕ → List X → List X
  rotated n xs = drop n xs ++ take n xs

  -- the first n items moved after the others, by two changes each
  abbrev pub after_firsts_to_back : ℕ → View X → View X
  after_firsts_to_back n v = record v { items = rotated n v.items; changes = v.changes + 2 * n }

  -- the last n items moved before the others, by two changes each
  abbrev pub after_lasts_to_front : ℕ → View X → View X
  after_lasts_to_front n v = record v { items = rotated (length v.items - n) v.items; changes = v.changes + 2 * n }

  -- items written from an index on, each by one change
  abbrev pub after_writes : ℕ → List X → View X → View X
  after_writes i xs v = record v { items = take i v.items ++ (xs ++ drop (i + length xs) v.items); changes = v.changes + length xs }

  -- the items rotated by moving the fewer of those before and those after
  abbrev pub after_rotate : ℕ → View X → View X
  after_rotate n v = record v { items = rotated n v.items; changes = v.changes + 2 * min n (length v.items - n) }

  -- the item at an index taken, by one change, and one for each of the fewer items before and after, which close up
  abbrev pub after_remove : ℕ → View X → View X
  after_remove i v =
      record v { items = take i v.items ++ drop (i + 1) v.items; changes = v.changes + min i (length v.items - 1 - i) + 1 }

  -- the items from an index up to another taken, each by one change, and some others moved to close the gap, each by two changes
  abbrev pub after_cut : (from to moved : ℕ) → View X → View X
  after_cut from to moved v = record v { items = take from v.items ++ drop to v.items; changes = v.changes + (to - from) + 2 * moved }

  -- the items from an index up to another taken, if there are any, and the gap closed by the fewer of those before and after
  abbrev pub after_remove_range : (from to : ℕ) → View X → View X
  after_remove_range from to v =
      let end = min to (length v.items) in
      if nat_lt from end then after_cut from end (min from (length v.items - end)) v else v

  -- an item put at an index, by one change, and one for each of the fewer items before and after, which make way
  abbrev pub after_insert : ℕ → X → View X → View X
  after_insert i x v =
      record v { items = take i v.items ++ x ∷ drop i v.items; changes = v.changes + min i (length v.items - i) + 1 }

  -- the items at two indices in each other's place, by three changes, or by none where the two are one
  abbrev pub after_swap : ℕ → ℕ → View X → View X
  after_swap i j v = record v { items = swap v.items i j; changes = v.changes + (if nat_eq i j then 0 else 3) }
