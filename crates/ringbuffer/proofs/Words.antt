-- What the proofs are written in: the words and lemmas of lists, options and numbers that several of them use, and the
-- rings' own.
pub use Rattle.ring_core.proofs.SourceEnds.{YieldsList-unpacked, shown_drained}
pub use Rattle.ring_core.proofs.Items.{AllZip-join, drop-append, slice_get-drop, slice_get-take, take-suc_get}
pub use Rattle.ring_core.proofs.Limits.{keep_last-keep_last}
pub use Rattle.ring_core.specs.Contents.{keep_last, ChangesSlots}
pub use Rattle.ringbuffer.specs.Conversion.{ClonesMeet}
pub use Rattle.ringbuffer.specs.Layout.{AreFull, Empties, IsLaidOut, IsSound, LaysApart, LaysOut, Moves, SlotsHold, after_pushes, slot_after, view_from, CanPush}
unfoldable pub use Rattle.ringbuffer.specs.Layout.{items_from}
pub use Rattle.ringbuffer.specs.Somes.{somes}
pub use Rattle.ringbuffer.specs.Sources.{Gives}
pub use Rattle.ringbuffer.specs.View.{View, after_clear, after_cut, after_extend, after_extend_from_slice, after_insert, after_keep_newest, after_pop, after_push, after_push_front, after_put, after_put_first, after_puts, after_remove, after_rewrite, after_swap, after_take, after_takes, after_truncate, after_firsts_to_back, after_lasts_to_front, after_write, after_writes, rotated, after_fill}
pub use Rattle.ringbuffer.specs.declared.fixed.Span.{Span}
pub use Rattle.ringbuffer.specs.contiguous.Contiguous.{beside, contiguous_start}
pub use Rattle.ring_slots.specs.Slots.{HoldsStretch, IsEmptyAt, IsFullAt, IsFullStretch, Slots, changed, refilled, slot_at, filled, with_items, IsEmptyStretch, Passes, brought_first, moved_down, passed_down, passed_up, with_refilled}
pub use Rattle.std.proofs.Common.{All, Bool, Bor, Err, IfOk, IsOk, IsSome, IsUtf8, List, MatchOption, None, Ok, OnOk, Option, Result, Some, [], add-one, ap, append-nil, append_assoc, arith, chars, drop, ext_get_or, false, get_or, get_or-set_other, get_or-set_same, if◌then◌else◌, inl, inr, is_ok, length, length-append, length-drop, length-set, length-take, length-take-le, map, nat_eq, of_calls, refl, replicate, rules, subst, suc, sym, take, take-append-drop, true, zero, ℕ, ◌%◌, ◌&&◌, ◌*◌, ◌++◌, ◌+◌, ◌-◌, ◌<◌, ◌^◌, ◌∙◌, ◌∷◌, ◌≡◌, ◌≢◌, ◌≤◌, ◌⊎◌, Equal, Greater, Less, Ordering}
pub use Rattle.std.proofs.Math.Decide.{dec_lt}
pub use Rattle.std.proofs.Math.ListN.{set}
pub use Rattle.std.proofs.Math.Nat.{add-mod-mod, add-mod_right, mod-add-mod, mod-eq-sub-mod, mod-eq_of_lt, mod-lt, mod_self}
pub use Rattle.std.proofs.Math.Seq.{drop-cons, drop-length, take-append-add, take-suc, take-add, take-nil}
pub use Rattle.std.proofs.lemmas.Grind.{common_steps, flat_map-append, fold-append, elements}
pub use Rattle.std.proofs.lemmas.Iterator.{YieldsList, YieldsList-from_chars, YieldsList-from_slice}
pub use Rattle.std.proofs.lemmas.Iterator.Adapters.{YieldsList-from_vec, items_from_extend}
pub use Rattle.std.proofs.lemmas.Iterator.Consumers.{YieldsList-from_rest, YieldsList-turn, YieldsList-from_copied}
pub use Rattle.std.proofs.lemmas.List.{drop-append-le, drop-drop, drop-map, drop-set-lt, drop_min, get_or-append_right, get_or-drop, get_or-replicate, get_or-take, get_or_append_left, get_or_past, length-map, length-replicate, map-append, nil_from_length, take-map, take_all, take_at, drop_more, take-take, map-id, places, same_lists}
pub use Rattle.std.proofs.lemmas.List.Elements.{AllZip-push, all_zip_more, filter_map-append, length_all_zip, All-head, All-push, All-tail}
pub use Rattle.std.proofs.lemmas.Option.{slice_get_cases, slice_get_past, get_or_from_slice_get, slice_get_within, slice_get_read}
pub use Rattle.std.proofs.lemmas.Result.{IfOk-weaker, MatchResult-weaker}
pub use Rattle.std.specs.Cmp.Lexicographic.{pointwise, lists_agrees, slice_partial_cmp}
pub use Rattle.std.specs.Int.{IsPowerOfTwo}
pub use Rattle.std.specs.Iterator.{Drains, IsFinite, MakesProgress, Yields, YieldsThen}
pub use Rattle.std.specs.List.{AllZip, AppendsResults, FoldsTo, filter_map, length_refill, range_with_len, refill, common_prefix_len, list_any, flat_map, items_where_true}
pub use Rattle.std.specs.Prelude.{IsOk, IsSome, MatchResult, OnErr, Result, min, nat_le, nat_lt, option_to_list, slice_get, fold}
pub use Rattle.std.specs.Str.Iter.{chars_rest}
pub use Rattle.std.specs.declared.iter.Iterator.{Ghosts}
pub use Rattle.ring_slots.proofs.Filled.{filled-behind, get_or-map_some, length-filled, filled-before, filled-in}
pub use Rattle.std.proofs.lemmas.Bool.{cases_Bool}
pub use Rattle.ring_core.proofs.Cloned.{clone_out, equal_clones_fill, equal_clones_pushed}
pub use Rattle.ringbuffer.specs.Pushing.{PushesOnto}
pub use Rattle.std.specs.VecDeque.{deque_capacity, deque_len}
pub use Rattle.std.proofs.lemmas.List.Folds.{list_any-append}
pub use Rattle.std.proofs.lemmas.List.Sums.{common_prefix_len-le}
pub use Rattle.std.proofs.iter.runs.Lists.{Yields-both}
pub use Rattle.ring_core.proofs.Callers.{held_on_ok}
pub use Rattle.std.proofs.lemmas.Bool.Decides.{nat_tests}
pub use Rattle.std.proofs.lemmas.Fn.{FoldsTo-push, called_at, filter_same}
pub use Rattle.std.proofs.lemmas.List.Edits.{length-swap, swap_is}
pub use Rattle.std.specs.Fn.{CalledAt}
pub use Rattle.std.specs.Ordering.{nat_cmp, partial_ordering_then}
