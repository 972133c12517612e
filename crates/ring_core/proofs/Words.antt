-- What the proofs are written in: the words and lemmas of lists, options and numbers that several of them use, and the
-- rings' own.
pub use Rattle.ring_core.specs.Contents.{AppendsCut, ChangesSlots, IsCut, IsWithin, keep_last, overwritten, index_at, signed_index_at}
pub use Rattle.ring_core.specs.Cursor.{stepped}
pub use Rattle.ring_core.specs.History.{ChangesFewSlots, IsLeft, IsPush, KeepsToNumbers, Step, all_items, clears, contents_after, head, held, held_next, held_numbers, least, number, oldest, overwrites, overwritten_after, pushed, pushes, removed, removes, replies_of, reply_after, some_below, steps, steps_of, takes}
pub use Rattle.ring_core.specs.Meaning.{IsRefused, LeavesPart, StopsAt, after_all, after_one, places, puts, replies_to, reply_to}
pub use Rattle.ring_core.specs.Walk.{DrainsFirst, UnpacksFirst, drain_to_come, into_iter_to_come, iterator_to_come, to_come}
pub use Rattle.ring_core.specs.declared.command.Command.{Command}
pub use Rattle.ring_core.specs.declared.command.Command.TheVariants.{Clear, Dequeue, Extend, Push, Skip}
pub use Rattle.ring_core.specs.declared.command.Refused.{Refused}
pub use Rattle.ring_core.specs.declared.command.Reply.{Reply}
pub use Rattle.std.proofs.Common.{All, Bool, Bor, Global, IfSome, IsNone, IsSome, IsTrue, List, MatchOption, MutBor, None, Option, Some, [], add-one, add-zero, ap, append-nil, append_assoc, arith, drop, false, filter, get_or, if◌then◌else◌, inl, inr, length, length-append, length-drop, map, map-id, max, min, nat_le, nat_lt, refl, replicate, rules, set, slice_get, slice_set, subst, suc, sym, take, true, vec_capacity, zero, zero-add, ℕ, ◌&&◌, ◌*◌, ◌++◌, ◌+◌, ◌-◌, ◌<◌, ◌==◌, ◌↔◌, ◌∙◌, ◌∷◌, ◌≡◌, ◌≤◌}
pub use Rattle.std.proofs.Math.Nat.{mod-eq_of_lt, zero-mod}
pub use Rattle.std.proofs.Math.Seq.{drop-append_seam, drop-cons, set-append_seam, take-length, take-nil, take-suc-set}
pub use Rattle.std.proofs.lemmas.Bool.{cases_Bool, cases_lt, eqb-true, false≢true, le-ltb, lt-ltb}
pub use Rattle.std.proofs.lemmas.Bool.Decides.{nat_tests}
pub use Rattle.std.proofs.lemmas.Grind.{flat_map-append}
pub use Rattle.std.proofs.lemmas.Iterator.Consumers.{YieldsList-from_shown, YieldsList-so_far, YieldsList-turn}
pub use Rattle.std.proofs.lemmas.List.{drop-append-le, drop-drop, drop-map, drop-set-lt, drop_all, drop_min, length-map, length-replicate, length-take, length-take-le, length_push, map-append, set_at, take-append-drop, take_all, take_at, take_min}
pub use Rattle.std.proofs.lemmas.List.Elements.{All-cons, All-nil, AllZip-push, filter-append}
pub use Rattle.std.proofs.lemmas.Option.{IfSome_then, get_or_from_slice_get, slice_get_cases, slice_get_past, slice_get_within}
pub use Rattle.std.specs.Iterator.{Drains, YieldsThen}
pub use Rattle.std.specs.List.{AllZip, FoldsTo, enumerate_from, filter_map, list_any, range_with_len}
pub use Rattle.std.specs.Option.{ghost_name_of, option_copied, option_copied_mut, option_to_list}
pub use Rattle.std.specs.Prelude.{Err, IsOk, MatchResult, Ok, OnErr, OnOk, Result, is_ok, negsuc}
