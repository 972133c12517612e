-- What the program prints.
use Rattle.std.specs.Prelude.{ℕ, ℤ, List, ◌++◌, None, Some, codes, flat_map}
use Rattle.std.specs.Fmt.{signed_decimal}
use Rattle.ringbuffer.specs.declared.Reply.{Reply}
use Rattle.ringbuffer.specs.declared.Reply.TheVariants.{Pushed, Extended, Dequeued, Skipped, Cleared}

-- the line that says a reply
abbrev pub reply_line : Reply ℤ → List ℕ
reply_line (Pushed None) = codes "pushed\n"
reply_line (Pushed (Some old)) = codes "pushed over " ++ signed_decimal old ++ codes "\n"
reply_line Extended = codes "extended\n"
reply_line (Dequeued None) = codes "dequeued none\n"
reply_line (Dequeued (Some item)) = codes "dequeued " ++ signed_decimal item ++ codes "\n"
reply_line Skipped = codes "skipped\n"
reply_line Cleared = codes "cleared\n"

-- an item after a space
abbrev pub item_text : ℤ → List ℕ
item_text item = codes " " ++ signed_decimal item

-- the last line, with the items
abbrev pub items_line : List ℤ → List ℕ
items_line items = codes "items" ++ flat_map item_text items ++ codes "\n"
