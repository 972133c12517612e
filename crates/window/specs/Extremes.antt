-- What two optional values join to, and the box round two boxes.
use Rattle.std.specs.Prelude.{Option, None, Some}
use Rattle.std.specs.Int.{int_max, int_min}
use Rattle.window.specs.declared.extremes.Corners.{Corners}

-- both joined, or the one that is there
abbrev pub joined : {A : Type 0} → (A → A → A) → Option A → Option A → Option A
joined join None y = y
joined join (Some x) None = Some x
joined join (Some x) (Some y) = Some (join x y)

-- the least box along the axes that holds both
abbrev pub join_boxes : Corners → Corners → Corners
join_boxes x y = record {
  left = int_min x.left y.left;
  bottom = int_min x.bottom y.bottom;
  right = int_max x.right y.right;
  top = int_max x.top y.top;
}
