-- A box placed in another's frame, as shape.rs computes it. `⊕ ⊖ ⊗ ⊘` are binary32's operations, and each rounds once.
-- Definitions only.
use Rattle.std.specs.Prelude.{Bool, true, false, cond, ◌&&◌, Float, Option, Some, None}
use Rattle.std.specs.Float.{binary32}
use Rattle.std.specs.Float.Ieee.{of_bits, lt, le}
use Rattle.float.specs.Ops.{◌⊗◌, f0}
use Rattle.float.specs.Simple.{abs_of, max_of}
use Rattle.geometry.specs.declared.Transform2D.{Transform2D}
use Rattle.geometry.specs.Frame.{quotient_of}
use Rattle.shape.specs.declared.RoundedBox.{RoundedBox}
use Rattle.beside.specs.declared.Placed.{Placed}

-- `alongside`'s 1e-4
abbrev pub aligned_share : Float
aligned_share = of_bits binary32 0x38d1_b717

-- ---- RoundedBox::alongside, with t for `other.frame / self.frame`

-- `scale`
abbrev pub scale_of : Transform2D → Float
scale_of t = max_of (max_of (max_of (abs_of t.a) (abs_of t.b)) (abs_of t.c)) (abs_of t.d)

-- `aligned`
unfoldable pub aligned_of : Float → Float → Float → Bool
aligned_of along across scale = le (abs_of across) (aligned_share ⊗ scale) && lt f0 (abs_of along)

-- `aligned(a, b) && aligned(d, c)`, and `aligned(b, a) && aligned(c, d)`
unfoldable pub straight_of : Transform2D → Bool
straight_of t = aligned_of t.a t.b (scale_of t) && aligned_of t.d t.c (scale_of t)

unfoldable pub crossed_of : Transform2D → Bool
crossed_of t = aligned_of t.b t.a (scale_of t) && aligned_of t.c t.d (scale_of t)

-- the two answers: the centre, and the half sides and radii, as they stand and changed over
unfoldable pub straight_by : Transform2D → RoundedBox → Placed
straight_by t other =
    record {
      x = t.x;
      y = t.y;
      hx = abs_of t.a ⊗ other.ex;
      hy = abs_of t.d ⊗ other.ey;
      rx = abs_of t.a ⊗ other.rx;
      ry = abs_of t.d ⊗ other.ry;
    }

unfoldable pub crossed_by : Transform2D → RoundedBox → Placed
crossed_by t other =
    record {
      x = t.x;
      y = t.y;
      hx = abs_of t.c ⊗ other.ey;
      hy = abs_of t.b ⊗ other.ex;
      rx = abs_of t.c ⊗ other.ry;
      ry = abs_of t.b ⊗ other.rx;
    }

abbrev pub alongside_by : Transform2D → RoundedBox → Option Placed
alongside_by t other =
    cond (straight_of t) (Some (straight_by t other))
    (cond (crossed_of t) (Some (crossed_by t other)) None)

-- RoundedBox::alongside
unfoldable pub alongside_of : RoundedBox → RoundedBox → Option Placed
alongside_of b other = alongside_by (quotient_of other.frame b.frame) other

-- RoundedBox::parallel
abbrev pub is_placed : Option Placed → Bool
is_placed (Some p) = true
is_placed None = false

abbrev pub parallel_of : RoundedBox → RoundedBox → Bool
parallel_of b other = is_placed (alongside_of b other)
