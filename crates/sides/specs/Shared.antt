-- What two boxes with parallel sides share, and what two square ones both cover, as shape.rs computes it. `⊕ ⊖ ⊗ ⊘` are
-- binary32's operations, and each rounds once. Definitions only.
use Rattle.std.specs.Prelude.{Bool, cond, ◌&&◌, ◌||◌, Option, Some, None}
use Rattle.std.specs.Float.Ieee.{neg, le, eq}
use Rattle.float.specs.Ops.{◌⊕◌, ◌⊖◌, ◌⊗◌, f0, f½}
use Rattle.float.specs.Simple.{min_of, max_of}
use Rattle.geometry.specs.Frame.{product_of, translation_of}
use Rattle.shape.specs.declared.RoundedBox.{RoundedBox}
use Rattle.beside.specs.declared.Placed.{Placed}
use Rattle.sides.specs.declared.Sides.{Sides}
use Rattle.beside.specs.Alongside.{alongside_of}

-- ---- what two boxes share

-- `radii == [0.0, 0.0]`
unfoldable pub square_of : RoundedBox → Bool
square_of b = eq b.rx f0 && eq b.ry f0

unfoldable pub both_square_of : RoundedBox → RoundedBox → Bool
both_square_of b other = square_of b && square_of other

-- `low` and `high`
unfoldable pub sides_of : RoundedBox → Placed → Sides
sides_of b p =
    record {
      lowx = max_of (p.x ⊖ p.hx) (neg b.ex);
      lowy = max_of (p.y ⊖ p.hy) (neg b.ey);
      highx = min_of (p.x ⊕ p.hx) b.ex;
      highy = min_of (p.y ⊕ p.hy) b.ey;
    }

-- the square box between the sides, in b's frame
unfoldable pub between_of : RoundedBox → Sides → RoundedBox
between_of b s =
    record {
      frame = product_of (translation_of ((s.lowx ⊕ s.highx) ⊗ f½) ((s.lowy ⊕ s.highy) ⊗ f½)) b.frame;
      ex = (s.highx ⊖ s.lowx) ⊗ f½;
      ey = (s.highy ⊖ s.lowy) ⊗ f½;
      rx = f0;
      ry = f0;
    }

-- `low[0] >= high[0] || low[1] >= high[1]`
unfoldable pub apart_of : Sides → Bool
apart_of s = le s.highx s.lowx || le s.highy s.lowy

-- `low == [..] && high == [..]`
unfoldable pub sides_are_of : Sides → Sides → Bool
sides_are_of s t = eq s.lowx t.lowx && (eq s.lowy t.lowy && (eq s.highx t.highx && eq s.highy t.highy))

-- a box's own sides, and those of a box that is placed in its frame
unfoldable pub own_sides_of : RoundedBox → Sides
own_sides_of b = record { lowx = neg b.ex; lowy = neg b.ey; highx = b.ex; highy = b.ey }

unfoldable pub placed_sides_of : Placed → Sides
placed_sides_of p = record { lowx = p.x ⊖ p.hx; lowy = p.y ⊖ p.hy; highx = p.x ⊕ p.hx; highy = p.y ⊕ p.hy }

-- ---- RoundedBox::rect_intersection

-- `high` where it is no lower than `low`
unfoldable pub raised_of : Sides → Sides
raised_of s = record { lowx = s.lowx; lowy = s.lowy; highx = max_of s.highx s.lowx; highy = max_of s.highy s.lowy }

abbrev pub rect_by : RoundedBox → Option Placed → Option RoundedBox
rect_by b (Some p) = Some (between_of b (raised_of (sides_of b p)))
rect_by b None = None

-- RoundedBox::rect_intersection
unfoldable pub rect_intersection_of : RoundedBox → RoundedBox → Option RoundedBox
rect_intersection_of b other = cond (both_square_of b other) (rect_by b (alongside_of b other)) None
