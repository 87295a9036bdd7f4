-- Boxes as lent floats, ten for each: frame a b c d x y, half extents, radii. Definitions only.
use Rattle.std.specs.Prelude.{ℕ, zero, suc, ◌+◌, List, [], ◌∷◌, Float, get_or}
use Rattle.std.specs.Float.{nan}
use Rattle.geometry.specs.declared.Transform2D.{Transform2D}
use Rattle.shape.specs.declared.RoundedBox.{RoundedBox}

-- the box whose floats begin at a place
abbrev pub frame_at : List Float → ℕ → Transform2D
frame_at xs at =
    record {
      a = get_or xs at nan;
      b = get_or xs (at + 1) nan;
      c = get_or xs (at + 2) nan;
      d = get_or xs (at + 3) nan;
      x = get_or xs (at + 4) nan;
      y = get_or xs (at + 5) nan;
    }

abbrev pub box_at : List Float → ℕ → RoundedBox
box_at xs at =
    record {
      frame = frame_at xs at;
      ex = get_or xs (at + 6) nan;
      ey = get_or xs (at + 7) nan;
      rx = get_or xs (at + 8) nan;
      ry = get_or xs (at + 9) nan;
    }

-- n boxes, of which the first begins at a place
abbrev pub boxes_from : ℕ → List Float → ℕ → List RoundedBox
boxes_from at xs zero = []
boxes_from at xs (suc n) = box_at xs at ∷ boxes_from (at + 10) xs n

abbrev pub boxes_in : List Float → ℕ → List RoundedBox
boxes_in xs n = boxes_from 0 xs n
