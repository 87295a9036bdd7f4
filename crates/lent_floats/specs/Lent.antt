-- Boxes, frames, coverages and bounds as lent floats, in document 01's order: frame a b c d x y, half extents, radii; a
-- coverage's linear part by rows, offset, half extents, radii, strays; of bounds the least x and y, then the most.
-- Definitions only.
use Rattle.std.specs.Prelude.{List, [], ◌∷◌, ◌++◌, length, get_or, drop, Float}
use Rattle.std.specs.Float.{nan}
use Rattle.geometry.specs.declared.Transform2D.{Transform2D}
use Rattle.geometry.specs.declared.Bounds.{Bounds}
use Rattle.shape.specs.declared.RoundedBox.{RoundedBox}
use Rattle.boxes.specs.Lent.{frame_at, box_at}
use Rattle.clip_coverage.specs.declared.ClipCoverage.{ClipCoverage}

-- ---- read

-- a frame and a box at the front of what is lent
abbrev pub frame_in : List Float → Transform2D
frame_in xs = frame_at xs 0

abbrev pub box_in : List Float → RoundedBox
box_in xs = box_at xs 0

abbrev pub coverage_in : List Float → ClipCoverage
coverage_in xs =
    record {
      la = get_or xs 0 nan;
      lb = get_or xs 1 nan;
      lc = get_or xs 2 nan;
      ld = get_or xs 3 nan;
      ox = get_or xs 4 nan;
      oy = get_or xs 5 nan;
      ex = get_or xs 6 nan;
      ey = get_or xs 7 nan;
      rx = get_or xs 8 nan;
      ry = get_or xs 9 nan;
      strays = get_or xs 10 nan;
    }

abbrev pub bounds_in : List Float → Bounds
bounds_in xs = record { minx = get_or xs 0 nan; miny = get_or xs 1 nan; maxx = get_or xs 2 nan; maxy = get_or xs 3 nan }

-- ---- written

abbrev pub box_floats : RoundedBox → List Float
box_floats b =
    b.frame.a ∷ b.frame.b ∷ b.frame.c ∷ b.frame.d ∷ b.frame.x ∷ b.frame.y ∷ b.ex ∷ b.ey ∷ b.rx ∷ b.ry ∷ []

abbrev pub coverage_floats : ClipCoverage → List Float
coverage_floats k =
    k.la ∷ k.lb ∷ k.lc ∷ k.ld ∷ k.ox ∷ k.oy ∷ k.ex ∷ k.ey ∷ k.rx ∷ k.ry ∷ k.strays ∷ []

abbrev pub bounds_floats : Bounds → List Float
bounds_floats b = b.minx ∷ b.miny ∷ b.maxx ∷ b.maxy ∷ []

-- 'a box, its strays, and the cut box where one side is square'
abbrev pub outline_floats : RoundedBox → Float → List Float
outline_floats b strays = box_floats b ++ (strays ∷ [])

abbrev pub cut_outline_floats : RoundedBox → Float → RoundedBox → List Float
cut_outline_floats b strays cut = outline_floats b strays ++ box_floats cut

-- an answer's floats at the front of what is lent; what lies past them is not changed
abbrev pub over : List Float → List Float → List Float
over floats lent = floats ++ drop (length floats) lent
