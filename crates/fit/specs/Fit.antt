-- shape.rs's `parallelogram`, `fit_with_cut` and `fit`. `⊕ ⊖ ⊗ ⊘` are binary32's operations, and each rounds once.
-- Definitions only.
use Rattle.std.specs.Prelude.{Bool, cond, ◌&&◌, List, [], ◌∷◌, ◌++◌, ℕ, zero, suc, ◌+◌, ◌-◌, ◌%◌, length, get_or, take, fold, Float, Option, Some, None}
use Rattle.std.specs.Float.{binary32}
use Rattle.std.specs.Float.Ieee.{of_bits, lt, le}
use Rattle.float.specs.Ops.{◌⊕◌, ◌⊖◌, ◌⊗◌, ◌⊘◌, f0, f½}
use Rattle.float.specs.Simple.{abs_of, max_of}
use Rattle.roots.specs.Root.{hypot_of}
use Rattle.geometry.specs.declared.Position.{Position}
use Rattle.shape.specs.declared.RoundedBox.{RoundedBox}
use Rattle.outline.specs.declared.Segment.{Segment}
use Rattle.outline.specs.declared.Segment.TheVariants as segment
use Rattle.outline.specs.Contour.{Contour, Walked, stopped, reached, origin, contour_of, empty_of, same_place_of, line_points_of, all_lines_of}
use Rattle.rounded.specs.declared.Fitted.{Fitted}
use Rattle.rounded.specs.Rounded.{rounded_of}
use Rattle.fit.specs.declared.Corners.{Corners}

-- CORNER_TOLERANCE, 1e-4
abbrev pub corner_tolerance : Float
corner_tolerance = of_bits binary32 0x38d1_b717

-- ---- the size: a fold of the larger from 0

-- `(p[0] - start[0]).abs().max((p[1] - start[1]).abs())`
unfoldable pub from_start_of : Position → Position → Float
from_start_of start p = max_of (abs_of (p.x ⊖ start.x)) (abs_of (p.y ⊖ start.y))

abbrev pub size_of : Position → List Position → Float
size_of start points = fold (λ size p. max_of size (from_start_of start p)) f0 points

-- ---- the corners: where the outline turns

-- `cross`
unfoldable pub cross_of : Position → Position → Position → Float
cross_of a b c = (b.x ⊖ a.x) ⊗ (c.y ⊖ b.y) ⊖ (b.y ⊖ a.y) ⊗ (c.x ⊖ b.x)

-- `cross.abs() > CORNER_TOLERANCE * size * size`
unfoldable pub turns_of : Position → Position → Position → Float → Bool
turns_of a b c size = lt (corner_tolerance ⊗ size ⊗ size) (abs_of (cross_of a b c))

-- whether the outline of n points turns at point i
unfoldable pub turns_at_of : List Position → ℕ → Float → ℕ → Bool
turns_at_of points n size i = turns_of (get_or points ((i + n - 1) % n) origin) (get_or points i origin) (get_or points ((i + 1) % n) origin) size

-- the turning points among the first i, in order
unfoldable pub corners_below : List Position → ℕ → Float → ℕ → List Position
corners_below points n size zero = []
corners_below points n size (suc i) = corners_below points n size i ++ cond (turns_at_of points n size i) (get_or points i origin ∷ []) []

abbrev pub corners_of : List Position → Float → List Position
corners_of points size = corners_below points (length points) size (length points)

-- ---- the box of four corners

-- `close`
unfoldable pub close_of : Float → Float → Float → Bool
close_of a b size = le (abs_of (a ⊖ b)) (corner_tolerance ⊗ size)

-- the diagonals have one middle
unfoldable pub centred_of : Corners → Float → Bool
centred_of k size =
    close_of (k.p0.x ⊕ k.p2.x) (k.p1.x ⊕ k.p3.x) size && close_of (k.p0.y ⊕ k.p2.y) (k.p1.y ⊕ k.p3.y) size

-- `u` and `v`: half a side
abbrev pub half_side_of : Position → Position → Position
half_side_of p q = record { x = (q.x ⊖ p.x) ⊗ f½; y = (q.y ⊖ p.y) ⊗ f½ }

-- the box with the half sides u and v and the corners p0 and p2 opposite each other
unfoldable pub spanned_of : Position → Position → Position → Position → RoundedBox
spanned_of u v p0 p2 =
    let ex = hypot_of u.x u.y in
    let ey = hypot_of v.x v.y in
    record {
      frame =
          record { a = u.x ⊘ ex; b = u.y ⊘ ex; c = v.x ⊘ ey; d = v.y ⊘ ey; x = (p0.x ⊕ p2.x) ⊗ f½; y = (p0.y ⊕ p2.y) ⊗ f½ };
      ex = ex;
      ey = ey;
      rx = f0;
      ry = f0;
    }

unfoldable pub corners_box_of : Corners → Float → Option RoundedBox
corners_box_of k size =
    cond (centred_of k size) (Some (spanned_of (half_side_of k.p0 k.p1) (half_side_of k.p0 k.p3) k.p0 k.p2)) None

-- exactly four turning points
abbrev pub four_of : List Position → Float → Option RoundedBox
four_of [] size = None
four_of (p0 ∷ []) size = None
four_of (p0 ∷ p1 ∷ []) size = None
four_of (p0 ∷ p1 ∷ p2 ∷ []) size = None
four_of (p0 ∷ p1 ∷ p2 ∷ p3 ∷ []) size = corners_box_of (record { p0 = p0; p1 = p1; p2 = p2; p3 = p3 }) size
four_of (p0 ∷ p1 ∷ p2 ∷ p3 ∷ p4 ∷ ps) size = None

-- RoundedBox::parallelogram, of its points
unfoldable pub parallelogram_of : Position → List Position → Option RoundedBox
parallelogram_of start points = four_of (corners_of points (size_of start points)) (size_of start points)

-- ---- RoundedBox::fit_with_cut

-- `contour`'s end: back at the start, or a last line to it
abbrev pub closed_of : Contour → List Segment
closed_of k = cond (same_place_of k.last k.start) k.segments (k.segments ++ (segment.Line k.start.x k.start.y ∷ []))

-- the points of `parallelogram`: the start, and the ends of all segments but the last
abbrev pub points_of : Position → List Segment → List Position
points_of start segments = start ∷ line_points_of (take (length segments - 1) segments)

-- `Self::parallelogram(start, &segments).map(|shape| (shape, 0.0, None))`
abbrev pub whole_of : Option RoundedBox → Option Fitted
whole_of (Some b) = Some (record { shape = b; strays = f0; cut = None })
whole_of None = None

-- all lines, or `rounded`
unfoldable pub segments_fitted_of : Position → List Segment → Option Fitted
segments_fitted_of start segments =
    cond (all_lines_of segments) (whole_of (parallelogram_of start (points_of start segments))) (rounded_of start segments)

-- no start, or no segment: no contour, and no box
unfoldable pub contour_fitted_of : Contour → Option Fitted
contour_fitted_of k = cond k.started (cond (empty_of (closed_of k)) None (segments_fitted_of k.start (closed_of k))) None

abbrev pub walked_fitted_of : Walked → Option Fitted
walked_fitted_of stopped = None
walked_fitted_of (reached k) = contour_fitted_of k

unfoldable pub fit_with_cut_of : List ℕ → List Float → Option Fitted
fit_with_cut_of verbs positions = walked_fitted_of (contour_of verbs positions)

-- ---- RoundedBox::fit: `(shape, strays, None) => Some((shape, strays)), _ => None`, then the box alone

-- what is told of a box where nothing cuts it
abbrev pub uncut : {A : Type 0} → Option RoundedBox → A → Option A
uncut None told = Some told
uncut (Some by) told = None

abbrev pub box_alone : Option Fitted → Option RoundedBox
box_alone (Some f) = uncut f.cut f.shape
box_alone None = None

unfoldable pub fit_of : List ℕ → List Float → Option RoundedBox
fit_of verbs positions = box_alone (fit_with_cut_of verbs positions)
