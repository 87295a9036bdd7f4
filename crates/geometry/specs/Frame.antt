-- Frames and bounds, as geometry.rs computes them. `⊕ ⊖ ⊗ ⊘` are binary32's operations, and each rounds once.
-- Definitions only.
use Rattle.std.specs.Prelude.{Bool, cond, ◌&&◌, List, [], ◌∷◌, true, false, Float}
use Rattle.std.specs.Float.{inf, binary64}
use Rattle.std.specs.Float.Ieee.{of_bits, neg, sub, mul, div, lt}
use Rattle.float.specs.Ops.{◌⊕◌, ◌⊗◌, f0, f1}
use Rattle.float.specs.Simple.{min_of, max_of}
use Rattle.narrowing.specs.Width.{narrow_of}
use Rattle.geometry.specs.declared.Transform2D.{Transform2D}
use Rattle.geometry.specs.declared.Position.{Position}
use Rattle.geometry.specs.declared.Bounds.{Bounds}

-- Transform2D::translation
abbrev pub translation_of : Float → Float → Transform2D
translation_of tx ty = record { a = f1; b = f0; c = f0; d = f1; x = tx; y = ty }

-- Transform2D::identity
abbrev pub identity_frame : Transform2D
identity_frame = record { a = f1; b = f0; c = f0; d = f1; x = f0; y = f0 }

-- MulAssign. Document 01: 'The product of frames takes a point through the left one, then the right'
abbrev pub product_of : Transform2D → Transform2D → Transform2D
product_of s o =
    record {
      a = s.a ⊗ o.a ⊕ s.b ⊗ o.c;
      b = s.a ⊗ o.b ⊕ s.b ⊗ o.d;
      c = s.c ⊗ o.a ⊕ s.d ⊗ o.c;
      d = s.c ⊗ o.b ⊕ s.d ⊗ o.d;
      x = s.x ⊗ o.a ⊕ s.y ⊗ o.c ⊕ o.x;
      y = s.x ⊗ o.b ⊕ s.y ⊗ o.d ⊕ o.y;
    }

-- Transform2D::transform_point
abbrev pub transform_point_of : Transform2D → Float → Float → Position
transform_point_of t sx sy = record { x = sx ⊗ t.a ⊕ sy ⊗ t.c ⊕ t.x; y = sx ⊗ t.b ⊕ sy ⊗ t.d ⊕ t.y }

-- 1e-6 and 1.0 as f64
abbrev pub min_determinant : Float
min_determinant = of_bits binary64 0x3eb0_c6f7_a0b5_ed8d

abbrev pub one64 : Float
one64 = of_bits binary64 0x3ff0_0000_0000_0000

-- `inverse`: det, in f64. Every f32 is a value of f64 as it stands
abbrev pub determinant_of : Transform2D → Float
determinant_of t = sub binary64 (mul binary64 t.a t.d) (mul binary64 t.c t.b)

-- Document 01: 'when the determinant lies strictly between −0.000001 and 0.000001'
unfoldable pub collapsed_of : Float → Bool
collapsed_of det = lt (neg min_determinant) det && lt det min_determinant

-- `inverse`: the last expression, each number rounded to f32 at the end
abbrev pub inverse_by : Transform2D → Float → Transform2D
inverse_by t invdet =
    record {
      a = narrow_of (mul binary64 t.d invdet);
      b = narrow_of (mul binary64 (neg t.b) invdet);
      c = narrow_of (mul binary64 (neg t.c) invdet);
      d = narrow_of (mul binary64 t.a invdet);
      x = narrow_of (mul binary64 (sub binary64 (mul binary64 t.c t.y) (mul binary64 t.d t.x)) invdet);
      y = narrow_of (mul binary64 (sub binary64 (mul binary64 t.b t.x) (mul binary64 t.a t.y)) invdet);
    }

-- Transform2D::inverse
unfoldable pub inverse_of : Transform2D → Transform2D
inverse_of t = cond (collapsed_of (determinant_of t)) identity_frame (inverse_by t (div binary64 one64 (determinant_of t)))

-- Div
unfoldable pub quotient_of : Transform2D → Transform2D → Transform2D
quotient_of s o = product_of s (inverse_of o)

-- Bounds::from_points: where the fold begins, its step, and the fold
abbrev pub no_bounds : Bounds
no_bounds = record { minx = inf false; miny = inf false; maxx = inf true; maxy = inf true }

abbrev pub with_point_of : Bounds → Position → Bounds
with_point_of b p =
    record { minx = min_of b.minx p.x; miny = min_of b.miny p.y; maxx = max_of b.maxx p.x; maxy = max_of b.maxy p.y }

abbrev pub with_points_of : Bounds → List Position → Bounds
with_points_of b [] = b
with_points_of b (p ∷ ps) = with_points_of (with_point_of b p) ps

abbrev pub from_points_of : List Position → Bounds
from_points_of ps = with_points_of no_bounds ps
