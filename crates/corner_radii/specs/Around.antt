-- The box around an outline's points, as shape.rs's `rounded` takes it. `⊕ ⊖ ⊗ ⊘` are binary32's operations, and each
-- rounds once. Definitions only.
use Rattle.std.specs.Prelude.{Bool, ◌&&◌, List, Float}
use Rattle.std.specs.Float.{binary32}
use Rattle.std.specs.Float.Ieee.{of_bits, lt}
use Rattle.std.specs.Float.Ieee.Scale.{finite}
use Rattle.float.specs.Ops.{◌⊕◌, ◌⊖◌, ◌⊗◌, f0, f½}
use Rattle.float.specs.Simple.{min_of}
use Rattle.geometry.specs.declared.Position.{Position}
use Rattle.geometry.specs.declared.Bounds.{Bounds}
use Rattle.geometry.specs.Frame.{no_bounds, with_point_of}
use Rattle.samples.specs.Folds.{fold_of}
use Rattle.corner_radii.specs.declared.Around.{Around}

-- FIT_TOLERANCE, 0.005
abbrev pub fit_tolerance : Float
fit_tolerance = of_bits binary32 0x3ba3_d70a

-- `min` and `max`: folds from infinity down and from minus infinity up
abbrev pub point_bounds_of : List Position → Bounds
point_bounds_of outline = fold_of with_point_of no_bounds outline

-- `center`, `extent`, `slack`
unfoldable pub around_of : Bounds → Around
around_of b =
    let ex = (b.maxx ⊖ b.minx) ⊗ f½ in
    let ey = (b.maxy ⊖ b.miny) ⊗ f½ in
    record { cx = (b.minx ⊕ b.maxx) ⊗ f½; cy = (b.miny ⊕ b.maxy) ⊗ f½; ex = ex; ey = ey; slack = fit_tolerance ⊗ min_of ex ey }

-- `*half > 0.0 && half.is_finite()`
unfoldable pub sized_half_of : Float → Bool
sized_half_of half = lt f0 half && finite half

-- `sized`
unfoldable pub sized_of : Around → Bool
sized_of a = sized_half_of a.ex && sized_half_of a.ey
