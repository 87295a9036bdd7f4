-- Document 02, change 5: what the calls that fit an outline answer to a few outlines with curves. The answers are
-- femtovg's, with the arctangent that stands in on both sides. Definitions only; proofs/Curved.antt computes them.
use Rattle.std.specs.Prelude.{◌≡◌, List, [], ◌∷◌, ℕ, Float, Some, None, Ok}
use Rattle.std.specs.Float.Ieee.{neg, of_bits}
use Rattle.std.specs.Float.{binary32}
use Rattle.float.specs.Ops.{f0, f1, f2, f_minus_1}
use Rattle.shape.specs.declared.RoundedBox.{RoundedBox}
use Rattle.fit.specs.Calls.{fit_call, fit_outline_call, fit_with_cut_call}
use Rattle.examples.specs.Starred.{f4}

-- 3, 7, 8, -2 and -1.9999
abbrev pub f3 : Float
f3 = of_bits binary32 0x4040_0000

abbrev pub f7 : Float
f7 = of_bits binary32 0x40e0_0000

abbrev pub f8 : Float
f8 = of_bits binary32 0x4100_0000

abbrev pub f_minus_2 : Float
f_minus_2 = of_bits binary32 0xc000_0000

abbrev pub beside_minus_2 : Float
beside_minus_2 = of_bits binary32 0xbfff_fcb9

-- how far a quarter circle's control points lie from its ends, 0.5522848; 1 less that, and 7 more
abbrev pub k : Float
k = of_bits binary32 0x3f0d_6289

abbrev pub one_minus_k : Float
one_minus_k = of_bits binary32 0x3ee5_3aee

abbrev pub 7+k : Float
7+k = of_bits binary32 0x40f1_ac51

-- strays: 0.00028455257 and 0.00028481483
abbrev pub circle_strays : Float
circle_strays = of_bits binary32 0x3995_3000

abbrev pub tab_strays : Float
tab_strays = of_bits binary32 0x3995_5333

-- an upright box: its centre, half extents and one radius
abbrev pub rounded_at : Float → Float → Float → Float → Float → RoundedBox
rounded_at x y ex ey r = record { frame = record { a = f1; b = f0; c = f0; d = f1; x = x; y = y }; ex = ex; ey = ey; rx = r; ry = r }

-- 'circle of four cubics', of radius 1
abbrev pub circle_verbs : List ℕ
circle_verbs = 0 ∷ 2 ∷ 2 ∷ 2 ∷ 2 ∷ 5 ∷ []

abbrev pub circle : List Float
circle =
    f1 ∷ f0
    ∷ f1 ∷ k ∷ k ∷ f1 ∷ f0 ∷ f1
    ∷ neg k ∷ f1 ∷ f_minus_1 ∷ k ∷ f_minus_1 ∷ f0
    ∷ f_minus_1 ∷ neg k ∷ neg k ∷ f_minus_1 ∷ f0 ∷ f_minus_1
    ∷ k ∷ f_minus_1 ∷ f1 ∷ neg k ∷ f1 ∷ f0
    ∷ []

-- 8 by 4, with radius 1 at the two corners of low y
abbrev pub tab_verbs : List ℕ
tab_verbs = 0 ∷ 1 ∷ 2 ∷ 1 ∷ 1 ∷ 1 ∷ 2 ∷ 5 ∷ []

abbrev pub tab : List Float
tab =
    f1 ∷ f0
    ∷ f7 ∷ f0
    ∷ 7+k ∷ f0 ∷ f8 ∷ one_minus_k ∷ f8 ∷ f1
    ∷ f8 ∷ f4
    ∷ f0 ∷ f4
    ∷ f0 ∷ f1
    ∷ f0 ∷ one_minus_k ∷ one_minus_k ∷ f0 ∷ f1 ∷ f0
    ∷ []

-- a rectangle with a curve of four equal points at its start, and one whose curve leads to a corner from 0.0001 beside it
abbrev pub rect_verbs : List ℕ
rect_verbs = 0 ∷ 2 ∷ 1 ∷ 1 ∷ 1 ∷ 5 ∷ []

abbrev pub rect : List Float
rect = f0 ∷ f0 ∷ f0 ∷ f0 ∷ f0 ∷ f0 ∷ f0 ∷ f0 ∷ f4 ∷ f0 ∷ f4 ∷ f2 ∷ f0 ∷ f2 ∷ []

abbrev pub corner_curve : List Float
corner_curve =
    beside_minus_2 ∷ f_minus_1 ∷ beside_minus_2 ∷ f_minus_1 ∷ f_minus_2 ∷ f_minus_1 ∷ f_minus_2 ∷ f_minus_1 ∷ f2 ∷ f_minus_1 ∷ f2 ∷ f1 ∷ f_minus_2 ∷ f1 ∷ []

pub record CurvesFit : Type 0 where
  pub circle_fits : fit_with_cut_call circle_verbs circle
      ≡ Ok (Some (record { shape = rounded_at f0 f0 f1 f1 f1; strays = circle_strays; cut = None }))
  -- the box runs past the square side, of high y, by twice its radius; only `fit_with_cut` answers it
  pub tab_fits : fit_with_cut_call tab_verbs tab
      ≡ Ok (Some (record { shape = rounded_at f4 f3 f4 f3 f1; strays = tab_strays; cut = Some (rounded_at f4 f2 f4 f2 f0) }))
  pub tab_outline : fit_outline_call tab_verbs tab ≡ Ok None
  pub tab_alone : fit_call tab_verbs tab ≡ Ok None
  pub rect_fits : fit_outline_call rect_verbs rect ≡ Ok (Some (rounded_at f2 f1 f2 f1 f0, f0))
  -- the arctangent jumps where both sizes are equal: a step back of 0.0004
  pub corner_does_not : fit_call rect_verbs corner_curve ≡ Ok None
