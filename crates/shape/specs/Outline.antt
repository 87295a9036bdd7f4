-- A box's corners and the points of its outline, as shape.rs computes them. `⊕ ⊖ ⊗ ⊘` are binary32's operations, and
-- each rounds once. Definitions only.
use Rattle.std.specs.Prelude.{◌≡◌, Bool, true, ◌&&◌, List, [], ◌∷◌, ℕ, zero, suc, ◌/◌, ◌%◌, get_or, Float}
use Rattle.std.specs.Float.{nan, binary32}
use Rattle.std.specs.Float.Ieee.{of_bits}
use Rattle.float.specs.Ops.{◌⊖◌, ◌⊗◌, f1, f_minus_1}
use Rattle.geometry.specs.declared.Transform2D.{Transform2D}
use Rattle.geometry.specs.declared.Position.{Position}
use Rattle.geometry.specs.declared.Bounds.{Bounds}
use Rattle.geometry.specs.Frame.{product_of, transform_point_of, from_points_of}
use Rattle.shape.specs.declared.RoundedBox.{RoundedBox}

-- RoundedBox::transformed
abbrev pub transformed_of : RoundedBox → Transform2D → RoundedBox
transformed_of b t = record { frame = product_of b.frame t; ex = b.ex; ey = b.ey; rx = b.rx; ry = b.ry }

-- RoundedBox::bounds
abbrev pub corner_at_of : RoundedBox → Float → Float → Position
corner_at_of b x y = transform_point_of b.frame (x ⊗ b.ex) (y ⊗ b.ey)

abbrev pub bounds_of : RoundedBox → Bounds
bounds_of b = from_points_of (corner_at_of b f_minus_1 f_minus_1 ∷ corner_at_of b f1 f_minus_1 ∷ corner_at_of b f1 f1 ∷ corner_at_of b f_minus_1 f1 ∷ [])

-- ---- RoundedBox::outline: 36 points, nine on each corner's arc

-- CORNER_ARC: the cosines and the sines
abbrev pub arc_cos : List Float
arc_cos =
    of_bits binary32 0x3f80_0000 ∷ of_bits binary32 0x3f7b_14bf ∷ of_bits binary32 0x3f6c_835e ∷ of_bits binary32 0x3f54_db31 ∷ of_bits binary32 0x3f35_04f3
    ∷ of_bits binary32 0x3f0e_39d9 ∷ of_bits binary32 0x3ec3_ef14 ∷ of_bits binary32 0x3e47_c5c0 ∷ of_bits binary32 0 ∷ []

abbrev pub arc_sin : List Float
arc_sin =
    of_bits binary32 0 ∷ of_bits binary32 0x3e47_c5c0 ∷ of_bits binary32 0x3ec3_ef14 ∷ of_bits binary32 0x3f0e_39d9 ∷ of_bits binary32 0x3f35_04f3
    ∷ of_bits binary32 0x3f54_db31 ∷ of_bits binary32 0x3f6c_835e ∷ of_bits binary32 0x3f7b_14bf ∷ of_bits binary32 0x3f80_0000 ∷ []

-- the corners' signs, (−,−) (+,−) (+,+) (−,+), by their patterns
abbrev pub plus1 : Float
plus1 = of_bits binary32 0x3f80_0000

abbrev pub minus1 : Float
minus1 = of_bits binary32 0xbf80_0000

abbrev pub corner_sign_x : List Float
corner_sign_x = minus1 ∷ plus1 ∷ plus1 ∷ minus1 ∷ []

abbrev pub corner_sign_y : List Float
corner_sign_y = minus1 ∷ minus1 ∷ plus1 ∷ plus1 ∷ []

-- point i of the outline: step i % 9 of the arc at corner i / 9
unfoldable pub outline_point_of : RoundedBox → ℕ → Position
outline_point_of b i =
    let x = b.ex ⊖ b.rx ⊗ (f1 ⊖ get_or arc_cos (i % 9) nan) in
    let y = b.ey ⊖ b.ry ⊗ (f1 ⊖ get_or arc_sin (i % 9) nan) in
    transform_point_of b.frame (x ⊗ get_or corner_sign_x (i / 9) nan) (y ⊗ get_or corner_sign_y (i / 9) nan)

-- each number below n passes
unfoldable pub all_below : (ℕ → Bool) → ℕ → Bool
all_below test zero = true
all_below test (suc n) = all_below test n && test n

-- what a function answers of each point is what the test says
abbrev pub TellsPoint : (Position → Bool → Type 0) → (Position → Bool) → Type 0
TellsPoint Answers test = (p : Position) (r : Bool) → Answers p r → r ≡ test p
