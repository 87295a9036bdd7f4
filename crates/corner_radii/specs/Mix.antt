-- Which corners of the box around an outline are round: shape.rs's `rounded`, 'The same corners all round, or one side's
-- two square and the other two the same: that side is cut. Any other mix is no box.' Definitions only.
use Rattle.std.specs.Prelude.{Bool, cond, ◌&&◌, ◌||◌, List, Float, Option, Some, None}
use Rattle.std.specs.Float.Ieee.{lt, le, eq}
use Rattle.float.specs.Ops.{◌⊖◌, f0, f1, f_minus_1}
use Rattle.float.specs.Simple.{abs_of}
use Rattle.geometry.specs.declared.Position.{Position}
use Rattle.corner_radii.specs.declared.Around.{Around}
use Rattle.corner_radii.specs.declared.Radii.{Radii}
use Rattle.corner_radii.specs.declared.CornerMix.{CornerMix}
use Rattle.corner_radii.specs.declared.CornerMix.TheVariants as mix
use Rattle.corner_radii.specs.Radii.{corner_of}

-- `same`, `square`, `round`
unfoldable pub same_of : Radii → Radii → Float → Bool
same_of a b slack = le (abs_of (a.x ⊖ b.x)) slack && le (abs_of (a.y ⊖ b.y)) slack

unfoldable pub square_of : Radii → Bool
square_of r = eq r.x f0 && eq r.y f0

unfoldable pub round_of : Radii → Bool
round_of r = lt f0 r.x && lt f0 r.y

-- `corners.iter().all(|&r| same(r, corners[0]))`
unfoldable pub alike_of : Radii → Radii → Radii → Radii → Float → Bool
alike_of r0 r1 r2 r3 slack = same_of r0 r0 slack && (same_of r1 r0 slack && (same_of r2 r0 slack && same_of r3 r0 slack))

-- `square(a) && square(b) && round(c) && same(c, d)`
unfoldable pub cut_of : Radii → Radii → Radii → Radii → Float → Bool
cut_of a b c d slack = square_of a && (square_of b && (round_of c && same_of c d slack))

-- `(0..4).find(..)?`, and `corners[(side + 2) % 4]`, which is round
unfoldable pub cut_at_of : Radii → Radii → Radii → Radii → Float → Option CornerMix
cut_at_of r0 r1 r2 r3 slack =
    cond (cut_of r0 r1 r2 r3 slack) (Some (mix.CutAt 0 r2))
    (cond (cut_of r1 r2 r3 r0 slack) (Some (mix.CutAt 1 r3))
    (cond (cut_of r2 r3 r0 r1 slack) (Some (mix.CutAt 2 r0)) (cond (cut_of r3 r0 r1 r2 slack) (Some (mix.CutAt 3 r1)) None)))

-- `if !square(radii) && !round(radii) { return None; }` behind both
unfoldable pub mix_of : Radii → Radii → Radii → Radii → Float → Option CornerMix
mix_of r0 r1 r2 r3 slack =
    cond (alike_of r0 r1 r2 r3 slack) (cond (square_of r0 || round_of r0) (Some (mix.Alike r0)) None) (cut_at_of r0 r1 r2 r3 slack)

-- CORNERS: (1, 1), (-1, 1), (-1, -1), (1, -1)
unfoldable pub corner_mix_of : Around → List Position → Option CornerMix
corner_mix_of a anchors =
    mix_of (corner_of a anchors f1 f1) (corner_of a anchors f_minus_1 f1) (corner_of a anchors f_minus_1 f_minus_1) (corner_of a anchors f1 f_minus_1) a.slack
