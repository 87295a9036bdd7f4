-- Whether an outline's points are on the box, and how far they lie outside it: shape.rs's `rounded`, 'How far outside
-- the box the outline's samples lie, to first order at a corner'. `⊕ ⊖ ⊗ ⊘` are binary32's operations, and each rounds
-- once. Definitions only.
use Rattle.std.specs.Prelude.{Bool, true, cond, ◌&&◌, ◌||◌, List, ℕ, ◌+◌, ◌%◌, eqb, Float}
use Rattle.std.specs.Float.Ieee.{lt, le}
use Rattle.float.specs.Ops.{◌⊕◌, ◌⊖◌, ◌⊗◌, ◌⊘◌, f0, f1}
use Rattle.float.specs.Simple.{abs_of, max_of}
use Rattle.roots.specs.Root.{hypot_of}
use Rattle.geometry.specs.declared.Position.{Position}
use Rattle.samples.specs.Folds.{fold_of}
use Rattle.corner_radii.specs.declared.Around.{Around}
use Rattle.corner_radii.specs.declared.Radii.{Radii}
use Rattle.corner_radii.specs.declared.CornerMix.{CornerMix}
use Rattle.corner_radii.specs.declared.CornerMix.TheVariants as mix
use Rattle.corner_radii.specs.Around.{fit_tolerance}
use Rattle.rounded.specs.declared.Met.{Met}

-- `match (p[0] >= center[0], p[1] >= center[1])`
unfoldable pub quadrant_of : Around → Position → ℕ
quadrant_of a p = cond (le a.cx p.x) (cond (le a.cy p.y) 0 3) (cond (le a.cy p.y) 1 2)

-- `quadrant == side || quadrant == (side + 1) % 4`
unfoldable pub beside_of : ℕ → ℕ → Bool
beside_of quadrant side = eqb quadrant side || eqb quadrant ((side + 1) % 4)

abbrev pub no_radii : Radii
no_radii = record { x = f0; y = f0 }

-- `corner_radii`
unfoldable pub radii_at_of : CornerMix → Around → Position → Radii
radii_at_of (mix.Alike r) a p = r
radii_at_of (mix.CutAt side r) a p = cond (beside_of (quadrant_of a p) side) no_radii r

-- `radii[0] > 0.0 && corner[0] > 0.0 && corner[1] > 0.0`
unfoldable pub at_corner_of : Radii → Position → Bool
at_corner_of r corner = lt f0 r.x && (lt f0 corner.x && lt f0 corner.y)

-- `k = corner / radii`, `k1 = k[0].hypot(k[1])`, `(k1 - 1.0) * k1 / (k[0] / radii[0]).hypot(k[1] / radii[1])`, and
-- `(k1 - 1.0).abs() <= FIT_TOLERANCE`
unfoldable pub corner_met_of : Radii → Position → Met
corner_met_of r corner =
    let kx = corner.x ⊘ r.x in
    let ky = corner.y ⊘ r.y in
    let k1 = hypot_of kx ky in
    record { strays = (k1 ⊖ f1) ⊗ k1 ⊘ hypot_of (kx ⊘ r.x) (ky ⊘ r.y); near = le (abs_of (k1 ⊖ f1)) fit_tolerance }

-- `side[0].max(side[1])`, and `side[0].max(side[1]).abs() <= slack`
unfoldable pub side_met_of : Float → Float → Float → Met
side_met_of sx sy slack = let side = max_of sx sy in record { strays = side; near = le (abs_of side) slack }

-- one point: `side`, `radii`, `corner`, and which of the two
unfoldable pub met_of : CornerMix → Around → Position → Met
met_of m a p =
    let sx = abs_of (p.x ⊖ a.cx) ⊖ a.ex in
    let sy = abs_of (p.y ⊖ a.cy) ⊖ a.ey in
    let r = radii_at_of m a p in
    let corner : Position = record { x = sx ⊕ r.x; y = sy ⊕ r.y } in
    cond (at_corner_of r corner) (corner_met_of r corner) (side_met_of sx sy a.slack)

-- `strays` and `on_box`. (Where the Rust's `all` stops at a point off the box there is no box, and strays do not matter.)
unfoldable pub met_step_of : CornerMix → Around → Met → Position → Met
met_step_of m a met p =
    let next = met_of m a p in
    record { strays = max_of met.strays next.strays; near = met.near && next.near }

abbrev pub none_met : Met
none_met = record { strays = f0; near = true }

abbrev pub met_all_of : CornerMix → Around → List Position → Met
met_all_of m a outline = fold_of (met_step_of m a) none_met outline
