-- The share of a cell that an edge covers where it crosses a row, apart from the height: the mean of what goes evenly
-- from u to v, held between 0 and 1. Definitions only.
use mathlib.Core.Bool.{◌&&◌, cond}
use Prim.Native.Nat.{ℕ, suc}
use Rattle.fraction.specs.Fraction.{Fraction, leᵇ, natᶠ, ◌-ᶠ◌, ◌/ᶠ◌, clampᶠ}
use Rattle.winding.specs.Winding.{H}

-- D(u, v): the slope of H between u and v, and at u = v the held u. `integral p q u v` is (q - p) times it
unfoldable pub mean : Fraction → Fraction → Fraction
unfolding H clampᶠ ◌-ᶠ◌ ◌/ᶠ◌
mean u v = cond (leᵇ u v && leᵇ v u) (clampᶠ u) ((H v -ᶠ H u) /ᶠ (v -ᶠ u))

-- G(c; x, y): of the cell at column c, for an edge that enters the row at x and leaves it at y
unfoldable pub G : ℕ → Fraction → Fraction → Fraction
unfolding mean ◌-ᶠ◌
G c x y = mean (natᶠ (suc c) -ᶠ x) (natᶠ (suc c) -ᶠ y)
