-- `laying::first_start` meets its contract. Assumes nothing.
use mathlib.Core.Path.{◌≡◌}
use Prim.Native.Nat.{ℕ, ◌≤◌}
use native.Mathlib.Omega.{arith}
use lib.IntN.{ℤ, pos, ◌*ℤ◌}
use mir.Syntax.{w32, w64}
use mir.Val.{SFits, to_z, of_z}
use mir.ValLaws.{to_z-of_z, to_z_pos}
use Rattle.laying.proofs.Offsets.{wider}
use Rattle.laying.proofs.Starts.{first_fits}
use Rattle.laying.proofs.first_start.Goals as goal

offset_is : (offset : ℤ) → SFits w32 offset → to_z w64 (of_z w64 (to_z w32 (of_z w32 offset))) ≡ offset
offset_is offset fits = rw (to_z-of_z w32 offset fits) (to_z-of_z w64 offset (wider offset fits))

width_is : (width : ℕ) → width ≤ 4096 → to_z w64 width ≡ pos width
width_is width h = to_z_pos w64 width (omega arith)

pub returns : goal.returns
returns c =
    rw (offset_is c.args.offset c.ranges.offset, width_is c.args.width c.requires)
    (to_z-of_z w64 (c.args.offset *ℤ pos c.args.width) (first_fits c.args.offset c.args.width c.ranges.offset c.requires))
