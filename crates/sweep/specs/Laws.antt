-- Why cells that hold 0.0 may be passed over, though the definition of a row's bytes (Bytes.antt) adds every cell.
-- `proofs/Winding.antt` has an element of this record. Statements only.
use Rattle.std.specs.Prelude.{true, T, pos, Float}
use Rattle.std.specs.Float.{fin, binary32}
use Rattle.std.specs.Float.Ieee.{fits}
use Rattle.float.specs.Ops.{f0, ◌⊕◌}
use Rattle.sweep.specs.Sweeping.{Steady}

-- A running sum of floats from 0.0 on stays as it is where 0.0 is added: it starts so, and does so after every cell.
-- -0 would not, as -0 + 0 is +0: so the sum is never -0
pub record RunningSumIsSteady : Type 0 where
  pub start : Steady f0
  pub more : (winding area : Float) → T (fits binary32 area) → Steady winding → Steady (winding ⊕ area)
  pub never_minus_zero : ¬ Steady (fin true 0 (pos 0))
