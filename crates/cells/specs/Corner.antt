-- A mask's corner on the sheet (document 02, change 8, 'Masks that know their place on the sheet'). Definitions only.
use Rattle.std.specs.Prelude.{◌≤◌, ◌<◌, Bool, ◌||◌, ◌⊎◌, ℤ, pos, negsuc, nat_abs}
use Rattle.std.specs.Int.Signed.{lt_z}
use Rattle.cells.specs.declared.Corner.{Corner}

-- 'a corner number beyond ±1,048,576': negsuc n is the whole number -(n + 1), so the first is below -1,048,576
unfoldable pub corner_number_out : ℤ → Bool
corner_number_out n = lt_z n (negsuc 1048575) || lt_z (pos 1048576) n

abbrev pub corner_out : Corner → Bool
corner_out c = corner_number_out c.x || corner_number_out c.y

-- the same as statements, and that it is not so
abbrev pub CornerOut : Corner → Type 0
CornerOut c = (1048576 < nat_abs c.x) ⊎ (1048576 < nat_abs c.y)

abbrev pub CornerAllowed : Corner → Type 0
CornerAllowed c = (nat_abs c.x ≤ 1048576) × (nat_abs c.y ≤ 1048576)

-- where a mask stands whose corner is (0, 0)
abbrev pub sheet_origin : Corner
sheet_origin = record { x = pos 0; y = pos 0 }
