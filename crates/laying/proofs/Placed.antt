-- The offset between two corners: cells that meet lie at one place of the sheet, and no difference overflows
-- (specs/Placed.antt). Assumes nothing.
use mathlib.Core.Path.{◌≡◌, refl, sym, ap, ◌∙◌}
use Prim.Native.Nat.{zero, suc, ◌+◌, ◌≤◌}
use native.Mathlib.Omega.{arith}
use lib.IntN.{ℤ, pos, negsuc, neg_ℤ, nat_abs, ◌+ℤ◌, ◌-ℤ◌, +ℤ_comm, +ℤ_assoc, +ℤ-neg_ℤ_cancel, -ℤ-+ℤ_cancel}
use mir.Syntax.{w32}
use mir.Val.{SFits}
use Rattle.laying.specs.Placed.{MeetOnTheSheet, DifferencesFit}
use Rattle.laying.proofs.Offsets.{sum_abs}

-- ---- one place of the sheet

-- a + n, from b: b + (n + (a - b))
from_other : (a b n : ℤ) → b +ℤ (n +ℤ (a -ℤ b)) ≡ a +ℤ n
from_other a b n =
    +ℤ_comm b (n +ℤ (a -ℤ b)) ∙ +ℤ_assoc n (a -ℤ b) b ∙ ap (λ (z : ℤ). n +ℤ z) (-ℤ-+ℤ_cancel a b) ∙ +ℤ_comm n a

-- and no other number stands there
one_place : (a b n m : ℤ) → b +ℤ m ≡ a +ℤ n → m ≡ n +ℤ (a -ℤ b)
one_place a b n m e =
    sym (+ℤ-neg_ℤ_cancel m b) ∙ ap (λ (z : ℤ). z -ℤ b) (+ℤ_comm m b ∙ e ∙ +ℤ_comm a n) ∙ +ℤ_assoc n a (neg_ℤ b)

pub meet_on_the_sheet : MeetOnTheSheet
meet_on_the_sheet = record {
  only = λ own other column row x y h. record {
    across = from_other own.x other.x (pos column) ∙ h.across;
    down = from_other own.y other.y (pos row) ∙ h.down;
  };
  always = λ own other column row other_column other_row x y h k. (
    one_place own.x other.x (pos column) other_column (k.across ∙ sym h.across),
    one_place own.y other.y (pos row) other_row (k.down ∙ sym h.down),
  );
}

-- ---- no difference overflows

turned_abs : (z : ℤ) → nat_abs (neg_ℤ z) ≡ nat_abs z
turned_abs (pos zero) = refl
turned_abs (pos (suc n)) = refl
turned_abs (negsuc n) = refl

difference_abs : (a b : ℤ) → nat_abs (a -ℤ b) ≤ nat_abs a + nat_abs b
difference_abs a b = omega (arith, sum_abs a (neg_ℤ b), turned_abs b)

pub differences_fit : DifferencesFit
differences_fit own other h k =
    (omega (arith, difference_abs own.x other.x, h.0, k.0), omega (arith, difference_abs own.y other.y, h.1, k.1))

pub difference_fits : (a b : ℤ) → nat_abs a ≤ 1048576 → nat_abs b ≤ 1048576 → SFits w32 (a -ℤ b)
difference_fits a b h k = go (a -ℤ b) (omega (arith, difference_abs a b))
  where
    go : (z : ℤ) → nat_abs z ≤ 2097152 → SFits w32 z
    go (pos n) l = record { sfits = omega arith }
    go (negsuc n) l = record { sfits = omega arith }
