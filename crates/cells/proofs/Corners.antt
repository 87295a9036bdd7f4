-- A corner that is out of range by the code's test, and one that is allowed. Assumes nothing.
use mathlib.Core.Path.{◌≡◌, refl, sym, ◌∙◌}
use mathlib.Core.Bool.{Bool, true, false, true≢false, ◌||◌}
use mathlib.Core.Logic.{inl, inr}
use Prim.Native.Nat.{◌≤◌, ◌<◌}
use native.Mathlib.Omega.{arith}
use lib.Dec.{ltb}
use lib.IntN.{ℤ, pos, negsuc, nat_abs}
use borrow.Author.Tests.{ltb-true, ltb-false, lt-ltb, le-ltb}
use Rattle.cells.specs.declared.Corner.{Corner}
use Rattle.cells.specs.Corner.{corner_number_out, corner_out, CornerOut, CornerAllowed}
use Rattle.cells.proofs.Sizes.{or_true}

or_false : (a : Bool) → (a || false) ≡ a
or_false true = refl
or_false false = refl

-- ---- one number

number_out : (n : ℤ) → corner_number_out n ≡ true → 1048576 < nat_abs n
unfolding corner_number_out
number_out (pos n) e = ltb-true 1048576 n e
number_out (negsuc n) e = let h = ltb-true 1048575 n (sym (or_false (ltb 1048575 n)) ∙ e) in omega arith

number_in : (n : ℤ) → corner_number_out n ≡ false → nat_abs n ≤ 1048576
unfolding corner_number_out
number_in (pos n) e = ltb-false 1048576 n e
number_in (negsuc n) e = let h = ltb-false 1048575 n (sym (or_false (ltb 1048575 n)) ∙ e) in omega arith

out_number : (n : ℤ) → 1048576 < nat_abs n → corner_number_out n ≡ true
unfolding corner_number_out
out_number (pos n) h = lt-ltb 1048576 n h
out_number (negsuc n) h = rw (lt-ltb 1048575 n (omega arith)) refl

in_number : (n : ℤ) → nat_abs n ≤ 1048576 → corner_number_out n ≡ false
unfolding corner_number_out
in_number (pos n) h = le-ltb 1048576 n h
in_number (negsuc n) h = rw (le-ltb 1048575 n (omega arith)) refl

-- ---- a corner

pub corner_allowed : (c : Corner) → corner_out c ≡ false → CornerAllowed c
corner_allowed c = go (corner_number_out c.x) refl
  where
    go : (a : Bool) → corner_number_out c.x ≡ a → (a || corner_number_out c.y) ≡ false → CornerAllowed c
    go true e f = absurd (true≢false f)
    go false e f = (number_in c.x e, number_in c.y f)

pub corner_out_law : (c : Corner) → corner_out c ≡ true → CornerOut c
corner_out_law c = go (corner_number_out c.x) refl
  where
    go : (a : Bool) → corner_number_out c.x ≡ a → (a || corner_number_out c.y) ≡ true → CornerOut c
    go true e f = inl (number_out c.x e)
    go false e f = inr (number_out c.y f)

pub allowed_in : (c : Corner) → CornerAllowed c → corner_out c ≡ false
allowed_in c h = rw (in_number c.x h.0, in_number c.y h.1) refl

pub out_test : (c : Corner) → CornerOut c → corner_out c ≡ true
out_test c (inl h) = rw (out_number c.x h) refl
out_test c (inr h) = rw (out_number c.y h) (or_true (corner_number_out c.x))
