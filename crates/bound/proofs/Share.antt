-- The fold of a winding into a share is exact in floats: it is the rule's share of the winding's value. Assumes
-- nothing.
use mathlib.Core.Path.{◌≡◌, refl, sym, ap, ◌∙◌, subst}
use mathlib.Core.List.{[], ◌∷◌}
use mathlib.Core.Bool.{Bool, true, false, not, cond}
use Prim.Native.Nat.{ℕ, zero, suc, ◌*◌, ◌%◌, ◌^◌, ◌≤◌, ◌<◌}
use native.Mathlib.Nat.{lt_of_not-le, not-le_of_lt, le_of_suc-le-suc, mod-le, mod-lt, mul-pos, zero-lt-suc}
use native.Mathlib.Omega.{arith}
use lib.IntN.{ℤ, pos, negsuc}
use lib.Dec.{T, lit≤}
use lib.Pow.{pow-lt}
use lib.Count.{count_trailing_zeros}
use lib.Ieee.{Float, nan, inf, fin, binary32, up, down, fits, lt, rem, round, of_bits, of_fields, odd}
use lib.Ieee.Fits.{down_pos, round-fits, sub-fits}
use lib.Ieee.Scale.{finite}
use Rattle.fraction.specs.Whole.{natʷ, sizeʷ}
use Rattle.fraction.specs.Fraction.{Fraction, ◌≤ᶠ◌, ◌<ᶠ◌, ◌≈ᶠ◌, ltᵇ, natᶠ, ◌/2^◌, ◌-ᶠ◌, Near}
use Rattle.fraction.proofs.Linear.{At, at_le, le_at, add_at, at_same, self, over, trans}
use Rattle.fraction.proofs.Order.{of_eq, of_lt, sym≈, trans≈}
use Rattle.fraction.proofs.Clamp.{if_less, if_not_less}
use Rattle.fraction.proofs.Ring.{cong_sub}
use Rattle.rounding.specs.Value.{signed, signedᶠ, val}
use Rattle.rounding.proofs.Base.{fits_parts}
use Rattle.rounding.proofs.Exactly.{round_is_exact, sub_exact}
use Rattle.float.specs.Ops.{◌⊖◌, f1, f2}
use Rattle.float.specs.Simple.{abs_of}
use Rattle.sweep.specs.Bytes.{share_of}
use Rattle.winding.specs.Winding.{non_zero_share, modulo2, even_odd_share}
use Rattle.winding.proofs.Fold.{nonzero_near, nonzero_range, evenodd_near, evenodd_range}
use Rattle.bound.proofs.Numbers.{Exact, one_is, two_is, lt_yes, lt_no, abs_is, min_is, size_signed}

-- ---- the share by the rule
abbrev pub share_by : Bool → Fraction → Fraction
share_by even_odd w = cond even_odd (even_odd_share w) (non_zero_share w)

pub near_nonneg : {x y e : Fraction} → Near x y e → natᶠ 0 ≤ᶠ e
near_nonneg {x} {y} {e} h = over (x ∷ y ∷ e ∷ natᶠ 0 ∷ []) (λ N n X Y E O. le_at N O E n (omega (arith, O.is, at_le N Y (add_at N X E) h.lo, at_le N X (add_at N Y E) h.hi)))

-- it changes by no more than the winding, and is from 0 to 1
pub share_near : (eo : Bool) {x y e : Fraction} → Near x y e → Near (share_by eo x) (share_by eo y) e
share_near true h = evenodd_near h
share_near false h = nonzero_near (near_nonneg h) h

pub share_range : (eo : Bool) (w : Fraction) → (natᶠ 0 ≤ᶠ share_by eo w) × (share_by eo w ≤ᶠ natᶠ 1)
share_range true w = evenodd_range w
share_range false w = nonzero_range w

-- ---- even-odd: the remainder by 2 is a whole number of units that the format has
record Units (X : Fraction) : Type 0 where
  k : ℕ
  low : k ≤ 149
  q : ℕ
  few : q < 2 ^ 24
  is : X ≈ᶠ q /2^ k

record Rest (X : Fraction) (x : Float) : Type 0 where
  exact : Exact X x
  units : Units X

two_eq : f2 ≡ fin false 1 (pos 1)
unfolding of_bits of_fields odd count_trailing_zeros
two_eq = refl

digits : (s : Bool) (n : ℕ) (e : ℤ) → T (fits binary32 (fin s n e)) → (r : ℕ) → r ≡ (n * up e * 1) % (2 * down e) → (k : ℕ) × (k ≤ 149) × (r < 2 ^ 24) × (r * 2 ^ k ≡ r * (down e * 1))
digits s n (pos j) t r h = (0, omega arith, omega arith, omega arith)
digits s zero (negsuc j) t r h =
    let z : r ≡ 0 = none r (0 * up (negsuc j) * 1) (2 * down (negsuc j)) h (omega arith) in
    (0, omega arith, omega arith, ap (λ (x : ℕ). x * 2 ^ 0) z ∙ omega arith ∙ sym (ap (λ (x : ℕ). x * (down (negsuc j) * 1)) z))
  where
    none : (r a b : ℕ) → r ≡ a % b → a ≡ 0 → r ≡ 0
    none r a b h k = omega (arith, mod-le a b)
digits s (suc n) (negsuc j) t r h =
    let p = fits_parts binary32 s n (negsuc j) t in
    let g : suc j ≤ 149 = le_of_suc-le-suc (lt_of_not-le (λ (x : 150 ≤ suc j). not-le_of_lt (pow-lt x) p.1)) in
    (suc j, g, small (suc n * up (negsuc j) * 1) (2 * down (negsuc j)) p.0 h (omega arith), omega arith)
  where
    small : (a b : ℕ) → suc n < 2 ^ 24 → r ≡ a % b → a ≡ suc n → r < 2 ^ 24
    small a b p h k = omega (arith, mod-le a b)

rem_is : (x : Float) → T (finite x) → T (fits binary32 x) → Rest (modulo2 (val x)) (rem binary32 (abs_of x) f2)
unfolding val rem abs_of modulo2
rem_is nan p q = absurd p
rem_is (inf s) p q = absurd p
rem_is (fin s n e) p q = subst (λ (y : Float). Rest (modulo2 (signedᶠ s (n * up e) (down e) (down_pos e))) (rem binary32 (fin false n e) y)) (sym two_eq) go
  where
    C : 0 < down e * 1
    C = mul-pos (down_pos e) (lit≤ tt)

    same_r : (n * up e * 1) % (1 * 2 * down e) ≡ sizeʷ (signed s (n * up e)) % (2 * down e)
    same_r = ap (λ (a : ℕ). a % (1 * 2 * down e)) (omega (arith, size_signed s (n * up e))) ∙ ap (λ (b : ℕ). sizeʷ (signed s (n * up e)) % b) (omega arith)

    go : Rest (modulo2 (signedᶠ s (n * up e) (down e) (down_pos e))) (round binary32 false ((n * up e * 1) % (1 * 2 * down e)) (down e * 1))
    go =
        let r = (n * up e * 1) % (1 * 2 * down e) in
        let R = digits s n e q r (ap (λ (b : ℕ). (n * up e * 1) % b) (omega arith)) in
        let I = round_is_exact binary32 false r (down e * 1) C r R.0 R.1 R.2 R.3 in
        record {
          exact = record { fine = I.fine; held = round-fits binary32 false r (down e * 1); eq = trans≈ I.eq (record { eq = omega (arith, ap (λ (t : ℕ). t * down e) same_r) }) };
          units = record { k = R.0; low = R.1; q = r; few = R.2; is = record { eq = omega (arith, R.3, ap (λ (t : ℕ). t * 2 ^ R.0) same_r) } };
        }

-- 2 less a remainder over 1 is a value of the format
module _ (w : Float) (p : T (finite w)) (q : T (fits binary32 w)) where
  R : Rest (modulo2 (val w)) (rem binary32 (abs_of w) f2)
  R = rem_is w p q

  below : modulo2 (val w) ≤ᶠ natᶠ 2
  unfolding modulo2
  below = record { le = omega (arith, mod-lt (sizeʷ (val w).num) (mul-pos (zero-lt-suc 1) (val w).pos)) }

  turned : natᶠ 1 ≤ᶠ modulo2 (val w) → Exact (natᶠ 2 -ᶠ modulo2 (val w)) (f2 ⊖ rem binary32 (abs_of w) f2)
  turned h =
      let k = R.units.k in
      let q = R.units.q in
      let two : At (2 ^ k) (val f2) = at_same (2 ^ k) (sym≈ two_is.eq) (record { z = natʷ (2 * 2 ^ k); is = omega arith }) in
      let own : At (2 ^ k) (val (rem binary32 (abs_of w) f2)) = at_same (2 ^ k) (sym≈ (trans≈ R.exact.eq R.units.is)) (self (q /2^ k)) in
      let a = trans h (of_eq R.units.is) in
      let b = trans (of_eq (sym≈ R.units.is)) below in
      let I = sub_exact binary32 k f2 (rem binary32 (abs_of w) f2) two_is.fine R.exact.fine R.units.low two own (omega (arith, a.le, b.le, R.units.few)) in
      record { fine = I.fine; held = sub-fits binary32 f2 (rem binary32 (abs_of w) f2); eq = trans≈ I.eq (cong_sub two_is.eq R.exact.eq) }

  odd_is : Exact (even_odd_share (val w)) (cond (lt f1 (rem binary32 (abs_of w) f2)) (f2 ⊖ rem binary32 (abs_of w) f2) (rem binary32 (abs_of w) f2))
  unfolding even_odd_share
  odd_is = go (lt f1 (rem binary32 (abs_of w) f2)) (lt_yes one_is R.exact) (lt_no one_is R.exact)
    where
      go : (b : Bool) → (T b → natᶠ 1 <ᶠ modulo2 (val w)) → (T (not b) → modulo2 (val w) ≤ᶠ natᶠ 1)
          → Exact (cond (ltᵇ (natᶠ 1) (modulo2 (val w))) (natᶠ 2 -ᶠ modulo2 (val w)) (modulo2 (val w))) (cond b (f2 ⊖ rem binary32 (abs_of w) f2) (rem binary32 (abs_of w) f2))
      go true f g = rw (if_less (natᶠ 1) (modulo2 (val w)) (natᶠ 2 -ᶠ modulo2 (val w)) (modulo2 (val w)) (f tt)) (turned (of_lt (f tt)))
      go false f g = rw (if_not_less (natᶠ 1) (modulo2 (val w)) (natᶠ 2 -ᶠ modulo2 (val w)) (modulo2 (val w)) (g tt)) R.exact

-- ---- THE SHARE
pub share_is : (eo : Bool) (w : Float) → T (finite w) → T (fits binary32 w) → Exact (share_by eo (val w)) (share_of eo w)
unfolding share_of non_zero_share
share_is false w p q = min_is (abs_is w p q) one_is
share_is true w p q = odd_is w p q
