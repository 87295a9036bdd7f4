-- Where nothing is rounded: sums and differences of multiples of 2 ^ -k whose result, in units of 2 ^ -k, is below 2
-- ^ prec. `At (2 ^ k) (val x)` says that x is such a multiple, and holds the number of units. Assumes nothing.
use mathlib.Core.Path.{◌≡◌, sym, ap, ◌∙◌, subst}
use mathlib.Core.Bool.{Bool, true, false}
use Prim.Native.Nat.{ℕ, suc, ◌+◌, ◌-◌, ◌*◌, ◌^◌, ◌≤◌, ◌<◌}
use native.Mathlib.Nat.{le_dest, lt_of_lt_of_le, le_of_mul-le-mul_right, mul-pos}
use native.Mathlib.Omega.{arith}
use lib.Dec.{T}
use lib.Pow.{pow-add, pow_mono, shl_lt}
use lib.Ieee.{Float, nan, inf, fin, Format, prec, emax, low, up, down, unlike, round, add, sub, mul}
use lib.Ieee as Ieee
use lib.Ieee.Fits.{down_pos, reach}
use lib.Ieee.Exact.{round_exact}
use lib.Ieee.Scale.{finite}
use Rattle.fraction.specs.Whole.{Whole, ◌+ʷ◌, ◌-ʷ◌, ◌*ʷ◌, ◌×ℕ◌, sizeʷ, ◌≈ʷ◌}
use Rattle.fraction.specs.Fraction.{Fraction, ◌≈ᶠ◌, ◌+ᶠ◌, ◌-ᶠ◌, ◌*ᶠ◌}
use Rattle.fraction.proofs.Linear.{At, at_same, add_at, neg_at, mul_at, same_is}
use Rattle.fraction.proofs.Order.{sym≈, trans≈}
use Rattle.rounding.specs.Rounding.{Is}
use Rattle.rounding.specs.Value.{signed, signedᶠ, val}
use Rattle.rounding.proofs.Base.{value_is}
use Rattle.rounding.proofs.Ops.{sum_is, spread, val_neg, finite_neg, minus_is, product}

pub is_same : {X Y : Fraction} {r : Float} → X ≈ᶠ Y → Is X r → Is Y r
is_same q h = record { fine = h.fine; eq = trans≈ h.eq q }

room : (p e l j : ℕ) → p ≤ suc e → j ≤ l → p + j ≤ l + suc e
room p e l j h k = omega arith

-- ---- `round` at q / 2 ^ k
pub round_is_exact : (f : Format) (s : Bool) (a c : ℕ) (C : 0 < c) (q k : ℕ) → k ≤ low f → q < 2 ^ prec f → a * 2 ^ k ≡ q * c → Is (signedᶠ s a c C) (round f s a c)
round_is_exact f s a c C q k h small e =
    let j = low f - k in
    let p : 2 ^ low f ≡ 2 ^ j * 2 ^ k = ap (λ (x : ℕ). 2 ^ x) (omega arith) ∙ pow-add 2 j k in
    let fine = lt_of_lt_of_le (shl_lt (prec f) j small) (pow_mono (room (prec f) (emax f) (low f) j (reach f) (omega arith))) in
    let g : a * 2 ^ low f ≡ q * 2 ^ j * c = ap (λ (x : ℕ). a * x) p ∙ omega (arith, ap (λ (x : ℕ). x * 2 ^ j) e) in
    let v = value_is (round f s a c) s a c C (round_exact f s a c q j C small fine g) in
    record { fine = v.0; eq = v.1 }

-- the number of units, from a signed one
count : (r : Bool) (z : Whole) (d c K : ℕ) → 0 < c → z ×ℕ c ≈ʷ signed r d ×ℕ K → d * K ≡ sizeʷ z * c
count true z d c K C h =
    let l : z.plus ≤ z.minus = le_of_mul-le-mul_right (omega (arith, h)) C in
    let u = le_dest l in
    let q : sizeʷ z ≡ u.0 = omega (arith, u.1) in
    omega (arith, h, ap (λ (t : ℕ). t * c) q, ap (λ (t : ℕ). t * c) u.1)
count false z d c K C h =
    let l : z.minus ≤ z.plus = le_of_mul-le-mul_right (omega (arith, h)) C in
    let u = le_dest l in
    let q : sizeʷ z ≡ u.0 = omega (arith, u.1) in
    omega (arith, h, ap (λ (t : ℕ). t * c) q, ap (λ (t : ℕ). t * c) u.1)

-- ---- the sum and the difference
pub add_exact : (f : Format) (k : ℕ) (x y : Float) → T (finite x) → T (finite y) → k ≤ low f → (X : At (2 ^ k) (val x))
    (Y : At (2 ^ k) (val y)) → sizeʷ (X.z +ʷ Y.z) < 2 ^ prec f → Is (val x +ᶠ val y) (add f x y)
unfolding add val
add_exact f k nan y p q l X Y h = absurd p
add_exact f k (inf s) y p q l X Y h = absurd p
add_exact f k (fin s m e) nan p q l X Y h = absurd q
add_exact f k (fin s m e) (inf t) p q l X Y h = absurd q
add_exact f k (fin s m e) (fin t n d) p q l X Y h =
    let C = mul-pos (down_pos e) (down_pos d) in
    let S = sum_is f s (m * up e * down d) t (n * up d * down e) (down e * down d) C in
    let E = trans≈ (sym≈ S.eq) (spread s (m * up e) (down e) (down_pos e) t (n * up d) (down d) (down_pos d)) in
    let Z = at_same (2 ^ k) (sym≈ E) (add_at (2 ^ k) X Y) in
    subst (λ (r : Float). Is (signedᶠ s (m * up e) (down e) (down_pos e) +ᶠ signedᶠ t (n * up d) (down d) (down_pos d)) r) (sym S.is)
    (is_same E (round_is_exact f S.r S.d (down e * down d) C (sizeʷ (X.z +ʷ Y.z)) k l h (count S.r (X.z +ʷ Y.z) S.d (down e * down d) (2 ^ k) C Z.is)))

pub sub_exact : (f : Format) (k : ℕ) (x y : Float) → T (finite x) → T (finite y) → k ≤ low f → (X : At (2 ^ k) (val x))
    (Y : At (2 ^ k) (val y)) → sizeʷ (X.z -ʷ Y.z) < 2 ^ prec f → Is (val x -ᶠ val y) (sub f x y)
unfolding sub
sub_exact f k x y p q l X Y h =
    is_same (minus_is (val x) (val y) (val (Ieee.neg y)) (val_neg y)) (add_exact f k x (Ieee.neg y) p (finite_neg y q) l X (at_same (2 ^ k) (sym≈ (val_neg y)) (neg_at (2 ^ k) Y)) h)

-- ---- the product, of a multiple of 2 ^ -j and one of 2 ^ -k. A factor that is a power of two (0.5, 256) is such a one
pub mul_exact : (f : Format) (j k : ℕ) (x y : Float) → T (finite x) → T (finite y) → j + k ≤ low f
    → (X : At (2 ^ j) (val x)) (Y : At (2 ^ k) (val y)) → sizeʷ (X.z *ʷ Y.z) < 2 ^ prec f → Is (val x *ᶠ val y) (mul f x y)
unfolding mul val
mul_exact f j k nan y p q l X Y h = absurd p
mul_exact f j k (inf s) y p q l X Y h = absurd p
mul_exact f j k (fin s m e) nan p q l X Y h = absurd q
mul_exact f j k (fin s m e) (inf t) p q l X Y h = absurd q
mul_exact f j k (fin s m e) (fin t n d) p q l X Y h =
    let C = mul-pos (down_pos e) (down_pos d) in
    let E = product s (m * up e) (down e) (down_pos e) t (n * up d) (down d) (down_pos d) in
    let i = same_is (2 ^ j * 2 ^ k) (sym≈ E) (mul_at (2 ^ j) (2 ^ k) X Y) in
    is_same E (round_is_exact f (unlike s t) (m * up e * (n * up d)) (down e * down d) C (sizeʷ (X.z *ʷ Y.z)) (j + k) l h
    (count (unlike s t) (X.z *ʷ Y.z) (m * up e * (n * up d)) (down e * down d) (2 ^ (j + k)) C (rw (pow-add 2 j k) i)))
