-- Why `sqrt_of` may be believed (`RootBeliefs` of specs/Beliefs.antt), by what `round_root` is. Assumes nothing.
use mathlib.Core.Path.{◌≡◌, refl, sym, ap, ◌∙◌, subst}
use mathlib.Core.Bool.{false}
use Prim.Native.Nat.{ℕ, zero, suc, ◌+◌, ◌-◌, ◌*◌, ◌^◌, ◌≤◌, ◌<◌}
use native.Mathlib.Nat.{le_trans, le_of_eq, lt_of_lt_of_le, lt_of_le_of_lt, mul-le-mul_right, mul-lt-mul_of_pos_right, mul-pos, mul_comm, pow-succ', lt_of_mul-lt-mul_right}
use native.Mathlib.Omega.{arith}
use lib.Dec.{T, lit≤}
use lib.IntN.{ℤ}
use lib.Pow.{pow-add, pow_pos, pow_mono}
use lib.Ieee.{Float, fin, Format, binary32, binary64, emax, low, up, down, units, fits}
use lib.Ieee.Exact.{units_val}
use lib.Ieee.Fits.{down_pos}
use lib.Ieee.Scale.{finite}
use Rattle.rounding.proofs.Base.{value_is, fits_parts}
use Rattle.root_digits.specs.Beliefs.{RootOf}
use Rattle.root_digits.proofs.Roots.{root_lt}
use Rattle.root_digits.proofs.RootBelief.{round_root_beliefs}
use Rattle.roots.specs.Root.{sqrt_of}
use Rattle.roots.specs.Beliefs.{RootBeliefs}

-- THE ROOT of a value above 0 is the format's value nearest to it, ties to even
sqrt_nearest : (f : Format) (m : ℕ) (e : ℤ) → RootOf f (suc m * up e) (down e) (sqrt_of f (fin false (suc m) e))
unfolding sqrt_of
sqrt_nearest f m e = round_root_beliefs.round_root_nearest f (suc m * up e) (down e) (down_pos e)

-- and it is finite: with H * H the end of the format's range, the root is below H, far inside it
half_range : (f : Format) → (h : ℕ) × (2 ^ suc (emax f) ≡ 2 ^ h * 2 ^ h) × (suc h ≤ suc (emax f))
half_range binary32 = (64, refl, lit≤ tt)
half_range binary64 = (512, refl, lit≤ tt)

in_range : (p K den num L H : ℕ) → 0 < L → p * p * (den * (K * K)) ≤ num * (L * L) * 4 → num < H * H * den → p * K < 2 * H * L
in_range p K den num L H l a b =
    root_lt (p * K) (2 * H * L) (lt_of_mul-lt-mul_right den (omega (arith, a, mul-lt-mul_of_pos_right b (mul-pos l l))))

sqrt_finite : (f : Format) (m : ℕ) (e : ℤ) → T (fits f (fin false (suc m) e)) → T (finite (sqrt_of f (fin false (suc m) e)))
sqrt_finite f m e t =
    let r = sqrt_nearest f m e in
    let q = r.q in
    let k = r.k in
    let h = half_range f in
    let l = low f in
    let b = lt_of_lt_of_le (fits_parts f false m e t).2 (le_of_eq (ap (λ (x : ℕ). x * down e) h.1)) in
    let a = in_range (2 * q - 1) (2 ^ k) (down e) (suc m * up e) (2 ^ l) (2 ^ h.0) (pow_pos l) r.root.low_end b in
    let g = end h.0 l h.2 in
    let v = value_is (units f false q k) false (q * 2 ^ k) (2 ^ l) (pow_pos l) (units_val f false q k (under_range q k a g)) in
    subst (λ (x : Float). T (finite x)) (sym r.is) v.0
  where
    end : (h l : ℕ) {E : ℕ} → suc h ≤ E → 2 * 2 ^ h * 2 ^ l ≤ 2 ^ (l + E)
    end h l {E} g =
        let j : l + suc h ≤ l + E = omega arith in
        le_trans (le_of_eq (ap (λ (x : ℕ). x * 2 ^ l) (sym (pow-succ' 2 h)) ∙ mul_comm (2 ^ suc h) (2 ^ l) ∙ sym (pow-add 2 l (suc h)))) (pow_mono j)

    under_range : (q k : ℕ) {H E : ℕ} → (2 * q - 1) * 2 ^ k < H → H ≤ E → q * 2 ^ k < E
    under_range zero k a g = omega arith
    under_range (suc q) k a g = lt_of_le_of_lt (mul-le-mul_right (2 ^ k) (omega arith)) (lt_of_lt_of_le a g)

pub root_beliefs : RootBeliefs
root_beliefs = record { whole_root_largest = round_root_beliefs.whole_root_largest; sqrt_nearest = sqrt_nearest; sqrt_finite = sqrt_finite }
