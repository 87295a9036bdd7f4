-- `nearest_roots::checked_root` meets its contract: a guess in range, and the two tests. Assumes nothing.
use lib.Ieee.{binary32, of_bits}
use mathlib.Core.Logic.{inl, inr}
use mathlib.Core.Path.{◌≡◌, refl}
use Prim.Native.Nat.{ℕ, ◌*◌, ◌^◌, ◌<◌}
use native.Mathlib.Omega.{arith}
use Rattle.nearest_roots.specs.Guess.{Guessed}
use Rattle.nearest_roots.proofs.Guessing.{bits_no_nan}
use Rattle.nearest_roots.proofs.checked_root.Goals as goal

in_range : {p : ℕ} → (p ≡ 0 → ⊥) → Guessed p → (2 ^ 23 < p) × (p < 255 * 2 ^ 23)
in_range n (inl z) = absurd (n z)
in_range n (inr h) = h

pub returns-then-p-eq0 : goal.returns-then-p-eq0
unfolding of_bits
returns-then-p-eq0 c = inl refl

pub overflow_mul-p : goal.overflow_mul-p
overflow_mul-p c = let r = in_range c.if-p-eq0.false c.guess-p.ensures in omega (arith, r.1)

pub overflow_sub-p : goal.overflow_sub-p
overflow_sub-p c = let r = in_range c.if-p-eq0.false c.guess-p.ensures in omega (arith, r.0)

pub midpoint-below-requires : goal.midpoint-below-requires
midpoint-below-requires c = let r = in_range c.if-p-eq0.false c.guess-p.ensures in
    record {
      bound = omega (arith, r.0);
      m_bound = omega (arith, r.1);
    }

pub overflow_mul-p-2 : goal.overflow_mul-p-2
overflow_mul-p-2 c = let r = in_range c.if-p-eq0.false c.guess-p.ensures in omega (arith, r.1)

pub overflow_add-p : goal.overflow_add-p
overflow_add-p c = let r = in_range c.if-p-eq0.false c.guess-p.ensures in omega (arith, r.1)

pub midpoint-above-requires : goal.midpoint-above-requires
midpoint-above-requires c = let r = in_range c.if-p-eq0.false c.guess-p.ensures in
    record {
      bound = omega (arith, r.0);
      m_bound = omega (arith, r.1);
    }

pub overflow_cast-result : goal.overflow_cast-result
overflow_cast-result c = let r = in_range c.if-p-eq0.false c.guess-p.ensures in omega (arith, r.1)

pub float_from_bits-result : goal.float_from_bits-result
float_from_bits-result c =
    let r = in_range c.if-p-eq0.false c.guess-p.ensures in
    bits_no_nan binary32 _ (omega (arith, r.1))

pub returns-then-v-above : goal.returns-then-v-above
returns-then-v-above c =
    let r = in_range c.if-p-eq0.false c.guess-p.ensures in
    let below = c.midpoint-below.ensures in
    let above = c.midpoint-above.ensures in
    inr (record {
      pattern = c.guess-p.result;
      is = refl;
      least = r.0;
      most = r.1;
      over = rw below at c.if-below-v.true;
      under = rw above at c.if-v-above.true;
    })

pub returns : goal.returns
unfolding of_bits
returns c = inl refl
