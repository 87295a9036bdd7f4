-- Why the definitions of Root.antt may be believed. The proofs have an element of `RoundRootBeliefs`:
-- proofs/RootBelief.antt. Statements only.
use Rattle.std.specs.Prelude.{◌≡◌, ◌⊎◌, false, ℕ, ◌+◌, ◌-◌, ◌*◌, ◌%◌, ◌^◌, ◌≤◌, ◌<◌, Float}
use Rattle.std.specs.Float.{Format}
use Rattle.std.specs.Float.Ieee.{prec, low, hid, units}
use Rattle.root_digits.specs.Root.{whole_root, round_root}

-- There are no real numbers here: the root is measured in steps, its square is n / u, u being a step's square, and it
-- is compared with both sides doubled and squared

-- q - 1/2 ≤ root ≤ q + 1/2, and q is even where the root is at an end
pub record NearestRoot (n u q : ℕ) : Type 0 where
  pub low_end : (2 * q - 1) * (2 * q - 1) * u ≤ n * 4
  pub high_end : n * 4 ≤ (2 * q + 1) * (2 * q + 1) * u
  pub even : (n * 4 ≡ (2 * q - 1) * (2 * q - 1) * u) ⊎ (n * 4 ≡ (2 * q + 1) * (2 * q + 1) * u) → q % 2 ≡ 0

-- r is the root of num / den in a format: q steps of 2 ^ k of the format's smallest values, q being nearest. The step
-- is the format's own at the root, which has `prec` whole digits in such steps, or fewer and k is 0
pub record RootOf (f : Format) (num den : ℕ) (r : Float) : Type 0 where
  pub q : ℕ
  pub k : ℕ
  pub is : r ≡ units f false q k
  pub root : NearestRoot (num * (2 ^ low f * 2 ^ low f)) (den * (2 ^ k * 2 ^ k)) q
  pub no_more : num * (2 ^ low f * 2 ^ low f) < 2 ^ prec f * 2 ^ prec f * (den * (2 ^ k * 2 ^ k))
  pub full : (k ≡ 0) ⊎ (hid f * hid f * (den * (2 ^ k * 2 ^ k)) ≤ num * (2 ^ low f * 2 ^ low f))

-- Of all values with the format's digits, of any exponent, none is nearer to the root of num / den than w of the
-- format's smallest values: against a smaller one, d * 2 ^ e, the root is from the middle of the two on, against a
-- larger one up to it
pub record NoneNearer (f : Format) (num den w : ℕ) : Type 0 where
  pub smaller : (d e : ℕ) → d < 2 ^ prec f → d * 2 ^ e < w
      → (d * 2 ^ e + w) * (d * 2 ^ e + w) * den ≤ num * (2 ^ low f * 2 ^ low f) * 4
  pub larger : (d e : ℕ) → d < 2 ^ prec f → w < d * 2 ^ e
      → num * (2 ^ low f * 2 ^ low f) * 4 ≤ (d * 2 ^ e + w) * (d * 2 ^ e + w) * den

pub record RoundRootBeliefs : Type 0 where
  -- the largest number whose square is at most n
  pub whole_root_largest : (n : ℕ) → (whole_root n * whole_root n ≤ n) × ((r : ℕ) → r * r ≤ n → r ≤ whole_root n)
  -- the format's value nearest to the root of num / den, ties to even
  pub round_root_nearest : (f : Format) (num den : ℕ) → 0 < den → RootOf f num den (round_root f num den)
  -- and no value is nearer, whatever its exponent
  pub none_nearer : (f : Format) (num den : ℕ) (r : Float) → 0 < den → (o : RootOf f num den r) → NoneNearer f num den (o.q * 2 ^ o.k)
