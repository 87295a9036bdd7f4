-- Why `hypot_of` may be believed: the records of specs/Beliefs.antt, by what `round_root` is. Assumes nothing.
use mathlib.Core.Path.{◌≡◌, refl, sym, ap, ◌∙◌}
use mathlib.Core.Logic.{◌⊎◌, inl, inr}
use mathlib.Core.Bool.{Bool, true, false}
use Prim.Native.Nat.{ℕ, ◌*◌, ◌<◌}
use native.Mathlib.Nat.{lt_irrefl, mul-pos}
use native.Mathlib.Omega.{arith}
use lib.Dec.{lit<}
use lib.IntN.{ℤ, pos}
use lib.Ieee.{Float, nan, inf, fin, binary32, up, down, units}
use lib.Ieee.Fits.{down_pos}
use lib.Ieee.Scale.{finite}
use Rattle.fraction.specs.Fraction.{◌≈ᶠ◌, ◌+ᶠ◌, ◌*ᶠ◌}
use Rattle.rounding.specs.Value.{val, signedᶠ}
use Rattle.float.proofs.Tests.{never}
use Rattle.root_digits.specs.Root.{round_root}
use Rattle.root_digits.specs.Beliefs.{RootOf}
use Rattle.root_digits.proofs.Roots.{root_by}
use Rattle.root_digits.proofs.RootBelief.{round_root_beliefs}
use Rattle.nearest_roots.specs.Root.{two_step_of, sum_of_squares, hypot_of}
use Rattle.nearest_roots.specs.Beliefs.{OfFinite, HypotBeliefs}
use Rattle.nearest_roots.proofs.Overflow.{from_halfway, below_halfway}

module _ (s : Bool) (m : ℕ) (e : ℤ) (t : Bool) (n : ℕ) (g : ℤ) where
  abbrev num : ℕ
  num = sum_of_squares (m * up e) (down e) (n * up g) (down g)

  abbrev den : ℕ
  den = down e * down e * (down g * down g)

  den_pos : 0 < den
  den_pos = mul-pos (mul-pos (down_pos e) (down_pos e)) (mul-pos (down_pos g) (down_pos g))

  exact_sum : signedᶠ false num den den_pos ≈ᶠ val (fin s m e) *ᶠ val (fin s m e) +ᶠ val (fin t n g) *ᶠ val (fin t n g)
  unfolding val ◌+ᶠ◌ ◌*ᶠ◌
  exact_sum = go s t
    where
      go : (s t : Bool) → signedᶠ false num den den_pos ≈ᶠ val (fin s m e) *ᶠ val (fin s m e) +ᶠ val (fin t n g) *ᶠ val (fin t n g)
      go true true = record { eq = omega arith }
      go true false = record { eq = omega arith }
      go false true = record { eq = omega arith }
      go false false = record { eq = omega arith }

  nearest_is : RootOf binary32 num den (hypot_of (fin s m e) (fin t n g))
  unfolding hypot_of
  nearest_is = round_root_beliefs.round_root_nearest binary32 num den den_pos

  of_finite : OfFinite (fin s m e) (fin t n g) num den
  of_finite = record {
    some = den_pos;
    exact_sum = exact_sum;
    hypot_nearest = nearest_is;
    none_nearer = round_root_beliefs.none_nearer binary32 num den (hypot_of (fin s m e) (fin t n g)) den_pos nearest_is;
    infinite = from_halfway num den den_pos nearest_is;
    not_infinite = below_halfway num den den_pos nearest_is;
  }

no_square : (den : ℕ) → 0 < den → round_root binary32 0 den ≡ fin false 0 (pos 0)
unfolding units
no_square den D =
    root_by binary32 0 den 0 0 0 D (record { from = omega arith; below = omega arith; exact = λ _. omega arith; inexact = λ h. absurd (lt_irrefl 0 h) })
    (inl refl) (lit< tt)

hypot_zeros : (s : Bool) (e : ℤ) (t : Bool) (g : ℤ) → hypot_of (fin s 0 e) (fin t 0 g) ≡ fin false 0 (pos 0)
unfolding hypot_of
hypot_zeros s e t g =
    ap (λ (n : ℕ). round_root binary32 n (den s 0 e t 0 g)) (none (up e) (up g) (down e) (down g)) ∙ no_square (den s 0 e t 0 g) (den_pos s 0 e t 0 g)
  where
    none : (a b c d : ℕ) → sum_of_squares (0 * a) c (0 * b) d ≡ 0
    none a b c d = omega arith

pub not_finite : (x y : Float) → (finite x ≡ false) ⊎ (finite y ≡ false) → hypot_of x y ≡ two_step_of x y
unfolding hypot_of
not_finite nan y h = refl
not_finite (inf s) y h = refl
not_finite (fin s m e) nan h = refl
not_finite (fin s m e) (inf t) h = refl
not_finite (fin s m e) (fin t n g) (inl h) = never (sym h)
not_finite (fin s m e) (fin t n g) (inr h) = never (sym h)

pub hypot_beliefs : HypotBeliefs
hypot_beliefs = record { of_finite = of_finite; hypot_zeros = hypot_zeros; not_finite = not_finite }
