-- A running sum `r + a₀ + a₁ + ..` from the left, each addition rounded, and the same sum without rounding.
-- Definitions, and the statement that is proved of them.
use Rattle.std.specs.Prelude.{List, [], ◌∷◌, ℕ, suc, ◌^◌, T, Float}
use Rattle.std.specs.Float.{Format}
use Rattle.std.specs.Float.Ieee.{emax, add, fits}
use Rattle.std.specs.Float.Ieee.Scale.{finite}
use Rattle.fraction.specs.Fraction.{Fraction, ◌≤ᶠ◌, natᶠ, ◌+ᶠ◌, ◌*ᶠ◌, Near, Within}
use Rattle.rounding.specs.Value.{val, roundoff}

unfoldable pub running : Format → Float → List Float → Float
running f r [] = r
running f r (a ∷ xs) = running f (add f r a) xs

unfoldable pub exactly : Fraction → List Float → Fraction
exactly x [] = x
exactly x (a ∷ xs) = exactly (x +ᶠ val a) xs

abbrev pub count : List Float → ℕ
count [] = 0
count (a ∷ xs) = suc (count xs)

-- every sum before its rounding is at most B in size
abbrev pub Steady : Format → Fraction → Float → List Float → Type 0
Steady f B r [] = Unit {0}
Steady f B r (a ∷ xs) = T (finite a) × T (fits f a) × Within (val r +ᶠ val a) B × Steady f B (add f r a) xs

-- it is off by at most 2 ^ -prec of B for each addition
abbrev pub RunningLaw : Format → Type 0
RunningLaw f =
    (B : Fraction) (r : Float) (xs : List Float) → B ≤ᶠ natᶠ (2 ^ emax f) → T (finite r) → T (fits f r) → Steady f B r xs
    → T (finite (running f r xs)) × Near (val (running f r xs)) (exactly (val r) xs) (natᶠ (count xs) *ᶠ (roundoff f *ᶠ B))
