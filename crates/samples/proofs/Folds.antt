-- Folds over a list of points. Assumes nothing.
use mathlib.Core.Path.{◌≡◌, refl}
use mathlib.Core.List.{List, [], ◌∷◌, ◌++◌}
use Prim.Native.Nat.{ℕ, ◌+◌, ◌<◌}
use native.Mathlib.Numerals.{add-one}
use native.Mathlib.Omega.{arith}
use lib.ListN.{length, get_or, take}
use lib.Seq.{take-suc}
use Rattle.geometry.specs.declared.Position.{Position}
use Rattle.samples.specs.Folds.{pairs_of}

-- ---- neighbours

module _ {S : Type 0} (step : S → Position → Position → S) where
  pairs_append : (s : S) (ps : List Position) (p q : Position)
      → pairs_of step s ((ps ++ (p ∷ [])) ++ (q ∷ [])) ≡ step (pairs_of step s (ps ++ (p ∷ []))) p q
  unfolding pairs_of
  pairs_append s [] p q = refl
  pairs_append s (a ∷ []) p q = refl
  pairs_append s (a ∷ b ∷ ps) p q = pairs_append (step s a b) (b ∷ ps) p q

  -- one point more
  pub pairs_next : (s : S) (points : List Position) (i : ℕ) (d : Position) → i + 1 < length points
      → pairs_of step s (take (i + 1 + 1) points) ≡ step (pairs_of step s (take (i + 1) points)) (get_or points i d) (get_or points (i + 1) d)
  pairs_next s points i d l =
      let before = take i points in
      let one : take (i + 1) points ≡ before ++ (get_or points i d ∷ []) = rw (add-one i) (take-suc points i d (omega arith)) in
      let two : take (i + 1 + 1) points ≡ take (i + 1) points ++ (get_or points (i + 1) d ∷ []) = rw (add-one (i + 1)) (take-suc points (i + 1) d l) in
      rw (two, one) (pairs_append s before (get_or points i d) (get_or points (i + 1) d))

  -- a single point has no neighbour
  pub pairs_one : (s : S) (points : List Position) → 0 < length points → s ≡ pairs_of step s (take 1 points)
  unfolding pairs_of
  pairs_one s [] l = absurd (omega arith)
  pairs_one s (p ∷ ps) l = refl
