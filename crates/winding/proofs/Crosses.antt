-- Document 01's 'An edge "crosses" a row when it is not level and overlaps the row in more than a point', of the test
-- `crosses`; and an edge that does not cross a row has no part in it. Assumes nothing.
use mathlib.Core.Logic.{◌⊎◌, inl, inr}
use mathlib.Core.List.{[], ◌∷◌}
use mathlib.Core.Bool.{not}
use Prim.Native.Nat.{ℕ, suc, ◌+◌, ◌*◌}
use native.Mathlib.Omega.{arith}
use lib.Dec.{T, lt→ltb}
use Rattle.fraction.specs.Fraction.{Fraction, ◌≤ᶠ◌, ◌<ᶠ◌, ◌≈ᶠ◌, ltᵇ, natᶠ, negᶠ, minᶠ, maxᶠ}
use Rattle.fraction.proofs.Linear.{at_le, at_lt, at_eq, le_at, lt_at, eq_at, neg_at, over, lit<ᶠ}
use Rattle.fraction.proofs.Order.{refl≈, antisym, le_or_lt}
use Rattle.fraction.proofs.Clamp.{min_at, max_at, no≤}
use Rattle.winding.specs.Winding.{ExactEdge, exact_part, crosses}
use Rattle.winding.specs.Beliefs.{Overlaps}
use Rattle.winding.proofs.Part.{part, top, bottom, down_none, part_down, part_up, part_level}

-- ---- the test `<` finds it
pub of_less : (x y : Fraction) → x <ᶠ y → T (ltᵇ x y)
of_less x y h = lt→ltb (x.num.plus * y.den + y.num.minus * x.den) (y.num.plus * x.den + x.num.minus * y.den) h.lt

-- ---- what `crosses` means, with a and b the heights of the edge's two ends
module _ (e : ExactEdge) (row : ℕ) where
  abbrev a : Fraction
  a = e.«from».y

  abbrev b : Fraction
  b = e.to.y

  abbrev r : Fraction
  r = natᶠ row

  abbrev s : Fraction
  s = natᶠ (suc row)

  -- the upper end lies above the row's lower side, and the lower end below its upper side
  pub crosses_yes : T (crosses e row) → Overlaps e row
  crosses_yes t =
      let h = lit<ᶠ {x = maxᶠ (minᶠ a b) r} {y = minᶠ (maxᶠ a b) s} t in
      record {
        sloped = λ q. over (a ∷ b ∷ r ∷ s ∷ []) (λ N n A B R S. omega (arith, at_eq N A B q, at_lt N (max_at N n (min_at N n A B) R) (min_at N n (max_at N n A B) S) n h));
        above = over (a ∷ b ∷ r ∷ s ∷ []) (λ N n A B R S. lt_at N (min_at N n A B) S (omega (arith, at_lt N (max_at N n (min_at N n A B) R) (min_at N n (max_at N n A B) S) n h)));
        below = over (a ∷ b ∷ r ∷ s ∷ []) (λ N n A B R S. lt_at N R (max_at N n A B) (omega (arith, at_lt N (max_at N n (min_at N n A B) R) (min_at N n (max_at N n A B) S) n h)));
      }

  pub crosses_do : Overlaps e row → T (crosses e row)
  crosses_do o = of_less (maxᶠ (minᶠ a b) r) (minᶠ (maxᶠ a b) s) (go (le_or_lt a b) (le_or_lt b a))
    where
      both : (a <ᶠ b) ⊎ (b <ᶠ a) → maxᶠ (minᶠ a b) r <ᶠ minᶠ (maxᶠ a b) s
      both (inl h) = over (a ∷ b ∷ r ∷ s ∷ []) (λ N n A B R S. lt_at N (max_at N n (min_at N n A B) R) (min_at N n (max_at N n A B) S)
          (omega (arith, n, R.is, S.is, at_lt N A B n h, at_lt N (min_at N n A B) S n o.above, at_lt N R (max_at N n A B) n o.below)))
      both (inr h) = over (a ∷ b ∷ r ∷ s ∷ []) (λ N n A B R S. lt_at N (max_at N n (min_at N n A B) R) (min_at N n (max_at N n A B) S)
          (omega (arith, n, R.is, S.is, at_lt N B A n h, at_lt N (min_at N n A B) S n o.above, at_lt N R (max_at N n A B) n o.below)))

      go : (a ≤ᶠ b) ⊎ (b <ᶠ a) → (b ≤ᶠ a) ⊎ (a <ᶠ b) → maxᶠ (minᶠ a b) r <ᶠ minᶠ (maxᶠ a b) s
      go (inl h) (inl k) = absurd (o.sloped (antisym h k))
      go (inl h) (inr k) = both (inl k)
      go (inr h) k = both (inr h)

  -- ---- by the way that the edge goes
  pub crosses_down : a <ᶠ b → T (crosses e row) → top e.«from» row <ᶠ bottom e.to row
  crosses_down o t = over (a ∷ b ∷ r ∷ s ∷ []) (λ N n A B R S. lt_at N (max_at N n A R) (min_at N n B S)
      (omega (arith, at_lt N A B n o, at_lt N (max_at N n (min_at N n A B) R) (min_at N n (max_at N n A B) S) n (lit<ᶠ {x = maxᶠ (minᶠ a b) r} {y = minᶠ (maxᶠ a b) s} t))))

  pub crosses_up : b <ᶠ a → T (crosses e row) → top e.to row <ᶠ bottom e.«from» row
  crosses_up o t = over (a ∷ b ∷ r ∷ s ∷ []) (λ N n A B R S. lt_at N (max_at N n B R) (min_at N n A S)
      (omega (arith, at_lt N B A n o, at_lt N (max_at N n (min_at N n A B) R) (min_at N n (max_at N n A B) S) n (lit<ᶠ {x = maxᶠ (minᶠ a b) r} {y = minᶠ (maxᶠ a b) s} t))))

  -- ---- one that does not cross has no part
  pub no_part : (c : ℕ) → T (not (crosses e row)) → exact_part e c row ≈ᶠ natᶠ 0
  no_part c t = go (le_or_lt a b) (le_or_lt b a)
    where
      apart : minᶠ (maxᶠ a b) s ≤ᶠ maxᶠ (minᶠ a b) r
      apart = no≤ (maxᶠ (minᶠ a b) r) (minᶠ (maxᶠ a b) s) t

      neg_none : {x : Fraction} → x ≈ᶠ natᶠ 0 → negᶠ x ≈ᶠ natᶠ 0
      neg_none {x} q = over (x ∷ natᶠ 0 ∷ []) (λ N n X O. eq_at N (neg_at N X) O n (omega (arith, O.is, at_eq N X O q)))

      go : (a ≤ᶠ b) ⊎ (b <ᶠ a) → (b ≤ᶠ a) ⊎ (a <ᶠ b) → part e.«from» e.to c row ≈ᶠ natᶠ 0
      go (inl h) (inl k) = rw (part_level e.«from» e.to c row (antisym h k)) (refl≈ (natᶠ 0))
      go (inl h) (inr k) = rw (
        part_down e.«from» e.to c row k,
        down_none e.«from» e.to c row (over (a ∷ b ∷ r ∷ s ∷ []) (λ N n A B R S.
            le_at N (min_at N n B S) (max_at N n A R) n (omega (arith, at_lt N A B n k, at_le N (min_at N n (max_at N n A B) S) (max_at N n (min_at N n A B) R) apart)))),
      ) (refl≈ (natᶠ 0))
      go (inr h) k = rw (
        part_up e.«from» e.to c row h,
        down_none e.to e.«from» c row (over (a ∷ b ∷ r ∷ s ∷ []) (λ N n A B R S.
            le_at N (min_at N n A S) (max_at N n B R) n (omega (arith, at_lt N B A n h, at_le N (min_at N n (max_at N n A B) S) (max_at N n (min_at N n A B) R) apart)))),
      ) (neg_none (refl≈ (natᶠ 0)))
