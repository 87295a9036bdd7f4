-- Where the f32 nearest to a root is an infinity: exactly from halfway between the largest f32 and 2 ^ 128 on
-- (`OfFinite` of specs/Beliefs.antt). At the halfway itself the largest f32 is odd, so that the tie goes up. Assumes
-- nothing.
use mathlib.Core.Path.{◌≡◌, refl, sym, ap, ap₂, ◌∙◌, subst}
use mathlib.Core.Logic.{inl, inr}
use mathlib.Core.Bool.{false}
use Prim.Native.Nat.{ℕ, ◌+◌, ◌-◌, ◌*◌, ◌%◌, ◌^◌, ◌≤◌, ◌<◌}
use native.Mathlib.Nat.{le_trans, le_of_eq, lt_irrefl, lt_of_lt_of_le, lt_of_le_of_lt, le_antisymm, mul-le-mul, mul-le-mul_right, mul-lt-mul_of_pos_right, mul-pos, mul_assoc, lt_of_mul-lt-mul_right}
use native.Mathlib.Omega.{arith}
use lib.Dec.{T, lit<}
use lib.Pow.{pow-add, pow_pos, pow_mono}
use lib.Ieee.{Float, inf, binary32, units}
use lib.Ieee.Exact.{units_val}
use lib.Ieee.Scale.{finite}
use Rattle.rounding.proofs.Base.{value_is}
use Rattle.float.proofs.Pattern.{split, units_over}
use Rattle.root_digits.specs.Beliefs.{RootOf}
use Rattle.root_digits.proofs.Roots.{root_lt, sq_mono}
use Rattle.root_digits.proofs.RootBelief.{round_root_beliefs}
use Rattle.nearest_roots.specs.Beliefs.{halfway}

module _ (num den : ℕ) (D : 0 < den) {r : Float} (o : RootOf binary32 num den r) where
  abbrev q : ℕ
  q = o.q

  abbrev k : ℕ
  k = o.k

  abbrev w : ℕ
  w = q * 2 ^ k

  -- the largest f32, the first past it, and their sum, in units
  abbrev largest : ℕ
  largest = (2 ^ 24 - 1) * 2 ^ 253

  abbrev past : ℕ
  past = 2 ^ 277

  both : largest + past ≡ halfway * 2 ^ 150
  both = refl

  abbrev four : ℕ
  four = num * (2 ^ 149 * 2 ^ 149) * 4

  four_is : four ≡ num * (2 ^ 150 * 2 ^ 150)
  four_is = mul_assoc num (2 ^ 149 * 2 ^ 149) 4

  -- in units, and back
  cancel : (H P : ℕ) → 0 < P → H * P * (H * P) * den ≤ num * (P * P) → H * H * den ≤ num
  cancel H P p h =
      elim (split num (H * H * den)) [
        | inl l ↦ absurd (lt_irrefl (num * (P * P)) (lt_of_lt_of_le (mul-lt-mul_of_pos_right l (mul-pos p p)) (le_trans (le_of_eq (regroup H P)) h)))
        | inr g ↦ g
      ]
    where
      regroup : (H P : ℕ) → H * H * den * (P * P) ≡ H * P * (H * P) * den
      regroup H P = omega arith

  spread : (H P : ℕ) → H * H * den ≤ num → H * P * (H * P) * den ≤ num * (P * P)
  spread H P h = le_trans (le_of_eq (regroup H P)) (mul-le-mul_right (P * P) h)
    where
      regroup : (H P : ℕ) → H * P * (H * P) * den ≡ H * H * den * (P * P)
      regroup H P = omega arith

  pub below_halfway : num < halfway * halfway * den → T (finite r)
  below_halfway h =
      elim (split w past) [
        | inl l ↦ subst (λ (x : Float). T (finite x)) (sym o.is) (value_is (units binary32 false q k) false w (2 ^ 149) (pow_pos 149) (units_val binary32 false q k l)).0
        | inr g ↦ absurd (lt_irrefl num (lt_of_lt_of_le h (cancel halfway (2 ^ 150) (pow_pos 150) (far g))))
      ]
    where
      far : past ≤ w → halfway * 2 ^ 150 * (halfway * 2 ^ 150) * den ≤ num * (2 ^ 150 * 2 ^ 150)
      far g =
          let s = (round_root_beliefs.none_nearer binary32 num den r D o).smaller (2 ^ 24 - 1) 253 (lit< tt) (lt_of_lt_of_le (lit< tt) g) in
          let l : largest + past ≤ largest + w = add_le largest g in
          le_trans (mul-le-mul_right den (sq_mono l)) (le_trans s (le_of_eq four_is))
        where
          add_le : (a : ℕ) {b c : ℕ} → b ≤ c → a + b ≤ a + c
          add_le a h = omega arith

  -- q has no more digits than an f32, but for 2 ^ 24 itself
  most : q ≤ 2 ^ 24
  most =
      let u = den * (2 ^ k * 2 ^ k) in
      let l : 2 * q - 1 < 2 * 2 ^ 24 = root_lt (2 * q - 1) (2 * 2 ^ 24) (lt_of_mul-lt-mul_right u (lt_of_le_of_lt o.root.low_end (scaled (num * (2 ^ 149 * 2 ^ 149)) (2 ^ 24) u o.no_more))) in
      omega arith
    where
      scaled : (n h u : ℕ) → n < h * h * u → n * 4 < 2 * h * (2 * h) * u
      scaled n h u g = omega arith

  -- below what is past the largest, and no less than it, is the largest alone
  is_largest : w < past → largest ≤ w → (k ≡ 253) × (q ≡ 2 ^ 24 - 1)
  is_largest l g =
      elim (split k 253) [
        | inl s ↦ absurd (lt_irrefl largest (lt_of_le_of_lt g (lt_of_le_of_lt (small s) (lit< tt))))
        | inr s ↦
            elim (split 253 k) [
              | inl t ↦ absurd (lt_irrefl largest (lt_of_le_of_lt g (lt_of_le_of_lt (coarse (q * 2 ^ (k - 254)) (in_steps t)) (lit< tt))))
              | inr t ↦
                  let e : k ≡ 253 = omega arith in
                  (e, one_left (ap (λ (x : ℕ). q * 2 ^ x) e))
            ]
      ]
    where
      small : k < 253 → w ≤ 2 ^ 24 * 2 ^ 252
      small s = let j : k ≤ 252 = omega arith in mul-le-mul most (pow_mono j)

      in_steps : 253 < k → w ≡ q * 2 ^ (k - 254) * 2 ^ 254
      in_steps t =
          let e : k ≡ k - 254 + 254 = omega arith in
          ap (λ (x : ℕ). q * x) (ap (λ (x : ℕ). 2 ^ x) e ∙ pow-add 2 (k - 254) 254) ∙ sym (mul_assoc q (2 ^ (k - 254)) (2 ^ 254))

      coarse : (m : ℕ) → w ≡ m * 2 ^ 254 → w ≤ (2 ^ 23 - 1) * 2 ^ 254
      coarse m e =
          let j : m < 2 ^ 23 = lt_of_mul-lt-mul_right (2 ^ 254) (lt_of_le_of_lt (le_of_eq (sym e)) l) in
          let i : m ≤ 2 ^ 23 - 1 = omega arith in
          le_trans (le_of_eq e) (mul-le-mul_right (2 ^ 254) i)

      one_left : w ≡ q * 2 ^ 253 → q ≡ 2 ^ 24 - 1
      one_left e =
          let a : q < 2 ^ 24 = lt_of_mul-lt-mul_right (2 ^ 253) (lt_of_le_of_lt (le_of_eq (sym e)) l) in
          elim (split q (2 ^ 24 - 1)) [
            | inl b ↦ absurd (lt_irrefl largest (lt_of_le_of_lt (le_trans g (le_of_eq e)) (mul-lt-mul_of_pos_right b (pow_pos 253))))
            | inr b ↦ omega arith
          ]

  tie : w < past → halfway * halfway * den ≤ num → ⊥
  tie l h =
      let M = halfway * 2 ^ 150 in
      let f : M * M * den ≤ four = le_trans (spread halfway (2 ^ 150) h) (le_of_eq (sym four_is)) in
      let s = (round_root_beliefs.none_nearer binary32 num den r D o).larger 1 277 (lit< tt) l in
      let p = is_largest l (drop largest past w (by_squares M (past + w) (le_trans f s))) in
      let e : (2 * q + 1) * (2 * q + 1) * (den * (2 ^ k * 2 ^ k)) ≡ M * M * den =
      ap₂ (λ (a b : ℕ). (2 * a + 1) * (2 * a + 1) * (den * (2 ^ b * 2 ^ b))) p.1 p.0 ∙ regroup (2 * (2 ^ 24 - 1) + 1) (2 ^ 253) in
      let z = o.root.even (inr (le_antisymm o.root.high_end (le_trans (le_of_eq e) f))) in
      odd q p.1 z
    where
      drop : (a b c : ℕ) → a + b ≤ b + c → a ≤ c
      drop a b c h = omega arith

      next : (b : ℕ) → b * b < (b + 1) * (b + 1)
      next b = omega arith

      by_squares : (a b : ℕ) → a * a * den ≤ b * b * den → a ≤ b
      by_squares a b h =
          elim (split b a) [
            | inl g ↦
                let s : (b + 1) * (b + 1) ≤ a * a = sq_mono (omega arith) in
                let t : b * b < a * a = lt_of_lt_of_le (next b) s in
                absurd (lt_irrefl (b * b * den) (lt_of_lt_of_le (mul-lt-mul_of_pos_right t D) h))
            | inr g ↦ g
          ]

      regroup : (m S : ℕ) → m * m * (den * (S * S)) ≡ m * S * (m * S) * den
      regroup m S = omega arith

      odd : (n : ℕ) → n ≡ 2 ^ 24 - 1 → n % 2 ≡ 0 → ⊥
      odd n e z = omega arith

  pub from_halfway : halfway * halfway * den ≤ num → r ≡ inf false
  from_halfway h =
      elim (split w past) [
        | inl l ↦ absurd (tie l h)
        | inr g ↦ o.is ∙ units_over binary32 false q k g
      ]
