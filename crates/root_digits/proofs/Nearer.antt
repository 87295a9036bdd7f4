-- Why no value with a format's digits is nearer to a root than the one that is kept (`none_nearer` of
-- specs/Beliefs.antt). The kept one is q steps of 2 ^ k. A value whose exponent is k or more is a whole number of
-- steps, so that its middle with q is at least half a step off; one of a smaller exponent is below the root. Assumes
-- nothing.
use mathlib.Core.Path.{◌≡◌, sym, ap, ◌∙◌}
use mathlib.Core.Logic.{◌⊎◌, inl, inr}
use Prim.Native.Nat.{ℕ, ◌+◌, ◌-◌, ◌*◌, ◌^◌, ◌≤◌, ◌<◌}
use native.Mathlib.Nat.{le_trans, le_of_eq, le_of_lt, lt_of_lt_of_le, lt_of_le_of_lt, mul-le-mul_right, mul-pos, mul_assoc, lt_of_mul-lt-mul_right}
use native.Mathlib.Omega.{arith}
use lib.Pow.{pow-add, pow_pos, pow_mono, shl_lt}
use lib.Ieee.{Float, Format, prec, low, hid}
use Rattle.rounding.proofs.Grid.{prec_pos}
use Rattle.root_digits.specs.Beliefs.{NearestRoot, RootOf, NoneNearer}
use Rattle.float.proofs.Pattern.{split}
use Rattle.root_digits.proofs.Roots.{sq_mono}

module _ (f : Format) (num den q k : ℕ) (D : 0 < den) (o : NearestRoot (num * (2 ^ low f * 2 ^ low f)) (den * (2 ^ k * 2 ^ k)) q)
    (full : (k ≡ 0) ⊎ (hid f * hid f * (den * (2 ^ k * 2 ^ k)) ≤ num * (2 ^ low f * 2 ^ low f))) (d e : ℕ) (small : d < 2 ^ prec f) where
  abbrev N : ℕ
  N = num * (2 ^ low f * 2 ^ low f)

  abbrev U : ℕ
  U = 2 ^ k

  abbrev v : ℕ
  v = d * 2 ^ e

  -- with an exponent from k on it is a whole number of steps
  in_whole_steps : k ≤ e → v ≡ d * 2 ^ (e - k) * U
  in_whole_steps h =
      let i : e ≡ e - k + k = omega arith in
      ap (λ (x : ℕ). d * x) (ap (λ (x : ℕ). 2 ^ x) i ∙ pow-add 2 (e - k) k) ∙ sym (mul_assoc d (2 ^ (e - k)) (2 ^ k))

  -- with a smaller one it is below the root, which has all the format's digits in steps
  under_digits : e < k → v < hid f * U
  under_digits h =
      let l : prec f + e ≤ prec f - 1 + k = (let p = prec_pos f in omega arith) in
      lt_of_lt_of_le (shl_lt (prec f) e small) (le_trans (pow_mono l) (le_of_eq (pow-add 2 (prec f - 1) k)))

  digits_root : e < k → hid f * hid f * (den * (U * U)) ≤ N
  digits_root h = elim full [
    | inl z ↦ absurd (omega arith)
    | inr g ↦ g
  ]

  squared : (m : ℕ) → v + q * U ≤ m * U → (v + q * U) * (v + q * U) * den ≤ m * m * (den * (U * U))
  squared m h = le_trans (mul-le-mul_right den (sq_mono h)) (le_of_eq (regroup m U))
    where
      regroup : (m U : ℕ) → m * U * (m * U) * den ≡ m * m * (den * (U * U))
      regroup m U = omega arith

  squared_up : (m : ℕ) → m * U ≤ v + q * U → m * m * (den * (U * U)) ≤ (v + q * U) * (v + q * U) * den
  squared_up m h = le_trans (le_of_eq (regroup m U)) (mul-le-mul_right den (sq_mono h))
    where
      regroup : (m U : ℕ) → m * m * (den * (U * U)) ≡ m * U * (m * U) * den
      regroup m U = omega arith

  smaller_far : v < q * U → (v + q * U) * (v + q * U) * den ≤ N * 4
  smaller_far h =
      elim (split e k) [
        | inr g ↦ whole (d * 2 ^ (e - k)) (in_whole_steps g)
        | inl g ↦
            elim (split (hid f) q) [
              | inl l ↦ le_trans (squared (2 * q - 1) (lower (hid f) (2 ^ k) (under_digits g) l)) o.low_end
              | inr l ↦ le_trans (squared (2 * hid f) (middle (hid f) (2 ^ k) (under_digits g) l)) (doubled (hid f) (den * (U * U)) N (digits_root g))
            ]
      ]
    where
      whole : (w : ℕ) → v ≡ w * U → (v + q * U) * (v + q * U) * den ≤ N * 4
      whole w s =
          let l : w < q = lt_of_mul-lt-mul_right U (lt_of_le_of_lt (le_of_eq (sym s)) h) in
          let g : (w + q) * U ≤ (2 * q - 1) * U = mul-le-mul_right U (omega arith) in
          le_trans (squared (2 * q - 1) (le_trans (le_of_eq (ap (λ (x : ℕ). x + q * U) s ∙ both w q U)) g)) o.low_end
        where
          both : (w q U : ℕ) → w * U + q * U ≡ (w + q) * U
          both w q U = omega arith

      lower : (H U : ℕ) → v < H * U → H < q → v + q * U ≤ (2 * q - 1) * U
      lower H U a b =
          let g : (H + q) * U ≤ (2 * q - 1) * U = mul-le-mul_right U (omega arith) in
          omega arith

      middle : (H U : ℕ) → v < H * U → q ≤ H → v + q * U ≤ 2 * H * U
      middle H U a b = let g : q * U ≤ H * U = mul-le-mul_right U b in omega arith

      doubled : (H u N : ℕ) → H * H * u ≤ N → 2 * H * (2 * H) * u ≤ N * 4
      doubled H u N h = omega arith

  larger_far : q * U < v → N * 4 ≤ (v + q * U) * (v + q * U) * den
  larger_far h =
      elim (split e k) [
        | inr g ↦ whole (d * 2 ^ (e - k)) (in_whole_steps g)
        | inl g ↦ absurd (never_far (hid f) (den * (U * U)) N (mul-pos D (mul-pos (pow_pos k) (pow_pos k)))
            (lt_of_mul-lt-mul_right U (lt_of_lt_of_le h (le_of_lt (under_digits g)))) (digits_root g) o.high_end)
      ]
    where
      whole : (w : ℕ) → v ≡ w * U → N * 4 ≤ (v + q * U) * (v + q * U) * den
      whole w s =
          let l : q < w = lt_of_mul-lt-mul_right U (lt_of_lt_of_le h (le_of_eq s)) in
          let g : (2 * q + 1) * U ≤ (w + q) * U = mul-le-mul_right U (omega arith) in
          le_trans o.high_end (squared_up (2 * q + 1) (le_trans g (le_of_eq (sym (ap (λ (x : ℕ). x + q * U) s ∙ both w q U)))))
        where
          both : (w q U : ℕ) → w * U + q * U ≡ (w + q) * U
          both w q U = omega arith

      never_far : (H u N : ℕ) → 0 < u → q < H → H * H * u ≤ N → N * 4 ≤ (2 * q + 1) * (2 * q + 1) * u → ⊥
      never_far H u N P l a b =
          let c : 2 * q + 2 ≤ 2 * H = omega arith in
          let s = mul-le-mul_right u (sq_mono c) in
          omega (arith, a, b, s, mul-pos P P)

-- NO VALUE IS NEARER
pub none_nearer : (f : Format) (num den : ℕ) (r : Float) → 0 < den → (o : RootOf f num den r) → NoneNearer f num den (o.q * 2 ^ o.k)
none_nearer f num den r D o = record {
  smaller = smaller_far f num den o.q o.k D o.root o.full;
  larger = larger_far f num den o.q o.k D o.root o.full;
}
