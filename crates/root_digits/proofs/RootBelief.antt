-- Why `round_root` is the format's value nearest to the root, ties to even, as whole numbers say it (`RoundRootBeliefs`
-- of specs/Beliefs.antt). The root is measured in steps: its square is n / u, u being a step's square. The whole number
-- q that is kept has the root between q - 1/2 and q + 1/2, and is even where the root is one of these: both sides are
-- doubled and squared. Assumes nothing.
use mathlib.Core.Path.{◌≡◌, refl, sym, ap, ◌∙◌, subst}
use mathlib.Core.Logic.{inl, inr}
use Prim.Native.Nat.{ℕ, zero, suc, ◌+◌, ◌-◌, ◌*◌, ◌/◌, ◌%◌, ◌^◌, ◌≤◌, ◌<◌, compare, Ordering}
use native.Mathlib.Nat.{le_trans, le_of_eq, le_of_lt, lt_irrefl, lt_of_lt_of_le, lt_of_le_of_lt, eq-or-lt_of_le, eq-zero-or-pos, mul-le-mul_right}
use native.Mathlib.Nat.{mul-lt-mul_of_pos_right, mul-pos, div-lt_iff_lt-mul, le-div_iff_mul-le}
use native.Mathlib.Omega.{arith}
use lib.Pow.{pow_pos, pow_mono}
use lib.Ieee.{Format, prec, low, hid, size, nearest}
use lib.Ieee.Digits.{size-lt, size_reaches}
use Rattle.rounding.proofs.Grid.{prec_pos}
use Rattle.root_digits.specs.Root.{whole_root, round_root}
use Rattle.root_digits.specs.Beliefs.{NearestRoot, RootOf, RoundRootBeliefs}
use Rattle.float.proofs.Pattern.{split}
use Rattle.float.proofs.Shift.{cmp_lt, cmp_eq, cmp_gt}
use Rattle.root_digits.proofs.Roots.{IsRoot, whole_root_is, root_lt, sq_mono, in_steps}
use Rattle.root_digits.proofs.Nearer.{none_nearer}

-- `whole_root n` is the largest number whose square is at most n
whole_root_largest : (n : ℕ) → (whole_root n * whole_root n ≤ n) × ((r : ℕ) → r * r ≤ n → r ≤ whole_root n)
unfolding IsRoot
whole_root_largest n =
    let i = whole_root_is n in
    (i.0, λ r h. let l : r < whole_root n + 1 = root_lt r (whole_root n + 1) (lt_of_le_of_lt h i.1) in omega arith)

-- how the root compares with its whole part and a half, and the whole number that is kept
abbrev side : ℕ → ℕ → Ordering
side n u = compare (n * 4) ((2 * whole_root (n / u) + 1) * (2 * whole_root (n / u) + 1) * u)

abbrev kept_root : ℕ → ℕ → ℕ
kept_root n u = nearest (whole_root (n / u)) (side n u)

module _ (n u : ℕ) (U : 0 < u) where
  abbrev w : ℕ
  w = whole_root (n / u)

  abbrev half : ℕ
  half = (2 * w + 1) * (2 * w + 1) * u

  square_lt : (a b : ℕ) → a < b → a * a * u < b * b * u
  square_lt a b h = mul-lt-mul_of_pos_right (lt_of_lt_of_le (below a) (sq_mono h)) U
    where
      below : (a : ℕ) → a * a < suc a * suc a
      below a = omega arith

  square_le : (a b : ℕ) → a ≤ b → a * a * u ≤ b * b * u
  square_le a b h = mul-le-mul_right u (sq_mono h)

  -- the root is from w on, and below w + 1
  under : 2 * w * (2 * w) * u ≤ n * 4
  unfolding IsRoot
  under = let h : w * w * u ≤ n = (le-div_iff_mul-le U).0 (whole_root_is (n / u)).0 in omega arith

  over : n * 4 < (2 * w + 2) * (2 * w + 2) * u
  unfolding IsRoot
  over = let h : n < (w + 1) * (w + 1) * u = (div-lt_iff_lt-mul U).0 (whole_root_is (n / u)).1 in omega arith

  at_whole : n * 4 ≤ half → (n * 4 ≡ half → w % 2 ≡ 0) → NearestRoot n u w
  at_whole h t = record {
    low_end = le_trans (square_le (2 * w - 1) (2 * w) (omega arith)) under;
    high_end = h;
    even = λ e. elim e [
      | inl a ↦ elim (eq-zero-or-pos w) [
        | inl z ↦ omega arith
        | inr p ↦ absurd (lt_irrefl (n * 4) (lt_of_le_of_lt (le_of_eq a) (lt_of_lt_of_le (square_lt (2 * w - 1) (2 * w) (omega arith)) under)))
      ]
      | inr b ↦ t b
    ];
  }

  at_next : half ≤ n * 4 → (n * 4 ≡ half → suc w % 2 ≡ 0) → NearestRoot n u (suc w)
  at_next h t =
      let e : 2 * suc w - 1 ≡ 2 * w + 1 = omega arith in
      let above : n * 4 < (2 * suc w + 1) * (2 * suc w + 1) * u = lt_of_lt_of_le over (square_le (2 * w + 2) (2 * suc w + 1) (omega arith)) in
      record {
        low_end = le_trans (square_le (2 * suc w - 1) (2 * w + 1) (le_of_eq e)) h;
        high_end = le_of_lt above;
        even = λ s. elim s [
          | inl a ↦ t (a ∙ ap (λ (x : ℕ). x * x * u) e)
          | inr b ↦ absurd (lt_irrefl (n * 4) (lt_of_lt_of_le above (le_of_eq (sym b))))
        ];
      }

  -- the number that is kept is nearest
  root_nearest : NearestRoot n u (kept_root n u)
  root_nearest =
      elim (split (n * 4) half) [
        | inl l ↦ kept (cmp_lt (n * 4) half l) (at_whole (le_of_lt l) (λ e. absurd (lt_irrefl half (lt_of_le_of_lt (le_of_eq (sym e)) l))))
        | inr g ↦
            elim (eq-or-lt_of_le g) [
              | inl e ↦ kept (cmp_eq (n * 4) half (sym e)) (tie (w % 2) refl (sym e))
              | inr l ↦ kept (cmp_gt (n * 4) half l) (at_next (le_of_lt l) (λ e. absurd (lt_irrefl half (lt_of_lt_of_le l (le_of_eq e)))))
            ]
      ]
    where
      kept : {o : Ordering} → compare (n * 4) half ≡ o → NearestRoot n u (nearest w o) → NearestRoot n u (kept_root n u)
      kept e h = rw e h

      tie : (b : ℕ) → w % 2 ≡ b → n * 4 ≡ half → NearestRoot n u (w + b)
      tie zero z e = subst (NearestRoot n u) (omega arith) (at_whole (le_of_eq e) (λ _. z))
      tie (suc zero) z e = subst (NearestRoot n u) (omega arith) (at_next (le_of_eq (sym e)) (λ _. omega arith))
      tie (suc (suc b)) z e = absurd (omega arith)

-- ---- the root of num / den in a format
module _ (f : Format) (num den : ℕ) (D : 0 < den) where
  abbrev n : ℕ
  n = num * (2 ^ low f * 2 ^ low f)

  abbrev k : ℕ
  k = size (whole_root (n / den)) - prec f

  abbrev u : ℕ
  u = den * (2 ^ k * 2 ^ k)

  U : 0 < u
  U = mul-pos D (mul-pos (pow_pos k) (pow_pos k))

  digits_most : n < 2 ^ prec f * 2 ^ prec f * u
  unfolding IsRoot
  digits_most =
      let v = whole_root (n / den) in
      let z : size v ≤ prec f + k = omega arith in
      let s : v + 1 ≤ 2 ^ (prec f + k) = (let a = lt_of_lt_of_le (size-lt v) (pow_mono z) in omega arith) in
      lt_of_lt_of_le ((div-lt_iff_lt-mul D).0 (whole_root_is (n / den)).1) (le_trans (mul-le-mul_right den (sq_mono s)) (le_of_eq (in_steps (prec f) k den)))

  digits_least : 0 < k → hid f * hid f * u ≤ n
  unfolding IsRoot
  digits_least K =
      let v = whole_root (n / den) in
      let p : 0 < prec f = prec_pos f in
      let z : prec f - 1 + k < size v = omega arith in
      le_trans (le_of_eq (sym (in_steps (prec f - 1) k den)))
      (le_trans (mul-le-mul_right den (sq_mono (size_reaches v (prec f - 1 + k) z))) ((le-div_iff_mul-le D).0 (whole_root_is (n / den)).0))

  pub round_root_nearest : RootOf f num den (round_root f num den)
  unfolding round_root
  round_root_nearest = record {
    q = kept_root n u;
    k = k;
    is = refl;
    root = root_nearest n u U;
    no_more = digits_most;
    full = elim (eq-zero-or-pos k) [
      | inl z ↦ inl z
      | inr p ↦ inr (digits_least p)
    ];
  }

pub round_root_beliefs : RoundRootBeliefs
round_root_beliefs = record { whole_root_largest = whole_root_largest; round_root_nearest = round_root_nearest; none_nearer = none_nearer }
