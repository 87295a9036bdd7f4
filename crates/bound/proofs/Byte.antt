-- A group's byte in a cell, against 255 times the rule's share of the exact winding. Assumes nothing.
use mathlib.Core.Path.{◌≡◌, sym, subst}
use mathlib.Core.Logic.{inl, inr}
use mathlib.Core.List.{[], ◌∷◌, ◌++◌}
use mathlib.Core.Bool.{Bool, true, false}
use Prim.Native.Nat.{ℕ, ◌+◌, ◌≤◌}
use native.Mathlib.Nat.{eq-zero-or-pos}
use native.Mathlib.Omega.{arith}
use lib.Dec.{T}
use lib.Ieee.{Float, binary32, fits}
use lib.Ieee.Fits.{mul-fits}
use lib.Ieee.Scale.{finite}
use Rattle.fraction.specs.Fraction.{Fraction, ◌≤ᶠ◌, ◌<ᶠ◌, ◌≈ᶠ◌, natᶠ, ◌/2^◌, ◌+ᶠ◌, ◌-ᶠ◌, ◌*ᶠ◌, absᶠ, minᶠ, Near, Within}
use Rattle.fraction.proofs.Linear.{at, at_le, at_lt, at_eq, le_at, add_at, neg_at, scale_at, over, trans, lit, lit≈, lt_at}
use Rattle.fraction.proofs.Order.{of_eq, refl≈, sym≈, trans≈, mul_comm, mul_nonneg, add_mono, zero_mul, nat_le}
use Rattle.fraction.proofs.Near.{near_weaken, within_weaken, within_self, within_same}
use Rattle.fraction.proofs.Ring.{cong_mul}
use Rattle.rounding.specs.Value.{val, tiny}
use Rattle.rounding.specs.Rounding.{Rounds}
use Rattle.rounding.proofs.Round.{near_to, sum_near}
use Rattle.rounding.proofs.Ops.{mul_rounds, add_rounds}
use Rattle.float.specs.Ops.{◌⊕◌, ◌⊗◌, f0, f½}
use Rattle.whole.specs.Whole.{byte_of}
use Rattle.whole.proofs.CastBelief.{byte_below}
use Rattle.sweep.specs.Bytes.{f255, covered_of, share_of}
use Rattle.winding.specs.Winding.{non_zero_share, modulo2, even_odd_share}
use Rattle.bound.proofs.Adds.{winding_error}
use Rattle.bound.proofs.Numbers.{Exact, zero_is, half_is, f255_is}
use Rattle.bound.proofs.RowSum.{Winds}
use Rattle.bound.proofs.Share.{share_by, share_near, share_range, share_is}

-- ---- 255 times a share, and a half, cut to a whole number
module _ (eo : Bool) (w : Float) (p : T (finite w)) (q : T (fits binary32 w)) where
  e : Exact (share_by eo (val w)) (share_of eo w)
  e = share_is eo w p q

  -- the exact product
  times : val (share_of eo w) *ᶠ val f255 ≈ᶠ natᶠ 255 *ᶠ share_by eo (val w)
  times = trans≈ (cong_mul e.eq f255_is.eq) (mul_comm (share_by eo (val w)) (natᶠ 255))

  low : natᶠ 0 ≤ᶠ natᶠ 255 *ᶠ share_by eo (val w)
  low = mul_nonneg (lit tt) (share_range eo (val w)).0

  high : natᶠ 255 *ᶠ share_by eo (val w) ≤ᶠ natᶠ 255
  high = over (share_by eo (val w) ∷ natᶠ 255 *ᶠ share_by eo (val w) ∷ natᶠ 1 ∷ natᶠ 255 ∷ []) (λ N n A B I C.
      le_at N B C n (omega (arith, I.is, C.is, scale_at N (natᶠ 255) A B, at_le N A I (share_range eo (val w)).1)))

  between : Within (natᶠ 255 *ᶠ share_by eo (val w)) (natᶠ 255)
  between = within_weaken (within_self low) high

  -- times 255, rounded
  R : Rounds binary32 (tiny binary32) (val (share_of eo w) *ᶠ val f255) (share_of eo w ⊗ f255)
  R = mul_rounds binary32 (share_of eo w) f255 e.fine f255_is.fine (within_weaken (within_same (sym≈ times) between) (lit tt))

  near_times : Near (val (share_of eo w ⊗ f255)) (natᶠ 255 *ᶠ share_by eo (val w)) (255 /2^ 24 +ᶠ 1 /2^ 40)
  near_times = near_weaken (near_to times (R.near (natᶠ 255) (within_same (sym≈ times) between))) (add_mono (unfold ◌*ᶠ◌ in lit tt) (lit tt))

  times_low : natᶠ 0 ≤ᶠ val (share_of eo w ⊗ f255)
  times_low = trans (of_eq (sym≈ zero_is.eq)) (R.above f0 zero_is.fine zero_is.held (trans (of_eq zero_is.eq) (trans low (of_eq (sym≈ times)))))

  times_high : val (share_of eo w ⊗ f255) ≤ᶠ natᶠ 255
  times_high = trans (R.below f255 f255_is.fine f255_is.held (trans (of_eq times) (trans high (of_eq (sym≈ f255_is.eq))))) (of_eq f255_is.eq)

  -- and a half
  half_within : Within (val (share_of eo w ⊗ f255) +ᶠ val f½) (natᶠ 256)
  half_within = over (val (share_of eo w ⊗ f255) ∷ val f½ ∷ 1 /2^ 1 ∷ natᶠ 255 ∷ natᶠ 256 ∷ natᶠ 0 ∷ []) (λ N n A H I B C O.
      let a = at_le N O A times_low in
      let b = at_le N A B times_high in
      let c = at_eq N H I half_is.eq in
      record {
        lo = le_at N (search at) (search at) n (omega (arith, O.is, I.is, B.is, C.is, a, b, c));
        hi = le_at N (search at) (search at) n (omega (arith, O.is, I.is, B.is, C.is, a, b, c));
      })

  A : Rounds binary32 (natᶠ 0) (val (share_of eo w ⊗ f255) +ᶠ val f½) (share_of eo w ⊗ f255 ⊕ f½)
  A = add_rounds binary32 (share_of eo w ⊗ f255) f½ R.fine half_is.fine (mul-fits binary32 (share_of eo w) f255) half_is.held (within_weaken half_within (lit tt))

  near_half : Near (val (share_of eo w ⊗ f255 ⊕ f½)) (val (share_of eo w ⊗ f255) +ᶠ val f½) (1 /2^ 16)
  near_half = near_weaken (sum_near A half_within) (unfold ◌*ᶠ◌ in lit tt)

  sum_low : natᶠ 0 ≤ᶠ val (share_of eo w ⊗ f255 ⊕ f½)
  sum_low = trans (of_eq (sym≈ zero_is.eq)) (A.above f0 zero_is.fine zero_is.held (over (val f0 ∷ val (share_of eo w ⊗ f255) ∷ val f½ ∷ 1 /2^ 1 ∷ natᶠ 0 ∷ []) (λ N n F P H I O.
      le_at N F (add_at N P H) n (omega (arith, O.is, I.is, at_eq N F O zero_is.eq, at_le N O P times_low, at_eq N H I half_is.eq)))))

  sum_high : val (share_of eo w ⊗ f255 ⊕ f½) <ᶠ natᶠ 256
  sum_high = over (val (share_of eo w ⊗ f255 ⊕ f½) ∷ val (share_of eo w ⊗ f255) ∷ val f½ ∷ 1 /2^ 1 ∷ natᶠ 255 ∷ natᶠ 256 ∷ 1 /2^ 16 ∷ []) (λ N n Z P H I B C D.
      lt_at N Z C (omega (arith, n, I.is, B.is, C.is, D.is, at_le N P B times_high, at_eq N H I half_is.eq, at_le N Z (add_at N (add_at N P H) D) near_half.hi)))

  pub byte_near : Near (natᶠ (covered_of eo w)) (natᶠ 255 *ᶠ share_by eo (val w)) (1 /2^ 1 +ᶠ 1 /2^ 15)
  unfolding covered_of
  byte_near =
      let z = share_of eo w ⊗ f255 ⊕ f½ in
      let f = byte_below z A.fine sum_low sum_high in
      let values = natᶠ (byte_of z) ∷ val z ∷ val (share_of eo w ⊗ f255) ∷ val f½ ∷ natᶠ 255 *ᶠ share_by eo (val w) ∷ [] in
      let errors = 1 /2^ 1 ∷ 1 /2^ 15 ∷ 1 /2^ 16 ∷ 255 /2^ 24 ∷ 1 /2^ 40 ∷ natᶠ 1 ∷ natᶠ (byte_of z + 1) ∷ [] in
      over (values ++ errors) (λ N n B Z P H X I E F G J O Q.
      let h = at_eq N H I half_is.eq in
      record {
        lo =
            let p = at_le N (search at) (search at) near_half.lo in
            let q = at_le N (search at) (search at) near_times.lo in
            le_at N (search at) (search at) n (omega (arith, I.is, E.is, F.is, G.is, J.is, O.is, h, B.is, Q.is, p, q, at_lt N Z Q n f.1));
        hi =
            let p = at_le N (search at) (search at) near_half.hi in
            let q = at_le N (search at) (search at) near_times.hi in
            le_at N (search at) (search at) n (omega (arith, I.is, E.is, F.is, G.is, J.is, O.is, h, p, q, at_le N B Z f.0));
      })

share_zero : (eo : Bool) → share_by eo (natᶠ 0) ≈ᶠ natᶠ 0
unfolding even_odd_share non_zero_share modulo2 minᶠ absᶠ ◌-ᶠ◌
share_zero true = lit≈ tt
share_zero false = lit≈ tt

-- ---- A GROUP IN A CELL: k edges count, the winding w is near the exact X
module _ (eo : Bool) {w : Float} {X : Fraction} {k : ℕ} (winds : Winds w X k) where
  folded : Near (share_by eo (val w)) (share_by eo X) (natᶠ k *ᶠ winding_error)
  folded = share_near eo winds.near

  some : 1 ≤ k → Near (natᶠ (covered_of eo w)) (natᶠ 255 *ᶠ share_by eo X) (natᶠ k +ᶠ 1 /2^ 1)
  some h =
      let b = byte_near eo w winds.fine winds.held in
      let x = share_by eo (val w) in
      let y = share_by eo X in
      over (natᶠ (covered_of eo w) ∷ x ∷ y ∷ natᶠ 255 *ᶠ x ∷ natᶠ 255 *ᶠ y ∷ natᶠ k ∷ natᶠ k *ᶠ winding_error ∷ winding_error *ᶠ natᶠ k ∷ 1 /2^ 1 ∷ 1 /2^ 15 ∷ natᶠ 1 ∷ [])
      (λ N n B F G F' G' K E E' I J O.
      let f = scale_at N (natᶠ 255) F F' in
      let g = scale_at N (natᶠ 255) G G' in
      let c = at_eq N E E' (mul_comm (natᶠ k) (winding_error)) in
      let d = scale_at N (winding_error) K E' in
      let o = at_le N O K (nat_le h) in
      record {
        lo = le_at N (search at) (search at) n (omega (arith, f, g, c, d, o, I.is, J.is, O.is, at_le N (search at) (search at) b.lo, at_le N (search at) (search at) folded.lo));
        hi = le_at N (search at) (search at) n (omega (arith, f, g, c, d, o, I.is, J.is, O.is, at_le N (search at) (search at) b.hi, at_le N (search at) (search at) folded.hi));
      })

  -- nothing counts: the winding is 0
  still : k ≡ 0 → Near (share_by eo (val w)) (natᶠ 0) (natᶠ 0)
  still h =
      let z = subst (λ (t : ℕ). natᶠ t *ᶠ natᶠ 2 ≈ᶠ natᶠ 0) (sym h) (zero_mul (natᶠ 2)) in
      let at0 : Near (val w) (natᶠ 0) (natᶠ 0) = over (val w ∷ natᶠ k *ᶠ natᶠ 2 ∷ natᶠ 0 ∷ []) (λ N n W K O.
      let k = at_eq N K O z in
      record {
        lo = le_at N (search at) (search at) n (omega (arith, O.is, k, at_le N (neg_at N K) W winds.size.lo));
        hi = le_at N (search at) (search at) n (omega (arith, O.is, k, at_le N W K winds.size.hi));
      }) in
      near_to (share_zero eo) (share_near eo at0)

  -- and so is the byte
  pub group_none : k ≡ 0 → covered_of eo w ≡ 0
  group_none h =
      let f = still h in
      let b = byte_near eo w winds.fine winds.held in
      let g : natᶠ (covered_of eo w) ≤ᶠ 3 /2^ 2 = over (natᶠ (covered_of eo w) ∷ share_by eo (val w) ∷ natᶠ 255 *ᶠ share_by eo (val w) ∷ 1 /2^ 1 ∷ 1 /2^ 15 ∷ 3 /2^ 2 ∷ natᶠ 0 ∷ []) (λ N n B F F' I J Q O.
      le_at N B Q n (omega (arith, O.is, I.is, J.is, Q.is, scale_at N (natᶠ 255) F F', at_le N (search at) (search at) f.hi, at_le N (search at) (search at) b.hi))) in
      omega (arith, g.le)

  none : k ≡ 0 → Near (natᶠ (covered_of eo w)) (natᶠ 255 *ᶠ share_by eo X) (natᶠ k +ᶠ 1 /2^ 1)
  none h =
      let f = still h in
      let z = subst (λ (t : ℕ). natᶠ t *ᶠ winding_error ≈ᶠ natᶠ 0) (sym h) (zero_mul (winding_error)) in
      let b = subst (λ (t : ℕ). natᶠ t ≈ᶠ natᶠ 0) (sym (group_none h)) (refl≈ (natᶠ 0)) in
      over (natᶠ (covered_of eo w) ∷ share_by eo (val w) ∷ share_by eo X ∷ natᶠ 255 *ᶠ share_by eo X ∷ natᶠ k *ᶠ winding_error ∷ natᶠ k ∷ 1 /2^ 1 ∷ natᶠ 0 ∷ []) (λ N n B F G G' E K I O.
      let g = scale_at N (natᶠ 255) G G' in
      let e = at_eq N E O z in
      let c = at_eq N B O b in
      let k0 = at_le N O K (nat_le {m = 0} {n = k} (omega arith)) in
      let f1 = at_le N (search at) (search at) f.lo in
      let f2 = at_le N (search at) (search at) f.hi in
      record {
        lo = le_at N (search at) (search at) n (omega (arith, O.is, I.is, g, e, c, k0, f1, f2, at_le N (search at) (search at) folded.lo));
        hi = le_at N (search at) (search at) n (omega (arith, O.is, I.is, g, e, c, k0, f1, f2, at_le N (search at) (search at) folded.hi));
      })

  pub group_near : Near (natᶠ (covered_of eo w)) (natᶠ 255 *ᶠ share_by eo X) (natᶠ k +ᶠ 1 /2^ 1)
  group_near = elim (eq-zero-or-pos k) [ inl h ↦ none h | inr h ↦ some h ]
