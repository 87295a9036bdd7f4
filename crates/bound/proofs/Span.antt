-- What `span` adds to a row, for any two ends up to 4,097 in size: how far it is off in each cell, the sum of its
-- sizes, two entries in a cell at most (only in the first of the row), and nothing left of both ends. Assumes nothing.
use mathlib.Core.List.{List, [], ◌∷◌}
use mathlib.Core.Bool.{Bool, true, false, not, cond}
use Prim.Native.Nat.{ℕ, suc, ◌+◌, ◌≤◌}
use native.Mathlib.Nat.{le_refl}
use native.Mathlib.Omega.{arith}
use lib.Dec.{T, eqb}
use lib.Ieee.{Float, binary32, lt, le}
use lib.Ieee.Fits.{mul-fits, sub-fits}
use lib.Ieee.Scale.{finite}
use Rattle.fraction.specs.Fraction.{Fraction, ◌≤ᶠ◌, ◌<ᶠ◌, ◌≈ᶠ◌, natᶠ, ◌+ᶠ◌, ◌-ᶠ◌, ◌*ᶠ◌, negᶠ, absᶠ, Near}
use Rattle.fraction.proofs.Linear.{at_le, at_lt, at_eq, le_at, lt_at, eq_at, add_at, sub_at, neg_at, over, lit, trans}
use Rattle.fraction.proofs.Order.{of_eq, of_lt, sym≈, trans≈, refl≈, mul_comm, mul_cong, mul_assoc, mul_one, mul_mono, zero_mul, above_not, nat_le}
use Rattle.fraction.proofs.Near.{near_refl, near_weaken, near_same, near_trans, near_add, near_by, within_weaken, within_near, within_self, within_same, within_mul, within_sub}
use Rattle.fraction.proofs.Abs.{abs_nonneg}
use Rattle.fraction.proofs.Ring.{rep, reps, ring, cong_add, cong_sub}
use Rattle.rounding.specs.Value.{val}
use Rattle.rounding.specs.Rounding.{Rounds}
use Rattle.rounding.proofs.Round.{rounds_same, near_to}
use Rattle.rounding.proofs.Ops.{sub_rounds}
use Rattle.rounding.proofs.Analyse.{Known}
use Rattle.float.specs.Ops.{◌⊖◌, ◌⊗◌, ◌⊘◌, f0, f1}
use Rattle.whole.specs.Whole.{of_whole}
use Rattle.winding.proofs.MeanOf.{G}
use Rattle.winding.proofs.Cells.{G-right, G-left, G-cut-left, G-cut-right, G-range, G-sym, G-cong}
use Rattle.bound.proofs.Entries.{Entry, entry, count, here, prefix, total, plus_none, pick_in, rising_once}
use Rattle.bound.proofs.Model.{inside_e, clip_e, span_e}
use Rattle.bound.proofs.Adds.{Adds, cut_once, cut_twice, inside_error, inside_excess, right_error, right_excess, span_error, span_excess, quotient_error, cut_error}
use Rattle.bound.proofs.Numbers.{Num, Exact, num_weaken, num_itself, zero_is, whole_is, lt_yes, lt_no, le_yes, le_no}
use Rattle.bound.proofs.OneCell.{size_of}
use Rattle.bound.proofs.Products.{approx_weaken, approx_exact, approx_rounds, quotient, part, part_is, part_lo, part_hi, cut_in, cut_out, rest_lo, rest_hi}
use Rattle.bound.proofs.Inside.{weaken, inside_adds}

module _ (w : ℕ) (small : w ≤ 4096) where
  abbrev W : Float
  W = of_whole w

  W-is : Exact (natᶠ w) W
  W-is = whole_is w (omega (arith, small))

  -- ---- the cases of a clip
  module _ (onward : Float → Float → Float → List Entry) (lo hi a : Float) (L : Exact (val lo) lo) (H : Exact (val hi) hi) (Q : List Entry → Type 0) where
    abbrev outside : Float
    outside = lo ⊘ (lo ⊖ hi)

    clip_cases : (natᶠ w ≤ᶠ val lo → Q [])
        → (val hi ≤ᶠ natᶠ 0 → Q (entry 0 a ∷ []))
        → (natᶠ 0 <ᶠ val hi → val lo <ᶠ natᶠ 0 → Q (entry 0 (a ⊗ outside) ∷ onward f0 hi (a ⊗ (f1 ⊖ outside))))
        → (val lo <ᶠ natᶠ w → natᶠ 0 ≤ᶠ val lo → natᶠ w <ᶠ val hi → Q (onward lo W (a ⊗ ((W ⊖ lo) ⊘ (hi ⊖ lo)))))
        → (natᶠ 0 ≤ᶠ val lo → val hi ≤ᶠ natᶠ w → Q (inside_e lo hi a))
        → Q (clip_e W onward lo hi a)
    unfolding clip_e
    clip_cases k1 k2 k3 k4 k5 =
        go (le W lo) (le hi f0) (lt lo f0) (lt W hi) (le_yes W-is L) (le_no W-is L) (le_yes H zero_is) (le_no H zero_is) (lt_yes L zero_is) (lt_no L zero_is) (lt_yes W-is H) (lt_no W-is H)
      where
        go : (b1 b2 b3 b4 : Bool) → (T b1 → natᶠ w ≤ᶠ val lo) → (T (not b1) → val lo <ᶠ natᶠ w) → (T b2 → val hi ≤ᶠ natᶠ 0) → (T (not b2) → natᶠ 0 <ᶠ val hi)
            → (T b3 → val lo <ᶠ natᶠ 0) → (T (not b3) → natᶠ 0 ≤ᶠ val lo) → (T b4 → natᶠ w <ᶠ val hi) → (T (not b4) → val hi ≤ᶠ natᶠ w)
            → Q (cond b1 [] (cond b2 (entry 0 a ∷ []) (cond b3 (entry 0 (a ⊗ outside) ∷ onward f0 hi (a ⊗ (f1 ⊖ outside)))
            (cond b4 (onward lo W (a ⊗ ((W ⊖ lo) ⊘ (hi ⊖ lo)))) (inside_e lo hi a)))))
        go true b2 b3 b4 f1 g1 f2 g2 f3 g3 f4 g4 = k1 (f1 tt)
        go false true b3 b4 f1 g1 f2 g2 f3 g3 f4 g4 = k2 (f2 tt)
        go false false true b4 f1 g1 f2 g2 f3 g3 f4 g4 = k3 (g2 tt) (f3 tt)
        go false false false true f1 g1 f2 g2 f3 g3 f4 g4 = k4 (g1 tt) (g3 tt) (f4 tt)
        go false false false false f1 g1 f2 g2 f3 g3 f4 g4 = k5 (g3 tt) (g4 tt)

  -- ---- right of the row nothing is added, left of it all
  nothing_adds : (lo hi a : Float) (m : ℕ) (e d : Fraction) → natᶠ 0 ≤ᶠ e → natᶠ 0 ≤ᶠ d → val lo ≤ᶠ val hi → natᶠ w ≤ᶠ val lo → Adds w m [] (val lo) (val hi) (val a) e d
  unfolding prefix total
  nothing_adds lo hi a m e d e0 d0 order right = record {
    fine = tt;
    near = λ c k.
        let z : natᶠ (suc c) ≤ᶠ val lo = trans (nat_le k) right in
        let g = G-right c (val lo) (val hi) z (trans z order) in
        near_to (sym≈ (trans≈ (mul_cong (val a) g) (trans≈ (mul_comm (val a) (natᶠ 0)) (zero_mul (val a))))) (near_weaken (near_refl (natᶠ 0)) e0);
    size = over (natᶠ 0 ∷ absᶠ (val a) ∷ d ∷ []) (λ N n O A D. le_at N O (add_at N A D) n (omega (arith, O.is, at_le N O A (abs_nonneg (val a)), at_le N O D d0)));
    few = λ i. omega arith;
    from = λ k p q. tt;
  }

  all_adds : (lo hi a : Float) (m : ℕ) (b e d : Fraction) → 1 ≤ m → Num a b → natᶠ 0 ≤ᶠ e → natᶠ 0 ≤ᶠ d → val lo ≤ᶠ val hi → val hi ≤ᶠ natᶠ 0 → Adds w m (entry 0 a ∷ []) (val lo) (val hi) (val a) e d
  unfolding prefix total
  all_adds lo hi a m b e d m1 A e0 d0 order left = record {
    fine = (A.fine, A.held, tt);
    near = λ c k.
        let z : val hi ≤ᶠ natᶠ c = trans left (nat_le {m = 0} {n = c} (omega arith)) in
        let g = G-left c (val lo) (val hi) (trans order z) z in
        let p = trans≈ (cong_add (pick_in 0 (suc c) (val a) (omega arith)) (refl≈ _)) (plus_none (val a)) in
        near_same (sym≈ p) (near_to (sym≈ (trans≈ (mul_cong (val a) g) (mul_one (val a)))) (near_weaken (near_refl (val a)) e0));
    size = over (natᶠ 0 ∷ absᶠ (val a) ∷ d ∷ []) (λ N n O X D. le_at N (add_at N X O) (add_at N X D) n (omega (arith, O.is, at_le N O D d0)));
    few = λ i. let k = rising_once i 0 (entry 0 a ∷ []) (le_refl 0, tt) in omega (arith, k, m1);
    from = λ k p q. (none k (trans q left), tt);
  }
    where
      none : (k : ℕ) → natᶠ k ≤ᶠ natᶠ 0 → k ≤ 0
      none k h = omega (arith, h.le)

  -- the ends the other way round
  turn : {m : ℕ} {L : List Entry} {x y a e d : Fraction} → Adds w m L x y a e d → Adds w m L y x a e d
  turn {x = x} {y = y} {a = a} h = record { fine = h.fine; near = λ c k. near_to (mul_cong a (G-sym c x y)) (h.near c k); size = h.size; few = h.few; from = λ k p q. h.from k q p }

  -- of a piece clipped
  abbrev Clipped : ℕ → ℕ → Float → Float → Float → Fraction → Fraction → Type 0
  Clipped n m lo hi a e d = Adds w m (clip_e W (span_e w n) lo hi a) (val lo) (val hi) (val a) e d

  sorted : (n m : ℕ) (xa xb a : Float) (e d : Fraction) → Exact (val xa) xa → Exact (val xb) xb
      → (val xa ≤ᶠ val xb → Clipped n m xa xb a e d) → (val xb ≤ᶠ val xa → Clipped n m xb xa a e d)
      → Adds w m (span_e w (suc n) xa xb a) (val xa) (val xb) (val a) e d
  unfolding span_e
  sorted n m xa xb a e d p q f g = go (le xa xb) (le_yes p q) (λ t. of_lt (le_no p q t))
    where
      go : (b : Bool) → (T b → val xa ≤ᶠ val xb) → (T (not b) → val xb ≤ᶠ val xa) → Adds w m (clip_e W (span_e w n) (cond b xa xb) (cond b xb xa) a) (val xa) (val xb) (val a) e d
      go true h k = f (h tt)
      go false h k = turn (g (k tt))

  -- ---- both ends in the row
  level0 : (n : ℕ) (xa xb a : Float) → Num xa (natᶠ 4096) → Num xb (natᶠ 4096) → Num a cut_twice → natᶠ 0 ≤ᶠ val xa → natᶠ 0 ≤ᶠ val xb → val xa ≤ᶠ natᶠ w → val xb ≤ᶠ natᶠ w
      → Adds w 1 (span_e w (suc n) xa xb a) (val xa) (val xb) (val a) inside_error inside_excess
  level0 n xa xb a X Y A x0 y0 x1 y1 = sorted n 1 xa xb a inside_error inside_excess (num_itself X) (num_itself Y) (clip xa xb X Y x0 y1) (clip xb xa Y X y0 x1)
    where
      clip : (lo hi : Float) → Num lo (natᶠ 4096) → Num hi (natᶠ 4096) → natᶠ 0 ≤ᶠ val lo → val hi ≤ᶠ natᶠ w → val lo ≤ᶠ val hi
          → Clipped n 1 lo hi a inside_error inside_excess
      clip lo hi L H z k order = clip_cases (span_e w n) lo hi a (num_itself L) (num_itself H) (λ (l : List Entry). Adds w 1 l (val lo) (val hi) (val a) inside_error inside_excess)
          (nothing_adds lo hi a 1 inside_error inside_excess (lit tt) (lit tt) order)
          (all_adds lo hi a 1 cut_twice inside_error inside_excess (le_refl 1) A (lit tt) (lit tt) order)
          (λ p q. absurd (over (val lo ∷ natᶠ 0 ∷ []) (λ N m X O. omega (arith, at_le N O X z, at_lt N X O m q))))
          (λ p q s. absurd (over (val hi ∷ natᶠ w ∷ []) (λ N m X O. omega (arith, at_le N X O k, at_lt N O X m s))))
          (λ p q. inside_adds w lo hi a L H A z order)

  -- ---- a cut at the right
  by_part : {x y g e : Fraction} → natᶠ 0 ≤ᶠ g → g ≤ᶠ natᶠ 1 → natᶠ 0 ≤ᶠ e → Near x y e → Near (x *ᶠ g) (y *ᶠ g) e
  by_part {x} {y} {g} {e} p q z h = near_same (mul_comm g x) (near_to (mul_comm g y) (near_weaken (near_by h (within_weaken (within_self p) q)) (of_eq (trans≈ (mul_comm (natᶠ 1) e) (mul_one e)))))

  -- a number from 0 to the width
  in_row : (v : Float) {b : Fraction} → Num v b → natᶠ 0 ≤ᶠ val v → val v ≤ᶠ natᶠ w → Num v (natᶠ 4096)
  in_row v h p q = record { fine = h.fine; held = h.held; within = within_weaken (within_self p) (trans q (record { le = omega (arith, small) })) }

  W-num : Num W (natᶠ 4096)
  W-num = record { fine = W-is.fine; held = W-is.held; within = within_same (sym≈ W-is.eq) (within_weaken (within_self (record { le = omega arith })) (record { le = omega (arith, small) })) }

  module _ (n : ℕ) (lo hi a : Float) (L : Num lo (natᶠ 4097)) (H : Num hi (natᶠ 4097)) (A : Num a cut_once) (z : natᶠ 0 ≤ᶠ val lo) (lo<w : val lo <ᶠ natᶠ w) (w<hi : natᶠ w <ᶠ val hi) where
    abbrev i_d : Fraction
    i_d = val hi -ᶠ val lo

    abbrev i_n : Fraction
    i_n = natᶠ w -ᶠ val lo

    i_d0 : natᶠ 0 <ᶠ i_d
    i_d0 = over (val lo ∷ val hi ∷ natᶠ w ∷ natᶠ 0 ∷ []) (λ N m X Y Z O. lt_at N O (sub_at N Y X) (omega (arith, O.is, at_lt N X Z m lo<w, at_lt N Z Y m w<hi)))

    i_n0 : natᶠ 0 ≤ᶠ i_n
    i_n0 = over (val lo ∷ natᶠ w ∷ natᶠ 0 ∷ []) (λ N m X Z O. le_at N O (sub_at N Z X) m (omega (arith, O.is, at_lt N X Z m lo<w)))

    i_nd : i_n ≤ᶠ i_d
    i_nd = over (val lo ∷ val hi ∷ natᶠ w ∷ []) (λ N m X Y Z. le_at N (sub_at N Z X) (sub_at N Y X) m (omega (arith, at_lt N Z Y m w<hi)))

    abbrev I : Fraction
    I = part i_n i_d i_n0 i_d0 i_nd

    I0 : natᶠ 0 ≤ᶠ I
    I0 = part_lo i_n i_d i_n0 i_d0 i_nd

    I1 : I ≤ᶠ natᶠ 1
    I1 = part_hi i_n i_d i_n0 i_d0 i_nd

    L' : Num lo (natᶠ 4096)
    L' = in_row lo L z (of_lt lo<w)

    num_ok : Rounds binary32 (natᶠ 0) i_n (W ⊖ lo)
    num_ok = let q : val W -ᶠ val lo ≈ᶠ i_n = cong_sub W-is.eq (refl≈ _) in
        rounds_same q (sub_rounds binary32 W lo W-is.fine L.fine (W-is.held) L.held (within_weaken (within_sub W-num.within L.within) (unfold ◌+ᶠ◌ in lit tt)))

    den_ok : Rounds binary32 (natᶠ 0) i_d (hi ⊖ lo)
    den_ok = sub_rounds binary32 hi lo H.fine L.fine H.held L.held (within_weaken (within_sub H.within L.within) (unfold ◌+ᶠ◌ in lit tt))

    abbrev i' : Float
    i' = (W ⊖ lo) ⊘ (hi ⊖ lo)

    i_ok : Known binary32 i' I (natᶠ 1) quotient_error
    i_ok = quotient (approx_rounds num_ok (sub-fits binary32 W lo)) (approx_rounds den_ok (sub-fits binary32 hi lo)) (above_not i_d0) (part_is i_n i_d i_n0 i_d0 i_nd)
        (within_weaken (within_self I0) I1)

    abbrev a' : Float
    a' = a ⊗ i'

    a_ok : T (finite a') × Near (val a') (val a *ᶠ I) cut_error
    a_ok = cut_in (num_weaken (lit tt) A) i_ok I0 I1

    a_num : Num a' cut_twice
    a_num =
        let near = within_near a_ok.1 (within_mul A.within (within_weaken (within_self I0) I1)) in
        record { fine = a_ok.0; held = mul-fits binary32 a i'; within = within_weaken near (unfold ◌+ᶠ◌ ◌*ᶠ◌ in lit tt) }

    inner : Adds w 1 (span_e w (suc n) lo W a') (val lo) (val W) (val a') inside_error inside_excess
    inner = level0 n lo W a' L' W-num a_num z (trans (record { le = omega arith }) (of_eq (sym≈ W-is.eq))) (of_lt lo<w) (of_eq W-is.eq)

    right_adds : Adds w 1 (span_e w (suc n) lo W a') (val lo) (val hi) (val a) right_error right_excess
    right_adds = record {
      fine = inner.fine;
      near = λ c k.
          let g = G c (val lo) (natᶠ w) in
          let range = G-range c (val lo) (natᶠ w) in
          let cut = near_to (mul_cong (val a') (G-cong c (refl≈ _) W-is.eq)) (inner.near c k) in
          near_to (trans≈ (mul_assoc (val a) I g) (mul_cong (val a) (sym≈ (G-cut-right c w (val lo) (val hi) I k lo<w w<hi (part_is i_n i_d i_n0 i_d0 i_nd)))))
          (near_weaken (near_trans cut (by_part range.0 range.1 (lit tt) a_ok.1)) (unfold ◌+ᶠ◌ in lit tt));
      size =
          let B = absᶠ (val a) in
          over (total (span_e w (suc n) lo W a') ∷ absᶠ (val a') ∷ B ∷ B *ᶠ I ∷ inside_excess ∷ right_excess ∷ cut_error ∷ []) (λ N m X Y Z U d D e.
          le_at N X (add_at N Z D) m (omega (
            arith,
            d.is,
            D.is,
            e.is,
            at_le N X (add_at N Y d) inner.size,
            at_le N Y (add_at N U e) (size_of (val a) I I0 a_ok.1),
            at_le N U Z (trans (mul_mono (abs_nonneg (val a)) I1) (of_eq (mul_one B))),
          )));
      few = inner.few;
      from = λ k p q. inner.from k p (trans p (trans (of_lt lo<w) (of_eq (sym≈ W-is.eq))));
    }

  -- ---- no end left of the row
  level1 : (n : ℕ) (xa xb a : Float) → Num xa (natᶠ 4097) → Num xb (natᶠ 4097) → Num a cut_once → natᶠ 0 ≤ᶠ val xa → natᶠ 0 ≤ᶠ val xb
      → Adds w 1 (span_e w (suc (suc n)) xa xb a) (val xa) (val xb) (val a) right_error right_excess
  level1 n xa xb a X Y A x0 y0 = sorted (suc n) 1 xa xb a right_error right_excess (num_itself X) (num_itself Y) (clip xa xb X Y x0) (clip xb xa Y X y0)
    where
      clip : (lo hi : Float) → Num lo (natᶠ 4097) → Num hi (natᶠ 4097) → natᶠ 0 ≤ᶠ val lo → val lo ≤ᶠ val hi → Clipped (suc n) 1 lo hi a right_error right_excess
      clip lo hi L H z order = clip_cases (span_e w (suc n)) lo hi a (num_itself L) (num_itself H) (λ (l : List Entry). Adds w 1 l (val lo) (val hi) (val a) right_error right_excess)
          (nothing_adds lo hi a 1 right_error right_excess (lit tt) (lit tt) order)
          (all_adds lo hi a 1 cut_once right_error right_excess (le_refl 1) A (lit tt) (lit tt) order)
          (λ p q. absurd (over (val lo ∷ natᶠ 0 ∷ []) (λ N m X O. omega (arith, at_le N O X z, at_lt N X O m q))))
          (λ p q s. right_adds n lo hi a L H A q p s)
          (λ p q. weaken (lit tt) (lit tt) (inside_adds w lo hi a (in_row lo L z (trans order q)) (in_row hi H (trans z order) q) (num_weaken (lit tt) A) z order))

  -- ---- a cut at the left
  module _ (n : ℕ) (lo hi a : Float) (L : Num lo (natᶠ 4097)) (H : Num hi (natᶠ 4097)) (A : Num a (natᶠ 1)) (lo<0 : val lo <ᶠ natᶠ 0) (0<hi : natᶠ 0 <ᶠ val hi) where
    abbrev o_d : Fraction
    o_d = val hi -ᶠ val lo

    abbrev o_n : Fraction
    o_n = negᶠ (val lo)

    o_d0 : natᶠ 0 <ᶠ o_d
    o_d0 = over (val lo ∷ val hi ∷ natᶠ 0 ∷ []) (λ N m X Y O. lt_at N O (sub_at N Y X) (omega (arith, O.is, at_lt N X O m lo<0, at_lt N O Y m 0<hi)))

    o_n0 : natᶠ 0 ≤ᶠ o_n
    o_n0 = over (val lo ∷ natᶠ 0 ∷ []) (λ N m X O. le_at N O (neg_at N X) m (omega (arith, O.is, at_lt N X O m lo<0)))

    o_nd : o_n ≤ᶠ o_d
    o_nd = over (val lo ∷ val hi ∷ natᶠ 0 ∷ []) (λ N m X Y O. le_at N (neg_at N X) (sub_at N Y X) m (omega (arith, O.is, at_lt N O Y m 0<hi)))

    abbrev O : Fraction
    O = part o_n o_d o_n0 o_d0 o_nd

    O0 : natᶠ 0 ≤ᶠ O
    O0 = part_lo o_n o_d o_n0 o_d0 o_nd

    O1 : O ≤ᶠ natᶠ 1
    O1 = part_hi o_n o_d o_n0 o_d0 o_nd

    turned : O *ᶠ (val lo -ᶠ val hi) ≈ᶠ val lo
    turned = let ρ = O ∷ val lo ∷ val hi ∷ [] in let R = reps ρ in
        let m = ring ρ {x = O *ᶠ (val lo -ᶠ val hi)} {y = negᶠ (O *ᶠ (val hi -ᶠ val lo))} (search rep depth 7) (search rep depth 7) tt in
        over (O *ᶠ (val lo -ᶠ val hi) ∷ O *ᶠ o_d ∷ val lo ∷ []) (λ N k X Y Z. eq_at N X Z k (omega (arith, at_eq N X (neg_at N Y) m, at_eq N Y (neg_at N Z) (part_is o_n o_d o_n0 o_d0 o_nd))))

    below_zero : ¬ (val lo -ᶠ val hi ≈ᶠ natᶠ 0)
    below_zero e = over (val lo ∷ val hi ∷ natᶠ 0 ∷ []) (λ N m X Y O. omega (arith, O.is, at_eq N (sub_at N X Y) O e, at_lt N X O m lo<0, at_lt N O Y m 0<hi))

    den⁻ : Rounds binary32 (natᶠ 0) (val lo -ᶠ val hi) (lo ⊖ hi)
    den⁻ = sub_rounds binary32 lo hi L.fine H.fine L.held H.held (within_weaken (within_sub L.within H.within) (unfold ◌+ᶠ◌ in lit tt))

    abbrev o' : Float
    o' = lo ⊘ (lo ⊖ hi)

    o_ok : Known binary32 o' O (natᶠ 1) quotient_error
    o_ok = quotient (approx_weaken (lit tt) (lit tt) (approx_exact (num_itself L)))
        (approx_rounds den⁻ (sub-fits binary32 lo hi)) below_zero turned (within_weaken (within_self O0) O1)

    abbrev a0 : Float
    a0 = a ⊗ o'

    abbrev a'' : Float
    a'' = a ⊗ (f1 ⊖ o')

    A⁺ : Num a cut_twice
    A⁺ = num_weaken (lit tt) A

    a0_ok : T (finite a0) × Near (val a0) (val a *ᶠ O) cut_error
    a0_ok = cut_in A⁺ o_ok O0 O1

    a''_ok : T (finite a'') × Near (val a'') (val a *ᶠ (natᶠ 1 -ᶠ O)) cut_error
    a''_ok = cut_out A⁺ o_ok O0 O1

    R0 : natᶠ 0 ≤ᶠ natᶠ 1 -ᶠ O
    R0 = rest_lo A⁺ o_ok O0 O1

    R1 : natᶠ 1 -ᶠ O ≤ᶠ natᶠ 1
    R1 = rest_hi A⁺ o_ok O0 O1

    a''_num : Num a'' cut_once
    a''_num =
        let near = within_near a''_ok.1 (within_mul A.within (within_weaken (within_self R0) R1)) in
        record { fine = a''_ok.0; held = mul-fits binary32 a (f1 ⊖ o'); within = within_weaken near (unfold ◌+ᶠ◌ ◌*ᶠ◌ in lit tt) }

    zero_num : Num f0 (natᶠ 4097)
    zero_num = record { fine = zero_is.fine; held = zero_is.held; within = within_same (sym≈ zero_is.eq) (within_weaken (within_self (lit tt)) (lit tt)) }

    rest : Adds w 1 (span_e w (suc (suc n)) f0 hi a'') (val f0) (val hi) (val a'') right_error right_excess
    rest = level1 n f0 hi a'' zero_num H a''_num (of_eq (sym≈ zero_is.eq)) (of_lt 0<hi)

    left_adds : Adds w 2 (entry 0 a0 ∷ span_e w (suc (suc n)) f0 hi a'') (val lo) (val hi) (val a) span_error span_excess
    unfolding prefix total
    left_adds = record {
      fine = (a0_ok.0, mul-fits binary32 a o', rest.fine);
      near = λ c k.
          let g = G c (natᶠ 0) (val hi) in
          let ρ = val a ∷ O ∷ g ∷ [] in
          let P = reps ρ in
          let sum = ring ρ {x = val a *ᶠ O +ᶠ val a *ᶠ (natᶠ 1 -ᶠ O) *ᶠ g} {y = val a *ᶠ (O +ᶠ (natᶠ 1 -ᶠ O) *ᶠ g)} (search rep depth 9) (search rep depth 9) tt in
          let exact = G-cut-left c (val lo) (val hi) O lo<0 0<hi (part_is o_n o_d o_n0 o_d0 o_nd) in
          let range = G-range c (natᶠ 0) (val hi) in
          let cut = near_to (mul_cong (val a'') (G-cong c zero_is.eq (refl≈ _))) (rest.near c k) in
          let both = near_add a0_ok.1 (near_trans cut (by_part range.0 range.1 (lit tt) a''_ok.1)) in
          near_same (cong_add (sym≈ (pick_in 0 (suc c) (val a0) (omega arith))) (refl≈ _))
          (near_to (trans≈ sum (mul_cong (val a) (sym≈ exact))) (near_weaken both (unfold ◌+ᶠ◌ in lit tt)));
      size =
          let B = absᶠ (val a) in
          let ρ = B ∷ O ∷ [] in
          let P = reps ρ in
          let sum = ring ρ {x = B *ᶠ O +ᶠ B *ᶠ (natᶠ 1 -ᶠ O)} {y = B} (search rep depth 9) (search rep depth 9) tt in
          over (absᶠ (val a0) ∷ total (span_e w (suc (suc n)) f0 hi a'') ∷ absᶠ (val a'') ∷ B ∷ B *ᶠ O ∷ B *ᶠ (natᶠ 1 -ᶠ O) ∷ right_excess ∷ span_excess ∷ cut_error ∷ []) (λ N m x t y b p q d D e.
          le_at N (add_at N x t) (add_at N b D) m (omega (
            arith,
            d.is,
            D.is,
            e.is,
            at_le N x (add_at N p e) (size_of (val a) O O0 a0_ok.1),
            at_le N t (add_at N y d) rest.size,
            at_le N y (add_at N q e) (size_of (val a) (natᶠ 1 -ᶠ O) R0 a''_ok.1),
            at_eq N (add_at N p q) b sum,
          )));
      few = λ i. first i (rest.few i);
      from = λ k p q. absurd (over (natᶠ k ∷ val lo ∷ natᶠ 0 ∷ []) (λ N m X Y Z. omega (arith, X.is, Z.is, at_le N X Y p, at_lt N Y Z m lo<0)));
    }
      where
        first : (i : ℕ) → count (here i) (span_e w (suc (suc n)) f0 hi a'') ≤ 1 → cond (eqb 0 i) 1 0 + count (here i) (span_e w (suc (suc n)) f0 hi a'') ≤ 2
        first i h = go (eqb 0 i)
          where
            go : (b : Bool) → cond b 1 0 + count (here i) (span_e w (suc (suc n)) f0 hi a'') ≤ 2
            go true = omega (arith, h)
            go false = omega (arith, h)

  -- ---- THE THEOREM: any two ends
  looser : {L : List Entry} {x y a e d : Fraction} → Adds w 1 L x y a e d → Adds w 2 L x y a e d
  looser h = record { fine = h.fine; near = h.near; size = h.size; few = λ i. let k = h.few i in omega (arith, k); from = h.from }

  pub span_adds : (n : ℕ) (xa xb a : Float) → Num xa (natᶠ 4097) → Num xb (natᶠ 4097) → Num a (natᶠ 1) → Adds w 2 (span_e w (suc (suc (suc n))) xa xb a) (val xa) (val xb) (val a) span_error span_excess
  span_adds n xa xb a X Y A = sorted (suc (suc n)) 2 xa xb a span_error span_excess (num_itself X) (num_itself Y) (clip xa xb X Y) (clip xb xa Y X)
    where
      clip : (lo hi : Float) → Num lo (natᶠ 4097) → Num hi (natᶠ 4097) → val lo ≤ᶠ val hi → Clipped (suc (suc n)) 2 lo hi a span_error span_excess
      clip lo hi L H order = clip_cases (span_e w (suc (suc n))) lo hi a (num_itself L) (num_itself H) (λ (l : List Entry). Adds w 2 l (val lo) (val hi) (val a) span_error span_excess)
          (nothing_adds lo hi a 2 span_error span_excess (lit tt) (lit tt) order)
          (all_adds lo hi a 2 (natᶠ 1) span_error span_excess (omega arith) A (lit tt) (lit tt) order)
          (λ p q. left_adds n lo hi a L H A q p)
          (λ p q s. weaken (lit tt) (lit tt) (looser (right_adds (suc n) lo hi a L H (num_weaken (lit tt) A) q p s)))
          (λ p q. weaken (lit tt) (lit tt) (looser (inside_adds w lo hi a (in_row lo L p (trans order q)) (in_row hi H (trans p order) q) (num_weaken (lit tt) A) p order)))
