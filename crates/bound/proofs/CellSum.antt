-- What one cell holds after its entries, against their exact sum. Each addition is rounded; n entries of a size S
-- together are off by at most 2 ^ -23 of n * S. Assumes nothing.
use mathlib.Core.Path.{◌≡◌, subst}
use mathlib.Core.List.{List, [], ◌∷◌, ◌++◌}
use mathlib.Core.Bool.{Bool, true, false, not, cond}
use Prim.Native.Nat.{ℕ, suc, ◌+◌, ◌^◌, ◌≤◌}
use native.Mathlib.Omega.{arith}
use lib.Dec.{T}
use lib.Ieee.{Float, binary32, emax, fits, eq, ne}
use lib.Ieee.Fits.{add-fits}
use lib.Ieee.Scale.{finite}
use Rattle.fraction.specs.Fraction.{Fraction, ◌≤ᶠ◌, ◌≈ᶠ◌, natᶠ, ◌+ᶠ◌, ◌*ᶠ◌, absᶠ, Near, Within}
use Rattle.fraction.proofs.Linear.{at, at_le, at_eq, le_at, eq_at, add_at, neg_at, scale_at, over, trans, lit}
use Rattle.fraction.proofs.Order.{of_eq, sym≈, trans≈, refl≈, mul_mono, mul_mono_right, mul_cong, one_more, nat_le}
use Rattle.fraction.proofs.Near.{near_weaken, within_add, within_same, within_weaken}
use Rattle.fraction.proofs.Abs.{abs_nonneg, within_abs}
use Rattle.rounding.specs.Value.{val, roundoff}
use Rattle.rounding.proofs.Round.{near_to, sum_near}
use Rattle.rounding.proofs.Ops.{add_rounds}
use Rattle.float.specs.Ops.{◌⊕◌, f0}
use Rattle.bound.proofs.Adds.{entry_part}
use Rattle.bound.proofs.Entries.{Entry, Fine, pick, tally, count, worth, size, here, plus_none, tally_nonneg, bump, area}
use Rattle.bound.proofs.Numbers.{itself, zero_is, eq_yes}

-- what is known of a cell: its float a, the exact sum s, the sum S of sizes, the number n of entries
pub record Holds (a : Float) (s S : Fraction) (n : ℕ) : Type 0 where
  pub fine : T (finite a)
  pub held : T (fits binary32 a)
  pub near : Near (val a) s (entry_part *ᶠ (natᶠ n *ᶠ S))
  pub size : Within s S

pub within_nonneg : {s S : Fraction} → Within s S → natᶠ 0 ≤ᶠ S
within_nonneg {s} {S} w = over (s ∷ S ∷ natᶠ 0 ∷ []) (λ N n X Y O. le_at N O Y n (omega (arith, O.is, at_le N (neg_at N Y) X w.lo, at_le N X Y w.hi)))

-- ---- one entry more
module _ (a f : Float) (s S : Fraction) (n : ℕ) (h : Holds a s S n) (p : T (finite f)) (q : T (fits binary32 f)) (l : n ≤ 4096) (top : S +ᶠ absᶠ (val f) ≤ᶠ natᶠ (2 ^ 20)) where
  F0 : natᶠ 0 ≤ᶠ absᶠ (val f)
  F0 = abs_nonneg (val f)

  S0 : natᶠ 0 ≤ᶠ S
  S0 = within_nonneg h.size

  S≤ : S ≤ᶠ S +ᶠ absᶠ (val f)
  S≤ = over (S ∷ absᶠ (val f) ∷ natᶠ 0 ∷ []) (λ N m X Y O. le_at N X (add_at N X Y) m (omega (arith, O.is, at_le N O Y F0)))

  S'0 : natᶠ 0 ≤ᶠ S +ᶠ absᶠ (val f)
  S'0 = trans S0 S≤

  grown : natᶠ n *ᶠ S ≤ᶠ natᶠ n *ᶠ (S +ᶠ absᶠ (val f))
  grown = mul_mono (nat_le {m = 0} {n = n} (omega arith)) S≤

  few : natᶠ n *ᶠ (S +ᶠ absᶠ (val f)) ≤ᶠ natᶠ 4096 *ᶠ (S +ᶠ absᶠ (val f))
  few = mul_mono_right S'0 (nat_le l)

  size_more : Within (s +ᶠ val f) (S +ᶠ absᶠ (val f))
  size_more = within_add h.size (within_abs (val f))

  abbrev sums : List Fraction
  sums = val a ∷ val f ∷ s ∷ S ∷ absᶠ (val f) ∷ natᶠ n *ᶠ S ∷ natᶠ n *ᶠ (S +ᶠ absᶠ (val f)) ∷ []

  -- the exact sum before the rounding is at most twice the sizes
  wide : Within (val a +ᶠ val f) (S +ᶠ absᶠ (val f) +ᶠ (S +ᶠ absᶠ (val f)))
  wide = over (sums ++ (natᶠ 4096 *ᶠ (S +ᶠ absᶠ (val f)) ∷ entry_part *ᶠ (natᶠ n *ᶠ S) ∷ natᶠ 0 ∷ [])) (λ N m A f' s' X Y P P' M E O.
      let e = scale_at N entry_part P E in
      let k = scale_at N (natᶠ 4096) (add_at N X Y) M in
      let g = at_le N P P' grown in
      let g' = at_le N P' M few in
      let o = at_le N O (add_at N X Y) S'0 in
      record {
        lo = le_at N (search at) (search at) m (omega (arith, O.is, e, k, g, g', o, at_le N (search at) (search at) h.near.lo, at_le N (search at) (search at) size_more.lo));
        hi = le_at N (search at) (search at) m (omega (arith, O.is, e, k, g, g', o, at_le N (search at) (search at) h.near.hi, at_le N (search at) (search at) size_more.hi));
      })

  small : S +ᶠ absᶠ (val f) +ᶠ (S +ᶠ absᶠ (val f)) ≤ᶠ natᶠ (2 ^ emax binary32)
  small = trans {y = natᶠ (2 ^ 21)} (over (S ∷ absᶠ (val f) ∷ natᶠ (2 ^ 20) ∷ natᶠ (2 ^ 21) ∷ []) (λ N m X Y T B.
      le_at N (search at) (search at) m (omega (arith, T.is, B.is, at_le N (add_at N X Y) T top)))) (lit tt)

  pub one_entry : Holds (a ⊕ f) (s +ᶠ val f) (S +ᶠ absᶠ (val f)) (suc n)
  one_entry =
      let R = add_rounds binary32 a f h.fine p h.held q (within_weaken wide small) in
      let r = sum_near R wide in
      let more = natᶠ (suc n) *ᶠ (S +ᶠ absᶠ (val f)) in
      record {
        fine = R.fine;
        held = add-fits binary32 a f;
        size = size_more;
        near = over (val (a ⊕ f) ∷ sums ++ (more ∷ entry_part *ᶠ (natᶠ n *ᶠ S) ∷ entry_part *ᶠ more ∷ roundoff binary32 *ᶠ (S +ᶠ absᶠ (val f) +ᶠ (S +ᶠ absᶠ (val f))) ∷ []))
            (λ N m Z A f' s' X Y P P' Q E E' U.
            let e = scale_at N entry_part P E in
            let e' = scale_at N entry_part Q E' in
            let u = scale_at N (roundoff binary32) (add_at N (add_at N X Y) (add_at N X Y)) U in
            let g = at_le N P P' grown in
            let j = at_eq N Q (add_at N P' (add_at N X Y)) (one_more n (S +ᶠ absᶠ (val f))) in
            record {
              lo = le_at N (search at) (search at) m (omega (arith, e, e', u, g, j, at_le N (search at) (search at) h.near.lo, at_le N (search at) (search at) r.lo));
              hi = le_at N (search at) (search at) m (omega (arith, e, e', u, g, j, at_le N (search at) (search at) h.near.hi, at_le N (search at) (search at) r.hi));
            });
      }

-- an entry of 0 is passed over: its value is 0
module _ (a f : Float) (s S : Fraction) (n : ℕ) (h : Holds a s S n) (z : val f ≈ᶠ natᶠ 0) where
  pub no_entry : Holds a (s +ᶠ val f) (S +ᶠ absᶠ (val f)) (suc n)
  no_entry =
      let F0 = abs_nonneg (val f) in
      let up = over (S ∷ absᶠ (val f) ∷ natᶠ 0 ∷ []) {G = S ≤ᶠ S +ᶠ absᶠ (val f)} (λ N m X Y O. le_at N X (add_at N X Y) m (omega (arith, O.is, at_le N O Y F0))) in
      let grown = mul_mono {x = natᶠ n} (nat_le {m = 0} {n = n} (omega arith)) up in
      let j = one_more n (S +ᶠ absᶠ (val f)) in
      let S0 = within_nonneg h.size in
      let more = natᶠ (suc n) *ᶠ (S +ᶠ absᶠ (val f)) in
      let sums = val a ∷ val f ∷ s ∷ S ∷ absᶠ (val f) ∷ natᶠ n *ᶠ S ∷ natᶠ n *ᶠ (S +ᶠ absᶠ (val f)) ∷ more ∷ [] in
      record {
        fine = h.fine;
        held = h.held;
        size = within_add h.size (within_abs (val f));
        near = over (sums ++ (entry_part *ᶠ (natᶠ n *ᶠ S) ∷ entry_part *ᶠ more ∷ natᶠ 0 ∷ []))
            (λ N m A f' s' X Y P P' Q E E' O.
            let e = scale_at N entry_part P E in
            let e' = scale_at N entry_part Q E' in
            let g = at_le N P P' grown in
            let k = at_eq N Q (add_at N P' (add_at N X Y)) j in
            let y = at_le N O Y F0 in
            let x = at_le N O X S0 in
            let w = at_eq N f' O z in
            record {
              lo = le_at N (search at) (search at) m (omega (arith, O.is, e, e', g, k, y, x, w, at_le N (search at) (search at) h.near.lo));
              hi = le_at N (search at) (search at) m (omega (arith, O.is, e, e', g, k, y, x, w, at_le N (search at) (search at) h.near.hi));
            });
      }

-- ---- another way to write s, S and n
pub holds_same : {a : Float} {s S s' S' : Fraction} {n n' : ℕ} → s ≈ᶠ s' → S ≈ᶠ S' → n ≡ n' → Holds a s S n → Holds a s' S' n'
holds_same {a} {s} {S} {s'} {S'} {n} {n'} p q r h =
    let k = trans≈ (mul_cong (natᶠ n) q) (subst (λ (z : ℕ). natᶠ n *ᶠ S' ≈ᶠ natᶠ z *ᶠ S') r (refl≈ (natᶠ n *ᶠ S'))) in
    record {
      fine = h.fine;
      held = h.held;
      near = near_to p (near_weaken h.near (of_eq (mul_cong entry_part k)));
      size = within_weaken (within_same p h.size) (of_eq q);
    }

zero_of : (f : Float) → T (finite f) → T (fits binary32 f) → T (not (ne f f0)) → val f ≈ᶠ natᶠ 0
unfolding ne
zero_of f p q t = eq_yes (itself f p q) zero_is (unnot (eq f f0) t)
  where
    unnot : (b : Bool) → T (not (not b)) → T b
    unnot true t = tt
    unnot false t = absurd t

-- ---- all entries of a cell
module _ (i : ℕ) where
  step : (b : Bool) (a f : Float) (s S : Fraction) (n : ℕ) → Holds a s S n → T (finite f) → T (fits binary32 f) → n ≤ 4096 → S +ᶠ pick b (absᶠ (val f)) ≤ᶠ natᶠ (2 ^ 20)
      → Holds (bump b a f) (s +ᶠ pick b (val f)) (S +ᶠ pick b (absᶠ (val f))) (n + cond b 1 0)
  step true a f s S n h p q l top = go (ne f f0) (zero_of f p q)
    where
      go : (z : Bool) → (T (not z) → val f ≈ᶠ natᶠ 0) → Holds (cond z (a ⊕ f) a) (s +ᶠ val f) (S +ᶠ absᶠ (val f)) (n + 1)
      go true k = holds_same (refl≈ _) (refl≈ _) (omega arith) (one_entry a f s S n h p q l top)
      go false k = holds_same (refl≈ _) (refl≈ _) (omega arith) (no_entry a f s S n h (k tt))
  step false a f s S n h p q l top = holds_same (sym≈ (plus_none s)) (sym≈ (plus_none S)) (omega arith) h

  pub cell_sum : (l : List Entry) (a : Float) (s S : Fraction) (n : ℕ) → Holds a s S n → Fine l → n + count (here i) l ≤ 4096 → S +ᶠ tally size (here i) l ≤ᶠ natᶠ (2 ^ 20)
      → Holds (area i a l) (s +ᶠ tally worth (here i) l) (S +ᶠ tally size (here i) l) (n + count (here i) l)
  cell_sum [] a s S n h f m top = holds_same (sym≈ (plus_none s)) (sym≈ (plus_none S)) (omega arith) h
  cell_sum (e ∷ es) a s S n h f m top =
      let b = here i e in
      let t = tally_nonneg (here i) es in
      let low = over (S ∷ pick b (size e) ∷ tally size (here i) es ∷ natᶠ (2 ^ 20) ∷ natᶠ 0 ∷ []) {G = S +ᶠ pick b (size e) ≤ᶠ natᶠ (2 ^ 20)} (λ N k X Y Z B O.
      le_at N (add_at N X Y) B k (omega (arith, O.is, at_le N O Z t, at_le N (add_at N X (add_at N Y Z)) B top))) in
      holds_same (assoc s (pick b (worth e)) (tally worth (here i) es)) (assoc S (pick b (size e)) (tally size (here i) es)) (omega arith)
      (cell_sum es (bump b a e.amount) (s +ᶠ pick b (worth e)) (S +ᶠ pick b (size e)) (n + cond b 1 0) (step b a e.amount s S n h f.0 f.1 (omega arith) low) f.2 (omega arith)
      (trans (of_eq (assoc S (pick b (size e)) (tally size (here i) es))) top))
    where
      assoc : (x y z : Fraction) → x +ᶠ y +ᶠ z ≈ᶠ x +ᶠ (y +ᶠ z)
      assoc x y z = over (x ∷ y ∷ z ∷ []) (λ N k X Y Z. eq_at N (add_at N (add_at N X Y) Z) (add_at N X (add_at N Y Z)) k (omega arith))
