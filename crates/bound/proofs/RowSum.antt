-- The sum lemma: the edges of a row, each with its entries, its exact part in a cell and whether it counts for that
-- cell; the winding against the sum of the parts. An edge that has no entry at the cell or left of it, and no part in
-- it, need not count. Assumes nothing.
use mathlib.Core.Path.{subst}
use mathlib.Core.List.{List, [], ◌∷◌, ◌++◌}
use mathlib.Core.Bool.{Bool, true, false, not, cond}
use Prim.Native.Nat.{ℕ, suc, ◌+◌, ◌*◌, ◌^◌, ◌≤◌}
use native.Mathlib.Omega.{arith}
use lib.Dec.{T}
use lib.ListN.{length}
use lib.Ieee.{Float, binary32, fits}
use lib.Ieee.Scale.{finite}
use Rattle.fraction.specs.Fraction.{Fraction, ◌≤ᶠ◌, ◌≈ᶠ◌, natᶠ, ◌+ᶠ◌, ◌*ᶠ◌, Near, Within}
use Rattle.fraction.proofs.Linear.{at_le, at_eq, le_at, eq_at, add_at, scale_at, over, trans, lit}
use Rattle.fraction.proofs.Order.{of_eq, refl≈, sym≈, add_mono, mul_mono_right, mul_comm, one_more, zero_mul, nat_le}
use Rattle.fraction.proofs.Near.{near_refl, near_weaken, near_same, near_trans, near_add, within_weaken, within_near}
use Rattle.rounding.specs.Value.{val}
use Rattle.rounding.proofs.Round.{near_to}
use Rattle.float.specs.Ops.{f0}
use Rattle.bound.proofs.Entries.{Entry, Fine, From, pick, tally, count, worth, size, here, before, anywhere, area, number, number_le, sum_over}
use Rattle.bound.proofs.Entries.{tally_within, tally_append, tally_wider, count_append, fine_append, from_none}
use Rattle.bound.proofs.Adds.{edge_error, mass, winding_error, sum_part}
use Rattle.bound.proofs.WindingSum.{wind, winding_near}

-- a count of 0 or 1, times x
pub picked : (b : Bool) (k : ℕ) (x : Fraction) → pick b x +ᶠ natᶠ k *ᶠ x ≈ᶠ natᶠ (cond b 1 0 + k) *ᶠ x
picked true k x = over (x ∷ natᶠ k *ᶠ x ∷ natᶠ (suc k) *ᶠ x ∷ natᶠ (1 + k) *ᶠ x ∷ []) (λ N n X K S R. eq_at N (add_at N X K) R n
    (omega (arith, at_eq N S (add_at N K X) (one_more k x), at_eq N S R (subst (λ (z : ℕ). natᶠ (suc k) *ᶠ x ≈ᶠ natᶠ z *ᶠ x) (omega arith) (refl≈ (natᶠ (suc k) *ᶠ x))))))
picked false k x = over (natᶠ 0 ∷ natᶠ k *ᶠ x ∷ natᶠ (0 + k) *ᶠ x ∷ []) (λ N n O K R. eq_at N (add_at N O K) R n
    (omega (arith, O.is, at_eq N K R (subst (λ (z : ℕ). natᶠ k *ᶠ x ≈ᶠ natᶠ z *ᶠ x) (omega arith) (refl≈ (natᶠ k *ᶠ x))))))

-- a winding w, near the exact x, where k edges count
pub record Winds (w : Float) (x : Fraction) (k : ℕ) : Type 0 where
  pub fine : T (finite w)
  pub held : T (fits binary32 w)
  pub near : Near (val w) x (natᶠ k *ᶠ winding_error)
  pub size : Within (val w) (natᶠ k *ᶠ natᶠ 2)

-- all edges' entries
abbrev pub flat : {E : Type 0} → (E → List Entry) → List E → List Entry
flat entries [] = []
flat entries (e ∷ es) = entries e ++ flat entries es

module _ {E : Type 0} (entries : E → List Entry) (counts : E → Bool) (exact : E → Fraction) (n : ℕ) where
  -- what is asked of an edge, for the cells left of n: the size of its entries, two in a cell at most, and how far they
  -- are off. One that does not count has none there
  pub record Good (e : E) : Type 0 where
    pub fine : Fine (entries e)
    pub twice : (i : ℕ) → count (here i) (entries e) ≤ 2
    pub size : tally size anywhere (entries e) ≤ᶠ mass
    pub near : Near (tally worth (before n) (entries e)) (exact e) edge_error
    pub away : T (not (counts e)) → From n (entries e) × (exact e ≈ᶠ natᶠ 0)

  -- so it weighs nothing left of n where it does not count, and is exact there
  weighs : (e : E) → Good e → tally size (before n) (entries e) ≤ᶠ pick (counts e) mass
  weighs e g = go (counts e) g.away
    where
      go : (b : Bool) → (T (not b) → From n (entries e) × (exact e ≈ᶠ natᶠ 0)) → tally size (before n) (entries e) ≤ᶠ pick b mass
      go true f = trans (tally_wider (before n) anywhere (entries e) (λ x t. tt)) g.size
      go false f = of_eq (from_none size n (entries e) (f tt).0)

  strays : (e : E) → Good e → Near (tally worth (before n) (entries e)) (exact e) (pick (counts e) edge_error)
  strays e g = go (counts e) g.away
    where
      go : (b : Bool) → (T (not b) → From n (entries e) × (exact e ≈ᶠ natᶠ 0)) → Near (tally worth (before n) (entries e)) (exact e) (pick b edge_error)
      go true f = g.near
      go false f = near_same (sym≈ (from_none worth n (entries e) (f tt).0)) (near_to (sym≈ (f tt).1) (near_refl (natᶠ 0)))

  abbrev pub All : List E → Type 0
  All [] = Unit {0}
  All (e ∷ es) = Good e × All es

  all_fine : (es : List E) → All es → Fine (flat entries es)
  all_fine [] g = tt
  all_fine (e ∷ es) g = fine_append (entries e) (flat entries es) g.0.fine (all_fine es g.1)

  all_twice : (es : List E) → All es → (i : ℕ) → count (here i) (flat entries es) ≤ 2 * length es
  all_twice [] g i = omega arith
  all_twice (e ∷ es) g i = omega (arith, count_append (here i) (entries e) (flat entries es), g.0.twice i, all_twice es g.1 i)

  all_mass : (es : List E) → All es → tally size (before n) (flat entries es) ≤ᶠ natᶠ (number counts es) *ᶠ mass
  all_mass [] g = of_eq (sym≈ (zero_mul mass))
  all_mass (e ∷ es) g =
      trans (of_eq (tally_append size (before n) (entries e) (flat entries es))) (trans (add_mono (weighs e g.0) (all_mass es g.1)) (of_eq (picked (counts e) (number counts es) mass)))

  all_near : (es : List E) → All es → Near (tally worth (before n) (flat entries es)) (sum_over exact es) (natᶠ (number counts es) *ᶠ edge_error)
  all_near [] g = near_weaken (near_refl (natᶠ 0)) (of_eq (sym≈ (zero_mul edge_error)))
  all_near (e ∷ es) g =
      near_same (sym≈ (tally_append worth (before n) (entries e) (flat entries es)))
      (near_weaken (near_add (strays e g.0) (all_near es g.1)) (of_eq (picked (counts e) (number counts es) edge_error)))

  -- ---- THE ROW: the winding is off by at most `winding_error` for each edge that counts
  pub row_near : (es : List E) → All es → length es ≤ 2048 → n ≤ 4096 → Winds (wind (λ i. area i f0 (flat entries es)) n) (sum_over exact es) (number counts es)
  row_near es g k l = record {
    fine = s.0;
    held = s.1;
    near = near_weaken (near_trans s.2 (all_near es g)) sum;
    size = within_weaken (within_near s.2 (tally_within (before n) (flat entries es))) most;
  }
    where
      sizes : Fraction
      sizes = tally size (before n) (flat entries es)

      w : Float
      w = wind (λ i. area i f0 (flat entries es)) n

      counted : Fraction
      counted = natᶠ (number counts es)

      m : sizes ≤ᶠ counted *ᶠ mass
      m = all_mass es g

      top : sizes ≤ᶠ natᶠ (2 ^ 20)
      top = trans m (trans (mul_mono_right {y = natᶠ 2048} (lit tt) (nat_le (omega (arith, number_le counts es, k)))) (unfold ◌*ᶠ◌ in lit tt))

      s : T (finite w) × T (fits binary32 w) × Near (val w) (tally worth (before n) (flat entries es)) (sum_part *ᶠ sizes)
      s = winding_near (flat entries es) (all_fine es g) (λ i. omega (arith, all_twice es g i, k)) n l top

      sum : sum_part *ᶠ sizes +ᶠ counted *ᶠ edge_error ≤ᶠ counted *ᶠ winding_error
      sum = over (sizes ∷ counted ∷ counted *ᶠ mass ∷ counted *ᶠ edge_error ∷ counted *ᶠ winding_error ∷ mass *ᶠ counted ∷ edge_error *ᶠ counted ∷ winding_error *ᶠ counted ∷ sum_part *ᶠ sizes ∷ [])
          (λ N p M K A B C A' B' C' D.
          le_at N (add_at N D B) C p (omega (
            arith,
            at_le N M A m,
            scale_at N sum_part M D,
            scale_at N mass K A',
            scale_at N edge_error K B',
            scale_at N winding_error K C',
            at_eq N A A' (mul_comm counted mass),
            at_eq N B B' (mul_comm counted edge_error),
            at_eq N C C' (mul_comm counted winding_error),
          )))

      most : sizes +ᶠ sum_part *ᶠ sizes ≤ᶠ counted *ᶠ natᶠ 2
      most = over (sizes ∷ counted ∷ counted *ᶠ mass ∷ counted *ᶠ natᶠ 2 ∷ mass *ᶠ counted ∷ natᶠ 2 *ᶠ counted ∷ sum_part *ᶠ sizes ∷ natᶠ 0 ∷ []) (λ N p M K A C A' C' D O.
          le_at N (add_at N M D) C p (omega (
            arith,
            O.is,
            at_le N O K (nat_le {m = 0} {n = number counts es} (omega arith)),
            at_le N M A m,
            scale_at N sum_part M D,
            scale_at N mass K A',
            scale_at N (natᶠ 2) K C',
            at_eq N A A' (mul_comm counted mass),
            at_eq N C C' (mul_comm counted (natᶠ 2)),
          )))
