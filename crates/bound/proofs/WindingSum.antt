-- The winding, the sum so far of what the cells hold, against the exact sum of the entries left of a column. Assumes
-- nothing.
use mathlib.Core.Path.{◌≡◌, ap, ◌∙◌}
use mathlib.Core.List.{List, [], ◌∷◌, ◌++◌}
use mathlib.Core.Bool.{Bool}
use Prim.Native.Nat.{ℕ, zero, suc, ◌+◌, ◌^◌, ◌≤◌, ◌<◌}
use native.Mathlib.Nat.{not-suc-le-zero, le_of_suc-le-suc}
use native.Mathlib.Omega.{arith}
use lib.Dec.{T, eqb→eq, lt→ltb}
use lib.ListN.{length, get_or}
use lib.Ieee.{Float, nan, binary32, emax, fits}
use lib.Ieee.Fits.{add-fits}
use lib.Ieee.Scale.{finite}
use Rattle.fraction.specs.Fraction.{Fraction, ◌≤ᶠ◌, natᶠ, ◌+ᶠ◌, ◌*ᶠ◌, Near, Within}
use Rattle.fraction.proofs.Linear.{at, at_le, at_eq, le_at, add_at, scale_at, over, trans, lit}
use Rattle.fraction.proofs.Order.{refl≤, of_eq, sym≈, add_mono, mul_mono_right, mul_cong, one_more, zero_mul, nat_le}
use Rattle.fraction.proofs.Near.{near_refl, near_weaken, near_same, within_add, within_self, within_weaken, sumᶠ}
use Rattle.rounding.specs.Value.{val, roundoff}
use Rattle.rounding.proofs.Round.{near_to}
use Rattle.rounding.proofs.Round as Round
use Rattle.rounding.proofs.Ops.{add_rounds}
use Rattle.float.specs.Ops.{◌⊕◌, f0}
use Rattle.accumulation.specs.Area.{Cells}
use Rattle.sweep.specs.Bytes.{bytes_of, covered_of}
use Rattle.bound.proofs.Adds.{entry_part, cell_part, sum_part}
use Rattle.bound.proofs.Entries.{Entry, Fine, tally, count, worth, size, here, before, none_plus, tally_nonneg, tally_wider, swap, area}
use Rattle.bound.proofs.Numbers.{zero_is}
use Rattle.bound.proofs.CellSum.{Holds, within_nonneg, holds_same, cell_sum}

-- the winding after n cells, for cells a 0, a 1, ..
abbrev pub wind : (ℕ → Float) → ℕ → Float
wind a zero = f0
wind a (suc n) = wind a n ⊕ a n

-- ---- it is what the bytes are made of
pub bytes_wind : (eo : Bool) (a : ℕ → Float) (cells : Cells) (j c : ℕ) → c < length cells → ((i : ℕ) → i < length cells → get_or cells i nan ≡ a (j + i))
    → get_or (bytes_of eo (wind a j) cells) c 0 ≡ covered_of eo (wind a (suc (j + c)))
unfolding bytes_of
bytes_wind eo a [] j c h k = absurd (not-suc-le-zero h)
bytes_wind eo a (x ∷ xs) j zero h k =
    let e : x ≡ a j = k 0 (omega arith) ∙ ap a (omega arith) in
    let z : j ≡ j + 0 = omega arith in
    ap (λ (v : Float). covered_of eo (wind a j ⊕ v)) e ∙ ap (λ (m : ℕ). covered_of eo (wind a (suc m))) z
bytes_wind eo a (x ∷ xs) j (suc c) h k =
    let e : x ≡ a j = k 0 (omega arith) ∙ ap a (omega arith) in
    let z : suc j + c ≡ j + suc c = omega arith in
    ap (λ (v : Float). get_or (bytes_of eo (wind a j ⊕ v) xs) c 0) e
    ∙ bytes_wind eo a xs (suc j) c (le_of_suc-le-suc h) (λ i l. k (suc i) (omega arith) ∙ ap a (omega arith))
    ∙ ap (λ (m : ℕ). covered_of eo (wind a (suc m))) z

-- the rounding of a sum of two numbers of at most M
abbrev off_twice : Fraction → Fraction
off_twice M = roundoff binary32 *ᶠ (M +ᶠ M)

off_nonneg : (M : Fraction) → natᶠ 0 ≤ᶠ M → natᶠ 0 ≤ᶠ off_twice M
off_nonneg M p = over (M ∷ off_twice M ∷ natᶠ 0 ∷ []) (λ N k A U O. le_at N O U k (omega (arith, O.is, scale_at N (roundoff binary32) (add_at N A A) U, at_le N O A p)))

-- ---- what is known of the cells: a i is s i but for 2 ^ -11 of S i, and the S add up to at most M
module _ (a : ℕ → Float) (s S : ℕ → Fraction) (M : Fraction) (top : M ≤ᶠ natᶠ (2 ^ 20)) where
  pub record Cell (i : ℕ) : Type 0 where
    pub fine : T (finite (a i))
    pub held : T (fits binary32 (a i))
    pub near : Near (val (a i)) (s i) (cell_part *ᶠ S i)
    pub size : Within (s i) (S i)

  pub record Wound (r : Float) (n : ℕ) : Type 0 where
    pub fine : T (finite r)
    pub held : T (fits binary32 r)
    pub near : Near (val r) (sumᶠ n s) (cell_part *ᶠ sumᶠ n S +ᶠ natᶠ n *ᶠ off_twice M)
    pub size : Within (sumᶠ n s) (sumᶠ n S)

  nothing : Wound f0 0
  unfolding sumᶠ
  nothing = record {
    fine = zero_is.fine;
    held = zero_is.held;
    size = within_self (lit tt);
    near = over (val f0 ∷ natᶠ 0 ∷ cell_part *ᶠ natᶠ 0 ∷ natᶠ 0 *ᶠ off_twice M ∷ []) (λ N n F O E D.
        let f = at_eq N F O zero_is.eq in
        let e = scale_at N cell_part O E in
        let d = at_eq N D O (zero_mul (off_twice M)) in
        record { lo = le_at N (search at) (search at) n (omega (arith, O.is, f, e, d)); hi = le_at N (search at) (search at) n (omega (arith, O.is, f, e, d)) });
  }

  module _ (n : ℕ) (l : n ≤ 4096) (c : Cell n) (w : Wound (wind a n) n) (m : sumᶠ n S +ᶠ S n ≤ᶠ M) where
    M0 : natᶠ 0 ≤ᶠ M
    M0 =
        let a = within_nonneg w.size in
        let b = within_nonneg c.size in
        over (sumᶠ n S ∷ S n ∷ M ∷ natᶠ 0 ∷ []) (λ N k A B C O. le_at N O C k (omega (arith, O.is, at_le N O A a, at_le N O B b, at_le N (add_at N A B) C m)))

    many : natᶠ n *ᶠ off_twice M ≤ᶠ natᶠ 4096 *ᶠ off_twice M
    many = mul_mono_right (off_nonneg M M0) (nat_le l)

    abbrev sums : List Fraction
    sums = val (wind a n) ∷ val (a n) ∷ sumᶠ n s ∷ s n ∷ sumᶠ n S ∷ S n ∷ M ∷ cell_part *ᶠ sumᶠ n S ∷ cell_part *ᶠ S n ∷ []

    wide : Within (val (wind a n) +ᶠ val (a n)) (M +ᶠ M)
    wide = over (sums ++ (off_twice M ∷ natᶠ n *ᶠ off_twice M ∷ natᶠ 4096 *ᶠ off_twice M ∷ natᶠ 0 ∷ []))
        (λ N k W Y s1 s2 X1 X2 B E1 E2 U D G O.
        let e1 = scale_at N cell_part X1 E1 in
        let e2 = scale_at N cell_part X2 E2 in
        let u = scale_at N (roundoff binary32) (add_at N B B) U in
        let g = scale_at N (natᶠ 4096) U G in
        let d = at_le N D G many in
        let b = at_le N (add_at N X1 X2) B m in
        let o = at_le N O B M0 in
        record {
          lo =
              let p = at_le N (search at) (search at) w.near.lo in
              let q = at_le N (search at) (search at) c.near.lo in
              le_at N (search at) (search at) k (omega (arith, O.is, at_le N (search at) (search at) w.size.lo, at_le N (search at) (search at) c.size.lo));
          hi =
              let p = at_le N (search at) (search at) w.near.hi in
              let q = at_le N (search at) (search at) c.near.hi in
              le_at N (search at) (search at) k (omega (arith, O.is, at_le N (search at) (search at) w.size.hi, at_le N (search at) (search at) c.size.hi));
        })

    small : M +ᶠ M ≤ᶠ natᶠ (2 ^ emax binary32)
    small = trans {y = natᶠ (2 ^ 21)} (over (M ∷ natᶠ (2 ^ 20) ∷ natᶠ (2 ^ 21) ∷ []) (λ N k A B C. le_at N (add_at N A A) C k (omega (arith, B.is, C.is, at_le N A B top)))) (lit tt)

    -- a winding r that is off from the sum of the two by no more than 2 ^ -24 of 2 M
    close : (r : Fraction) → Near r (val (wind a n) +ᶠ val (a n)) (off_twice M) → Near r (sumᶠ n s +ᶠ s n) (cell_part *ᶠ (sumᶠ n S +ᶠ S n) +ᶠ natᶠ (suc n) *ᶠ off_twice M)
    close r h = over (r ∷ sums ++ (cell_part *ᶠ (sumᶠ n S +ᶠ S n) ∷ off_twice M ∷ natᶠ n *ᶠ off_twice M ∷ natᶠ (suc n) *ᶠ off_twice M ∷ []))
        (λ N k R W Y s1 s2 X1 X2 B E1 E2 E U D D'.
        let e1 = scale_at N cell_part X1 E1 in
        let e2 = scale_at N cell_part X2 E2 in
        let e = scale_at N cell_part (add_at N X1 X2) E in
        let d = at_eq N D' (add_at N D U) (one_more n (off_twice M)) in
        let h1 = at_le N (search at) (search at) h.lo in
        let h2 = at_le N (search at) (search at) h.hi in
        let w1 = at_le N (search at) (search at) w.near.lo in
        let w2 = at_le N (search at) (search at) w.near.hi in
        let c1 = at_le N (search at) (search at) c.near.lo in
        let c2 = at_le N (search at) (search at) c.near.hi in
        record {
          lo = le_at N (search at) (search at) k (omega (arith, e1, e2, e, d, h1, w1, c1));
          hi = le_at N (search at) (search at) k (omega (arith, e1, e2, e, d, h2, w2, c2));
        })

    both : Within (sumᶠ n s +ᶠ s n) (sumᶠ n S +ᶠ S n)
    both = within_add w.size c.size

    one : Wound (wind a n ⊕ a n) (suc n)
    unfolding sumᶠ
    one =
        let R = add_rounds binary32 (wind a n) (a n) w.fine c.fine w.held c.held (within_weaken wide small) in
        record { fine = R.fine; held = add-fits binary32 (wind a n) (a n); near = close (val (wind a n ⊕ a n)) (Round.sum_near R wide); size = both }

  -- ---- all cells left of n
  pub wound : (n : ℕ) → n ≤ 4096 → ((i : ℕ) → i < n → Cell i) → sumᶠ n S ≤ᶠ M → Wound (wind a n) n
  unfolding sumᶠ
  wound zero l c m = nothing
  wound (suc n) l c m =
      let k = within_nonneg (c n (omega arith)).size in
      let of_lt = over (sumᶠ n S ∷ S n ∷ M ∷ natᶠ 0 ∷ []) {G = sumᶠ n S ≤ᶠ M} (λ N p A B C O. le_at N A C p (omega (arith, O.is, at_le N O B k, at_le N (add_at N A B) C m))) in
      one n (omega arith) (c n (omega arith)) (wound n (omega arith) (λ i h. c i (omega arith)) of_lt) m

-- a cell without entries
start : Holds f0 (natᶠ 0) (natᶠ 0) 0
start = record { fine = zero_is.fine; held = zero_is.held; near = near_same (sym≈ zero_is.eq) (near_weaken (near_refl (natᶠ 0)) (unfold ◌*ᶠ◌ in lit tt)); size = within_self (lit tt) }

-- n of at most 4,096 entries: 2 ^ -23 of n * S is at most 2 ^ -11 of S
few_entries : (n : ℕ) (S : Fraction) → n ≤ 4096 → natᶠ 0 ≤ᶠ S → entry_part *ᶠ (natᶠ n *ᶠ S) ≤ᶠ cell_part *ᶠ S
few_entries n S h p =
    over (S ∷ natᶠ n *ᶠ S ∷ natᶠ 4096 *ᶠ S ∷ entry_part *ᶠ (natᶠ n *ᶠ S) ∷ cell_part *ᶠ S ∷ []) (λ N k X P G E D.
    le_at N E D k (omega (arith, scale_at N entry_part P E, scale_at N cell_part X D, scale_at N (natᶠ 4096) X G, at_le N P G (mul_mono_right p (nat_le h)))))

-- the two errors together
halves : (n : ℕ) (M : Fraction) → n ≤ 4096 → natᶠ 0 ≤ᶠ M → cell_part *ᶠ M +ᶠ natᶠ n *ᶠ off_twice M ≤ᶠ sum_part *ᶠ M
halves n M h p =
    let u = off_nonneg M p in
    over (M ∷ off_twice M ∷ natᶠ n *ᶠ off_twice M ∷ natᶠ 4096 *ᶠ off_twice M ∷ cell_part *ᶠ M ∷ sum_part *ᶠ M ∷ []) (λ N k A U D G E F.
    le_at N (add_at N E D) F k (omega (
      arith,
      scale_at N cell_part A E,
      scale_at N sum_part A F,
      scale_at N (roundoff binary32) (add_at N A A) U,
      scale_at N (natᶠ 4096) U G,
      at_le N D G (mul_mono_right u (nat_le h)),
    )))

-- ---- THE SUM LEMMA: entries of any edges, one after another. Left of n, the winding is off by at most 2 ^ -10 of the
-- sizes left of n
module _ (l : List Entry) (fine : Fine l) (few : (i : ℕ) → count (here i) l ≤ 4096) where
  pub winding_near : (n : ℕ) → n ≤ 4096 → tally size (before n) l ≤ᶠ natᶠ (2 ^ 20) → T (finite (wind (λ i. area i f0 l) n)) × T (fits binary32 (wind (λ i. area i f0 l) n))
      × Near (val (wind (λ i. area i f0 l) n)) (tally worth (before n) l) (sum_part *ᶠ tally size (before n) l)
  winding_near n k top =
      let M = tally size (before n) l in
      let w = wound (λ i. area i f0 l) (λ i. tally worth (here i) l) (λ i. tally size (here i) l) M top n k cell (of_eq (swap size n l)) in
      let off = trans (add_mono (of_eq (mul_cong cell_part (swap size n l))) (refl≤ (natᶠ n *ᶠ off_twice M))) (halves n M k (tally_nonneg (before n) l)) in
      (w.fine, w.held, near_to (swap worth n l) (near_weaken w.near off))
    where
      inside : (i : ℕ) → i < n → tally size (here i) l ≤ᶠ tally size (before n) l
      inside i h = tally_wider (here i) (before n) l (λ e t. lt→ltb e.cell n (omega (arith, eqb→eq e.cell i t)))

      cell : (i : ℕ) → i < n → Cell (λ i. area i f0 l) (λ i. tally worth (here i) l) (λ i. tally size (here i) l) (tally size (before n) l) top i
      cell i h =
          let c = holds_same {n' = count (here i) l} (none_plus (tally worth (here i) l)) (none_plus (tally size (here i) l)) (omega arith)
          (cell_sum i l f0 (natᶠ 0) (natᶠ 0) 0 start fine (omega (arith, few i)) (trans (of_eq (none_plus (tally size (here i) l))) (trans (inside i h) top))) in
          record { fine = c.fine; held = c.held; near = near_weaken c.near (few_entries (count (here i) l) (tally size (here i) l) (few i) (tally_nonneg (here i) l)); size = c.size }
