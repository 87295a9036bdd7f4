-- The edge table, one edge more at a time. Assumes nothing.
use mathlib.Core.Path.{◌≡◌, refl, sym, ap, ◌∙◌, subst}
use mathlib.Core.Bool.{Bool, true, false, cond}
use mathlib.Core.List.{List}
use Prim.Native.Nat.{ℕ, zero, suc, ◌+◌, ◌*◌, ◌-◌, ◌≤◌, ◌<◌}
use native.Mathlib.Omega.{arith}
use native.Mathlib.Decide.{ℕ_discrete}
use lib.Dec.{eqb}
use lib.ListN.{length, get_or, set, length-set}
use lib.Seq.{get_or-set_same, get_or-set_other}
use lib.Ieee.{Float, nan}
use borrow.Author.Tests.{eq-eqb, ne_eqb}
use Rattle.whole.specs.Whole.{of_whole}
use Rattle.edge.specs.declared.Edge.{Edge}
use Rattle.edge.specs.declared.Layout.{Layout}
use Rattle.edge.specs.Edges.{start_row}
use Rattle.edge.specs.Table.{nth, Placed, first_in, next_of, InTable, NextsChanged}
use Rattle.edge.proofs.Floats.{Same, same_edge}

pub placed_long : {fs gs : List Float} {l : Layout} → length gs ≡ length fs → Placed fs l → Placed gs l
placed_long e p = let a = p.active in record { edges = p.edges; nexts = p.nexts; active = omega arith; few = p.few }

-- ---- the first edge of a row

pub first_same : (n : ℕ) (gs fs : List Float) (l : Layout) (row j : ℕ) → Same gs fs l.width (l.width + 5 * (j + n)) → first_in gs l row j n ≡ first_in fs l row j n
unfolding first_in
first_same zero gs fs l row j s = refl
first_same (suc n) gs fs l row j s =
    rw (same_edge gs fs (l.width + 5 * j) (λ i p q. s i (omega arith) (omega arith)), first_same n gs fs l row (j + 1) (λ i p q. s i p (omega arith))) refl

pub first_le : (n : ℕ) (fs : List Float) (l : Layout) (row j : ℕ) → first_in fs l row j n ≤ j + n
unfolding first_in
first_le zero fs l row j = omega arith
first_le (suc n) fs l row j = go (eqb (start_row (nth fs l j)) row) (first_le n fs l row (j + 1))
  where
    go : (b : Bool) → first_in fs l row (j + 1) n ≤ j + 1 + n → cond b (j + 1) (first_in fs l row (j + 1) n) ≤ j + suc n
    go true h = omega arith
    go false h = omega arith

-- the edges are as they were, so their rows' firsts are
module _ (gs fs : List Float) (l : Layout) (s : Same gs fs l.width (l.width + 5 * l.count)) where
  pub nth_same : (j : ℕ) → j < l.count → nth gs l j ≡ nth fs l j
  nth_same j h = same_edge gs fs (l.width + 5 * j) (λ i p q. s i (omega arith) (omega arith))

  pub from_same : (row j : ℕ) → j ≤ l.count → first_in gs l row j (l.count - j) ≡ first_in fs l row j (l.count - j)
  from_same row j h = first_same (l.count - j) gs fs l row j (λ i p q. s i p (omega arith))

  pub next_same : (j : ℕ) → j < l.count → next_of gs l j ≡ next_of fs l j
  next_same j h =
      ap (λ (e : Edge). first_in gs l (start_row e) (j + 1) (l.count - (j + 1))) (nth_same j h)
      ∙ from_same (start_row (nth fs l j)) (j + 1) (omega arith)

-- ---- one edge more

module _ {fs : List Float} {heads : List ℕ} {l : Layout} {m : ℕ} (fits : Placed fs l) (more : m < l.count) (t : InTable fs heads l (m + 1))
    (inside : start_row (nth fs l m) < length heads) where
  abbrev row : ℕ
  row = start_row (nth fs l m)

  abbrev after : List Float
  after = set fs (l.nexts + m) (of_whole (get_or heads row 0))

  same : Same after fs l.width (l.width + 5 * l.count)
  same i p q = let a = fits.edges in get_or-set_other fs (l.nexts + m) i (of_whole (get_or heads row 0)) nan (λ e. omega arith)

  opened : (r : ℕ) → first_in after l r m (l.count - m) ≡ cond (eqb row r) (m + 1) (first_in fs l r (m + 1) (l.count - (m + 1)))
  unfolding first_in
  opened r =
      let e : l.count - m ≡ suc (l.count - (m + 1)) = omega arith in
      rw (e, nth_same after fs l same m more, from_same after fs l same r (m + 1) (omega arith)) refl

  linked : InTable after (set heads row (m + 1)) l m
  linked = record { head = λ r h. head r (rw length-set at h) (ℕ_discrete row r); next = λ j p q. next j p q (ℕ_discrete j m) }
    where
      head : (r : ℕ) → r < length heads → Dec (row ≡ r) → get_or (set heads row (m + 1)) r 0 ≡ first_in after l r m (l.count - m)
      head r h (yes e) =
          ap (λ (k : ℕ). get_or (set heads row (m + 1)) k 0) (sym e) ∙ get_or-set_same heads row (m + 1) 0 inside
          ∙ sym (opened r ∙ rw (eq-eqb row r e) refl)
      head r h (no d) = get_or-set_other heads row r (m + 1) 0 (λ e. d (sym e)) ∙ t.head r h ∙ sym (opened r ∙ rw (ne_eqb row r d) refl)

      next : (j : ℕ) → m ≤ j → j < l.count → Dec (j ≡ m) → get_or after (l.nexts + j) nan ≡ of_whole (next_of after l j)
      next j p q (yes e) =
          ap (λ (k : ℕ). get_or after (l.nexts + k) nan) e
          ∙ get_or-set_same fs (l.nexts + m) (of_whole (get_or heads row 0)) nan (omega (arith, fits.nexts, fits.active))
          ∙ ap of_whole (t.head row inside ∙ sym (next_same after fs l same m more) ∙ ap (next_of after l) (sym e))
      next j p q (no d) =
          get_or-set_other fs (l.nexts + m) (l.nexts + j) (of_whole (get_or heads row 0)) nan (λ e. d (omega arith))
          ∙ t.next j (omega arith) q ∙ ap of_whole (sym (next_same after fs l same j q))

nexts_set : (fs gs : List Float) (l : Layout) (j : ℕ) (v : Float) → j < l.count → NextsChanged fs gs l → NextsChanged fs (set gs (l.nexts + j) v) l
nexts_set fs gs l j v h c =
    record {
      long = length-set gs (l.nexts + j) v ∙ c.long;
      low = λ k g. get_or-set_other gs (l.nexts + j) k v nan (λ e. omega arith) ∙ c.low k g;
      high = λ k g. get_or-set_other gs (l.nexts + j) k v nan (λ e. omega arith) ∙ c.high k g;
    }

pub nexts_same : (fs gs : List Float) (l : Layout) → Placed fs l → NextsChanged fs gs l → Same gs fs l.width (l.width + 5 * l.count)
nexts_same fs gs l p c i h g = let a = p.edges in c.low i (omega arith)

-- the edges from place i on are in the table
pub record TableAt (fs : List Float) (heads₀ : List ℕ) (l : Layout) (gs : List Float) (heads : List ℕ) (i : ℕ) : Type 0 where
  pub within : i ≤ l.count
  pub long : length heads ≡ length heads₀
  pub changed : NextsChanged fs gs l
  pub tabled : InTable gs heads l i

-- what a turn has room for: the last edge that is not in the table
pub record TableRoom (gs : List Float) (l : Layout) (i : ℕ) : Type 0 where
  pub placed : Placed gs l
  pub some : 0 < i
  pub within : i ≤ l.count

module _ {fs : List Float} {l : Layout} (p : Placed fs l) {heads₀ : List ℕ} where
  pub table_start : ((row : ℕ) → row < length heads₀ → get_or heads₀ row 0 ≡ 0) → TableAt fs heads₀ l fs heads₀ l.count
  unfolding first_in
  table_start none =
      let z : l.count - l.count ≡ 0 = omega arith in
      record {
        within = omega arith;
        long = refl;
        changed = record { long = refl; low = λ i h. refl; high = λ i h. refl };
        tabled = record { head = λ r h. rw z (none r h); next = λ j a b. absurd (omega arith) };
      }

  module _ {gs : List Float} {heads : List ℕ} {i : ℕ} (s : TableAt fs heads₀ l gs heads i) (more : 0 < i) where
    abbrev last : ℕ
    last = i - 1

    in_count : last < l.count
    in_count = let w = s.within in omega arith

    placed : Placed gs l
    placed = placed_long s.changed.long p

    pub table_room : TableRoom gs l i
    table_room = record { placed = placed; some = more; within = s.within }

    module _ (inside : (j : ℕ) → j < l.count → start_row (nth fs l j) < length heads₀) where
      has_head : start_row (nth gs l last) < length heads
      has_head = rw (nth_same gs fs l (nexts_same fs gs l p s.changed) last in_count, s.long) (inside last in_count)

      next_tabled : InTable gs heads l (last + 1)
      next_tabled = let e : last + 1 ≡ i = omega arith in subst (InTable gs heads l) (sym e) s.tabled

      pub table_link : {row : ℕ} → row ≡ start_row (nth gs l last) → ((l.nexts + last < length gs) × (row < length heads)) × ((get_or heads row 0 ≤ 2048) × (last < 2048))
      table_link {row} e =
          let r = table_room in
          let h : row < length heads = rw e has_head in
          let t : get_or heads row 0 ≡ first_in gs l row i (l.count - i) = s.tabled.head row h in
          let u = first_le (l.count - i) gs l row i in
          ((omega arith, h), (omega arith, omega arith))

      pub table_turn : {row : ℕ} {hs : List Float} {ks : List ℕ} → row ≡ start_row (nth gs l last)
          → hs ≡ set gs (l.nexts + last) (of_whole (get_or heads row 0)) → ks ≡ set heads row (last + 1) → TableAt fs heads₀ l hs ks last
      table_turn {row} e h k =
          let w = s.within in
          record {
            within = omega arith;
            long = ap length k ∙ length-set heads row (last + 1) ∙ s.long;
            changed = subst (λ (x : List Float). NextsChanged fs x l) (sym h) (nexts_set fs gs l last (of_whole (get_or heads row 0)) in_count s.changed);
            tabled = rw (h, k, e) (linked placed in_count next_tabled has_head);
          }
