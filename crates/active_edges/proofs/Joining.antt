-- The list that a row's head leads through, and its edges copied behind the active ones, one more at a time. Assumes
-- nothing.
use mathlib.Core.Path.{◌≡◌, refl, sym, ap, ◌∙◌, subst}
use mathlib.Core.Logic.{inl}
use mathlib.Core.Bool.{Bool, true, false, cond}
use mathlib.Core.List.{List, [], ◌∷◌, ◌++◌, append_assoc, append-nil}
use Prim.Native.Nat.{ℕ, zero, suc, ◌+◌, ◌*◌, ◌-◌, ◌≤◌, ◌<◌}
use native.Mathlib.Omega.{arith}
use lib.Dec.{eqb}
use lib.ListN.{length, get_or}
use lib.Ieee.{Float, nan}
use borrow.Author.Tests.{eqb-true}
use Rattle.whole.specs.Whole.{column_of, of_whole}
use Rattle.row.proofs.Floor.{column_back}
use Rattle.edge.specs.declared.Edge.{Edge}
use Rattle.edge.specs.declared.Layout.{Layout}
use Rattle.edge.specs.Edges.{start_row}
use Rattle.active_edges.specs.Active.{starting_in}
use Rattle.edge.specs.Floats.{edge_at, edges_at, put_edge}
use Rattle.edge.specs.Table.{nth, edges_in, Placed, first_in}
use Rattle.active_edges.specs.Floats.{active_in, list_from, Joining, Joined}
use Rattle.edge.proofs.Floats.{same_edge, same_edges, length_put, put_other, put_own, edges_snoc}
use Rattle.edge.proofs.Linking.{placed_long, first_le}

-- ---- the list of a row

module _ (fs : List Float) (l : Layout) (row : ℕ) where
  -- what starts in the row from place j on is the list of the first of them
  gathered : (m j : ℕ) → j + m ≡ l.count → starting_in row (edges_at fs (l.width + 5 * j) m) ≡ list_from fs l row (first_in fs l row j m)
  unfolding starting_in edges_at first_in list_from
  gathered zero j e = refl
  gathered (suc m) j e = go (eqb (start_row (nth fs l j)) row) (gathered m (j + 1) (omega arith))
    where
      s : l.width + 5 * j + 5 ≡ l.width + 5 * (j + 1)
      s = omega arith

      k : l.count - (j + 1) ≡ m
      k = omega arith

      one : j + 1 ≡ suc j
      one = omega arith

      go : (b : Bool) → starting_in row (edges_at fs (l.width + 5 * (j + 1)) m) ≡ list_from fs l row (first_in fs l row (j + 1) m)
          → cond b (nth fs l j ∷ starting_in row (edges_at fs (l.width + 5 * j + 5) m)) (starting_in row (edges_at fs (l.width + 5 * j + 5) m))
          ≡ list_from fs l row (cond b (j + 1) (first_in fs l row (j + 1) m))
      go true h = rw (one, s) (ap (λ (x : ℕ). nth fs l j ∷ starting_in row (edges_at fs (l.width + 5 * (j + 1)) x)) (sym k))
      go false h = rw s h

  -- a place that a list leads to is one of the row's
  leads : (m j : ℕ) → j + m ≡ l.count → (k : ℕ) → first_in fs l row j m ≡ suc k → (k < l.count) × (start_row (nth fs l k) ≡ row)
  unfolding first_in
  leads zero j e k h = absurd (omega arith)
  leads (suc m) j e k h = go (eqb (start_row (nth fs l j)) row) refl (leads m (j + 1) (omega arith) k) h
    where
      go : (b : Bool) → eqb (start_row (nth fs l j)) row ≡ b → (first_in fs l row (j + 1) m ≡ suc k → (k < l.count) × (start_row (nth fs l k) ≡ row))
          → cond b (j + 1) (first_in fs l row (j + 1) m) ≡ suc k → (k < l.count) × (start_row (nth fs l k) ≡ row)
      go true t ih q = let p : j ≡ k = omega arith in (omega arith, subst (λ (x : ℕ). start_row (nth fs l x) ≡ row) p (eqb-true _ _ t))
      go false t ih q = ih q

  list_open : (at : ℕ) → 0 < at → at ≤ l.count → list_from fs l row at ≡ nth fs l (at - 1) ∷ list_from fs l row (first_in fs l row at (l.count - at))
  unfolding list_from
  list_open zero h g = absurd (omega arith)
  list_open (suc k) h g =
      let a : suc k - 1 ≡ k = omega arith in
      let b : k + 1 ≡ suc k = omega arith in
      rw (a, b) (ap (λ (r : List Edge). nth fs l k ∷ r) (gathered (l.count - suc k) (suc k) (omega arith)))

-- ---- its edges join

-- n edges are active, and the row's list goes on at `at`
pub record JoinAt (fs : List Float) (l : Layout) (kept row : ℕ) (gs : List Float) (n at : ℕ) : Type 0 where
  pub long : length gs ≡ length fs
  pub low : (i : ℕ) → i < l.active → get_or gs i nan ≡ get_or fs i nan
  pub in_row : (k : ℕ) → at ≡ suc k → (k < l.count) × (start_row (nth fs l k) ≡ row)
  pub all : active_in gs l n ++ list_from fs l row at ≡ active_in fs l kept ++ starting_in row (edges_in fs l)
  pub size : n + length (list_from fs l row at) ≡ kept + length (starting_in row (edges_in fs l))

-- what a turn has room for: the next edge of the list is at its place, and one more may stand behind the active ones
pub record JoinRoom (gs : List Float) (l : Layout) (n at : ℕ) : Type 0 where
  pub placed : Placed gs l
  pub some : 0 < at
  pub here : at - 1 < l.count
  pub more : n < l.count

module _ {fs : List Float} {heads : List ℕ} {l : Layout} {kept row : ℕ} (j : Joining fs heads l kept row) where
  pub join_start : JoinAt fs l kept row fs kept (get_or heads row 0)
  join_start =
      let e : l.width + 5 * 0 ≡ l.width = omega arith in
      let g : starting_in row (edges_in fs l) ≡ list_from fs l row (get_or heads row 0) =
      ap (λ (k : ℕ). starting_in row (edges_at fs k l.count)) (sym e) ∙ gathered fs l row l.count 0 (omega arith) ∙ ap (list_from fs l row) (sym j.first) in
      record {
        long = refl;
        low = λ i h. refl;
        in_row = λ k h. leads fs l row l.count 0 (omega arith) k (sym j.first ∙ h);
        all = ap (λ (r : List Edge). active_in fs l kept ++ r) (sym g);
        size = ap (λ (r : List Edge). kept + length r) (sym g);
      }

  module _ {gs : List Float} {n at : ℕ} (s : JoinAt fs l kept row gs n at) where
    pub join_done : at ≡ 0 → Joined fs gs l kept row n
    unfolding list_from
    join_done z =
        let g : list_from fs l row at ≡ [] = rw z refl in
        let m = ap length g in
        let k = s.size in
        record { all = sym (append-nil (active_in gs l n)) ∙ ap (λ (r : List Edge). active_in gs l n ++ r) (sym g) ∙ s.all; count = omega arith; low = s.low }

    module _ (more : 0 < at) where
      abbrev place : ℕ
      place = at - 1

      here : (place < l.count) × (start_row (nth fs l place) ≡ row)
      here = s.in_row place (omega arith)

      in_list : list_from fs l row at ≡ nth fs l place ∷ list_from fs l row (first_in fs l row at (l.count - at))
      in_list = let h = here.0 in list_open fs l row at more (omega arith)

      pub join_room : JoinRoom gs l n at
      join_room =
          let m = ap length in_list in
          record { placed = placed_long s.long j.fits; some = more; here = here.0; more = omega arith }

      same : edge_at gs (l.width + 5 * place) ≡ nth fs l place
      same =
          let h = here.0 in
          let a = j.fits.edges in
          let b = j.fits.nexts in
          same_edge gs fs (l.width + 5 * place) (λ i p q. s.low i (omega arith))

      -- the edge is copied behind the active ones
      module _ {hs : List Float} {e : Edge} (got : e ≡ edge_at gs (l.width + 5 * place)) (put : hs ≡ put_edge gs (l.active + 5 * n) e) where
        low : (i : ℕ) → i < l.active → get_or hs i nan ≡ get_or fs i nan
        low i h = ap (λ (x : List Float). get_or x i nan) put ∙ put_other gs (l.active + 5 * n) e i (inl (omega arith)) ∙ s.low i h

        -- the next of the list
        pub join_next : column_of (get_or hs (l.nexts + place) nan) ≡ first_in fs l row at (l.count - at)
        join_next =
            let h = here.0 in
            let b = j.fits.nexts in
            let f = j.fits.few in
            let one : place + 1 ≡ at = omega arith in
            let bound = first_le (l.count - at) fs l row at in
            ap column_of (low (l.nexts + place) (omega arith) ∙ j.next place (omega arith) h
            ∙ ap (λ (r : ℕ). of_whole (first_in fs l r (place + 1) (l.count - (place + 1)))) here.1 ∙ ap (λ (k : ℕ). of_whole (first_in fs l row k (l.count - k))) one)
            ∙ column_back (first_in fs l row at (l.count - at)) (omega arith)

        module _ {next : ℕ} (at_next : next ≡ column_of (get_or hs (l.nexts + place) nan)) where
          is_next : next ≡ first_in fs l row at (l.count - at)
          is_next = at_next ∙ join_next

          step : list_from fs l row at ≡ nth fs l place ∷ list_from fs l row next
          step = in_list ∙ ap (λ (k : ℕ). nth fs l place ∷ list_from fs l row k) (sym is_next)

          pub join_falls : length (list_from fs l row next) < length (list_from fs l row at)
          join_falls = let m = ap length step in omega arith

          pub join_turn : JoinAt fs l kept row hs (n + 1) next
          join_turn =
              let r = join_room in
              let m = ap length step in
              let own : edge_at hs (l.active + 5 * n) ≡ nth fs l place =
              ap (λ (x : List Float). edge_at x (l.active + 5 * n)) put ∙ put_own gs (l.active + 5 * n) e (omega arith) ∙ got ∙ same in
              let old : active_in hs l n ≡ active_in gs l n =
              same_edges n hs gs l.active (λ i p q. ap (λ (x : List Float). get_or x i nan) put ∙ put_other gs (l.active + 5 * n) e i (inl q)) in
              let one_more : active_in hs l (n + 1) ≡ active_in gs l n ++ (nth fs l place ∷ []) = edges_snoc n hs l.active ∙ rw (old, own) refl in
              record {
                long = ap length put ∙ simp length_put s.long;
                low = low;
                in_row = λ k z. leads fs l row (l.count - at) at (omega arith) k (sym is_next ∙ z);
                all = ap (λ (x : List Edge). x ++ list_from fs l row next) one_more
                    ∙ append_assoc (active_in gs l n) (nth fs l place ∷ []) (list_from fs l row next)
                    ∙ ap (λ (x : List Edge). active_in gs l n ++ x) (sym step) ∙ s.all;
                size = omega arith;
              }
