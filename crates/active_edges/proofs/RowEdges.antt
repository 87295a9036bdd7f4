-- The active edges of a row, one more at a time: its piece into the cells, and the edge kept where it reaches below.
-- Assumes nothing.
use mathlib.Core.Path.{◌≡◌, refl, sym, ap, ap₂, ◌∙◌, subst}
use mathlib.Core.Logic.{◌⊎◌, inl, inr}
use mathlib.Core.Bool.{Bool, true, false, cond}
use mathlib.Core.List.{List, [], ◌∷◌, ◌++◌, append_assoc, append-nil}
use Prim.Native.Nat.{ℕ, suc, ◌+◌, ◌*◌, ◌-◌, ◌≤◌, ◌<◌}
use native.Mathlib.Omega.{arith}
use lib.ListN.{length, get_or, take, drop}
use lib.Seq.{take_at, length-take-le, length_front}
use lib.Ieee.{Float, nan, lt}
use Rattle.float.specs.Ops.{◌⊖◌, ◌⊗◌}
use Rattle.float.specs.Simple.{min_of, max_of}
use Rattle.accumulation.specs.Area.{Cells}
use Rattle.row.specs.Row.{span_of}
use Rattle.accumulation.specs.Marks.{Ready}
use Rattle.edge.specs.declared.Edge.{Edge}
use Rattle.edge.specs.declared.Layout.{Layout}
use Rattle.edge.specs.Edges.{at_of}
use Rattle.active_edges.specs.Active.{piece_of, pieces_of, reaching_below}
use Rattle.edge.specs.Floats.{edge_at, edges_at, put_edge}
use Rattle.active_edges.specs.Floats.{active_in, Kept, ActiveRow, Pieces}
use Rattle.edge.proofs.Floats.{same_edges, length_put, put_other, put_own, take_put, edges_snoc, front_other}

-- what `piece` adds
pub piece_is : (height top bottom : Float) (cells : Cells) (e : Edge) {after : Cells} {y low next xa xb : Float}
    → y ≡ max_of e.y top → low ≡ min_of bottom e.bottom → next ≡ min_of low height → xa ≡ at_of e y → xb ≡ at_of e next
    → after ≡ span_of cells xa xb ((next ⊖ y) ⊗ e.down) → after ≡ piece_of height top bottom cells e
unfolding piece_of
piece_is height top bottom cells e {y = y} {next = next} ey el en ea eb h =
    h ∙ ap₂ (λ (u v : Float). span_of cells u v ((next ⊖ y) ⊗ e.down)) ea eb
    ∙ ap₂ (λ (u v : Float). span_of cells (at_of e u) (at_of e v) ((v ⊖ u) ⊗ e.down)) ey (en ∙ ap (λ (u : Float). min_of u height) el)

-- the active edges from the i-th on
abbrev from : List Float → Layout → ℕ → ℕ → List Edge
from fs l n i = edges_at fs (l.active + 5 * i) (n - i)

-- i edges are done, and of those `kept` reach below
pub record PiecesAt (fs : List Float) (words : List ℕ) (l : Layout) (n : ℕ) (height top bottom : Float)
    (gs : List Float) (touched : List ℕ) (kept i : ℕ) : Type 0 where
  pub done : i ≤ n
  pub few : kept ≤ i
  pub long : length gs ≡ length fs
  pub touched_long : length touched ≡ length words
  pub ready : Ready (take l.width gs) touched
  pub cells : pieces_of height top bottom (take l.width fs) (active_in fs l n)
      ≡ pieces_of height top bottom (take l.width gs) (from gs l n i)
  pub reach : reaching_below bottom (active_in fs l n) ≡ active_in gs l kept ++ reaching_below bottom (from gs l n i)
  pub between : (k : ℕ) → l.width ≤ k → k < l.active → get_or gs k nan ≡ get_or fs k nan

-- what a turn has room for: the i-th active edge
pub record PiecesRoom (fs : List Float) (l : Layout) (i : ℕ) : Type 0 where
  pub apart : l.width ≤ l.active
  pub room : l.active + 5 * i + 5 ≤ length fs

module _ {fs₀ : List Float} {words : List ℕ} {l : Layout} {n : ℕ} (r₀ : ActiveRow fs₀ words l n) {height top bottom : Float} where
  pub row_start : PiecesAt fs₀ words l n height top bottom fs₀ words 0 0
  unfolding edges_at
  row_start =
      let e : l.active + 5 * 0 ≡ l.active = omega arith in
      let m : n - 0 ≡ n = omega arith in
      record {
        done = omega arith;
        few = omega arith;
        long = refl;
        touched_long = refl;
        ready = r₀.ready;
        cells = rw (e, m) refl;
        reach = rw (e, m) refl;
        between = λ k p q. refl;
      }

  module _ {fs : List Float} {touched : List ℕ} {kept i : ℕ} (s : PiecesAt fs₀ words l n height top bottom fs touched kept i) where
    pub row_done : n ≤ i → Pieces fs₀ l n height top bottom fs kept × ActiveRow fs touched l kept
    unfolding edges_at pieces_of reaching_below
    row_done h =
        let e : n - i ≡ 0 = omega arith in (
          record {
            cells = sym (s.cells ∙ rw e refl);
            kept = sym (s.reach ∙ rw e (append-nil (active_in fs l kept)));
            few = omega arith;
            between = s.between;
          },
          record { apart = r₀.apart; room = omega arith; ready = s.ready },
        )

    module _ (more : i < n) where
      abbrev edge : Edge
      edge = edge_at fs (l.active + 5 * i)

      pub row_room : PiecesRoom fs l i
      row_room = record { apart = r₀.apart; room = omega arith }

      width : length (take l.width fs) ≡ l.width
      width = let r = row_room in length-take-le l.width fs (omega arith)

      -- the edge's piece is added to the cells, which are `ys` then, and the edge is kept or not
      module _ {ys gs : List Float} {marks : List ℕ} {r : ℕ} {e : Edge} (got : e ≡ edge)
          (long : length ys ≡ length (take l.width fs)) (marks-long : length marks ≡ length touched)
          (added : ys ≡ piece_of height top bottom (take l.width fs) e) (ready : Ready ys marks)
          (keeps : Kept (ys ++ drop l.width fs) l kept e bottom gs r) where
        abbrev mid : List Float
        mid = ys ++ drop l.width fs

        cut : ys ≡ piece_of height top bottom (take l.width fs) edge
        cut = added ∙ ap (piece_of height top bottom (take l.width fs)) got

        k : Kept mid l kept edge bottom gs r
        k = subst (λ (x : Edge). Kept mid l kept x bottom gs r) got keeps

        wide : length ys ≡ l.width
        wide = long ∙ width

        mid_long : length mid ≡ length fs
        mid_long = length_front fs ys l.width long

        apart : l.width ≤ l.active
        apart = r₀.apart

        -- what stands past the kept edges is as it was
        outside : (j : ℕ) → l.width ≤ j → (j < l.active + 5 * kept) ⊎ (l.active + 5 * i + 5 ≤ j) → get_or gs j nan ≡ get_or fs j nan
        outside j h o = ap (λ (x : List Float). get_or x j nan) k.floats ∙ go (lt bottom edge.bottom) ∙ front_other ys fs l.width j wide h
          where
            away : (j < l.active + 5 * kept) ⊎ (l.active + 5 * i + 5 ≤ j) → (j < l.active + 5 * kept) ⊎ (l.active + 5 * kept + 5 ≤ j)
            away (inl p) = inl p
            away (inr p) = let f = s.few in inr (omega arith)

            go : (b : Bool) → get_or (cond b (put_edge mid (l.active + 5 * kept) edge) mid) j nan ≡ get_or mid j nan
            go true = put_other mid (l.active + 5 * kept) edge j (away o)
            go false = refl

        rest : from gs l n (i + 1) ≡ from fs l n (i + 1)
        rest =
            let a = apart in
            same_edges (n - (i + 1)) gs fs (l.active + 5 * (i + 1)) (λ j p q. outside j (omega arith) (inr (omega arith)))

        split : from fs l n i ≡ edge ∷ from fs l n (i + 1)
        unfolding edges_at
        split =
            let a : n - i ≡ suc (n - (i + 1)) = omega arith in
            let b : l.active + 5 * i + 5 ≡ l.active + 5 * (i + 1) = omega arith in
            rw (a, b) refl

        front : take l.width gs ≡ ys
        front = ap (take l.width) k.floats ∙ go (lt bottom edge.bottom)
          where
            go : (b : Bool) → take l.width (cond b (put_edge mid (l.active + 5 * kept) edge) mid) ≡ ys
            go true =
                let a = apart in
                take_put mid (l.active + 5 * kept) edge l.width (omega arith) ∙ take_at ys (drop l.width fs) l.width wide
            go false = take_at ys (drop l.width fs) l.width wide

        cells_turn : pieces_of height top bottom (take l.width fs) (from fs l n i) ≡ pieces_of height top bottom (take l.width gs) (from gs l n (i + 1))
        unfolding pieces_of
        cells_turn =
            ap (pieces_of height top bottom (take l.width fs)) (split ∙ ap (λ (x : List Edge). edge ∷ x) (sym rest))
            ∙ ap (λ (x : List Float). pieces_of height top bottom x (from gs l n (i + 1))) (sym (front ∙ cut))

        kept_turn : active_in fs l kept ++ reaching_below bottom (from fs l n i) ≡ active_in gs l r ++ reaching_below bottom (from gs l n (i + 1))
        unfolding reaching_below
        kept_turn = go (lt bottom edge.bottom) refl k.floats k.count
          where
            old : active_in gs l kept ≡ active_in fs l kept
            old = let a = apart in same_edges kept gs fs l.active (λ j p q. outside j (omega arith) (inl q))

            go : (b : Bool) → lt bottom edge.bottom ≡ b → gs ≡ cond b (put_edge mid (l.active + 5 * kept) edge) mid → r ≡ cond b (kept + 1) kept
                → active_in fs l kept ++ reaching_below bottom (from fs l n i) ≡ active_in gs l r ++ reaching_below bottom (from gs l n (i + 1))
            go true t f c =
                let ml = mid_long in
                let a = row_room in
                let fw = s.few in
                let own : edge_at gs (l.active + 5 * kept) ≡ edge =
                ap (λ (x : List Float). edge_at x (l.active + 5 * kept)) f ∙ put_own mid (l.active + 5 * kept) edge (omega arith) in
                rw (split, rest, c, t, edges_snoc kept gs l.active, old, own)
                (sym (append_assoc (active_in fs l kept) (edge ∷ []) (reaching_below bottom (from fs l n (i + 1)))))
            go false t f c = rw (split, rest, c, t, old) refl

        few_turn : r ≤ i + 1
        few_turn = subst (λ (m : ℕ). m ≤ i + 1) (sym k.count) (go (lt bottom edge.bottom))
          where
            go : (b : Bool) → cond b (kept + 1) kept ≤ i + 1
            go true = let f = s.few in omega arith
            go false = let f = s.few in omega arith

        still_long : length gs ≡ length fs
        still_long = ap length k.floats ∙ go (lt bottom edge.bottom) ∙ mid_long
          where
            go : (b : Bool) → length (cond b (put_edge mid (l.active + 5 * kept) edge) mid) ≡ length mid
            go true = length_put mid (l.active + 5 * kept) edge
            go false = refl

        pub row_turn : PiecesAt fs₀ words l n height top bottom gs marks r (i + 1)
        row_turn =
            record {
              done = omega arith;
              few = few_turn;
              long = still_long ∙ s.long;
              touched_long = marks-long ∙ s.touched_long;
              ready = subst (λ (x : List Float). Ready x marks) (sym front) ready;
              cells = s.cells ∙ cells_turn;
              reach = s.reach ∙ kept_turn;
              between = λ j p q. outside j p (inl (omega arith)) ∙ s.between j p q;
            }
