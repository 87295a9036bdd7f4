-- The active edges of a row are those that were kept and those that join, and never more than there are edges. Assumes
-- nothing.
use mathlib.Core.Path.{◌≡◌, refl, ap}
use mathlib.Core.Bool.{Bool, true, false, cond}
use mathlib.Core.List.{List, [], ◌∷◌, ◌++◌}
use Prim.Native.Nat.{ℕ, zero, suc, ◌+◌, ◌≤◌, ◌<◌}
use native.Mathlib.Numerals.{add-one}
use native.Mathlib.Omega.{arith}
use native.Mathlib.Decide.{ℕ_discrete, dec_lt}
use lib.Dec.{eqb, leb}
use lib.ListN.{length, length-append}
use lib.Ieee.{Float, lt}
use borrow.Author.Tests.{eq-eqb, ne_eqb, le-leb, lt-leb}
use Rattle.whole.specs.Whole.{of_whole}
use Rattle.edge.specs.declared.Edge.{Edge}
use Rattle.edge.specs.Edges.{start_row}
use Rattle.active_edges.specs.Active.{starting_in, reaching_below, active_edges}

-- the edges that were kept from the row above
unfoldable pub kept_of : List Edge → ℕ → List Edge
kept_of es zero = []
kept_of es (suc row) = reaching_below (of_whole (suc row)) (active_edges es row)

pub active_is : (es : List Edge) (row : ℕ) → kept_of es row ++ starting_in row es ≡ active_edges es row
unfolding kept_of active_edges
active_is es zero = refl
active_is es (suc row) = refl

pub kept_next : (es : List Edge) (row : ℕ) → reaching_below (of_whole (suc row)) (active_edges es row) ≡ kept_of es (row + 1)
unfolding kept_of
kept_next es row = rw add-one refl

-- how many edges start in a row or above it
upto : ℕ → List Edge → ℕ
upto row [] = 0
upto row (e ∷ es) = cond (leb (start_row e) row) (suc (upto row es)) (upto row es)

upto_le : (row : ℕ) (es : List Edge) → upto row es ≤ length es
unfolding upto
upto_le row [] = omega arith
upto_le row (e ∷ es) = go (leb (start_row e) row) (upto_le row es)
  where
    go : (b : Bool) → upto row es ≤ length es → cond b (suc (upto row es)) (upto row es) ≤ suc (length es)
    go true h = omega arith
    go false h = omega arith

upto_first : (es : List Edge) → length (starting_in 0 es) ≡ upto 0 es
unfolding upto starting_in
upto_first [] = refl
upto_first (e ∷ es) = go (ℕ_discrete (start_row e) 0) (upto_first es)
  where
    go : Dec (start_row e ≡ 0) → length (starting_in 0 es) ≡ upto 0 es
        → length (cond (eqb (start_row e) 0) (e ∷ starting_in 0 es) (starting_in 0 es)) ≡ cond (leb (start_row e) 0) (suc (upto 0 es)) (upto 0 es)
    go (yes p) h = rw (eq-eqb (start_row e) 0 p, le-leb (start_row e) 0 (omega arith)) (ap suc h)
    go (no p) h = let g : 0 < start_row e = omega arith in rw (ne_eqb (start_row e) 0 p, lt-leb (start_row e) 0 g) h

upto_more : (row : ℕ) (es : List Edge) → upto (suc row) es ≡ upto row es + length (starting_in (suc row) es)
unfolding upto starting_in
upto_more row [] = refl
upto_more row (e ∷ es) = go (ℕ_discrete (start_row e) (suc row)) (dec_lt (start_row e) (suc row)) (upto_more row es)
  where
    go : Dec (start_row e ≡ suc row) → Dec (start_row e < suc row) → upto (suc row) es ≡ upto row es + length (starting_in (suc row) es)
        → cond (leb (start_row e) (suc row)) (suc (upto (suc row) es)) (upto (suc row) es)
        ≡ cond (leb (start_row e) row) (suc (upto row es)) (upto row es) + length (cond (eqb (start_row e) (suc row)) (e ∷ starting_in (suc row) es) (starting_in (suc row) es))
    go (yes p) d h = rw (eq-eqb (start_row e) (suc row) p, le-leb (start_row e) (suc row) (omega arith), lt-leb (start_row e) row (omega arith)) (omega arith)
    go (no p) (yes l) h = rw (ne_eqb (start_row e) (suc row) p, le-leb (start_row e) (suc row) (omega arith), le-leb (start_row e) row (omega arith)) (omega arith)
    go (no p) (no l) h = rw (ne_eqb (start_row e) (suc row) p, lt-leb (start_row e) (suc row) (omega arith), lt-leb (start_row e) row (omega arith)) h

reaching_le : (y : Float) (es : List Edge) → length (reaching_below y es) ≤ length es
unfolding reaching_below
reaching_le y [] = omega arith
reaching_le y (e ∷ es) = go (lt y e.bottom) (reaching_le y es)
  where
    go : (b : Bool) → length (reaching_below y es) ≤ length es → length (cond b (e ∷ reaching_below y es) (reaching_below y es)) ≤ suc (length es)
    go true h = omega arith
    go false h = omega arith

active_le : (es : List Edge) (row : ℕ) → length (active_edges es row) ≤ upto row es
unfolding active_edges
active_le es zero = omega (arith, upto_first es)
active_le es (suc row) =
    let kept = reaching_below (of_whole (suc row)) (active_edges es row) in
    omega (arith, active_le es row, upto_more row es, reaching_le (of_whole (suc row)) (active_edges es row), length-append kept (starting_in (suc row) es))

pub few : (es : List Edge) (row : ℕ) → length (kept_of es row) + length (starting_in row es) ≤ length es
few es row = omega (arith, active_le es row, upto_le row es, length-append (kept_of es row) (starting_in row es), ap length (active_is es row))
