-- Edges in lent floats: after a store, and after the floats before them were replaced. Assumes nothing.
use mathlib.Core.Path.{◌≡◌, refl, sym, ap, ◌∙◌}
use mathlib.Core.Logic.{◌≢◌, ◌⊎◌, inl, inr}
use mathlib.Core.List.{List, [], ◌∷◌, ◌++◌}
use Prim.Native.Nat.{ℕ, zero, suc, ◌+◌, ◌*◌, ◌-◌, ◌≤◌, ◌<◌}
use native.Mathlib.Omega.{arith}
use lib.ListN.{length, get_or, set, take, drop, length-set, length-take}
use lib.Seq.{get_or-set_same, get_or-set_other, get_or-append-add, get_or-drop, get_or-take, take-set-le, ext_get_or}
use lib.Ieee.{Float, nan}
use Rattle.edge.specs.declared.Edge.{Edge}
use Rattle.edge.specs.Floats.{edge_at, edges_at, put_edge}

-- the floats from `from` up to `to` are as they were
abbrev pub Same : List Float → List Float → ℕ → ℕ → Type 0
Same gs fs from to = (i : ℕ) → from ≤ i → i < to → get_or gs i nan ≡ get_or fs i nan

pub same_edge : (gs fs : List Float) (at : ℕ) → Same gs fs at (at + 5) → edge_at gs at ≡ edge_at fs at
unfolding edge_at
same_edge gs fs at s = rw (s at (omega arith) (omega arith), one 1 (omega arith), one 2 (omega arith), one 3 (omega arith), one 4 (omega arith)) refl
  where
    one : (k : ℕ) → k < 5 → get_or gs (at + k) nan ≡ get_or fs (at + k) nan
    one k h = s (at + k) (omega arith) (omega arith)

pub same_edges : (n : ℕ) (gs fs : List Float) (at : ℕ) → Same gs fs at (at + 5 * n) → edges_at gs at n ≡ edges_at fs at n
unfolding edges_at
same_edges zero gs fs at s = refl
same_edges (suc n) gs fs at s =
    rw (same_edge gs fs at (λ i p q. s i p (omega arith)), same_edges n gs fs (at + 5) (λ i p q. s i (omega arith) (omega arith))) refl

-- ---- after a store

module _ (fs : List Float) (at : ℕ) (e : Edge) where
  -- the floats after each of the five stores
  abbrev s1 : List Float
  s1 = set fs at e.x

  abbrev s2 : List Float
  s2 = set s1 (at + 1) e.y

  abbrev s3 : List Float
  s3 = set s2 (at + 2) e.bottom

  abbrev s4 : List Float
  s4 = set s3 (at + 3) e.slope

  abbrev s5 : List Float
  s5 = set s4 (at + 4) e.down

  pub length_put : length (put_edge fs at e) ≡ length fs
  unfolding put_edge
  length_put = simp length-set

  past1 : (i : ℕ) → i ≢ at → get_or s1 i nan ≡ get_or fs i nan
  past1 i = get_or-set_other fs at i e.x nan

  past2 : (i : ℕ) → i ≢ at + 1 → get_or s2 i nan ≡ get_or s1 i nan
  past2 i = get_or-set_other s1 (at + 1) i e.y nan

  past3 : (i : ℕ) → i ≢ at + 2 → get_or s3 i nan ≡ get_or s2 i nan
  past3 i = get_or-set_other s2 (at + 2) i e.bottom nan

  past4 : (i : ℕ) → i ≢ at + 3 → get_or s4 i nan ≡ get_or s3 i nan
  past4 i = get_or-set_other s3 (at + 3) i e.slope nan

  past5 : (i : ℕ) → i ≢ at + 4 → get_or s5 i nan ≡ get_or s4 i nan
  past5 i = get_or-set_other s4 (at + 4) i e.down nan

  pub put_other : (i : ℕ) → (i < at) ⊎ (at + 5 ≤ i) → get_or (put_edge fs at e) i nan ≡ get_or fs i nan
  unfolding put_edge
  put_other i o =
      past5 i (far 4 (omega arith) o) ∙ past4 i (far 3 (omega arith) o) ∙ past3 i (far 2 (omega arith) o)
      ∙ past2 i (far 1 (omega arith) o) ∙ past1 i (λ q. far 0 (omega arith) o (omega arith))
    where
      far : (k : ℕ) → k < 5 → (i < at) ⊎ (at + 5 ≤ i) → i ≢ at + k
      far k h (inl p) q = omega arith
      far k h (inr p) q = omega arith

  module _ (h : at + 5 ≤ length fs) where
    at_x : get_or s5 at nan ≡ e.x
    at_x =
        past5 at (λ q. omega arith) ∙ past4 at (λ q. omega arith) ∙ past3 at (λ q. omega arith) ∙ past2 at (λ q. omega arith)
        ∙ get_or-set_same fs at e.x nan (omega arith)

    at_y : get_or s5 (at + 1) nan ≡ e.y
    at_y =
        past5 (at + 1) (λ q. omega arith) ∙ past4 (at + 1) (λ q. omega arith) ∙ past3 (at + 1) (λ q. omega arith)
        ∙ get_or-set_same s1 (at + 1) e.y nan (simp length-set (omega arith))

    at_bottom : get_or s5 (at + 2) nan ≡ e.bottom
    at_bottom =
        past5 (at + 2) (λ q. omega arith) ∙ past4 (at + 2) (λ q. omega arith)
        ∙ get_or-set_same s2 (at + 2) e.bottom nan (simp length-set (omega arith))

    at_slope : get_or s5 (at + 3) nan ≡ e.slope
    at_slope = past5 (at + 3) (λ q. omega arith) ∙ get_or-set_same s3 (at + 3) e.slope nan (simp length-set (omega arith))

    at_down : get_or s5 (at + 4) nan ≡ e.down
    at_down = get_or-set_same s4 (at + 4) e.down nan (simp length-set (omega arith))

    pub put_own : edge_at (put_edge fs at e) at ≡ e
    unfolding edge_at put_edge
    put_own = rw (at_x, at_y, at_bottom, at_slope, at_down) refl

  pub take_put : (n : ℕ) → n ≤ at → take n (put_edge fs at e) ≡ take n fs
  unfolding put_edge
  take_put n h =
      take-set-le n s4 (at + 4) e.down (omega arith) ∙ take-set-le n s3 (at + 3) e.slope (omega arith)
      ∙ take-set-le n s2 (at + 2) e.bottom (omega arith) ∙ take-set-le n s1 (at + 1) e.y (omega arith)
      ∙ take-set-le n fs at e.x (omega arith)

-- one edge more at the end
pub edges_snoc : (n : ℕ) (fs : List Float) (at : ℕ) → edges_at fs at (n + 1) ≡ edges_at fs at n ++ (edge_at fs (at + 5 * n) ∷ [])
unfolding edges_at
edges_snoc zero fs at = let e : at + 5 * 0 ≡ at = omega arith in rw e refl
edges_snoc (suc n) fs at =
    let e : (at + 5) + 5 * n ≡ at + 5 * suc n = omega arith in
    let s : suc n + 1 ≡ suc (n + 1) = omega arith in
    rw s (ap (λ (l : List Edge). edge_at fs at ∷ l) (edges_snoc n fs (at + 5) ∙ ap (λ (k : ℕ). edges_at fs (at + 5) n ++ (edge_at fs k ∷ [])) e))

pub front_other : (ys fs : List Float) (width i : ℕ) → length ys ≡ width → width ≤ i → get_or (ys ++ drop width fs) i nan ≡ get_or fs i nan
front_other ys fs width i e h =
    let k : ℕ = i - width in
    let s : i ≡ length ys + k = omega arith in
    let t : width + k ≡ i = omega arith in
    ap (λ (j : ℕ). get_or (ys ++ drop width fs) j nan) s ∙ get_or-append-add ys (drop width fs) k nan
    ∙ get_or-drop width fs k nan ∙ ap (λ (j : ℕ). get_or fs j nan) t

pub edges_length : (n : ℕ) (fs : List Float) (at : ℕ) → length (edges_at fs at n) ≡ n
unfolding edges_at
edges_length zero fs at = refl
edges_length (suc n) fs at = ap suc (edges_length n fs (at + 5))

pub take_same : (n : ℕ) (gs fs : List Float) → length gs ≡ length fs → ((i : ℕ) → i < n → get_or gs i nan ≡ get_or fs i nan) → take n gs ≡ take n fs
take_same n gs fs e s =
    ext_get_or nan (take n gs) (take n fs) (simp length-take (omega arith))
    (λ i h. let g : i < n = omega (arith, length-take n gs) in get_or-take n gs i nan g ∙ s i g ∙ sym (get_or-take n fs i nan g))
