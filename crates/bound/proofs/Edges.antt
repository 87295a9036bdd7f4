-- A group's edges by their points in words: what the engine and the exact side both make their edges of; and the active
-- edges of a row, in the engine's order. Assumes nothing.
use mathlib.Core.Path.{◌≡◌, refl, sym, ap, ◌∙◌}
use mathlib.Core.List.{List, [], ◌∷◌, ◌++◌, map}
use mathlib.Core.Bool.{Bool, true, false, cond, ◌&&◌, ◌||◌}
use Prim.Native.Nat.{ℕ, zero, suc, ◌≤◌}
use native.Mathlib.Omega.{arith}
use lib.Dec.{T, eqb, eqb→eq}
use lib.ListN.{length, length-append}
use lib.Ieee.{Float, lt, le, eq}
use Rattle.fraction.specs.Fraction.{Fraction, ◌≈ᶠ◌, natᶠ, ◌+ᶠ◌}
use Rattle.fraction.proofs.Linear.{at_eq, eq_at, add_at, over}
use Rattle.fraction.proofs.Order.{refl≈, trans≈}
use Rattle.fraction.proofs.Ring.{cong_add}
use Rattle.word_list.specs.Words.{Point, points_of}
use Rattle.word_list.specs.Writer.{PointInLimit, PointsInLimit, ContoursInLimit}
use Rattle.winding.specs.Winding.{ExactEdge, exact_point, exact_walk, last_point, exact_contour, exact_edges}
use Rattle.float.specs.Ops.{◌⊖◌, ◌⊘◌, f0, f1, f_minus_1}
use Rattle.whole.specs.Whole.{of_whole}
use Rattle.edge.specs.declared.Edge.{Edge}
use Rattle.edge.specs.Edges.{sloped_of, edge_between, start_row}
use Rattle.active_edges.specs.Active.{starting_in, reaching_below, active_edges}
use Rattle.contour.specs.Contours.{coordinate_of, edge_of, walk_of, last_of, contour_of, edges_of}
use Rattle.bound.proofs.Entries.{pick, sum_over, plus_none, none_plus}

pub record WordEdge : Type 0 where
  pub «from» : Point
  pub to : Point

abbrev pub word_walk : Point → List Point → List WordEdge
word_walk p [] = []
word_walk p (q ∷ qs) = record { «from» = p; to = q } ∷ word_walk q qs

abbrev pub word_contour : List Point → List WordEdge
word_contour [] = []
word_contour (p ∷ ps) = word_walk (last_point p ps) (p ∷ ps)

abbrev pub word_edges : List (List Point) → List WordEdge
word_edges [] = []
word_edges (c ∷ cs) = word_contour c ++ word_edges cs

-- ---- the exact edges
abbrev pub exact_of : WordEdge → ExactEdge
exact_of r = record { «from» = exact_point r.«from»; to = exact_point r.to }

map_append : {A B : Type 0} (f : A → B) (l m : List A) → map f (l ++ m) ≡ map f l ++ map f m
map_append f [] m = refl
map_append {A} {B} f (x ∷ l) m = ap (λ (z : List B). f x ∷ z) (map_append f l m)

walk_exact : (p : Point) (qs : List Point) → exact_walk p qs ≡ map exact_of (word_walk p qs)
unfolding exact_walk
walk_exact p [] = refl
walk_exact p (q ∷ qs) = ap (λ (z : List ExactEdge). exact_of (record { «from» = p; to = q }) ∷ z) (walk_exact q qs)

contour_exact : (ps : List Point) → exact_contour ps ≡ map exact_of (word_contour ps)
unfolding exact_contour
contour_exact [] = refl
contour_exact (p ∷ ps) = walk_exact (last_point p ps) (p ∷ ps)

pub edges_exact : (cs : List (List Point)) → exact_edges cs ≡ map exact_of (word_edges cs)
unfolding exact_edges
edges_exact [] = refl
edges_exact (c ∷ cs) =
    ap (λ (z : List ExactEdge). z ++ exact_edges cs) (contour_exact c) ∙ ap (λ (z : List ExactEdge). map exact_of (word_contour c) ++ z) (edges_exact cs)
    ∙ sym (map_append exact_of (word_contour c) (word_edges cs))

-- ---- the engine's, for a mask h high: one of each at most
abbrev pub float_of : ℕ → WordEdge → List Edge
float_of h r = edge_of h r.«from» r.to

abbrev pub spread : (WordEdge → List Edge) → List WordEdge → List Edge
spread f [] = []
spread f (r ∷ rs) = f r ++ spread f rs

assoc : (a b c : List Edge) → (a ++ b) ++ c ≡ a ++ (b ++ c)
assoc [] b c = refl
assoc (x ∷ a) b c = ap (λ (z : List Edge). x ∷ z) (assoc a b c)

spread_append : (f : WordEdge → List Edge) (l m : List WordEdge) → spread f (l ++ m) ≡ spread f l ++ spread f m
spread_append f [] m = refl
spread_append f (r ∷ l) m = ap (λ (z : List Edge). f r ++ z) (spread_append f l m) ∙ sym (assoc (f r) (spread f l) (spread f m))

walk_float : (h : ℕ) (p : Point) (qs : List Point) → walk_of h p qs ≡ spread (float_of h) (word_walk p qs)
unfolding walk_of
walk_float h p [] = refl
walk_float h p (q ∷ qs) = ap (λ (z : List Edge). edge_of h p q ++ z) (walk_float h q qs)

last_same : (p : Point) (ps : List Point) → last_of p ps ≡ last_point p ps
unfolding last_of last_point
last_same p [] = refl
last_same p (q ∷ qs) = last_same q qs

contour_float : (h : ℕ) (ps : List Point) → contour_of h ps ≡ spread (float_of h) (word_contour ps)
unfolding contour_of
contour_float h [] = refl
contour_float h (p ∷ ps) = ap (λ (z : Point). walk_of h z (p ∷ ps)) (last_same p ps) ∙ walk_float h (last_point p ps) (p ∷ ps)

pub edges_float : (h : ℕ) (cs : List (List Point)) → edges_of h cs ≡ spread (float_of h) (word_edges cs)
unfolding edges_of
edges_float h [] = refl
edges_float h (c ∷ cs) =
    ap (λ (z : List Edge). z ++ edges_of h cs) (contour_float h c) ∙ ap (λ (z : List Edge). spread (float_of h) (word_contour c) ++ z) (edges_float h cs)
    ∙ sym (spread_append (float_of h) (word_contour c) (word_edges cs))

-- ---- one edge at most
abbrev pub Short : List Edge → Type 0
Short [] = Unit {0}
Short (e ∷ []) = Unit {0}
Short (e ∷ d ∷ l) = ⊥

cond_short : (b : Bool) (l m : List Edge) → Short l → Short m → Short (cond b l m)
cond_short true l m p q = p
cond_short false l m p q = q

sloped_short : (h : ℕ) (xa ya xb yb d : Float) → Short (sloped_of h xa ya xb yb d)
unfolding sloped_of
sloped_short h xa ya xb yb d = cond_short (le yb f0 || le (of_whole h) ya) [] (record { x = xa; y = ya; bottom = yb; slope = (xb ⊖ xa) ⊘ (yb ⊖ ya); down = d } ∷ []) tt tt

pub float_short : (h : ℕ) (r : WordEdge) → Short (float_of h r)
unfolding edge_between
float_short h r =
    let x0 = coordinate_of r.«from».x in
    let y0 = coordinate_of r.«from».y in
    let x1 = coordinate_of r.to.x in
    let y1 = coordinate_of r.to.y in
    cond_short (eq y0 y1) [] (cond (lt y0 y1) (sloped_of h x0 y0 x1 y1 f1) (sloped_of h x1 y1 x0 y0 f_minus_1)) tt
    (cond_short (lt y0 y1) (sloped_of h x0 y0 x1 y1 f1) (sloped_of h x1 y1 x0 y0 f_minus_1) (sloped_short h x0 y0 x1 y1 f1) (sloped_short h x1 y1 x0 y0 f_minus_1))

-- ---- tests on it
abbrev pub any : (Edge → Bool) → List Edge → Bool
any t [] = false
any t (e ∷ es) = cond (t e) true (any t es)

-- an edge joins, and stays; so it is active in a row
abbrev pub active_in : ℕ → Edge → Bool
active_in zero e = eqb (start_row e) 0
active_in (suc row) e = cond (eqb (start_row e) (suc row)) true (active_in row e && lt (of_whole (suc row)) e.bottom)

abbrev pub is_active : ℕ → ℕ → WordEdge → Bool
is_active h row r = any (active_in row) (float_of h r)

abbrev pub sift : (WordEdge → Bool) → List WordEdge → List WordEdge
sift t [] = []
sift t (r ∷ rs) = cond (t r) (r ∷ sift t rs) (sift t rs)

abbrev starts : ℕ → ℕ → WordEdge → Bool
starts h row r = any (λ e. eqb (start_row e) row) (float_of h r)

abbrev reaches : ℕ → ℕ → WordEdge → Bool
reaches h row r = any (λ e. lt (of_whole row) e.bottom) (float_of h r)

-- the engine's order
abbrev pub actives : ℕ → List WordEdge → ℕ → List WordEdge
actives h rs zero = sift (starts h 0) rs
actives h rs (suc row) = sift (reaches h (suc row)) (actives h rs row) ++ sift (starts h (suc row)) rs

start_one : (row : ℕ) (l m : List Edge) → Short l → starting_in row (l ++ m) ≡ cond (any (λ e. eqb (start_row e) row) l) (l ++ starting_in row m) (starting_in row m)
unfolding starting_in
start_one row [] m s = refl
start_one row (e ∷ []) m s = go (eqb (start_row e) row)
  where
    go : (b : Bool) → cond b (e ∷ starting_in row m) (starting_in row m) ≡ cond (cond b true false) (e ∷ starting_in row m) (starting_in row m)
    go true = refl
    go false = refl
start_one row (e ∷ d ∷ l) m s = absurd s

reach_one : (y : Float) (l m : List Edge) → Short l → reaching_below y (l ++ m) ≡ cond (any (λ e. lt y e.bottom) l) (l ++ reaching_below y m) (reaching_below y m)
unfolding reaching_below
reach_one y [] m s = refl
reach_one y (e ∷ []) m s = go (lt y e.bottom)
  where
    go : (b : Bool) → cond b (e ∷ reaching_below y m) (reaching_below y m) ≡ cond (cond b true false) (e ∷ reaching_below y m) (reaching_below y m)
    go true = refl
    go false = refl
reach_one y (e ∷ d ∷ l) m s = absurd s

reach_append : (y : Float) (l m : List Edge) → reaching_below y (l ++ m) ≡ reaching_below y l ++ reaching_below y m
unfolding reaching_below
reach_append y [] m = refl
reach_append y (e ∷ l) m = go (lt y e.bottom) (reach_append y l m)
  where
    go : (b : Bool) → reaching_below y (l ++ m) ≡ reaching_below y l ++ reaching_below y m
        → cond b (e ∷ reaching_below y (l ++ m)) (reaching_below y (l ++ m)) ≡ cond b (e ∷ reaching_below y l) (reaching_below y l) ++ reaching_below y m
    go true h = ap (λ (z : List Edge). e ∷ z) h
    go false h = h

spread_cond : (f : WordEdge → List Edge) (b : Bool) (r : WordEdge) (l : List WordEdge) → spread f (cond b (r ∷ l) l) ≡ cond b (f r ++ spread f l) (spread f l)
spread_cond f true r l = refl
spread_cond f false r l = refl

sift_start : (h row : ℕ) (rs : List WordEdge) → starting_in row (spread (float_of h) rs) ≡ spread (float_of h) (sift (starts h row) rs)
unfolding starting_in
sift_start h row [] = refl
sift_start h row (r ∷ rs) =
    start_one row (float_of h r) (spread (float_of h) rs) (float_short h r)
    ∙ ap (λ (z : List Edge). cond (starts h row r) (float_of h r ++ z) z) (sift_start h row rs) ∙ sym (spread_cond (float_of h) (starts h row r) r (sift (starts h row) rs))

sift_reach : (h row : ℕ) (rs : List WordEdge) → reaching_below (of_whole row) (spread (float_of h) rs) ≡ spread (float_of h) (sift (reaches h row) rs)
unfolding reaching_below
sift_reach h row [] = refl
sift_reach h row (r ∷ rs) =
    reach_one (of_whole row) (float_of h r) (spread (float_of h) rs) (float_short h r)
    ∙ ap (λ (z : List Edge). cond (reaches h row r) (float_of h r ++ z) z) (sift_reach h row rs) ∙ sym (spread_cond (float_of h) (reaches h row r) r (sift (reaches h row) rs))

pub actives_is : (h : ℕ) (rs : List WordEdge) (row : ℕ) → active_edges (spread (float_of h) rs) row ≡ spread (float_of h) (actives h rs row)
unfolding active_edges
actives_is h rs zero = sift_start h 0 rs
actives_is h rs (suc row) =
    ap (λ (z : List Edge). reaching_below (of_whole (suc row)) z ++ starting_in (suc row) (spread (float_of h) rs)) (actives_is h rs row)
    ∙ ap (λ (z : List Edge). z ++ starting_in (suc row) (spread (float_of h) rs)) (sift_reach h (suc row) (actives h rs row))
    ∙ ap (λ (z : List Edge). spread (float_of h) (sift (reaches h (suc row)) (actives h rs row)) ++ z) (sift_start h (suc row) rs)
    ∙ sym (spread_append (float_of h) (sift (reaches h (suc row)) (actives h rs row)) (sift (starts h (suc row)) rs))

-- ---- all of a list
abbrev pub Every : (WordEdge → Type 0) → List WordEdge → Type 0
Every P [] = Unit {0}
Every P (r ∷ rs) = P r × Every P rs

pub every_map : (P Q : WordEdge → Type 0) (rs : List WordEdge) → ((r : WordEdge) → P r → Q r) → Every P rs → Every Q rs
every_map P Q [] f h = tt
every_map P Q (r ∷ rs) f h = (f r h.0, every_map P Q rs f h.1)

every_append : (P : WordEdge → Type 0) (l m : List WordEdge) → Every P l → Every P m → Every P (l ++ m)
every_append P [] m h k = k
every_append P (r ∷ l) m h k = (h.0, every_append P l m h.1 k)

every_sift : (P : WordEdge → Type 0) (t : WordEdge → Bool) (rs : List WordEdge) → Every (λ r. T (t r) → P r) rs → Every P (sift t rs)
every_sift P t [] h = tt
every_sift P t (r ∷ rs) h = go (t r) h.0 (every_sift P t rs h.1)
  where
    go : (b : Bool) → (T b → P r) → Every P (sift t rs) → Every P (cond b (r ∷ sift t rs) (sift t rs))
    go true f k = (f tt, k)
    go false f k = k

-- what is active, out of what it is made of
from_start : (row : ℕ) (l : List Edge) → Short l → T (any (λ e. eqb (start_row e) row) l) → T (any (active_in row) l)
from_start row [] s t = t
from_start zero (e ∷ []) s t = t
from_start (suc row) (e ∷ []) s t = go (eqb (start_row e) (suc row)) t
  where
    go : (b : Bool) → T (cond b true false) → T (cond (cond b true (active_in row e && lt (of_whole (suc row)) e.bottom)) true false)
    go true t = tt
    go false t = absurd t
from_start row (e ∷ d ∷ l) s t = absurd s

from_reach : (row : ℕ) (l : List Edge) → Short l → T (any (active_in row) l) → T (any (λ e. lt (of_whole (suc row)) e.bottom) l) → T (any (active_in (suc row)) l)
from_reach row [] s t u = t
from_reach row (e ∷ []) s t u = go (eqb (start_row e) (suc row)) (active_in row e) (lt (of_whole (suc row)) e.bottom) t u
  where
    go : (a b c : Bool) → T (cond b true false) → T (cond c true false) → T (cond (cond a true (b && c)) true false)
    go true b c t u = tt
    go false true true t u = tt
    go false true false t u = absurd u
    go false false c t u = absurd t
from_reach row (e ∷ d ∷ l) s t u = absurd s

pub every_active : (h row : ℕ) (P : WordEdge → Type 0) (rs : List WordEdge) → Every (λ r. T (is_active h row r) → P r) rs → Every P (actives h rs row)
every_active h zero P rs k =
    every_sift P (starts h 0) rs (every_map (λ r. T (is_active h 0 r) → P r) (λ r. T (starts h 0 r) → P r) rs (λ r f t. f (from_start 0 (float_of h r) (float_short h r) t)) k)
every_active h (suc row) P rs k =
    every_append P (sift (reaches h (suc row)) (actives h rs row)) (sift (starts h (suc row)) rs)
    (every_sift P (reaches h (suc row)) (actives h rs row) (every_active h row (λ r. T (reaches h (suc row) r) → P r) rs
    (every_map (λ r. T (is_active h (suc row) r) → P r) (λ r. T (is_active h row r) → T (reaches h (suc row) r) → P r) rs (λ r f t u. f (from_reach row (float_of h r) (float_short h r) t u)) k)))
    (every_sift P (starts h (suc row)) rs
    (every_map (λ r. T (is_active h (suc row) r) → P r) (λ r. T (starts h (suc row) r) → P r) rs (λ r f t. f (from_start (suc row) (float_of h r) (float_short h r) t)) k))

-- ---- sums
sum_append : (x : WordEdge → Fraction) (l m : List WordEdge) → sum_over x (l ++ m) ≈ᶠ sum_over x l +ᶠ sum_over x m
sum_append x [] m = over (natᶠ 0 ∷ sum_over x m ∷ []) (λ N n O M. eq_at N M (add_at N O M) n (omega (arith, O.is)))
sum_append x (r ∷ l) m = let i = sum_append x l m in
    over (x r ∷ sum_over x (l ++ m) ∷ sum_over x l ∷ sum_over x m ∷ []) (λ N n X S A B. eq_at N (add_at N X S) (add_at N (add_at N X A) B) n (omega (arith, at_eq N S (add_at N A B) i)))

sum_sift : (x : WordEdge → Fraction) (t : WordEdge → Bool) (rs : List WordEdge) → sum_over x (sift t rs) ≈ᶠ sum_over (λ r. pick (t r) (x r)) rs
sum_sift x t [] = refl≈ (natᶠ 0)
sum_sift x t (r ∷ rs) = go (t r) (sum_sift x t rs)
  where
    go : (b : Bool) → sum_over x (sift t rs) ≈ᶠ sum_over (λ r. pick (t r) (x r)) rs → sum_over x (cond b (r ∷ sift t rs) (sift t rs)) ≈ᶠ pick b (x r) +ᶠ sum_over (λ r. pick (t r) (x r)) rs
    go true h = cong_add (refl≈ (x r)) h
    go false h = over (natᶠ 0 ∷ sum_over x (sift t rs) ∷ sum_over (λ r. pick (t r) (x r)) rs ∷ []) (λ N n O A B. eq_at N A (add_at N O B) n (omega (arith, O.is, at_eq N A B h)))

sum_add : (x y : WordEdge → Fraction) (rs : List WordEdge) → sum_over x rs +ᶠ sum_over y rs ≈ᶠ sum_over (λ r. x r +ᶠ y r) rs
sum_add x y [] = over (natᶠ 0 ∷ []) (λ N n O. eq_at N (add_at N O O) O n (omega (arith, O.is)))
sum_add x y (r ∷ rs) = let i = sum_add x y rs in
    over (x r ∷ y r ∷ sum_over x rs ∷ sum_over y rs ∷ sum_over (λ r. x r +ᶠ y r) rs ∷ []) (λ N n X Y A B C.
    eq_at N (add_at N (add_at N X A) (add_at N Y B)) (add_at N (add_at N X Y) C) n (omega (arith, at_eq N (add_at N A B) C i)))

-- one that is active has joined
joined : (row : ℕ) (e : Edge) → T (active_in row e) → start_row e ≤ row
joined zero e t = omega (arith, eqb→eq (start_row e) 0 t)
joined (suc row) e t = go (eqb (start_row e) (suc row)) (eqb→eq (start_row e) (suc row)) (active_in row e) (joined row e) (lt (of_whole (suc row)) e.bottom) t
  where
    go : (a : Bool) → (T a → start_row e ≡ suc row) → (b : Bool) → (T b → start_row e ≤ row) → (c : Bool) → T (cond a true (b && c)) → start_row e ≤ suc row
    go true f b g c t = omega (arith, f tt)
    go false f true g c t = omega (arith, g tt)
    go false f false g c t = absurd t

-- so the two ways to be active do not meet
pub sum_same : (x y : WordEdge → Fraction) (rs : List WordEdge) → ((r : WordEdge) → x r ≈ᶠ y r) → sum_over x rs ≈ᶠ sum_over y rs
sum_same x y [] h = refl≈ (natᶠ 0)
sum_same x y (r ∷ rs) h = cong_add (h r) (sum_same x y rs h)

apart : (row : ℕ) (l : List Edge) (x : Fraction) → Short l
    → pick (any (active_in row) l) (pick (any (λ e. lt (of_whole (suc row)) e.bottom) l) x) +ᶠ pick (any (λ e. eqb (start_row e) (suc row)) l) x ≈ᶠ pick (any (active_in (suc row)) l) x
apart row [] x s = over (natᶠ 0 ∷ []) (λ N n O. eq_at N (add_at N O O) O n (omega (arith, O.is)))
apart row (e ∷ d ∷ l) x s = absurd s
apart row (e ∷ []) x s = go (active_in row e) (joined row e) (lt (of_whole (suc row)) e.bottom) (eqb (start_row e) (suc row)) (eqb→eq (start_row e) (suc row))
  where
    clash : start_row e ≤ row → start_row e ≡ suc row → ⊥
    clash h k = omega arith

    go : (a : Bool) → (T a → start_row e ≤ row) → (b c : Bool) → (T c → start_row e ≡ suc row)
        → pick (cond a true false) (pick (cond b true false) x) +ᶠ pick (cond c true false) x ≈ᶠ pick (cond (cond c true (a && b)) true false) x
    go true f b true g = absurd (clash (f tt) (g tt))
    go true f true false g = plus_none x
    go true f false false g = plus_none (natᶠ 0)
    go false f b true g = none_plus x
    go false f b false g = plus_none (natᶠ 0)

pub active_sum : (h row : ℕ) (x : WordEdge → Fraction) (rs : List WordEdge) → sum_over x (actives h rs row) ≈ᶠ sum_over (λ r. pick (is_active h row r) (x r)) rs
active_sum h zero x rs = sum_sift x (starts h 0) rs
active_sum h (suc row) x rs =
    trans≈ (sum_append x (sift (reaches h (suc row)) (actives h rs row)) (sift (starts h (suc row)) rs))
    (trans≈ (cong_add (trans≈ (sum_sift x (reaches h (suc row)) (actives h rs row)) (active_sum h row (λ r. pick (reaches h (suc row) r) (x r)) rs)) (sum_sift x (starts h (suc row)) rs))
    (trans≈ (sum_add (λ r. pick (is_active h row r) (pick (reaches h (suc row) r) (x r))) (λ r. pick (starts h (suc row) r) (x r)) rs)
    (sum_same (λ r. pick (is_active h row r) (pick (reaches h (suc row) r) (x r)) +ᶠ pick (starts h (suc row) r) (x r)) (λ r. pick (is_active h (suc row) r) (x r)) rs
    (λ r. apart row (float_of h r) (x r) (float_short h r)))))

-- ---- the limits: where a group's points are in them, so are its edges' ends, and there is an edge to each point
pub record EdgeInLimit (r : WordEdge) : Type 0 where
  pub «from» : PointInLimit r.«from»
  pub to : PointInLimit r.to

last_in_limit : (p : Point) (ps : List Point) → PointInLimit p → PointsInLimit ps → PointInLimit (last_point p ps)
unfolding last_point PointsInLimit
last_in_limit p [] h k = h
last_in_limit p (q ∷ qs) h k = last_in_limit q qs k.0 k.1

walk_in_limit : (p : Point) (qs : List Point) → PointInLimit p → PointsInLimit qs → Every EdgeInLimit (word_walk p qs) × (length (word_walk p qs) ≡ length qs)
unfolding PointsInLimit
walk_in_limit p [] h k = (tt, refl)
walk_in_limit p (q ∷ qs) h k = let i = walk_in_limit q qs k.0 k.1 in ((record { «from» = h; to = k.0 }, i.0), ap suc i.1)

contour_in_limit : (ps : List Point) → PointsInLimit ps → Every EdgeInLimit (word_contour ps) × (length (word_contour ps) ≡ length ps)
unfolding PointsInLimit
contour_in_limit [] k = (tt, refl)
contour_in_limit (p ∷ ps) k = walk_in_limit (last_point p ps) (p ∷ ps) (last_in_limit p ps k.0 k.1) k

pub edges_in_limit : (cs : List (List Point)) → ContoursInLimit cs → Every EdgeInLimit (word_edges cs) × (length (word_edges cs) ≡ points_of cs)
unfolding ContoursInLimit points_of
edges_in_limit [] k = (tt, refl)
edges_in_limit (c ∷ cs) k =
    let i = contour_in_limit c k.0 in
    let j = edges_in_limit cs k.1 in
    (every_append EdgeInLimit (word_contour c) (word_edges cs) i.0 j.0, omega (arith, length-append (word_contour c) (word_edges cs), i.1, j.1))
