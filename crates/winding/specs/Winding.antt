-- The exact winding of a cell (document 01, 'Exact winding'), in fractions of whole numbers, from that paragraph
-- alone: nothing of the engine's enters. Of the word list it takes the points as they are read. Definitions only.
use Rattle.std.specs.Prelude.{List, [], ◌∷◌, ◌++◌, Bool, cond, ◌&&◌, ℕ, suc, ◌*◌, ◌%◌, ℤ}
use Rattle.std.proofs.Common.{pow_pos}
use Rattle.fraction.specs.Whole.{natʷ, sizeʷ, ofℤ}
use Rattle.fraction.specs.Fraction.{Fraction, leᵇ, ltᵇ, natᶠ, ◌/2^◌, ◌+ᶠ◌, ◌-ᶠ◌, ◌*ᶠ◌, ◌/ᶠ◌, negᶠ, absᶠ, minᶠ, maxᶠ, clampᶠ}
use Rattle.word_list.specs.Words.{Point, Group, even_odd}

-- ---- edges

-- 'pairs of coordinates, each in 256ths of a cell': a point in cells
pub record ExactPoint : Type 0 where
  pub x : Fraction
  pub y : Fraction

abbrev pub exact_coordinate : ℤ → Fraction
exact_coordinate w = record { num = ofℤ w; den = 256; pos = pow_pos 8 }

abbrev pub exact_point : Point → ExactPoint
exact_point p = record { x = exact_coordinate p.x; y = exact_coordinate p.y }

-- an edge along its contour
pub record ExactEdge : Type 0 where
  pub «from» : ExactPoint
  pub to : ExactPoint

-- from a point through others; 'A contour closes from its last point to its first.'
unfoldable pub exact_walk : Point → List Point → List ExactEdge
exact_walk p [] = []
exact_walk p (q ∷ qs) = record { «from» = exact_point p; to = exact_point q } ∷ exact_walk q qs

unfoldable pub last_point : Point → List Point → Point
last_point p [] = p
last_point p (q ∷ qs) = last_point q qs

unfoldable pub exact_contour : List Point → List ExactEdge
unfolding exact_walk last_point
exact_contour [] = []
exact_contour (p ∷ ps) = exact_walk (last_point p ps) (p ∷ ps)

unfoldable pub exact_edges : List (List Point) → List ExactEdge
unfolding exact_contour
exact_edges [] = []
exact_edges (c ∷ cs) = exact_contour c ++ exact_edges cs

-- ---- an edge's part in a cell

-- 'x(y) is its exact crossing': of the edge from its upper end a to its lower end b, at a height
unfoldable pub crossing : ExactPoint → ExactPoint → Fraction → Fraction
unfolding ◌+ᶠ◌ ◌-ᶠ◌ ◌*ᶠ◌ ◌/ᶠ◌
crossing a b y = a.x +ᶠ (y -ᶠ a.y) *ᶠ ((b.x -ᶠ a.x) /ᶠ (b.y -ᶠ a.y))

-- 'Let H(t) be 0 for t up to 0, t × t / 2 for t up to 1, and t − 1/2 beyond.'
unfoldable pub H : Fraction → Fraction
unfolding ◌-ᶠ◌ ◌*ᶠ◌
H t = cond (leᵇ t (natᶠ 0)) (natᶠ 0) (cond (leᵇ t (natᶠ 1)) (t *ᶠ t *ᶠ 1 /2^ 1) (t -ᶠ 1 /2^ 1))

-- 'The integral is (q − p) × (H(v) − H(u)) / (v − u), or, when u = v, (q − p) times u held between 0 and 1.'
unfoldable pub integral : Fraction → Fraction → Fraction → Fraction → Fraction
unfolding H clampᶠ ◌-ᶠ◌ ◌*ᶠ◌ ◌/ᶠ◌
integral p q u v = (q -ᶠ p) *ᶠ cond (leᵇ u v && leᵇ v u) (clampᶠ u) ((H v -ᶠ H u) /ᶠ (v -ᶠ u))

-- 'let the overlap run from height p to a greater height q, u be c + 1 − x(p) and v be c + 1 − x(q)': of an edge from
-- its upper end to its lower. Nothing where edge and row do not overlap
unfoldable pub down_part : ExactPoint → ExactPoint → ℕ → ℕ → Fraction
unfolding integral crossing minᶠ maxᶠ ◌-ᶠ◌
down_part a b column row =
    let p = maxᶠ a.y (natᶠ row) in
    let q = minᶠ b.y (natᶠ (suc row)) in
    cond (ltᵇ p q) (integral p q (natᶠ (suc column) -ᶠ crossing a b p) (natᶠ (suc column) -ᶠ crossing a b q)) (natᶠ 0)

-- 'Its part in a cell at column c is +1 (y grows along the contour) or −1, times the integral'. A level edge has none
unfoldable pub exact_part : ExactEdge → ℕ → ℕ → Fraction
unfolding down_part negᶠ
exact_part e column row =
    cond (ltᵇ e.«from».y e.to.y) (down_part e.«from» e.to column row)
    (cond (ltᵇ e.to.y e.«from».y) (negᶠ (down_part e.to e.«from» column row)) (natᶠ 0))

-- 'The cell's mean winding is the sum'
unfoldable pub mean_winding : List ExactEdge → ℕ → ℕ → Fraction
unfolding exact_part ◌+ᶠ◌
mean_winding [] column row = natᶠ 0
mean_winding (e ∷ es) column row = exact_part e column row +ᶠ mean_winding es column row

-- 'An edge "crosses" a row when it is not level and overlaps the row in more than a point.'
abbrev pub crosses : ExactEdge → ℕ → Bool
crosses e row = ltᵇ (maxᶠ (minᶠ e.«from».y e.to.y) (natᶠ row)) (minᶠ (maxᶠ e.«from».y e.to.y) (natᶠ (suc row)))

-- ---- shares

-- 'Non-zero share: its size, at most 1.'
unfoldable pub non_zero_share : Fraction → Fraction
unfolding minᶠ absᶠ
non_zero_share w = minᶠ (absᶠ w) (natᶠ 1)

-- 'Even-odd share: its size modulo 2, taken from 2 when over 1.'
unfoldable pub modulo2 : Fraction → Fraction
modulo2 w = record { num = natʷ (sizeʷ w.num % (2 * w.den)); den = w.den; pos = w.pos }

unfoldable pub even_odd_share : Fraction → Fraction
unfolding modulo2 ◌-ᶠ◌
even_odd_share w = cond (ltᵇ (natᶠ 1) (modulo2 w)) (natᶠ 2 -ᶠ modulo2 w) (modulo2 w)

-- a group's share of a cell, by its rule
abbrev pub group_share : Group → ℕ → ℕ → Fraction
group_share g column row =
    let w = mean_winding (exact_edges g.contours) column row in
    cond (even_odd g) (even_odd_share w) (non_zero_share w)
