-- Why the definitions of Winding.antt and Drawn.antt may be believed: what is proved of them, so that a reader need
-- not take a formula on trust. `proofs/Belief.antt` has an element of each record. Statements only, with the two
-- definitions that they need.
use Rattle.std.specs.Prelude.{List, [], ◌∷◌, ◌++◌, not, ℕ, suc, ◌*◌, T, length}
use Rattle.fraction.specs.Fraction.{Fraction, ◌≤ᶠ◌, ◌<ᶠ◌, ◌≈ᶠ◌, natᶠ, ◌/2^◌, ◌+ᶠ◌, ◌-ᶠ◌, ◌*ᶠ◌, negᶠ, absᶠ, minᶠ, maxᶠ, clampᶠ, Near, Within}
use Rattle.word_list.specs.Words.{Group}
use Rattle.winding.specs.Winding.{ExactPoint, ExactEdge, exact_edges, crossing, integral, exact_part, crosses, non_zero_share, even_odd_share}
use Rattle.winding.specs.Drawn.{drawn_share, crossings, allowed_difference}

-- The integral is one. It adds up over heights, and lies between the height times the least and the height times the
-- greatest held number: cut into ever smaller heights, that leaves one value alone
pub record IntegralBeliefs : Type 0 where
  -- 'x(y) is its exact crossing': at an end's height it is that end's x
  pub crossing_start : (a b : ExactPoint) → crossing a b a.y ≈ᶠ a.x
  pub crossing_end : (a b : ExactPoint) → a.y <ᶠ b.y → crossing a b b.y ≈ᶠ b.x
  -- u, z and v are what a straight line has at the heights p, m and q, k being its slope: from p to m and from m to q
  -- together it is what it is from p to q
  pub additive : (p m q u z v k : Fraction) → z -ᶠ u ≈ᶠ (m -ᶠ p) *ᶠ k → v -ᶠ z ≈ᶠ (q -ᶠ m) *ᶠ k → integral p m u z +ᶠ integral m q z v ≈ᶠ integral p q u v
  -- so is an edge's, in a cell of a column
  pub edge_additive : (a b : ExactPoint) (column : ℕ) (p m q : Fraction)
      → integral p m (natᶠ (suc column) -ᶠ crossing a b p) (natᶠ (suc column) -ᶠ crossing a b m) +ᶠ integral m q (natᶠ (suc column) -ᶠ crossing a b m) (natᶠ (suc column) -ᶠ crossing a b q)
      ≈ᶠ integral p q (natᶠ (suc column) -ᶠ crossing a b p) (natᶠ (suc column) -ᶠ crossing a b q)
  -- 'c + 1 − x(y) held between 0 and 1': with u and v at the two heights it is no less than the height times the
  -- lesser, and no more than the height times the greater; which comes first does not matter
  pub between : (p q u v : Fraction) → p ≤ᶠ q → u ≤ᶠ v → ((q -ᶠ p) *ᶠ clampᶠ u ≤ᶠ integral p q u v) × (integral p q u v ≤ᶠ (q -ᶠ p) *ᶠ clampᶠ v)
  pub either_way : (p q u v : Fraction) → integral p q u v ≈ᶠ integral p q v u
  -- 'or, when u = v, (q − p) times u held between 0 and 1', of any two fractions that are one number
  pub level : (p q u v : Fraction) → u ≈ᶠ v → integral p q u v ≈ᶠ (q -ᶠ p) *ᶠ clampᶠ u
  -- 'Its part in a cell .. is +1 (y grows along the contour) or −1, times the integral': downwards it is not below 0,
  -- and the edge turned round has it with the other sign
  pub downwards : (e : ExactEdge) (column row : ℕ) → e.«from».y <ᶠ e.to.y → natᶠ 0 ≤ᶠ exact_part e column row
  pub turned : (e : ExactEdge) (column row : ℕ) → exact_part (record { «from» = e.to; to = e.«from» }) column row ≈ᶠ negᶠ (exact_part e column row)
  -- it is at most 1 in size
  pub part_at_most_one : (e : ExactEdge) (column row : ℕ) → Within (exact_part e column row) (natᶠ 1)

-- 'it is not level and overlaps the row in more than a point': its upper end lies above the row's lower side, and its
-- lower end below the row's upper side
pub record Overlaps (e : ExactEdge) (row : ℕ) : Type 0 where
  pub sloped : ¬ (e.«from».y ≈ᶠ e.to.y)
  pub above : minᶠ e.«from».y e.to.y <ᶠ natᶠ (suc row)
  pub below : natᶠ row <ᶠ maxᶠ e.«from».y e.to.y

-- The test `crosses` is that, and an edge that does not cross a row has no part in it
pub record CrossingBeliefs : Type 0 where
  pub only : (e : ExactEdge) (row : ℕ) → T (crosses e row) → Overlaps e row
  pub whenever : (e : ExactEdge) (row : ℕ) → Overlaps e row → T (crosses e row)
  pub no_part : (e : ExactEdge) (column row : ℕ) → T (not (crosses e row)) → exact_part e column row ≈ᶠ natᶠ 0

-- Shares lie from 0 to 1, and change by no more than the winding does
pub record ShareBeliefs : Type 0 where
  pub non_zero_range : (w : Fraction) → (natᶠ 0 ≤ᶠ non_zero_share w) × (non_zero_share w ≤ᶠ natᶠ 1)
  pub even_odd_range : (w : Fraction) → (natᶠ 0 ≤ᶠ even_odd_share w) × (even_odd_share w ≤ᶠ natᶠ 1)
  pub non_zero_near : (w v e : Fraction) → natᶠ 0 ≤ᶠ e → Near w v e → Near (non_zero_share w) (non_zero_share v) e
  pub even_odd_near : (w v e : Fraction) → Near w v e → Near (even_odd_share w) (even_odd_share v) e
  -- the even-odd share is how far the winding's size is from the nearest even number: it is how far it is from one,
  -- and from none less far
  pub even_odd_is : (w : Fraction) → (k : ℕ) × (even_odd_share w ≈ᶠ absᶠ (absᶠ w -ᶠ natᶠ (2 * k)))
  pub even_odd_nearest : (w : Fraction) (k : ℕ) → even_odd_share w ≤ᶠ absᶠ (absᶠ w -ᶠ natᶠ (2 * k))
  -- a drawn cell's share: 'at most 1'
  pub drawn_nonneg : (gs : List Group) (column row : ℕ) → natᶠ 0 ≤ᶠ drawn_share gs column row
  pub drawn_at_most_one : (gs : List Group) (column row : ℕ) → drawn_share gs column row ≤ᶠ natᶠ 1

-- the edges of all groups
abbrev pub all_edges : List Group → List ExactEdge
all_edges [] = []
all_edges (g ∷ gs) = exact_edges g.contours ++ all_edges gs

-- 'Its allowed difference is 1 for each edge that crosses its row, plus a half for each group', said of all groups at
-- once
abbrev pub AllowedIs : Type 0
AllowedIs = (gs : List Group) (row : ℕ) → allowed_difference gs row ≈ᶠ natᶠ (crossings (all_edges gs) row) +ᶠ 1 /2^ 1 *ᶠ natᶠ (length gs)
