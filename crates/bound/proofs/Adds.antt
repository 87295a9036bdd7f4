-- What a piece of an edge adds to a row, and the constants of the proof, each named here once. docs/BOUND.md has them
-- in bytes. Definitions only.
use Prim.Native.Nat.{ℕ, ◌≤◌, ◌<◌}
use mathlib.Core.List.{List}
use Rattle.fraction.specs.Fraction.{Fraction, ◌≤ᶠ◌, natᶠ, ◌/2^◌, ◌+ᶠ◌, ◌*ᶠ◌, absᶠ, Near}
use Rattle.winding.proofs.MeanOf.{G}
use Rattle.bound.proofs.Entries.{Entry, prefix, total, count, here, Fine, From}

-- A piece from x to y with the signed height a adds L to a row `width` wide: at most m entries in a cell, off by at
-- most e in each cell and by d in the sum of sizes, and nothing left of a column that both ends are right of
pub record Adds (width m : ℕ) (L : List Entry) (x y a e d : Fraction) : Type 0 where
  pub fine : Fine L
  pub near : (c : ℕ) → c < width → Near (prefix L c) (a *ᶠ G c x y) e
  pub size : total L ≤ᶠ absᶠ a +ᶠ d
  pub few : (i : ℕ) → count (here i) L ≤ m
  pub from : (k : ℕ) → natᶠ k ≤ᶠ x → natᶠ k ≤ᶠ y → From k L

-- ---- span. The height of a piece: 1 at most, and a little over where an end is cut off, or both
abbrev pub cut_once : Fraction
cut_once = 2097153 /2^ 21

abbrev pub cut_twice : Fraction
cut_twice = 1048577 /2^ 20

-- the error of a quotient of size 1 at most, and of the height times it
abbrev pub quotient_error : Fraction
quotient_error = 1 /2^ 22

abbrev pub cut_error : Fraction
cut_error = 1 /2^ 21

-- the errors of a piece across cells, of one within the row, of one that is cut at the right, and of any; and by how
-- much the sizes pass the height
abbrev pub across_error : Fraction
across_error = 1 /2^ 14

abbrev pub inside_error : Fraction
inside_error = 257 /2^ 19

abbrev pub inside_excess : Fraction
inside_excess = 257 /2^ 18

abbrev pub right_error : Fraction
right_error = 1029 /2^ 21

abbrev pub right_excess : Fraction
right_excess = 2057 /2^ 21

abbrev pub span_error : Fraction
span_error = 129 /2^ 18

abbrev pub span_excess : Fraction
span_excess = 129 /2^ 17

-- ---- an edge: where it is at a height, and its entries against its exact part; the sum of its entries' sizes is at
-- most `mass`
abbrev pub place_error : Fraction
place_error = 11 /2^ 13

abbrev pub edge_error : Fraction
edge_error = 481 /2^ 18

abbrev pub mass : Fraction
mass = 513 /2^ 9

-- ---- the sums, as parts of the sizes summed: of a cell, for each of its entries; of a cell, for all; of the winding
abbrev pub entry_part : Fraction
entry_part = 1 /2^ 23

abbrev pub cell_part : Fraction
cell_part = 1 /2^ 11

abbrev pub sum_part : Fraction
sum_part = 1 /2^ 10

-- ---- the winding, for each edge that counts: its own error, and `sum_part` of its mass
abbrev pub winding_error : Fraction
winding_error = 1475 /2^ 19
