-- The word list of a mask (document 01, 'The masks'), read from its first word on. Definitions only.
use Rattle.std.specs.Prelude.{ℕ, zero, suc, ◌+◌, Bool, cond, not, false, ◌||◌, List, [], ◌∷◌, ltb, eqb, ℤ, pos, negsuc, length}
use Rattle.std.specs.Int.Signed.{lt_z}
use Rattle.fault.specs.declared.Fault.{Fault}
use Rattle.fault.specs.declared.Fault.TheVariants.{ListEndsEarly, CountOutOfRange, CoordinateOutOfRange}

-- ---- what a list holds

-- 'pairs of coordinates, each in 256ths of a cell'
pub record Point : Type 0 where
  pub x : ℤ
  pub y : ℤ

-- 'A group is a rule word (0 non-zero, any other value even-odd), a count of contours, then per contour a count of
-- points and that many pairs of coordinates'
pub record Group : Type 0 where
  pub rule : ℤ
  pub contours : List (List Point)

abbrev pub is_zero : ℤ → Bool
is_zero (pos n) = eqb n 0
is_zero (negsuc n) = false

abbrev pub even_odd : Group → Bool
even_odd g = not (is_zero g.rule)

-- how many points contours have, and groups: 'points of the list'
unfoldable pub points_of : List (List Point) → ℕ
points_of [] = 0
points_of (c ∷ cs) = length c + points_of cs

abbrev pub group_points : Group → ℕ
group_points g = points_of g.contours

unfoldable pub points_in : List Group → ℕ
unfolding points_of
points_in [] = 0
points_in (g ∷ gs) = points_of g.contours + points_in gs

-- ---- reading

-- what was read and the words behind it, or the fault of the first word at fault
pub data Read (A : Type 0) : Type 0 where
  ok : A → List ℤ → Read A
  fault : Fault → Read A

-- reading goes on behind what was read
unfoldable pub and_then : {A B : Type 0} → Read A → (A → List ℤ → Read B) → Read B
and_then (ok a rest) more = more a rest
and_then (fault f) more = fault f

-- 'a count word below 0' is 6, and 'a missing word is at fault where it should stand': 5
unfoldable pub read_count : List ℤ → Read ℕ
read_count [] = fault ListEndsEarly
read_count (pos n ∷ ws) = ok n ws
read_count (negsuc n ∷ ws) = fault CountOutOfRange

-- 'a coordinate word beyond ±1,048,576' is 7
unfoldable pub beyond : ℤ → Bool
beyond w = lt_z w (negsuc 1048575) || lt_z (pos 1048576) w

unfoldable pub read_coordinate : List ℤ → Read ℤ
unfolding beyond
read_coordinate [] = fault ListEndsEarly
read_coordinate (w ∷ ws) = cond (beyond w) (fault CoordinateOutOfRange) (ok w ws)

-- a pair of coordinates, x before y, and n pairs
unfoldable pub read_point : List ℤ → Read Point
unfolding and_then read_coordinate
read_point ws = and_then (read_coordinate ws) (λ x rest. and_then (read_coordinate rest) (λ y more. ok (record { x = x; y = y }) more))

unfoldable pub read_points : ℕ → List ℤ → Read (List Point)
unfolding and_then read_point
read_points zero ws = ok [] ws
read_points (suc n) ws = and_then (read_point ws) (λ p rest. and_then (read_points n rest) (λ ps more. ok (p ∷ ps) more))

-- A contour, behind `before` points of the list. 'points passing 2,048 in the list' is 6, at the count that passes it
unfoldable pub read_contour : ℕ → List ℤ → Read (List Point)
unfolding and_then read_count read_points
read_contour before ws = and_then (read_count ws) (λ n rest. cond (ltb 2048 (before + n)) (fault CountOutOfRange) (read_points n rest))

-- n contours
unfoldable pub read_contours : ℕ → ℕ → List ℤ → Read (List (List Point))
unfolding and_then read_contour
read_contours zero before ws = ok [] ws
read_contours (suc n) before ws = and_then (read_contour before ws) (λ c rest. and_then (read_contours n (before + length c) rest) (λ cs more. ok (c ∷ cs) more))

unfoldable pub read_group : ℕ → List ℤ → Read Group
unfolding and_then read_count read_contours
read_group before [] = fault ListEndsEarly
read_group before (w ∷ ws) = and_then (read_count ws) (λ n rest. and_then (read_contours n before rest) (λ cs more. ok (record { rule = w; contours = cs }) more))

-- 'Groups follow one another.' At the end of the list there is none; at most n of them are read
abbrev pub none_at_end : List ℤ → Read (List Group) → Read (List Group)
none_at_end [] groups = ok [] []
none_at_end (w ∷ ws) groups = groups

unfoldable pub read_groups : ℕ → ℕ → List ℤ → Read (List Group)
unfolding and_then read_group points_of
read_groups zero before ws = ok [] ws
read_groups (suc n) before ws =
    none_at_end ws (and_then (read_group before ws) (λ g rest. and_then (read_groups n (before + points_of g.contours) rest) (λ gs more. ok (g ∷ gs) more)))

-- The whole list. A group has two words at least, so a list has no more groups than words
unfoldable pub read_words : List ℤ → Read (List Group)
unfolding read_groups
read_words ws = read_groups (length ws) 0 ws

-- what was read, and another value where a word was at fault
abbrev pub read_or : {A : Type 0} → A → Read A → A
read_or other (ok a rest) = a
read_or other (fault f) = other

-- the groups of a list without a fault, and none of another
abbrev pub groups_of : List ℤ → List Group
groups_of ws = read_or [] (read_words ws)
