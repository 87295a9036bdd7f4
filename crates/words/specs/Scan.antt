-- How the code hands on what is read (word_list/specs/Words.antt): by a place of the list instead of the words behind
-- it, and by how many points there were instead of the points. Definitions only.
use Rattle.std.specs.Prelude.{List, [], ℕ, ◌+◌, ◌-◌, ℤ, pos, length, drop, Result, Ok, Err}
use Rattle.fault.specs.declared.Fault.{Fault}
use Rattle.word_list.specs.Words.{Point, Group, Read, ok, fault, read_or, read_points, read_contours}
use Rattle.words.specs.declared.Scan.{Scan}

-- in a list of `total` words, behind `before` points; `points` counts those of what was read
abbrev pub scan_of : {A : Type 0} → ℕ → (A → ℕ) → ℕ → Read A → Result Scan Fault
scan_of total points before (ok a rest) = Ok (record { at = total - length rest; points = before + points a })
scan_of total points before (fault f) = Err f

-- ---- a list that was checked is read again when it is drawn

-- no word was at fault
abbrev pub Fine : {A : Type 0} → Read A → Type 0
Fine (ok a rest) = Unit
Fine (fault f) = ⊥

-- the n points, and the n contours, whose words stand from a place on; none where a word is at fault
abbrev pub points_from : List ℤ → ℕ → ℕ → List Point
points_from ws at n = read_or [] (read_points n (drop at ws))

abbrev pub contours_from : List ℤ → ℕ → ℕ → List (List Point)
contours_from ws at n = read_or [] (read_contours n 0 (drop at ws))

-- the place behind what was read, in a list of `total` words
abbrev pub end_of : {A : Type 0} → ℕ → Read A → ℕ
end_of total (ok a rest) = total - length rest
end_of total (fault f) = total

-- a stand-in where no group was read
abbrev pub no_group : Group
no_group = record { rule = pos 0; contours = [] }
