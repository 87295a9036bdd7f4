-- What the fitter refuses. Document 01: 'Outline: 11, then verbs in order (8 or 10 at the first verb at fault), 9,
-- then 1 for positions'; document 02, change 5: 'Number 10 no longer occurs'. Definitions only.
use Rattle.std.specs.Prelude.{Bool, true, ◌&&◌, List, [], ◌∷◌, ℕ, suc, ◌+◌, ◌*◌, leb, eqb, length, Float, Result, Ok, Err}
use Rattle.fault.specs.declared.Fault.{Fault}
use Rattle.fault.specs.declared.Fault.TheVariants as fault
use Rattle.fault.specs.Check.{Check, unless_of, ◌and_then◌}
use Rattle.path.specs.declared.PackedVerb.{PackedVerb}
use Rattle.path.specs.Verbs.{unpacked_of, num_coordinates_of}
use Rattle.shape.specs.Checks.{in_range_of, numbers_check_of}

-- 'a verb byte above 5' is number 8
abbrev pub unpacked_check_of : Result PackedVerb Fault → Check
unpacked_check_of (Ok p) = Ok tt
unpacked_check_of (Err f) = Err f

unfoldable pub verb_check_of : ℕ → Check
verb_check_of byte = unpacked_check_of (unpacked_of byte)

unfoldable pub verbs_check_of : List ℕ → Check
verbs_check_of [] = Ok tt
verbs_check_of (byte ∷ bytes) = verb_check_of byte and_then verbs_check_of bytes

-- how many floats a verb's positions take. 'A position is two floats'
abbrev pub floats_by : Result PackedVerb Fault → ℕ
floats_by (Ok p) = 2 * num_coordinates_of p
floats_by (Err f) = 0

unfoldable pub floats_of : ℕ → ℕ
floats_of byte = floats_by (unpacked_of byte)

unfoldable pub floats_needed_of : List ℕ → ℕ
floats_needed_of [] = 0
floats_needed_of (byte ∷ bytes) = floats_of byte + floats_needed_of bytes

-- each number is finite and of size at most 2^20
unfoldable pub all_in_range_of : List Float → Bool
all_in_range_of [] = true
all_in_range_of (x ∷ xs) = in_range_of x && all_in_range_of xs

-- 'over 256 verbs' is number 11
abbrev pub most_verbs : ℕ
most_verbs = 256

-- the start, and the end of each segment: one for each verb but the MoveTo, and one that closes the contour
abbrev pub most_points : ℕ
most_points = suc most_verbs

-- number 11; 'verbs need more positions than given, or fewer' is number 9
unfoldable pub outline_check_of : List ℕ → List Float → Check
outline_check_of verbs positions =
    unless_of (leb (length verbs) most_verbs) fault.TooManyVerbs
    and_then verbs_check_of verbs
    and_then unless_of (eqb (floats_needed_of verbs) (length positions)) fault.PositionsMismatch
    and_then numbers_check_of (all_in_range_of positions)
