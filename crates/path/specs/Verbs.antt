-- The verbs of an outline, as path.rs and document 01 ('The boxes') have them. Definitions only.
use Rattle.std.specs.Prelude.{◌≡◌, cond, Result, Ok, Err, List, ℕ, ◌+◌, eqb, get_or, Float}
use Rattle.std.specs.Float.{nan}
use Rattle.fault.specs.declared.Fault.{Fault}
use Rattle.fault.specs.declared.Fault.TheVariants as fault
use Rattle.path.specs.declared.PackedVerb.{PackedVerb}
use Rattle.path.specs.declared.PackedVerb.TheVariants as packed
use Rattle.path.specs.declared.Verb.{Verb}
use Rattle.path.specs.declared.Verb.TheVariants as verb

-- Document 01: 'verb bytes (`PackedVerb` in path.rs: MoveTo 0 to Close 5)'; 'a verb byte above 5' is number 8
unfoldable pub unpacked_of : ℕ → Result PackedVerb Fault
unpacked_of byte =
    cond (eqb byte 0) (Ok packed.MoveTo)
    (cond (eqb byte 1) (Ok packed.LineTo)
    (cond (eqb byte 2) (Ok packed.BezierTo)
    (cond (eqb byte 3) (Ok packed.Solid)
    (cond (eqb byte 4) (Ok packed.Hole)
    (cond (eqb byte 5) (Ok packed.Close) (Err fault.UnknownVerb))))))

-- what a byte is taken for
abbrev pub Unpacks : ℕ → Result PackedVerb Fault → Type 0
Unpacks byte result = result ≡ unpacked_of byte

-- Verb::num_coordinates. Document 01: 'one for MoveTo and LineTo, three for BezierTo, else none'
abbrev pub num_coordinates_of : PackedVerb → ℕ
num_coordinates_of packed.MoveTo = 1
num_coordinates_of packed.LineTo = 1
num_coordinates_of packed.BezierTo = 3
num_coordinates_of packed.Solid = 0
num_coordinates_of packed.Hole = 0
num_coordinates_of packed.Close = 0

-- Verb::from_packed, its positions at place `at` of the floats, all of which are there
abbrev pub from_packed_of : PackedVerb → List Float → ℕ → Verb
from_packed_of packed.MoveTo coords at = verb.MoveTo (get_or coords at nan) (get_or coords (at + 1) nan)
from_packed_of packed.LineTo coords at = verb.LineTo (get_or coords at nan) (get_or coords (at + 1) nan)
from_packed_of packed.BezierTo coords at =
    verb.BezierTo (get_or coords at nan) (get_or coords (at + 1) nan) (get_or coords (at + 2) nan) (get_or coords (at + 3) nan) (get_or coords (at + 4) nan)
    (get_or coords (at + 5) nan)
from_packed_of packed.Solid coords at = verb.Solid
from_packed_of packed.Hole coords at = verb.Hole
from_packed_of packed.Close coords at = verb.Close
