-- Document 02, change 10: 'one call that takes a list of boxes and a safe-area box with its fringe. It says that
-- `contains` holds for each of them, or names the lowest place where it fails.' Definitions only.
use Rattle.std.specs.Prelude.{ℕ, suc, cond, List, [], ◌∷◌, Float, Option, Some, None, Result}
use Rattle.fault.specs.declared.Fault.{Fault}
use Rattle.fault.specs.Check.{Check, answer_unless, ◌and_then◌}
use Rattle.shape.specs.declared.RoundedBox.{RoundedBox}
use Rattle.shape.specs.Checks.{box_check_of, fringe_check_of}
use Rattle.clip_coverage.specs.declared.ClipCoverage.{ClipCoverage}
use Rattle.clip_coverage.specs.Distance.{contains_of}
use Rattle.covering.specs.Coverage.{coverage_of}
use Rattle.boxes.specs.Checks.{list_check_of}
use Rattle.inside.specs.declared.Inside.{Inside}
use Rattle.inside.specs.declared.Inside.TheVariants as inside

-- ---- refusals

-- 'List limits and their number are those of the touch list; the list's boxes are checked first, then the safe-area
-- box, then the fringe'
abbrev pub inside_check_of : List RoundedBox → RoundedBox → Float → Check
inside_check_of bs safe fringe = list_check_of bs and_then box_check_of safe and_then fringe_check_of fringe

-- ---- the answer

-- '`contains` holds for each of them, or names the lowest place where it fails', of boxes that stand at place n and
-- after it
abbrev pub first_outside_from : ℕ → List RoundedBox → ClipCoverage → Inside
first_outside_from n [] area = inside.All
first_outside_from n (b ∷ bs) area = cond (contains_of area b) (first_outside_from (suc n) bs area) (inside.Outside n)

-- 'No safe-area coverage at that fringe is a "no box" outcome, looked at before the list's answer. With coverage, an
-- empty list holds.' Places are counted from 0
abbrev pub inside_by : Option ClipCoverage → List RoundedBox → Option Inside
inside_by None bs = None
inside_by (Some area) bs = Some (first_outside_from 0 bs area)

-- the whole list, the safe area and the fringe are checked before anything is said
abbrev pub inside_call : List RoundedBox → RoundedBox → Float → Result (Option Inside) Fault
inside_call bs safe fringe = answer_unless (inside_check_of bs safe fringe) (inside_by (coverage_of safe fringe) bs)
