-- An outline that was checked. Definitions only.
use Rattle.std.specs.Prelude.{◌≡◌, List, ℕ, Float, Result, Ok, Err}
use Rattle.fault.specs.declared.Fault.{Fault}
use Rattle.fault.specs.Check.{Check}
use Rattle.outline.specs.declared.Outline.{Outline}

-- what checking verbs and positions answers: these, where the check passes, and else its cause
abbrev pub Checked : Check → List ℕ → List Float → Result Outline Fault → Type 0
Checked c verbs positions (Ok o) = (c ≡ Ok tt) × (o.verbs.now ≡ verbs) × (o.positions.now ≡ positions)
Checked c verbs positions (Err f) = c ≡ Err f
