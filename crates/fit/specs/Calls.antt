-- The public calls: the refusals in document 01's order, then what shape.rs answers. Document 02, change 5: 'a curved
-- outline gives a box, its strays, and the cut box where one side is square'. Definitions only.
use Rattle.std.specs.Prelude.{List, ℕ, Float, Option, Some, None, Result}
use Rattle.fault.specs.declared.Fault.{Fault}
use Rattle.fault.specs.Check.{answer_unless}
use Rattle.shape.specs.declared.RoundedBox.{RoundedBox}
use Rattle.outline.specs.Outline.{outline_check_of}
use Rattle.rounded.specs.declared.Fitted.{Fitted}
use Rattle.fit.specs.Fit.{fit_with_cut_of, uncut, fit_of}

-- `fit_with_cut`
abbrev pub fit_with_cut_call : List ℕ → List Float → Result (Option Fitted) Fault
fit_with_cut_call verbs positions = answer_unless (outline_check_of verbs positions) (fit_with_cut_of verbs positions)

-- `fit_outline`: `(shape, strays, None) => Some((shape, strays)), _ => None`
abbrev pub outline_answer : Option Fitted → Option (RoundedBox × Float)
outline_answer (Some f) = uncut f.cut (f.shape, f.strays)
outline_answer None = None

abbrev pub fit_outline_call : List ℕ → List Float → Result (Option (RoundedBox × Float)) Fault
fit_outline_call verbs positions = answer_unless (outline_check_of verbs positions) (outline_answer (fit_with_cut_of verbs positions))

-- `fit`
abbrev pub fit_call : List ℕ → List Float → Result (Option RoundedBox) Fault
fit_call verbs positions = answer_unless (outline_check_of verbs positions) (fit_of verbs positions)
