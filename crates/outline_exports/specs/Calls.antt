-- The calls on outlines on lent slices, outright: what each answers, from what is lent to it. What an answer hands over,
-- its number and its floats: boundary/specs/Answers.antt. Definitions only.
use Rattle.std.specs.Prelude.{ℕ, cond, List, ltb, Float, length, Option, Result, Err}
use Rattle.fault.specs.declared.Fault.TheVariants.{BufferTooShort}
use Rattle.fault.specs.declared.Fault.{Fault}
use Rattle.shape.specs.declared.RoundedBox.{RoundedBox}
use Rattle.rounded.specs.declared.Fitted.{Fitted}
use Rattle.fit.specs.Calls.{fit_call, fit_outline_call, fit_with_cut_call}

-- Where fewer are lent than an answer takes, number 4, before all else: ten for a box, one more for its strays, and ten
-- more for the box that cuts it, whether or not there is one

abbrev pub fit_lent : List ℕ → List Float → List Float → Result (Option RoundedBox) Fault
fit_lent verbs positions out = cond (ltb (length out) 10) (Err BufferTooShort) (fit_call verbs positions)

abbrev pub fit_outline_lent : List ℕ → List Float → List Float → Result (Option (RoundedBox × Float)) Fault
fit_outline_lent verbs positions out = cond (ltb (length out) 11) (Err BufferTooShort) (fit_outline_call verbs positions)

abbrev pub fit_with_cut_lent : List ℕ → List Float → List Float → Result (Option Fitted) Fault
fit_with_cut_lent verbs positions out = cond (ltb (length out) 21) (Err BufferTooShort) (fit_with_cut_call verbs positions)
