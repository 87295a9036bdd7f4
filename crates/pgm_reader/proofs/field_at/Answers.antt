-- `pgm_reader::field_at` meets its contract. Assumes nothing.
use mathlib.Core.Path.{sym, ◌∙◌}
use Prim.Native.Nat.{◌+◌, ◌≤◌}
use native.Mathlib.Omega.{arith}
use lib.ListN.{length, drop}
use Rattle.pgm_reader.specs.Reading.{is_space, is_digit}
use Rattle.pgm_reader.proofs.Runs.{leading_fits}
use Rattle.pgm_reader.proofs.Steps.{field_spaceless, field_digitless, field_long, field_number}
use Rattle.pgm_reader.proofs.field_at.Goals as goal
use Rattle.pgm_reader.proofs.field_at.Goals.{then-digits-eq0-via-then-digits-eq0, then-digits-eq0-via-else-digits-eq0+then-digits-gt-MOST_DIGITS}

pub returns-then-spaces-eq0 : goal.returns-then-spaces-eq0
returns-then-spaces-eq0 c =
    let spaces = c.run_at-spaces.ensures is_space (λ b r _ e. e) in
    let args = c.args in
    field_spaceless (length args.file.now) (drop args.from args.file.now) (sym spaces ∙ c.if-spaces-eq0.true)

pub overflow_add-first : goal.overflow_add-first
overflow_add-first c =
    let spaces = c.run_at-spaces.ensures is_space (λ b r _ e. e) in
    omega (arith, leading_fits is_space c.args.file.now c.args.from c.requires, spaces)

pub run_at-digits-requires-clause-from_in_bounds : goal.run_at-digits-requires-clause-from_in_bounds
run_at-digits-requires-clause-from_in_bounds c =
    let spaces = c.run_at-spaces.ensures is_space (λ b r _ e. e) in
    omega (arith, leading_fits is_space c.args.file.now c.args.from c.requires, spaces)

pub returns-then-digits-eq0 : goal.returns-then-digits-eq0
returns-then-digits-eq0 c =
    let spaces = c.run_at-spaces.ensures is_space (λ b r _ e. e) in
    let digits = c.run_at-digits.ensures is_digit (λ b r _ e. e) in
    let args = c.args in
    elim c.then-digits-eq0.branch [
      | then-digits-eq0-via-then-digits-eq0 w ↦
          field_digitless args.file.now args.from c.run_at-spaces.result c.run_at-digits.result spaces c.if-spaces-eq0.false digits w.if-digits-eq0.true
      | then-digits-eq0-via-else-digits-eq0+then-digits-gt-MOST_DIGITS w ↦
          field_long args.file.now args.from c.run_at-spaces.result c.run_at-digits.result spaces c.if-spaces-eq0.false digits w.if-digits-gt-MOST_DIGITS.true
    ]

pub value_at-requires : goal.value_at-requires
value_at-requires c =
    let spaces = c.run_at-spaces.ensures is_space (λ b r _ e. e) in
    let digits = c.run_at-digits.ensures is_digit (λ b r _ e. e) in
    let within = leading_fits is_space c.args.file.now c.args.from c.requires in
    let e = digits in
    (omega (arith, within, spaces), c.if-digits-gt-MOST_DIGITS.false, omega arith)

pub overflow_add-result : goal.overflow_add-result
overflow_add-result c =
    let spaces = c.run_at-spaces.ensures is_space (λ b r _ e. e) in
    let digits = c.run_at-digits.ensures is_digit (λ b r _ e. e) in
    let within : c.args.from + c.run_at-spaces.result ≤ length c.args.file.now = omega (arith, leading_fits is_space c.args.file.now c.args.from c.requires, spaces) in
    omega (arith, leading_fits is_digit c.args.file.now (c.args.from + c.run_at-spaces.result) within, digits)

pub returns : goal.returns
returns c =
    let spaces = c.run_at-spaces.ensures is_space (λ b r _ e. e) in
    let digits = c.run_at-digits.ensures is_digit (λ b r _ e. e) in
    let args = c.args in
    let within : c.args.from + c.run_at-spaces.result ≤ length c.args.file.now = omega (arith, leading_fits is_space c.args.file.now c.args.from c.requires, spaces) in
    rw c.value_at.ensures
    (field_number args.file.now args.from c.run_at-spaces.result c.run_at-digits.result spaces
    c.if-spaces-eq0.false digits c.if-digits-eq0.false c.if-digits-gt-MOST_DIGITS.false within)
