-- `root_digits::root_by_digits` meets its contract: proofs/RootLoop.antt has the invariant and shows that a turn keeps
-- it. Assumes nothing.
use Prim.Native.Nat.{ℕ, ◌*◌, ◌/◌, ◌^◌, ◌≤◌, ◌<◌}
use Rattle.root_digits.proofs.RootLoop.{Digits, start, pair_lt, root_fits, step_one, step_zero}
use mathlib.Core.Path.{◌≡◌, ap, ◌∙◌, subst}
use native.Mathlib.Nat.{le_antisymm}
use native.Mathlib.Omega.{arith}
use Rattle.root_digits.proofs.root_by_digits.Goals as goal
use Rattle.root_digits.proofs.root_by_digits.Goals.{then-trial-rest, else-trial-rest}

-- the numbers of a turn are small
small : {a steps left root rest i : ℕ} → Digits a steps left root rest i → i < steps → steps ≤ 54
    → (rest ≤ 2 * root) × (root < 2 ^ 54) × (left / 2 ^ 62 < 4)
small d more h = (d.within, root_fits d more h, pair_lt d more)

pub loop-step-init : goal.loop-step-init
loop-step-init c = start c.args.a c.args.steps (omega arith)

pub overflow_mul-rest : goal.overflow_mul-rest
overflow_mul-rest c = omega (arith, small c.loop-step.invariant c.loop-step-test.true c.requires)

pub overflow_add-rest : goal.overflow_add-rest
overflow_add-rest c = omega (arith, small c.loop-step.invariant c.loop-step-test.true c.requires)

pub overflow_mul-left : goal.overflow_mul-left
overflow_mul-left c = omega arith

pub overflow_mul-trial : goal.overflow_mul-trial
overflow_mul-trial c = omega (arith, small c.loop-step.invariant c.loop-step-test.true c.requires)

pub overflow_add-trial : goal.overflow_add-trial
overflow_add-trial c = omega (arith, small c.loop-step.invariant c.loop-step-test.true c.requires)

pub overflow_mul-root : goal.overflow_mul-root
overflow_mul-root c = omega (arith, small c.loop-step.invariant c.loop-step-test.true c.requires)

pub overflow_add-root : goal.overflow_add-root
overflow_add-root c = omega (arith, small c.loop-step.invariant c.loop-step-test.true c.requires)

pub loop-step-preserved : goal.loop-step-preserved
loop-step-preserved c =
    let d = c.loop-step.invariant in
    let m = c.loop-step-test.true in
    elim c.if-trial-rest.branch [
      | then-trial-rest w ↦ rw (w.root-is, w.rest-is) (step_one d m w.if-trial-rest.true)
      | else-trial-rest w ↦ rw (w.root-is, w.rest-is) (step_zero d m w.if-trial-rest.false)
    ]

pub returns : goal.returns
returns c =
    let d = c.loop-step.invariant in
    let e : c.loop-step._step ≡ c.args.steps = le_antisymm d.upto c.loop-step-test.false in
    record {
      square = d.square ∙ ap (λ (i : ℕ). c.args.a * 4 ^ i / 2 ^ 64) e;
      left = d.within;
      short = subst (λ (i : ℕ). c.loop-step.root < 2 ^ i) e d.short;
    }
