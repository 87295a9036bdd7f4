-- `laying::lay_line` meets its contract. Assumes nothing.
use mathlib.Core.Path.{◌≡◌, ap₂, ◌∙◌}
use mathlib.Core.List.{List, ◌++◌}
use Prim.Native.Nat.{ℕ, ◌≤◌}
use native.Mathlib.Omega.{arith}
use lib.ListN.{length}
use lib.Seq.{length-take-le}
use Rattle.laying.specs.Lines.{under_of}
use Rattle.laying.proofs.Cells.{line_before, line_past, rest_lent, rest_put, drop_lent}
use Rattle.laying.proofs.lay_line.Goals as goal
use Rattle.laying.proofs.lay_line.Goals.{then-line-own-via-then-line-own, then-line-own-via-else-line-own+then-others-from}

pub returns-then-line-own : goal.returns-then-line-own
returns-then-line-own c =
    let args = c.args in
    let cleared = c.fill.ensures.after (λ y e. e) in
    elim c.then-line-own.branch [
      | then-line-own-via-then-line-own w ↦ cleared ∙ line_before args.x args.line.now args.others.now w.if-line-own.true
      | then-line-own-via-else-line-own+then-others-from w ↦ cleared ∙ line_past args.x args.line.now args.others.now w.if-others-from.true
    ]

pub returns : goal.returns
returns c =
    let args = c.args in
    let l = args.line.now in
    let own = args.x.own in
    let h : own ≤ length l = omega arith in
    let long : length c.fill-2.new.self ≡ own = c.fill-2.auto.self ∙ length-take-le own l h in
    rest_put l c.fill-2.new.self own long h c.lay_front.new.cells
    ∙ ap₂ (λ (a b : List ℕ). a ++ b) (c.fill-2.ensures.after (λ y e. e)) (c.lay_front.ensures ∙ ap₂ under_of (rest_lent l c.fill-2.new.self own long h) (drop_lent args.x.other args.others.now))
