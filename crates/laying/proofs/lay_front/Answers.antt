-- `laying::lay_front` meets its contract. Assumes nothing.
use mathlib.Core.Path.{◌≡◌, ap, ap₂, ◌∙◌}
use mathlib.Core.List.{List, ◌++◌}
use Prim.Native.Nat.{ℕ, ◌≤◌}
use native.Mathlib.Omega.{arith}
use lib.ListN.{length, replicate}
use lib.Seq.{length-take-le}
use Rattle.laying.proofs.Cells.{under_over, rest_lent, rest_put}
use Rattle.laying.proofs.lay_front.Goals as goal

pub returns : goal.returns
returns c =
    let args = c.args in
    let l = args.cells.now in
    let o = args.others.now in
    let h : length o ≤ length l = omega arith in
    let long : length c.lay_cells-2.new.cells ≡ length o = c.lay_cells-2.auto.cells ∙ length-take-le (length o) l h in
    rest_put l c.lay_cells-2.new.cells (length o) long h c.fill.new.self
    ∙ ap₂ (λ (a b : List ℕ). a ++ b) c.lay_cells-2.ensures (c.fill.ensures.after (λ y e. e) ∙ ap (λ (x : List ℕ). replicate (length x) 0) (rest_lent l c.lay_cells-2.new.cells (length o) long h))
    ∙ under_over l o h
