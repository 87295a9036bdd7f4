-- `laying::lay` meets its contract: what is left to do is done as before, row by row, and both masks' row starts are
-- kept. Assumes nothing.
use mathlib.Core.Path.{◌≡◌, ap, ap₂, ◌∙◌}
use mathlib.Core.List.{List}
use Prim.Native.Nat.{ℕ, ◌≤◌}
use native.Mathlib.Omega.{arith}
use lib.IntN.{ℤ, pos, ◌*ℤ◌}
use mir.Syntax.{w32, w64}
use mir.Val.{SFits, to_z, of_z}
use mir.ValLaws.{to_z-of_z}
use Rattle.cells.specs.Rows.{rows_changed}
use Rattle.cells.proofs.Rows.{changed_start, changed_more, changed_all, line_room}
use Rattle.laying.specs.declared.Start.{Start}
use Rattle.laying.specs.Laying.{laying}
use Rattle.laying.specs.Lines.{start_of, row_of}
use Rattle.laying.proofs.Rows.{all_rows}
use Rattle.laying.proofs.Starts.{kept_start, kept_more, first_fits, sum_fits, sum_is, met_start, kept_near}
use borrow.Author.Rules.{rules}
use Rattle.laying.proofs.lay.Goals as goal

-- what is known before the loop: an offset's number as the machine has it, where rows first meet, and where the
-- other's rows begin
met_is : (offset : ℤ) → SFits w32 offset → {r : Start} → r ≡ start_of (to_z w32 (of_z w32 offset)) → r ≡ start_of offset
met_is offset fits e = e ∙ ap start_of (to_z-of_z w32 offset fits)

begun_is : (offset : ℤ) (width : ℕ) → SFits w32 offset → width ≤ 4096 → {z : ℤ} → z ≡ to_z w32 (of_z w32 offset) *ℤ pos width
    → to_z w64 (of_z w64 z) ≡ offset *ℤ pos width
begun_is offset width fits wide e =
    let is = e ∙ ap (λ (z : ℤ). z *ℤ pos width) (to_z-of_z w32 offset fits) in
    ap (λ (z : ℤ). to_z w64 (of_z w64 z)) is ∙ to_z-of_z w64 (offset *ℤ pos width) (first_fits offset width fits wide)

pub loop-row-init : goal.loop-row-init
loop-row-init c = (changed_start c.requires.size_allowed.1, kept_start)

pub slice_bounds-lay_row-end : goal.slice_bounds-lay_row-end
slice_bounds-lay_row-end c = line_room c.loop-row.invariant.0 c.loop-row-test.true

pub lay_row-requires : goal.lay_row-requires
lay_row-requires c =
    let l = laying c.args.size c.args.other_size c.args.offset in
    let y_met = met_is c.args.offset.y (search rules) c.first_met-y.ensures in
    let begun = begun_is c.args.offset.y c.args.other_size.width (search rules) c.requires.size_allowed_2.0.0 c.first_start-other_from.ensures in
    record {
      size_allowed = c.requires.size_allowed_2;
      met_row_start = (rw y_met (met_start l begun c.loop-row.invariant.1), c.rows_met-rows.ensures);
    }

pub overflow_add-other_from : goal.overflow_add-other_from
overflow_add-other_from c =
    let l = laying c.args.size c.args.other_size c.args.offset in
    let wide = c.requires.size_allowed_2.0.0 in
    let begun = begun_is c.args.offset.y c.args.other_size.width (search rules) wide c.first_start-other_from.ensures in
    let small : c.loop-row.row ≤ 4096 = omega (arith, c.loop-row-test.true, c.requires.size_allowed.0.1) in
    sum_fits (kept_near l begun c.loop-row.invariant.1 (search rules) wide small) wide

pub loop-row-preserved : goal.loop-row-preserved
loop-row-preserved c =
    let l = laying c.args.size c.args.other_size c.args.offset in
    let wide = c.requires.size_allowed_2.0.0 in
    let begun = begun_is c.args.offset.y c.args.other_size.width (search rules) wide c.first_start-other_from.ensures in
    let small : c.loop-row.row ≤ 4096 = omega (arith, c.loop-row-test.true, c.requires.size_allowed.0.1) in
    let near = kept_near l begun c.loop-row.invariant.1 (search rules) wide small in
    (changed_more c.loop-row.invariant.0 c.loop-row-test.true c.lay_row.auto.line c.lay_row.ensures, kept_more c.loop-row.invariant.1 (sum_is near wide))

pub returns : goal.returns
returns c =
    let args = c.args in
    let x_met = met_is c.args.offset.x (search rules) c.first_met-x.ensures in
    let y_met = met_is c.args.offset.y (search rules) c.first_met-y.ensures in
    let change : Start → Start → List ℕ = λ x y. rows_changed (row_of x y args.other_size args.other.now) args.size.width args.size.height 0 args.mask.now in
    changed_all c.loop-row.invariant.0 c.loop-row-test.false ∙ ap₂ change x_met y_met
    ∙ all_rows (laying c.args.size c.args.other_size c.args.offset) args.mask.now args.other.now c.requires.size_allowed_2.1 c.requires.size_allowed.1
