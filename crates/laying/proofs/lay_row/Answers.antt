-- `laying::lay_row` meets its contract. Assumes nothing.
use mathlib.Core.Path.{◌≡◌, sym, ap, ◌∙◌}
use mathlib.Core.List.{List}
use Prim.Native.Nat.{ℕ, ◌+◌, ◌*◌, ◌-◌, ◌<◌, ◌≤◌}
use native.Mathlib.Omega.{arith}
use lib.IntN.{ℤ, pos, nat_abs}
use lib.ListN.{length}
use mir.Syntax.{w64}
use mir.Val.{SFits, to_z, of_z}
use mir.ValLaws.{to_z-of_z}
use Rattle.cells.specs.declared.Size.{Size}
use Rattle.cells.specs.Cells.{cells_of}
use Rattle.cells.proofs.Rows.{row_room}
use Rattle.laying.specs.declared.Start.{Start}
use Rattle.laying.specs.Lines.{row_met}
use Rattle.laying.specs.Starts.{rows_met, MetRowStart}
use Rattle.laying.proofs.Rows.{row_above, row_below, row_on}
use Rattle.laying.proofs.lay_row.Goals as goal
use Rattle.laying.proofs.lay_row.Goals.{then-row-y-via-then-row-y, then-row-y-via-else-row-y+then-rows-row}

-- where a row of the other mask is met
record Met (y : Start) (size : Size) (other : List ℕ) (start : ℤ) (row : ℕ) : Type 0 where
  low : row_met y row < size.height
  room : row_met y row * size.width + size.width ≤ length other
  from_is : to_z w64 (of_z w64 start) ≡ pos (row_met y row * size.width)

met : (y : Start) (size : Size) (other : List ℕ) (start : ℤ) (row rows : ℕ) → SFits w64 start → cells_of size ≤ length other
    → MetRowStart y size row start → rows ≡ rows_met y size.height → y.own ≤ row → row - y.own < rows → Met y size other start row
met y size other start row rows fits long is few past below =
    let low : row_met y row < size.height = omega arith in
    record {
      low = low;
      room = row_room (row_met y row) size.width size.height _ low long;
      from_is = to_z-of_z w64 start fits ∙ is past low;
    }

pub returns-then-row-y : goal.returns-then-row-y
returns-then-row-y c =
    let args = c.args in
    let past = c.requires.met_row_start.1 in
    let cleared = c.fill.ensures.after (λ y e. e) in
    elim c.then-row-y.branch [
      | then-row-y-via-then-row-y w ↦ cleared ∙ sym (row_above args.x args.y args.size args.other.now args.row args.line.now w.if-row-y.true)
      | then-row-y-via-else-row-y+then-rows-row w ↦
          cleared ∙ sym (row_below args.x args.y args.size args.other.now args.row args.line.now w.if-row-y.false (omega (arith, w.if-rows-row.true)))
    ]

pub overflow_cast-from : goal.overflow_cast-from
overflow_cast-from c =
    let m = met c.args.y c.args.size c.args.other.now c.args.start c.args.row c.args.rows c.ranges.start c.requires.size_allowed.1
    c.requires.met_row_start.0 c.requires.met_row_start.1 c.if-row-y.false c.if-rows-row.false in
    rw m.from_is (tt, record { fits = omega (arith, m.room) })

pub overflow_add-to : goal.overflow_add-to
overflow_add-to c =
    let m = met c.args.y c.args.size c.args.other.now c.args.start c.args.row c.args.rows c.ranges.start c.requires.size_allowed.1
    c.requires.met_row_start.0 c.requires.met_row_start.1 c.if-row-y.false c.if-rows-row.false in
    rw m.from_is (record { fits = omega (arith, m.room) })

pub slice_bounds-lay_line-end : goal.slice_bounds-lay_line-end
slice_bounds-lay_line-end c =
    let m = met c.args.y c.args.size c.args.other.now c.args.start c.args.row c.args.rows c.ranges.start c.requires.size_allowed.1
    c.requires.met_row_start.0 c.requires.met_row_start.1 c.if-row-y.false c.if-rows-row.false in
    rw m.from_is m.room

pub returns : goal.returns
returns c =
    let args = c.args in
    let m = met c.args.y c.args.size c.args.other.now c.args.start c.args.row c.args.rows c.ranges.start c.requires.size_allowed.1
    c.requires.met_row_start.0 c.requires.met_row_start.1 c.if-row-y.false c.if-rows-row.false in
    let w = c.args.size.width in
    let r = row_met c.args.y c.args.row in
    let d : r * w + w - r * w ≡ w = omega arith in
    c.lay_line.ensures
    ∙ rw (ap nat_abs m.from_is, d) (sym (row_on args.x args.y args.size args.other.now args.row args.line.now (omega arith) m.low))
