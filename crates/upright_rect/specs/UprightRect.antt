-- The upright rect that an outline fills, as shape.rs computes it. Definitions only.
use Rattle.std.specs.Prelude.{cond, ◌&&◌, List, ℕ, leb, length, Float, Option, Some, None}
use Rattle.geometry.specs.declared.Transform2D.{Transform2D}
use Rattle.shape.specs.declared.RoundedBox.{RoundedBox}
use Rattle.shape.specs.Outline.{transformed_of}
use Rattle.sides.specs.Shared.{square_of}
use Rattle.fit.specs.Fit.{fit_of}
use Rattle.fill.specs.Fill.{upright_of}

-- MAX_FILL_VERBS
abbrev pub max_fill_verbs : ℕ
max_fill_verbs = 8

-- `(fill.upright() && fill.radii == [0.0, 0.0]).then_some(fill)`
unfoldable pub upright_only_of : RoundedBox → Option RoundedBox
upright_only_of fill = cond (upright_of fill && square_of fill) (Some fill) None

-- `fill`: the outline's box, carried along
abbrev pub upright_by : Option RoundedBox → Transform2D → Option RoundedBox
upright_by (Some b) t = upright_only_of (transformed_of b t)
upright_by None t = None

-- RoundedBox::upright_rect. Document 02, change 1: 'A done call of `upright_rect` gives no box for a straight outline
-- of more than 8 verbs'; nor for a curved one, as in the Rust
unfoldable pub upright_rect_of : List ℕ → List Float → Transform2D → Option RoundedBox
upright_rect_of verbs positions t = cond (leb (length verbs) max_fill_verbs) (upright_by (fit_of verbs positions) t) None
