-- The points of an outline of lines and curves, as shape.rs's `rounded` samples it: 'The outline in order - each
-- segment's interior samples, then its end - and the segment ends alone'. `⊕ ⊖ ⊗ ⊘` are binary32's operations, and each
-- rounds once. Definitions only.
use Rattle.std.specs.Prelude.{List, [], ◌∷◌, ◌++◌, ℕ, ◌+◌, ◌*◌, Float}
use Rattle.std.specs.Float.{binary32}
use Rattle.std.specs.Float.Ieee.{of_bits}
use Rattle.float.specs.Ops.{◌⊕◌, ◌⊖◌, ◌⊗◌, ◌⊘◌, f½, f1}
use Rattle.whole.specs.Whole.{of_whole}
use Rattle.geometry.specs.declared.Position.{Position}
use Rattle.outline.specs.Outline.{most_verbs}
use Rattle.outline.specs.declared.Segment.{Segment}
use Rattle.outline.specs.declared.Segment.TheVariants as segment

-- 3, and 8, which is `(CURVE_SAMPLES + 1) as f32`
abbrev pub f3 : Float
f3 = of_bits binary32 0x4040_0000

abbrev pub f8 : Float
f8 = of_bits binary32 0x4100_0000

-- `at(k)`, with `s = 1.0 - t`
unfoldable pub bezier_of : Float → Float → Float → Float → Float → Float
bezier_of from c1 c2 end t =
    let s = f1 ⊖ t in
    s ⊗ s ⊗ s ⊗ from ⊕ f3 ⊗ s ⊗ s ⊗ t ⊗ c1 ⊕ f3 ⊗ s ⊗ t ⊗ t ⊗ c2 ⊕ t ⊗ t ⊗ t ⊗ end

-- a segment's end
abbrev pub end_of : Segment → Position
end_of (segment.Line x y) = record { x = x; y = y }
end_of (segment.Cubic a b c d x y) = record { x = x; y = y }

-- a line's middle: `(from + end) * 0.5`
unfoldable pub middle_of : Position → Position → Position
middle_of from end = record { x = (from.x ⊕ end.x) ⊗ f½; y = (from.y ⊕ end.y) ⊗ f½ }

-- a curve's sample i: `t = i as f32 / (CURVE_SAMPLES + 1) as f32`
unfoldable pub sample_of : Position → Position → Position → Position → ℕ → Position
sample_of from c1 c2 end i =
    let t = of_whole i ⊘ f8 in
    record { x = bezier_of from.x c1.x c2.x end.x t; y = bezier_of from.y c1.y c2.y end.y t }

-- what a segment adds to the outline: a line its middle and its end, a curve its seven samples and its end
abbrev pub line_samples_of : Position → Position → List Position
line_samples_of from end = middle_of from end ∷ end ∷ []

abbrev pub curve_samples_of : Position → Position → Position → Position → List Position
curve_samples_of from c1 c2 end =
    sample_of from c1 c2 end 1
    ∷ sample_of from c1 c2 end 2
    ∷ sample_of from c1 c2 end 3
    ∷ sample_of from c1 c2 end 4
    ∷ sample_of from c1 c2 end 5
    ∷ sample_of from c1 c2 end 6
    ∷ sample_of from c1 c2 end 7
    ∷ end
    ∷ []

abbrev pub segment_samples_of : Position → Segment → List Position
segment_samples_of from (segment.Line x y) = line_samples_of from (record { x = x; y = y })
segment_samples_of from (segment.Cubic a b c d x y) =
    curve_samples_of from (record { x = a; y = b }) (record { x = c; y = d }) (record { x = x; y = y })

-- the points of the segments from a position on
unfoldable pub outline_from : Position → List Segment → List Position
outline_from from [] = []
outline_from from (s ∷ ss) = segment_samples_of from s ++ outline_from (end_of s) ss

-- `outline`
abbrev pub outline_of : Position → List Segment → List Position
outline_of start segments = start ∷ outline_from start segments

-- `anchors`
unfoldable pub ends_of : List Segment → List Position
ends_of [] = []
ends_of (s ∷ ss) = end_of s ∷ ends_of ss

abbrev pub anchors_of : Position → List Segment → List Position
anchors_of start segments = start ∷ ends_of segments

-- the start, and at most eight points for each segment
abbrev pub most_samples : ℕ
most_samples = 8 * most_verbs + 1
