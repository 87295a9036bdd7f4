-- The words of groups, as document 01 lays them out ('A group is ..'), and what has to hold of the reading: it is the
-- writer's inverse, both ways. Definitions only.
use Rattle.std.specs.Prelude.{◌≡◌, false, List, [], ◌∷◌, ◌++◌, ◌≤◌, ℤ, pos, length}
use Rattle.word_list.specs.Words.{Point, Group, points_in, ok, beyond, read_words}

abbrev pub point_words : Point → List ℤ
point_words p = p.x ∷ p.y ∷ []

unfoldable pub points_words : List Point → List ℤ
points_words [] = []
points_words (p ∷ ps) = point_words p ++ points_words ps

abbrev pub contour_words : List Point → List ℤ
contour_words c = pos (length c) ∷ points_words c

unfoldable pub contours_words : List (List Point) → List ℤ
unfolding points_words
contours_words [] = []
contours_words (c ∷ cs) = contour_words c ++ contours_words cs

abbrev pub group_words : Group → List ℤ
group_words g = g.rule ∷ pos (length g.contours) ∷ contours_words g.contours

unfoldable pub words_of : List Group → List ℤ
unfolding contours_words
words_of [] = []
words_of (g ∷ gs) = group_words g ++ words_of gs

-- ---- groups that a list may hold: no coordinate is beyond its limit, and there are at most 2,048 points
abbrev pub PointInLimit : Point → Type 0
PointInLimit p = (beyond p.x ≡ false) × (beyond p.y ≡ false)

unfoldable pub PointsInLimit : List Point → Type 0
PointsInLimit [] = Unit
PointsInLimit (p ∷ ps) = PointInLimit p × PointsInLimit ps

unfoldable pub ContoursInLimit : List (List Point) → Type 0
unfolding PointsInLimit
ContoursInLimit [] = Unit
ContoursInLimit (c ∷ cs) = PointsInLimit c × ContoursInLimit cs

unfoldable pub GroupsInLimit : List Group → Type 0
unfolding ContoursInLimit
GroupsInLimit [] = Unit
GroupsInLimit (g ∷ gs) = ContoursInLimit g.contours × GroupsInLimit gs

pub record Allowed (gs : List Group) : Type 0 where
  pub in_limit : GroupsInLimit gs
  pub few : points_in gs ≤ 2048

-- Reading what was written gives it back, and every list that is read is the writing of its groups, which are allowed
pub record ReadsWhatIsWritten : Type 0 where
  pub back : (gs : List Group) → Allowed gs → read_words (words_of gs) ≡ ok gs []
  pub forth : (ws : List ℤ) (gs : List Group) (rest : List ℤ) → read_words ws ≡ ok gs rest → (rest ≡ []) × (ws ≡ words_of gs) × Allowed gs
