-- What the functions that draw a list promise to each other. Definitions only.
use Rattle.std.specs.Prelude.{◌≡◌, List, ℕ, ◌≤◌, ◌<◌, ℤ, length, drop}
use Rattle.word_list.specs.Words.{Group, read_group, read_words, read_or, groups_of, points_in}
use Rattle.words.specs.Scan.{Fine, no_group}
use Rattle.word_list.specs.Words.{group_points}

-- a list without a fault, of so many points
pub record ListCounted (words : List ℤ) (points : ℕ) : Type 0 where
  pub fine : Fine (read_words words)
  pub count : points ≡ points_in (groups_of words)
  pub few : points ≤ 2048

-- the group whose words start at a place
abbrev pub group_at : List ℤ → ℕ → Group
group_at words at = read_or no_group (read_group 0 (drop at words))

-- there is one without a fault, of at most so many points
pub record GroupFine (words : List ℤ) (at points : ℕ) : Type 0 where
  pub inside : at < length words
  pub fine : Fine (read_group 0 (drop at words))
  pub few : group_points (group_at words at) ≤ points
