-- A line of cells under others, from their first on and from where they meet. Assumes nothing.
use mathlib.Core.Path.{◌≡◌, refl, sym, ap, ◌∙◌}
use mathlib.Core.List.{List, [], ◌∷◌, ◌++◌, append-nil}
use Prim.Native.Nat.{ℕ, zero, suc, ◌+◌, ◌-◌, ◌<◌, ◌≤◌}
use native.Mathlib.Nat.{not-suc-le-zero, le_of_suc-le-suc}
use native.Mathlib.Numerals.{add-one}
use native.Mathlib.Omega.{arith}
use lib.ListN.{length, get_or, set, take, drop, replicate, length-append, length-take, length-drop, length-replicate, drop_of_length-le, replicate-append-replicate, get_or-replicate, get_or-append}
use lib.Seq.{take_at, drop_at, take_all, take-length, drop-length, length-take-le, get_or-append-add, get_or-drop}
use Rattle.laying.specs.declared.Start.{Start}
use Rattle.laying.specs.Laying.{laid_byte}
use Rattle.laying.specs.Lines.{under_of, line_of}

-- ---- from their first on

pub under_length : (cells others : List ℕ) → length (under_of cells others) ≡ length cells
unfolding under_of
under_length [] others = refl
under_length (a ∷ l) [] = ap suc (under_length l [])
under_length (a ∷ l) (b ∷ bs) = ap suc (under_length l bs)

under_none : (cells : List ℕ) → under_of cells [] ≡ replicate (length cells) 0
unfolding under_of
under_none [] = refl
under_none (a ∷ l) = ap (λ (t : List ℕ). 0 ∷ t) (under_none l)

-- a cell that meets another, and one past the others' last
under_met : (cells others : List ℕ) (i : ℕ) → i < length cells → i < length others → get_or (under_of cells others) i 0 ≡ laid_byte (get_or cells i 0) (get_or others i 0)
unfolding under_of
under_met [] others i h g = absurd (not-suc-le-zero h)
under_met (a ∷ l) [] i h g = absurd (not-suc-le-zero g)
under_met (a ∷ l) (b ∷ bs) zero h g = refl
under_met (a ∷ l) (b ∷ bs) (suc i) h g = under_met l bs i (le_of_suc-le-suc h) (le_of_suc-le-suc g)

under_past : (cells others : List ℕ) (i : ℕ) → i < length cells → length others ≤ i → get_or (under_of cells others) i 0 ≡ 0
unfolding under_of
under_past [] others i h g = absurd (not-suc-le-zero h)
under_past (a ∷ l) [] i h g = ap (λ (t : List ℕ). get_or t i 0) (under_none (a ∷ l)) ∙ get_or-replicate (length (a ∷ l)) i 0 0 h
under_past (a ∷ l) (b ∷ bs) zero h g = absurd (not-suc-le-zero g)
under_past (a ∷ l) (b ∷ bs) (suc i) h g = under_past l bs i (le_of_suc-le-suc h) (le_of_suc-le-suc g)

-- the others end first
pub under_over : (cells others : List ℕ) → length others ≤ length cells → under_of (take (length others) cells) others ++ replicate (length (drop (length others) cells)) 0 ≡ under_of cells others
unfolding under_of
under_over cells [] h = sym (under_none cells)
under_over [] (b ∷ bs) h = absurd (not-suc-le-zero h)
under_over (a ∷ l) (b ∷ bs) h = ap (λ (t : List ℕ). laid_byte a b ∷ t) (under_over l bs (le_of_suc-le-suc h))

-- the first i are done
abbrev pub laid : ℕ → List ℕ → List ℕ → List ℕ
laid i cells others = take i cells ++ under_of (drop i cells) (drop i others)

laid_step : (i : ℕ) (cells others : List ℕ) → i < length cells → i < length others → laid i cells others ≡ laid (suc i) (set cells i (laid_byte (get_or cells i 0) (get_or others i 0))) others
unfolding under_of
laid_step i [] others h g = absurd (not-suc-le-zero h)
laid_step i (a ∷ l) [] h g = absurd (not-suc-le-zero g)
laid_step zero (a ∷ l) (b ∷ bs) h g = refl
laid_step (suc i) (a ∷ l) (b ∷ bs) h g = ap (λ (t : List ℕ). a ∷ t) (laid_step i l bs (le_of_suc-le-suc h) (le_of_suc-le-suc g))

pub laid_more : (i : ℕ) (cells others : List ℕ) → i < length cells → i < length others → laid i cells others ≡ laid (i + 1) (set cells i (laid_byte (get_or cells i 0) (get_or others i 0))) others
laid_more i cells others h g = rw add-one (laid_step i cells others h g)

pub laid_all : (i : ℕ) (cells others : List ℕ) → length cells ≤ i → laid i cells others ≡ cells
unfolding under_of
laid_all i cells others h = rw (drop_of_length-le cells h, take_all i cells h) (append-nil cells)

-- ---- a list whose front is replaced, and then the rest

module _ {A : Type 0} (l e : List A) (n : ℕ) (long : length e ≡ n) (h : n ≤ length l) where
  abbrev joined : List A
  joined = e ++ drop n l

  rest : drop n joined ≡ drop n l
  rest = drop_at e (drop n l) n long

  counted : length joined - n ≡ length (drop n l)
  counted = simp (length-append, length-drop) (omega arith)

  pub rest_lent : take (length joined - n) (drop n joined) ≡ drop n l
  rest_lent = rw (rest, counted) (take-length (drop n l))

  pub rest_put : (x : List A) → take n joined ++ (x ++ drop (length joined - n) (drop n joined)) ≡ e ++ x
  rest_put x = rw (rest, counted, take_at e (drop n l) n long, drop-length (drop n l), append-nil x) refl

-- what follows the first n, lent as a part
pub drop_lent : {A : Type 0} (n : ℕ) (l : List A) → take (length l - n) (drop n l) ≡ drop n l
drop_lent n l = let e : length l - n ≡ length (drop n l) = sym (length-drop n l) in rw e (take-length (drop n l))

-- ---- from where they meet

module _ (x : Start) (line others : List ℕ) where
  abbrev front : ℕ
  front = length (take x.own line)

  abbrev after : List ℕ
  after = under_of (drop x.own line) (drop x.other others)

  split : front + length (drop x.own line) ≡ length line
  split = simp (length-take, length-drop) (omega arith)

  pub line_length : length (line_of x line others) ≡ length line
  line_length = length-append (replicate front 0) after ∙ rw (length-replicate {A = ℕ} front 0, under_length (drop x.own line) (drop x.other others)) split

  -- the line ends before it meets the others, or they end before that
  pub line_before : length line ≤ x.own → replicate (length line) 0 ≡ line_of x line others
  unfolding under_of
  line_before h = sym (rw (take_all x.own line h, drop_of_length-le line h) (append-nil (replicate (length line) 0)))

  pub line_past : length others ≤ x.other → replicate (length line) 0 ≡ line_of x line others
  line_past h =
      ap (λ (n : ℕ). replicate n 0) (sym split) ∙ sym (replicate-append-replicate front (length (drop x.own line)) 0)
      ∙ sym (rw (drop_of_length-le others h, under_none (drop x.own line)) refl)

  -- a cell before the first that meets another, and one from there on
  pub line_left : (column : ℕ) → column < x.own → column < length line → get_or (line_of x line others) column 0 ≡ 0
  line_left column h g =
      let b : column < front = simp length-take (omega arith) in
      get_or-append (replicate front 0) after 0 column (rw (length-replicate {A = ℕ} front 0) b) ∙ get_or-replicate front column 0 0 b

  module _ (i : ℕ) (h : x.own + i < length line) where
    within : i < length (drop x.own line)
    within = simp length-drop (omega arith)

    in_after : get_or (line_of x line others) (x.own + i) 0 ≡ get_or after i 0
    in_after =
        let own : front ≡ x.own = length-take-le x.own line (omega arith) in
        let n : length (replicate {A = ℕ} front 0) ≡ x.own = length-replicate front 0 ∙ own in
        ap (λ (k : ℕ). get_or (line_of x line others) (k + i) 0) (sym n) ∙ get_or-append-add (replicate front 0) after i 0

    pub line_met : x.other + i < length others → get_or (line_of x line others) (x.own + i) 0 ≡ laid_byte (get_or line (x.own + i) 0) (get_or others (x.other + i) 0)
    line_met g =
        in_after ∙ under_met (drop x.own line) (drop x.other others) i within (simp length-drop (omega arith))
        ∙ rw (get_or-drop x.own line i 0, get_or-drop x.other others i 0) refl

    pub line_beyond : length others ≤ x.other + i → get_or (line_of x line others) (x.own + i) 0 ≡ 0
    line_beyond g = in_after ∙ under_past (drop x.own line) (drop x.other others) i within (simp length-drop (omega arith))
