-- What is read, by its place in the file. Assumes nothing.
use mathlib.Core.Path.{◌≡◌, refl, sym, ap, ◌∙◌}
use mathlib.Core.List.{List, [], ◌∷◌, ◌++◌, append_assoc}
use Prim.Native.Nat.{ℕ, ◌-◌, ◌≤◌}
use native.Mathlib.Omega.{arith}
use lib.ListN.{length, take, drop, length-append, length-drop, take-append-drop}
use lib.Seq.{drop_at}
use Rattle.cells.specs.declared.Size.{Size}
use Rattle.pgm_reader.specs.Reading.{Read, ok, bad, read_field, read_positive, Head, read_header}
use Rattle.pgm_reader.specs.Steps.{field_of, header_of}
use Rattle.pgm_reader.specs.Laws.{FieldIs, HeaderIs}
use Rattle.std.specs.Prelude.{Option, Some, None}
use Rattle.pgm_reader.specs.declared.Field.{Field}
use Rattle.pgm_reader.specs.declared.Header.{Header}
use Rattle.pgm_reader.proofs.Fields.{field_is}
use Rattle.pgm_reader.proofs.Laws.{positive_ok, header_exactly_when}

pub place_back : (file : List ℕ) (at : ℕ) → at ≤ length file → length file - length (drop at file) ≡ at
place_back file at h = omega (arith, length-drop at file)

-- a number and a header, found
abbrev pub some_field : ℕ → ℕ → Option Field
some_field n at = Some (record { number = n; at = at })

abbrev pub some_header : Size → ℕ → ℕ → Option Header
some_header size depth at = Some (record { size = size; depth = depth; at = at })

-- ---- bytes behind others

record Behind (l rest : List ℕ) : Type 0 where
  front : List ℕ
  is : l ≡ front ++ rest

behind_behind : {l m rest : List ℕ} → Behind l m → Behind m rest → Behind l rest
behind_behind {l} {m} {rest} a b =
    record { front = a.front ++ b.front; is = a.is ∙ ap (λ (x : List ℕ). a.front ++ x) b.is ∙ sym (append_assoc a.front b.front rest) }

field_behind : {l rest : List ℕ} {n : ℕ} → FieldIs l n rest → Behind l rest
field_behind {l} {rest} f = record { front = f.space ++ f.digits; is = f.is ∙ sym (append_assoc f.space f.digits rest) }

header_behind : {l rest : List ℕ} {size : Size} {depth : ℕ} → HeaderIs l size depth rest → Behind l rest
header_behind h =
    behind_behind (record { front = 80 ∷ 53 ∷ []; is = h.is_mark })
    (behind_behind (field_behind h.is_width)
    (behind_behind (field_behind h.is_height) (behind_behind (field_behind h.is_depth) (record { front = h.last ∷ []; is = refl }))))

-- their place, where they stand behind a place
record PlaceOf (file rest : List ℕ) (at : ℕ) : Type 0 where
  there : drop at file ≡ rest
  within : at ≤ length file

place_of : (file : List ℕ) (from : ℕ) (rest : List ℕ) → Behind (drop from file) rest → PlaceOf file rest (length file - length rest)
place_of file from rest b =
    let p = take from file ++ b.front in
    let joined = append_assoc (take from file) b.front rest ∙ ap (λ (x : List ℕ). take from file ++ x) (sym b.is) in
    let e : file ≡ p ++ rest = sym (joined ∙ take-append-drop from file) in
    let n : length p ≡ length file - length rest = omega (arith, ap length e, length-append p rest) in
    let there = ap (λ (x : List ℕ). drop (length file - length rest) x) e ∙ drop_at p rest (length file - length rest) n in
    record { there = there; within = omega arith }

-- ---- a number of the header, as the code hands it on

number_read : (file : List ℕ) (from : ℕ) (r : Read ℕ) → ((n : ℕ) (rest : List ℕ) → r ≡ ok n rest → Behind (drop from file) rest)
    → (n at : ℕ) → field_of (length file) r ≡ some_field n at → (r ≡ ok n (drop at file)) × (at ≤ length file)
number_read file from (ok m rest) tail n at e =
    let p = place_of file from rest (tail m rest refl) in
    let w = p.within in
    let f : ◌≡◌ {A = Field} (record { number = m; at = length file - length rest }) (record { number = n; at = at }) = cc in
    let a : length file - length rest ≡ at = ap (λ (x : Field). x.at) f in
    let v : m ≡ n = ap (λ (x : Field). x.number) f in
    let d : drop at file ≡ rest = ap (λ (k : ℕ). drop k file) (sym a) ∙ p.there in
    (cc, omega arith)
number_read file from bad tail n at e = let z : ◌≡◌ {A = ℕ} 0 1 = cc in absurd (omega arith)

pub none_read : (total : ℕ) (r : Read ℕ) → field_of total r ≡ None → r ≡ bad
none_read total (ok m rest) e = let z : ◌≡◌ {A = ℕ} 0 1 = cc in absurd (omega arith)
none_read total bad e = refl

module _ (file : List ℕ) (from : ℕ) where
  abbrev here : List ℕ
  here = drop from file

  pub field_at : {n at : ℕ} → field_of (length file) (read_field here) ≡ some_field n at → (read_field here ≡ ok n (drop at file)) × (at ≤ length file)
  field_at {n} {at} e = number_read file from (read_field here) (λ m rest q. field_behind (field_is here m rest q)) n at e

  pub positive_at : {n at : ℕ} → field_of (length file) (read_positive here) ≡ some_field n at → (read_positive here ≡ ok n (drop at file)) × (at ≤ length file)
  positive_at {n} {at} e = number_read file from (read_positive here) (λ m rest q. field_behind (field_is here m rest (positive_ok here m rest q).0)) n at e

-- ---- a header

pub header_read : (file : List ℕ) {size : Size} {depth at : ℕ} → header_of (length file) (read_header file) ≡ some_header size depth at
    → (read_header file ≡ ok (record { size = size; depth = depth }) (drop at file)) × (at ≤ length file)
header_read file {size} {depth} {at} e = go (read_header file) refl e
  where
    go : (r : Read Head) → read_header file ≡ r → header_of (length file) r ≡ some_header size depth at
        → (r ≡ ok (record { size = size; depth = depth }) (drop at file)) × (at ≤ length file)
    go (ok h rest) q e =
        let p = place_of file 0 rest (header_behind (header_exactly_when.only file h rest q)) in
        let w = p.within in
        let x : ◌≡◌ {A = Header} (record { size = h.size; depth = h.depth; at = length file - length rest }) (record { size = size; depth = depth; at = at }) = cc in
        let a : length file - length rest ≡ at = ap (λ (h : Header). h.at) x in
        let s : h.size ≡ size = ap (λ (h : Header). h.size) x in
        let d : h.depth ≡ depth = ap (λ (h : Header). h.depth) x in
        let g : h ≡ record { size = size; depth = depth } = ap (λ (x : Size). record { size = x; depth = h.depth }) s ∙ ap (λ (x : ℕ). record { size = size; depth = x }) d in
        (ap (λ (x : Head). ok x rest) g ∙ ap (λ (x : List ℕ). ok (record { size = size; depth = depth }) x) (sym (ap (λ (k : ℕ). drop k file) (sym a) ∙ p.there)), omega arith)
    go bad q e = let z : ◌≡◌ {A = ℕ} 0 1 = cc in absurd (omega arith)

pub header_none : (total : ℕ) (r : Read Head) → header_of total r ≡ None → r ≡ bad
header_none total (ok h rest) e = let z : ◌≡◌ {A = ℕ} 0 1 = cc in absurd (omega arith)
header_none total bad e = refl
