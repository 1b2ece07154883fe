-- The parts of a line and rows: what is read after each, over plain variables.
use mathlib.Core.Path.{◌≡◌, refl, sym, ap, ◌∙◌}
use mathlib.Core.Bool.{true, false, ◌&&◌}
use mathlib.Core.List.{List, [], ◌∷◌, ◌++◌, append_assoc, append-nil}
use Prim.Native.Nat.{ℕ, zero, suc, ◌+◌, ◌*◌, ◌-◌, ◌<◌, ◌≤◌}
use native.Mathlib.Omega.{arith}
use borrow.Author.Tests.{lt-leb}
use borrow.Rule.Slice.PartMut.{put_mid, same_len_mid}
use lib.ListN.{length, take, drop, set, length-set, length-take, length-drop}
use lib.Seq.{take-suc-set, take_all}
use lib.Dec.{eqb}
use Rattle.std.specs.Prelude.{Some, None}
use Rattle.std.specs.List.{starts_with}
use Rattle.std.proofs.lemmas.Bool.Decides.{Decides-eqb}
use Rattle.std.proofs.lemmas.Slice.{take-put_mid}
use Rattle.std.proofs.lemmas.Slice.Eq.{starts_is}
use Rattle.pack.specs.Image.{most_symbols}
use Rattle.text.specs.declared.Kind.{Kind}
use Rattle.text.specs.declared.Kind.TheVariants.{Number, Set}
use Rattle.text.specs.Decimal.{is_digit, read_number}
use Rattle.text.specs.declared.Row.TheVariants.{Production, Group}
use Rattle.text.specs.Fields.{greatest_word, read_field, read_set, words_of}
use Rattle.text.specs.Form.{newline, comma, after}
use Rattle.text.specs.Reader.{Line, then_read, expect, field_then, read_fields, zeros, read_symbols, read_row}
use Rattle.text.specs.Reader.Line.{wrong, took}
use Rattle.text.proofs.Decimal.{field, decimal_one, number_back}
use Rattle.text.proofs.Lines.{expect_next, expect_name, expect_told, field_none, field_then_lem, symbols_none, symbols_much, symbols_go}
use Rattle.fields.specs.Steps.{OneDigit, IsWrong, Reads, taken}
use Rattle.fields.proofs.FieldLaws.{rest_is, taken_none, taken_some}
use Rattle.rows.specs.Steps.{Puts}

-- ---- a name that must stand next
module _ (s name : List ℕ) where
  name_stands : starts_with eqb s name ≡ true → s ≡ name ++ drop (length name) s
  name_stands e = (starts_is Decides-eqb s name true (sym e)).0 refl

  pub name_there : starts_with eqb s name ≡ true → Reads (expect name) s [] (take (length s - length name) (drop (length name) s))
  name_there e = record {
    line = λ w. ap (expect name w) (name_stands e) ∙ expect_name name w (drop (length name) s) ∙ rw (rest_is s (length name), append-nil w);
    within = rw (rest_is s (length name), length-drop (length name) s) (omega arith);
  }

  pub name_not : starts_with eqb s name ≡ false → IsWrong (expect name) s
  name_not e = record { line = λ w. go w (expect name w s) refl }
    where
      go : (w : List ℕ) → (x : Line) → expect name w s ≡ x → expect name w s ≡ wrong
      go w wrong p = p
      go w (took u rest) p =
          let z : false ≡ true = (starts_is Decides-eqb s name false (sym e)).1 rest (sym (expect_told name w s u rest p).1) in
          cc

-- ---- a field and the byte after it
module _ (kind : Kind) (next : ℕ) (bytes : List ℕ) where
  pub no_field_there : taken (read_field kind bytes) bytes ≡ None → IsWrong (field_then kind next) bytes
  no_field_there t = record { line = λ w. field_none kind next w bytes _ refl (taken_none _ bytes t) }

  module _ (v : ℕ) (rest : List ℕ) (t : taken (read_field kind bytes) bytes ≡ Some (v, rest)) where
    field_go : (w : List ℕ) → field_then kind next w bytes ≡ expect (next ∷ []) (w ++ words_of kind v) rest
    field_go w = let f = taken_some _ bytes v rest t in field_then_lem kind next w bytes _ refl f.0 ∙ rw (f.1, f.2)

    pub no_byte_there : IsWrong (expect (next ∷ [])) rest → IsWrong (field_then kind next) bytes
    no_byte_there q = record { line = λ w. field_go w ∙ q.line _ }

    pub field_there : (rest' : List ℕ) → Reads (expect (next ∷ [])) rest [] rest' → (w : List ℕ) → field_then kind next w bytes ≡ took (w ++ words_of kind v) rest'
    field_there rest' q w = field_go w ∙ q.line _ ∙ rw (append-nil (w ++ words_of kind v))

-- A number of one digit.
pub number_one : (bytes : List ℕ) (next v : ℕ) (rest : List ℕ) → OneDigit bytes next v rest → next < 48 → (w : List ℕ)
    → field_then Number next w bytes ≡ took (w ++ (v ∷ [])) rest
unfolding read_field words_of is_digit
number_one bytes next v rest o h w =
    let d : is_digit next ≡ false = simp (is_digit, ◌&&◌, lt-leb 48 next h) in
    let e = o.stands in
    let r : read_number greatest_word bytes ≡ field v 1 =
    rw (decimal_one v (omega (arith, o.digit)), ← e) at (number_back greatest_word v (next ∷ rest) (omega (arith, o.digit)) d) in
    field_then_lem Number next w bytes (field v 1) (sym r) (λ z. absurd (omega (arith, z))) ∙ rw e (expect_next next (w ++ (v ∷ [])) rest)

-- Its words stand in the row.
puts : (part : List ℕ → List ℕ → Line) (bytes words rest so_far all : List ℕ) → ((w : List ℕ) → part w bytes ≡ took (w ++ words) rest)
    → all ≡ so_far ++ words → length rest ≤ length bytes → Puts part bytes so_far all rest
puts part bytes words rest so_far all q e l = record { line = λ w. q (w ++ so_far) ∙ rw (append_assoc w so_far words, e); within = l }

module _ (row : List ℕ) (i : ℕ) where
  word_put : (v : ℕ) → (i + 1) * 1 ≤ length row → take ((i + 1) * 1) (set row i v) ≡ take (i * 1) row ++ (v ∷ [])
  word_put v h =
      let x : (i + 1) * 1 ≡ suc i = omega arith in
      let y : i * 1 ≡ i = omega arith in
      rw (x, y, take-suc-set row i v (omega arith))

  pub digit_put : (bytes : List ℕ) (next v : ℕ) (rest : List ℕ) → (i + 1) * 1 ≤ length row → OneDigit bytes next v rest → next < 48
      → Puts (field_then Number next) bytes (take (i * 1) row) (take ((i + 1) * 1) (set row i v)) rest
  digit_put bytes next v rest h o l = puts _ bytes (v ∷ []) rest _ _ (number_one bytes next v rest o l) (word_put v h) (rw o.stands (omega arith))

  module _ (bytes : List ℕ) (next v : ℕ) (rest rest' : List ℕ) (q : Reads (expect (next ∷ [])) rest [] rest') (l : length rest ≤ length bytes) where
    pub number_put : (i + 1) * 1 ≤ length row → taken (read_number greatest_word bytes) bytes ≡ Some (v, rest)
        → Puts (field_then Number next) bytes (take (i * 1) row) (take ((i + 1) * 1) (set row i v)) rest'
    unfolding read_field words_of
    number_put h t = puts _ bytes (v ∷ []) rest' _ _ (field_there Number next bytes v rest t rest' q) (word_put v h) (omega (arith, q.within))

    pub set_put : (row' : List ℕ) → taken (read_set bytes) bytes ≡ Some (v, rest) → take (i * 4 + 4) row' ≡ take (i * 4) row ++ words_of Set v
        → Puts (field_then Set next) bytes (take (i * 4) row) (take ((i + 1) * 4) row') rest'
    unfolding read_field
    set_put row' t e =
        let x : (i + 1) * 4 ≡ i * 4 + 4 = omega arith in
        puts _ bytes (words_of Set v) rest' _ _ (field_there Set next bytes v rest t rest' q) (rw x e) (omega (arith, q.within))

-- ---- the fields of a row
module _ (kind : Kind) (n end i : ℕ) where
  fields_go : (w bytes : List ℕ) → i < n → read_fields kind (n - i) end w bytes ≡ then_read (field_then kind (after (n - (i + 1)) end) w bytes) (read_fields kind (n - (i + 1)) end)
  unfolding read_fields
  fields_go w bytes h = let y : n - i ≡ suc (n - (i + 1)) = omega arith in rw y

  -- The fields that are left, from where a row stands, give what all of them give.
  module _ (bytes left so_far : List ℕ) (same : (w : List ℕ) → read_fields kind n end w bytes ≡ read_fields kind (n - i) end (w ++ so_far) left) where
    pub fields_done : (row : List ℕ) → n ≤ i → so_far ≡ row → length left ≤ length bytes → Reads (read_fields kind n end) bytes row left
    unfolding read_fields
    fields_done row h e l = let z : n - i ≡ 0 = omega arith in record { line = λ w. same w ∙ rw (z, e); within = l }

    module _ (next : ℕ) (h : i < n) (e : next ≡ after (n - (i + 1)) end) where
      pub fields_wrong : IsWrong (field_then kind next) left → IsWrong (read_fields kind n end) bytes
      unfolding then_read
      fields_wrong q = record { line = λ w. same w ∙ fields_go (w ++ so_far) left h ∙ rw (← e, q.line (w ++ so_far)) }

      pub fields_on : (words rest : List ℕ) → Puts (field_then kind next) left so_far words rest → (w : List ℕ)
          → read_fields kind n end w bytes ≡ read_fields kind (n - (i + 1)) end (w ++ words) rest
      unfolding then_read
      fields_on words rest q w = same w ∙ fields_go (w ++ so_far) left h ∙ rw (← e, q.line w)

-- The byte after a field is no digit.
pub after_low : (more end : ℕ) → end < 48 → after more end < 48
unfolding after
after_low zero end h = h
after_low (suc more) end h = omega arith

-- ---- a production
module _ (bytes : List ℕ) where
  pub no_len : taken (read_number greatest_word bytes) bytes ≡ None → IsWrong read_symbols bytes
  no_len t = record { line = λ w. symbols_none w bytes _ refl (taken_none _ bytes t) }

  module _ (v : ℕ) (rest : List ℕ) (t : taken (read_number greatest_word bytes) bytes ≡ Some (v, rest)) where
    pub much_len : most_symbols < v → IsWrong read_symbols bytes
    much_len h = let f = taken_some _ bytes v rest t in record { line = λ w. symbols_much w bytes _ refl f.0 (rw f.1 h) }

    module _ (h : v ≤ most_symbols) where
      len_go : (w : List ℕ) → read_symbols w bytes ≡ then_read (expect (after v newline ∷ []) (w ++ (v ∷ [])) rest)
          (λ w rest. then_read (read_fields Number v newline w rest) (λ u left. took (u ++ zeros (most_symbols - v)) left))
      len_go w = let f = taken_some _ bytes v rest t in rw (← f.1, ← f.2) (symbols_go w bytes _ refl f.0 (rw f.1 h))

      pub no_end : IsWrong (expect (after v newline ∷ [])) rest → IsWrong read_symbols bytes
      unfolding then_read
      no_end q = record { line = λ w. len_go w ∙ rw (q.line (w ++ (v ∷ []))) }

      module _ (rest₁ : List ℕ) (q : Reads (expect (after v newline ∷ [])) rest [] rest₁) where
        pub no_symbols : IsWrong (read_fields Number v newline) rest₁ → IsWrong read_symbols bytes
        unfolding then_read
        no_symbols r = record { line = λ w. len_go w ∙ rw (q.line (w ++ (v ∷ [])), append-nil (w ++ (v ∷ [])), r.line (w ++ (v ∷ []))) }

        pub symbols_there : (u rest₂ row : List ℕ) → Reads (read_fields Number v newline) rest₁ u rest₂ → row ≡ (v ∷ u) ++ zeros (most_symbols - v)
            → length rest₁ ≤ length bytes → Reads read_symbols bytes row rest₂
        unfolding then_read
        symbols_there u rest₂ row r e l = record {
          line = λ w.
              len_go w
              ∙ rw (q.line (w ++ (v ∷ [])), append-nil (w ++ (v ∷ [])), r.line (w ++ (v ∷ [])), e, append_assoc w (v ∷ []) u, append_assoc w (v ∷ u) (zeros (most_symbols - v)));
          within = omega (arith, r.within, l);
        }

-- The words of a production behind its left side.
pub symbols_row : (row u row' : List ℕ) (v k : ℕ) → length row ≡ 15 → v ≤ 14 → k ≡ v → length u ≡ v → length row' ≡ length (put_mid 1 k (set row 0 v) u)
    → take (1 + v + (14 - v)) row' ≡ take (1 + v) (put_mid 1 k (set row 0 v) u) ++ zeros (14 - v) → row' ≡ (v ∷ u) ++ zeros (14 - v)
symbols_row row u row' v k l h j m n e =
    let s : length (set row 0 v) ≡ 15 = simp length-set l in
    let t : length (put_mid 1 k (set row 0 v) u) ≡ length (set row 0 v) =
    same_len_mid 1 k (set row 0 v) u (omega (arith, length-take k (drop 1 (set row 0 v)), length-drop 1 (set row 0 v))) in
    let x : take (1 + v + (14 - v)) row' ≡ row' = take_all (1 + v + (14 - v)) row' (omega arith) in
    let y : take 1 (set row 0 v) ≡ v ∷ [] = take-suc-set row 0 v (omega arith) in
    let z : take (1 + v) (put_mid 1 k (set row 0 v) u) ≡ take 1 (set row 0 v) ++ u = take-put_mid 1 k (set row 0 v) u (1 + v) (omega arith) (omega arith) in
    sym x ∙ e ∙ rw (z, y)

-- The last words of a row.
pub put_last : (a k : ℕ) (xs ys : List ℕ) → length xs ≡ a + k → length ys ≡ k → put_mid a k xs ys ≡ take a xs ++ ys
put_last a k xs ys h l =
    let s : length (put_mid a k xs ys) ≡ length xs = same_len_mid a k xs ys (omega (arith, length-take k (drop a xs), length-drop a xs)) in
    sym (take_all (a + k) (put_mid a k xs ys) (omega arith)) ∙ take-put_mid a k xs ys (a + k) (omega arith) (omega arith)

module _ (bytes : List ℕ) where
  pub no_left_side : IsWrong (field_then Number comma) bytes → IsWrong (read_row Production) bytes
  unfolding read_row then_read
  no_left_side q = record { line = λ w. rw (q.line w) }

  pub no_set : IsWrong (field_then Set comma) bytes → IsWrong (read_row Group) bytes
  unfolding read_row then_read
  no_set q = record { line = λ w. rw (q.line w) }

module _ (bytes words rest : List ℕ) where
  module _ (p : Puts (field_then Number comma) bytes [] words rest) where
    pub no_right_side : IsWrong read_symbols rest → IsWrong (read_row Production) bytes
    unfolding read_row then_read
    no_right_side q = record { line = λ w. rw (rw append-nil at (p.line w)) (q.line _) }

    pub production_there : (u rest' row : List ℕ) → row ≡ words ++ u → Reads read_symbols rest u rest' → Reads (read_row Production) bytes row rest'
    unfolding read_row then_read
    production_there u rest' row e q = record { line = λ w. rw (rw append-nil at (p.line w), e, ← append_assoc w words u) (q.line _); within = omega (arith, p.within, q.within) }

  module _ (p : Puts (field_then Set comma) bytes [] words rest) where
    pub no_choice : IsWrong (field_then Number newline) rest → IsWrong (read_row Group) bytes
    unfolding read_row then_read
    no_choice q = record { line = λ w. rw (rw append-nil at (p.line w)) (q.line _) }

    pub group_there : (all rest' row : List ℕ) → all ≡ row → Puts (field_then Number newline) rest words all rest' → Reads (read_row Group) bytes row rest'
    unfolding read_row then_read
    group_there all rest' row e q = record { line = λ w. rw (rw append-nil at (p.line w), ← e) (q.line w); within = omega (arith, p.within, q.within) }
