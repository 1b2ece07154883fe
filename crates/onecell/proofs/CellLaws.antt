-- A cell of a row in form 2: what its tests say of the definitions, over plain variables.
use mathlib.Core.Path.{◌≡◌, refl, sym, ap, ◌∙◌}
use mathlib.Core.Bool.{Bool, true, false}
use mathlib.Core.List.{List, [], ◌∷◌, ◌++◌, append-nil}
use Prim.Native.Nat.{ℕ, suc, ◌+◌, ◌-◌, ◌<◌, ◌≤◌}
use native.Mathlib.Omega.{arith}
use lib.Dec.{eqb}
use lib.ListN.{length, length-append}
use borrow.Author.Tests.{eqb-true, eqb-false}
use Rattle.std.specs.Prelude.{Some, None}
use Rattle.pack.specs.Image.{largest_image}
use Rattle.text.specs.declared.Field.{Field}
use Rattle.text.specs.Decimal.{read_number, decimal}
use Rattle.text.specs.Fields.{greatest_word}
use Rattle.text.specs.Form.{newline, comma, colon, before}
use Rattle.text.specs.Reader.{then_read, expect, read_code, read_cell, read_cells, zeros}
use Rattle.text.specs.Reader.Line.{wrong}
use Rattle.text.proofs.Cells.{code_none, code_some, cell_other, cell_here, cell_no_comma, cells_some, cells_skip, cells_over}
use Rattle.text.proofs.Decimal.{field, decimal_some, number_unread}
use Rattle.text.proofs.Lines.{expect_told}
use Rattle.fields.specs.Steps.{IsWrong, Reads, taken}
use Rattle.fields.proofs.FieldLaws.{taken_none, taken_some}
use Rattle.onecell.specs.Steps.{NextCell}

-- ---- what a cell stands for, where the line does not end
module _ (first : Bool) (bytes : List ℕ) (least n : ℕ) (o : IsWrong (expect (newline ∷ [])) bytes) where
  none_of : ((d : ℕ) → least ≤ d → d < n → (w : List ℕ) → read_cell first d w bytes ≡ wrong) → IsWrong (read_cells first (n - least) least) bytes
  none_of z = record { line = λ w. cells_over first (n - least) least w bytes (λ j h v. z (least + j) (omega arith) (omega (arith, h)) v) o.line }

  -- A number stands behind what stands before a cell, or none.
  module _ (s : List ℕ) (e : bytes ≡ before first ++ s) (m : n ≤ largest_image) where
    other : (d : ℕ) → d < n → (read_number greatest_word s ≡ field d (length (decimal d)) → ⊥) → (w : List ℕ) → read_cell first d w bytes ≡ wrong
    other d h z w = rw e (cell_other greatest_word d (omega (arith, h, m)) first w s z)

    pub no_number : taken (read_number greatest_word s) s ≡ None → IsWrong (read_cells first (n - least) least) bytes
    no_number t = let z = taken_none _ s t in none_of (λ d a b. other d b (λ p. decimal_some d (sym (ap (λ (x : Field). x.used) p) ∙ z)))

    module _ (v : ℕ) (rest : List ℕ) (t : taken (read_number greatest_word s) s ≡ Some (v, rest)) where
      value_is : (read_number greatest_word s).value ≡ v
      value_is = (taken_some _ s v rest t).1

      differs : (d : ℕ) → (d ≡ v → ⊥) → read_number greatest_word s ≡ field d (length (decimal d)) → ⊥
      differs d z p = z (sym (ap (λ (x : Field). x.value) p) ∙ value_is)

      pub not_rising : v < least → IsWrong (read_cells first (n - least) least) bytes
      not_rising h = none_of (λ d a b. other d b (differs d (λ p. omega (arith, p, a, h))))

      pub outside : n ≤ v → IsWrong (read_cells first (n - least) least) bytes
      outside h = none_of (λ d a b. other d b (differs d (λ p. omega (arith, p, b, h))))

      -- Its column's cell is wrong, so all are.
      this_wrong : ((w : List ℕ) → read_cell first v w bytes ≡ wrong) → IsWrong (read_cells first (n - least) least) bytes
      this_wrong z = none_of (λ d a b w. go d b w (eqb d v) refl)
        where
          go : (d : ℕ) → d < n → (w : List ℕ) → (x : Bool) → eqb d v ≡ x → read_cell first d w bytes ≡ wrong
          go d b w true q = rw (eqb-true d v q) (z w)
          go d b w false q = other d b (differs d (eqb-false d v q)) w

      this_cell : (w : List ℕ) → read_cell first v w bytes ≡ then_read (expect (colon ∷ []) w rest) read_code
      this_cell w =
          let f = taken_some _ s v rest t in
          rw (e, ← f.1, ← f.2) (cell_here first w s (read_number greatest_word s) refl f.0)

      pub no_colon : IsWrong (expect (colon ∷ [])) rest → IsWrong (read_cells first (n - least) least) bytes
      unfolding then_read
      no_colon q = this_wrong (λ w. this_cell w ∙ rw (q.line w))

      module _ (u : List ℕ) (q : Reads (expect (colon ∷ [])) rest [] u) where
        this_code : (w : List ℕ) → read_cell first v w bytes ≡ read_code w u
        unfolding then_read
        this_code w = this_cell w ∙ rw (q.line w, append-nil w)

        pub no_code : taken (read_number greatest_word u) u ≡ None → IsWrong (read_cells first (n - least) least) bytes
        no_code k = this_wrong (λ w. this_code w ∙ code_none w u _ refl (number_unread greatest_word u (taken_none _ u k)))

        module _ (c : ℕ) (rest' : List ℕ) (k : taken (read_number greatest_word u) u ≡ Some (c, rest')) where
          pub zero_code : c ≡ 0 → IsWrong (read_cells first (n - least) least) bytes
          zero_code z = this_wrong (λ w. this_code w ∙ code_none w u _ refl ((taken_some _ u c rest' k).1 ∙ z))

          pub cell_there : (c ≡ 0 → ⊥) → least ≤ v → v < n → length rest' ≤ length bytes → NextCell first bytes least n (record { column = v; code = c }) rest'
          cell_there z a b l =
              let f = taken_some _ u c rest' k in
              let x : least + (v - least) ≡ v = omega (arith, a) in
              let y : n - least - (v - least) ≡ suc (n - (v + 1)) = omega (arith, a, b) in record {
                rises = a;
                inside = b;
                within = l;
                some = λ w.
                    cells_skip (v - least) first (n - least) least w bytes (omega (arith, a, b))
                    (λ j g r. other (least + j) (omega (arith, g, b)) (differs (least + j) (λ p. omega (arith, p, g))) r)
                    ∙ rw (x, y)
                    (cells_some first (n - (v + 1)) v (w ++ zeros (v - least)) bytes ((w ++ zeros (v - least)) ++ (c ∷ [])) rest'
                    (this_code (w ++ zeros (v - least)) ∙ rw (← f.1, ← f.2) (code_some (w ++ zeros (v - least)) u _ refl (λ i. z (sym f.1 ∙ i)))));
              }

-- Behind the first cell no comma stands.
pub no_comma : (bytes : List ℕ) (least n : ℕ) → IsWrong (expect (newline ∷ [])) bytes → IsWrong (expect (comma ∷ [])) bytes
    → IsWrong (read_cells false (n - least) least) bytes
no_comma bytes least n o z = none_of false bytes least n o (λ d a b w. cell_no_comma d w [] bytes (z.line []))

-- A comma stands there.
pub comma_there : (bytes rest : List ℕ) → Reads (expect (comma ∷ [])) bytes [] rest → bytes ≡ before false ++ rest
unfolding before
comma_there bytes rest q = sym (expect_told (comma ∷ []) [] bytes [] rest (q.line [])).1

pub behind_comma : (first : Bool) (bytes s : List ℕ) → bytes ≡ before first ++ s → length s ≤ length bytes
behind_comma first bytes s e = rw (e, length-append (before first) s) (omega arith)
