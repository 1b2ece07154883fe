-- Laws of the reading definitions, one part after the other. Assumes nothing.
use mathlib.Core.Path.{◌≡◌, refl, ap, ◌∙◌}
use mathlib.Core.Bool.{Bool, true, false}
use mathlib.Core.List.{List, [], ◌∷◌, ◌++◌}
use Prim.Native.Nat.{ℕ, zero, suc, ◌-◌, ◌<◌, ◌≤◌}
use native.Mathlib.Omega.{arith}
use lib.Dec.{eqb}
use lib.ListN.{get_or, drop}
use borrow.Author.Tests.{eq-eqb, eqb-true, le-leb, lt-leb}
use Rattle.pack.specs.Image.{most_symbols}
use Rattle.text.specs.declared.Field.{Field}
use Rattle.text.specs.declared.Kind.{Kind}
use Rattle.text.specs.declared.Kind.TheVariants.{Number}
use Rattle.text.specs.Decimal.{read_number}
use Rattle.text.specs.Fields.{greatest_word, read_field, words_of}
use Rattle.text.specs.Form.{newline, after}
use Rattle.text.specs.Reader.{Line, Lines, then_read, expect, field_then, read_fields, zeros, read_symbols, then_lines}
use Rattle.text.specs.Reader.Line.{wrong, took}
use Rattle.text.specs.Reader.Lines.{wrong_from, all}

-- ---- words
-- Every word has 16 bits.
abbrev pub Small : List ℕ → Type 0
Small img = (i : ℕ) → get_or img i 0 < 65536

pub small_none : Small []
small_none i = omega arith

pub small_as : {v w : List ℕ} → w ≡ v → Small v → Small w
small_as e s i = rw e (s i)

pub small_cons : (x : ℕ) (w : List ℕ) → x < 65536 → Small w → Small (x ∷ w)
small_cons x w h s zero = h
small_cons x w h s (suc i) = s i

pub small_four : (a b c d : ℕ) → a < 65536 → b < 65536 → c < 65536 → d < 65536 → Small (a ∷ b ∷ c ∷ d ∷ [])
small_four a b c d p q r s = small_cons a (b ∷ c ∷ d ∷ []) p (small_cons b (c ∷ d ∷ []) q (small_cons c (d ∷ []) r (small_cons d [] s small_none)))

pub small_append : (w v : List ℕ) → Small w → Small v → Small (w ++ v)
small_append [] v s t = t
small_append (x ∷ w) v s t = small_cons x (w ++ v) (s 0) (small_append w v (λ i. s (suc i)) t)

pub small_zeros : (n : ℕ) → Small (zeros n)
unfolding zeros
small_zeros zero = small_none
small_zeros (suc n) = small_cons 0 (zeros n) (omega arith) (small_zeros n)

-- ---- one part after the other
pub then_then : (l : Line) (f g : List ℕ → List ℕ → Line) → then_read (then_read l f) g ≡ then_read l (λ w rest. then_read (f w rest) g)
unfolding then_read
then_then wrong f g = refl
then_then (took w b) f g = refl

pub then_took : (l : Line) → then_read l took ≡ l
unfolding then_read
then_took wrong = refl
then_took (took w b) = refl

pub lines_lines : (l : Lines) (f g : List ℕ → List ℕ → Lines) → then_lines (then_lines l f) g ≡ then_lines l (λ w rest. then_lines (f w rest) g)
unfolding then_lines
lines_lines (wrong_from b) f g = refl
lines_lines (all w b) f g = refl

pub lines_all : (l : Lines) → then_lines l all ≡ l
unfolding then_lines
lines_all (wrong_from b) = refl
lines_all (all w b) = refl

-- ---- bytes that stand next
pub expect_next : (c : ℕ) (w rest : List ℕ) → expect (c ∷ []) w (c ∷ rest) ≡ took w rest
unfolding expect
expect_next c w rest = simp (expect, eq-eqb c c refl)

pub expect-cons : (c : ℕ) (name w bytes : List ℕ) → expect (c ∷ name) w (c ∷ bytes) ≡ expect name w bytes
unfolding expect
expect-cons c name w bytes = simp (expect, eq-eqb c c refl)

pub expect_name : (name w rest : List ℕ) → expect name w (name ++ rest) ≡ took w rest
unfolding expect
expect_name [] w rest = refl
expect_name (c ∷ name) w rest = expect-cons c name w (name ++ rest) ∙ expect_name name w rest

pub expect_told : (name w bytes w' rest : List ℕ) → expect name w bytes ≡ took w' rest → (w ≡ w') × (name ++ rest ≡ bytes)
unfolding expect
expect_told [] w bytes w' rest e = (cc, cc)
expect_told (c ∷ name) w [] w' rest e = let z : ◌≡◌ {A = ℕ} 0 1 = cc in absurd (omega arith)
expect_told (c ∷ name) w (b ∷ bytes) w' rest e = go (expect_told name w bytes w' rest) (eqb b c) refl
  where
    go : (expect name w bytes ≡ took w' rest → (w ≡ w') × (name ++ rest ≡ bytes)) → (x : Bool) → eqb b c ≡ x → (w ≡ w') × (c ∷ (name ++ rest) ≡ b ∷ bytes)
    go ih true p =
        let q = ih (simp (expect, p) at e) in
        let r = eqb-true b c p in
        (q.0, rw r (ap (λ (l : List ℕ). c ∷ l) q.1))
    go ih false p = let y : wrong ≡ took w' rest = simp (expect, p) at e in let z : ◌≡◌ {A = ℕ} 0 1 = cc in absurd (omega arith)

pub not_wrong : (w rest : List ℕ) → wrong ≡ took w rest → ⊥
not_wrong w rest e = let z : ◌≡◌ {A = ℕ} 0 1 = cc in omega arith

-- ---- a field and the byte after it
module _ (kind : Kind) (next : ℕ) (w bytes : List ℕ) (f : Field) (e : f ≡ read_field kind bytes) where
  pub field_none : f.used ≡ 0 → field_then kind next w bytes ≡ wrong
  unfolding field_then
  field_none z = simp (field_then, ← e, z)

  pub field_then_lem : (f.used ≡ 0 → ⊥) → field_then kind next w bytes ≡ expect (next ∷ []) (w ++ words_of kind f.value) (drop f.used bytes)
  unfolding field_then
  field_then_lem z = go f.used refl
    where
      go : (u : ℕ) → f.used ≡ u → field_then kind next w bytes ≡ expect (next ∷ []) (w ++ words_of kind f.value) (drop f.used bytes)
      go zero p = absurd (z p)
      go (suc u) p = simp (field_then, ← e, p)

-- ---- the byte after a field
pub after_last : (more end : ℕ) → more ≡ 0 → end ≡ after more end
unfolding after
after_last more end z = rw z

pub after_more : (more end : ℕ) → (more ≡ 0 → ⊥) → 44 ≡ after more end
unfolding after
after_more zero end z = absurd (z refl)
after_more (suc more) end z = refl

-- ---- len and the symbols of a production
module _ (w bytes : List ℕ) (f : Field) (e : f ≡ read_number greatest_word bytes) where
  pub symbols_none : f.used ≡ 0 → read_symbols w bytes ≡ wrong
  unfolding read_symbols read_field
  symbols_none z = simp (read_symbols, read_field, ← e, z)

  module _ (z : f.used ≡ 0 → ⊥) where
    pub symbols_much : most_symbols < f.value → read_symbols w bytes ≡ wrong
    unfolding read_symbols read_field
    symbols_much h = go f.used refl
      where
        go : (u : ℕ) → f.used ≡ u → read_symbols w bytes ≡ wrong
        go zero p = absurd (z p)
        go (suc u) p = simp (read_symbols, read_field, ← e, p, lt-leb _ _ h)

    pub symbols_go : f.value ≤ most_symbols → read_symbols w bytes ≡ then_read (expect (after f.value newline ∷ []) (w ++ (f.value ∷ [])) (drop f.used bytes))
        (λ w rest. then_read (read_fields Number f.value newline w rest) (λ u left. took (u ++ zeros (most_symbols - f.value)) left))
    unfolding read_symbols read_field
    symbols_go h = go f.used refl
      where
        go : (u : ℕ) → f.used ≡ u → read_symbols w bytes ≡ then_read (expect (after f.value newline ∷ []) (w ++ (f.value ∷ [])) (drop f.used bytes))
            (λ w rest. then_read (read_fields Number f.value newline w rest) (λ u left. took (u ++ zeros (most_symbols - f.value)) left))
        go zero p = absurd (z p)
        go (suc u) p = simp (read_symbols, read_field, ← e, p, le-leb _ _ h)
