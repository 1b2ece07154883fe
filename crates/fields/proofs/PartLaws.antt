-- A byte that stands at the front, and one part of a line after the other, over plain variables.
use mathlib.Core.Path.{◌≡◌, refl}
use mathlib.Core.List.{List, [], ◌∷◌, ◌++◌, append_assoc, append-nil}
use Prim.Native.Nat.{ℕ}
use native.Mathlib.Omega.{arith}
use lib.ListN.{length}
use borrow.Author.Tests.{eq-eqb, ne_eqb}
use Rattle.std.specs.Prelude.{Option, Some, None, MatchOption}
use Rattle.text.specs.Reader.{Line, then_read, expect}
use Rattle.fields.specs.Steps.{IsWrong, Reads}

-- ---- what there may be
pub matched : {T : Type 0} (o : Option T) {A C : Type 0} {B D : T → Type 0} → MatchOption o A B → (A → C) → ((r : T) → B r → D r) → MatchOption o C D
matched None m f g = f m
matched (Some r) m f g = g r m

-- ---- a byte
pub stands_short : (c : ℕ) (bytes : List ℕ) → length bytes ≡ 0 → IsWrong (expect (c ∷ [])) bytes
unfolding expect
stands_short c [] e = record { line = λ w. refl }
stands_short c (b ∷ bytes) e = absurd (omega arith)

module _ (c b : ℕ) (bytes rest : List ℕ) (e : bytes ≡ b ∷ rest) where
  pub stands_other : (b ≡ c → ⊥) → IsWrong (expect (c ∷ [])) bytes
  unfolding expect
  stands_other z = record { line = λ w. rw e (simp (expect, ne_eqb _ _ z)) }

  pub stands_here : b ≡ c → Reads (expect (c ∷ [])) bytes [] rest
  unfolding expect
  stands_here z = record { line = λ w. rw (e, append-nil w) (simp (expect, eq-eqb _ _ z)); within = rw e (omega arith) }

-- ---- one part after the other
pub then_wrong : {p : List ℕ → List ℕ → Line} (q : List ℕ → List ℕ → Line) {bytes : List ℕ} → IsWrong p bytes → IsWrong (λ w b. then_read (p w b) q) bytes
unfolding then_read
then_wrong q h = record { line = λ w. rw (h.line w) }

module _ {p q : List ℕ → List ℕ → Line} {bytes u rest : List ℕ} (h : Reads p bytes u rest) where
  pub then_later : IsWrong q rest → IsWrong (λ w b. then_read (p w b) q) bytes
  unfolding then_read
  then_later k = record { line = λ w. rw (h.line w) (k.line (w ++ u)) }

  pub then_reads : {v rest' : List ℕ} → Reads q rest v rest' → Reads (λ w b. then_read (p w b) q) bytes (u ++ v) rest'
  unfolding then_read
  then_reads {v} k = record { line = λ w. rw (h.line w, ← append_assoc w u v) (k.line (w ++ u)); within = omega (arith, h.within, k.within) }
