-- Manual, sections 4.4 to 4.6, for the code: what is worked out once for a pack, as rows of sets of parse states and of symbols.
use Rattle.std.specs.Prelude.{◌≡◌, true, false, ◌&&◌, List, ℕ, ◌+◌, ◌/◌, ◌%◌, ◌<◌, eqb, leb, ltb, length}
use Rattle.pack.specs.Image.{nonterminals, goto}
use Rattle.conditions.specs.Tests.{some_below}
use Rattle.conditions.specs.Edges.{is_edge, leads}
use Rattle.edges.specs.Rows.{bit_at}

-- What a code of the action table reduces by: 1 + p for a reduction by p, and 0 for any other code.
unfoldable pub reduce_of : ℕ → ℕ
reduce_of code = elim (eqb (code % 2) 0) [ true ↦ 0 | false ↦ code / 2 ]

-- The nonterminal of a goto that is there: 1 + a where the cell is not 0, and else 0.
unfoldable pub present : ℕ → ℕ → ℕ
present cell a = elim (eqb cell 0) [ true ↦ 0 | false ↦ 1 + a ]

-- Of the first n parse states: set v holds those with an edge into v; the symbols on edges into v; set a those with
-- a goto on nonterminal a.
pub record Sources (img : List ℕ) (n : ℕ) (row : List ℕ) : Type 0 where
  pub size : length row ≡ 128
  pub each : (v u : ℕ) → v < 128 → u < 128 → bit_at row v u ≡ (ltb u n && leads img u v)

pub record Carried (img : List ℕ) (n : ℕ) (row : List ℕ) : Type 0 where
  pub size : length row ≡ 128
  pub each : (v x : ℕ) → v < 128 → x < 128 → bit_at row v x ≡ some_below n (λ s. is_edge img s x v)

pub record Goers (img : List ℕ) (n : ℕ) (row : List ℕ) : Type 0 where
  pub size : length row ≡ 128
  pub each : (a u : ℕ) → a < nonterminals img → u < 128 → bit_at row a u ≡ (ltb u n && leb 1 (goto img u a))
