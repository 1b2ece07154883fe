-- Manual, section 1.6: what the pass over all words of the productions promises where it says that all is well. `shape` does not use this file.
use Rattle.std.specs.Prelude.{◌≡◌, true, false, List, ℕ, ◌+◌, ◌*◌, ◌-◌, ◌^◌, ◌<◌, ◌≤◌, min, eqb, leb, ltb}
use Rattle.pack.specs.Image.{set_words, most_symbols, first_nonterminal, nonterminals, productions, lhs, len, symbol}
use Rattle.order.specs.Quick.{sum}

-- By how much a word is past another, and a large number where it is before it.
unfoldable pub past : ℕ → ℕ → ℕ
past x first = elim (leb first x) [ true ↦ x - first | false ↦ x + (65536 - first) ]

-- 1 where a word is no terminal from 1 to the last, or the one of layout.
unfoldable pub no_terminal : ℕ → ℕ → ℕ → ℕ
no_terminal last layout x = elim (eqb x layout) [ true ↦ 1 | false ↦ elim (ltb (past x 1) last) [ true ↦ 0 | false ↦ 1 ] ]

-- 1 where it is no nonterminal either.
unfoldable pub no_symbol : ℕ → ℕ → ℕ → ℕ → ℕ
no_symbol last n layout x = elim (ltb (past x first_nonterminal) n) [ true ↦ 0 | false ↦ no_terminal last layout x ]

-- Of the words of a production so many may be no symbols: its left side and its length, whatever they are, and the symbols that it does not use.
unfoldable pub allowed : List ℕ → ℕ → ℕ → ℕ → ℕ
allowed img last layout p = no_terminal last layout (lhs img p) + no_terminal last layout (len img p) + (most_symbols - len img p)

-- The left side and the length are right, and the unused symbols are 0.
pub record Head (img : List ℕ) (p : ℕ) : Type 0 where
  pub left : lhs img p < nonterminals img
  pub short : len img p ≤ most_symbols
  pub unused : (i : ℕ) → len img p ≤ i → i < most_symbols → symbol img p i ≡ 0

-- So they are in each production, and all together may have so many words that are no symbols, or more.
pub record Heads (img : List ℕ) (last layout most : ℕ) : Type 0 where
  pub each : (p : ℕ) → p < productions img → Head img p
  pub enough : most ≤ sum (allowed img last layout) (productions img)

-- What the unused symbols of a production tell when joined: all are 0 where the number has no bit, but for the lowest ones, which are those of the
-- used symbols among the last four.
pub record Covers (img : List ℕ) (p used all : ℕ) : Type 0 where
  pub each : all < 2 ^ (16 * (used - min used (most_symbols - set_words))) → (i : ℕ) → used ≤ i → i < most_symbols → symbol img p i ≡ 0
