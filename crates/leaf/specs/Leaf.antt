-- Manual, section 3.5: a leaf's bytes.
use Rattle.std.specs.Prelude.{true, false, ◌&&◌, List, ℕ, ◌+◌, leb, ltb, length, take, drop}
use Rattle.pack.specs.Image.{first_nonterminal}
use Rattle.leaf.specs.declared.Part.{Part}

-- The bytes of the text that start at a place and have a length.
abbrev pub part : List ℕ → ℕ → ℕ → List ℕ
part text start size = take size (drop start text)

-- For any text and four words: where the first is the number of a terminal other than 0 and start and length lie within the text, that
-- part of it; otherwise the empty part at its front.
unfoldable pub leaf_part : List ℕ → ℕ → ℕ → ℕ → ℕ → Part
leaf_part text terminal start size state =
    elim (leb 1 terminal && (ltb terminal first_nonterminal && leb (start + size) (length text))) [
      | true ↦ record { start = start; length = size }
      | false ↦ record { start = 0; length = 0 }
    ]

unfoldable pub leaf_bytes : List ℕ → ℕ → ℕ → ℕ → ℕ → List ℕ
leaf_bytes text terminal start size state =
    let p = leaf_part text terminal start size state in
    part text p.start p.length
