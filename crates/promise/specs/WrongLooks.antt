-- Three looks that seem right and are not, and packs that show it. proofs/WrongLooks.antt proves that none is a `RightLook` on its pack.
use Rattle.std.specs.Prelude.{true, false, List, [], ◌∷◌, ℕ, zero, suc, ◌-◌, eqb, leb, length}
use Rattle.sets.specs.Sets.{is_empty, meet, union, less, single}
use Rattle.numbers.specs.Codes.{allowance_used_up}
use Rattle.pack.specs.Image.{layout, valid_set, all_but_end_and_layout, end_of_text}
use Rattle.conditions.specs.Conditions.{sought}
use Rattle.text.specs.Bytes.{bytes}
use Rattle.look.specs.declared.Spot.{Spot}
use Rattle.look.specs.Look.{Sought}
use Rattle.look.specs.Look.{Looked}
use Rattle.look.specs.Look.{past, seek, found, refused, rescan, choose, is_layout, look}

-- A token kept across a reduction: in a state that only a reduction leads to, what the state before it finds at the spot is given.
unfoldable pub kept_look : List ℕ → List ℕ → ℕ → ℕ → ℕ → ℕ → Spot → Looked
kept_look img text allowance before after s at =
    elim (eqb s after) [ true ↦ look img text allowance before at | false ↦ look img text allowance s at ]

-- The longest match over all terminals, filtered afterwards by those that the state allows and layout.
unfoldable pub filtered_piece : List ℕ → List ℕ → ℕ → ℕ → Spot → Looked
filtered_piece img text allowance s at =
    let f = seek img text allowance (union (all_but_end_and_layout img) (layout img)) at in
    elim f.spent [
      | true ↦ refused allowance_used_up 0 0 f.at
      | false ↦ elim (is_empty (meet f.set (sought img s))) [
        | true ↦ rescan img text allowance f.at
        | false ↦ choose img (meet f.set (sought img s)) f.length f.at
      ]
    ]

unfoldable pub filtered_on : List ℕ → List ℕ → ℕ → ℕ → ℕ → Spot → Looked
filtered_on img text allowance s zero at = found 0 end_of_text at
filtered_on img text allowance s (suc left) at =
    let l = filtered_piece img text allowance s at in
    elim (leb (length text) at.place) [
      | true ↦ found 0 end_of_text at
      | false ↦ elim (is_layout img l) [ false ↦ l | true ↦ filtered_on img text allowance s left (past l.length l.at) ]
    ]

unfoldable pub filtered_look : List ℕ → List ℕ → ℕ → ℕ → Spot → Looked
filtered_look img text allowance s at = filtered_on img text allowance s (length text - at.place) at

-- Layout skipped first, by scans for layout alone until one matches nothing; then the token, by a scan for the state's terminals alone.
unfoldable pub skip_first : List ℕ → List ℕ → ℕ → ℕ → Spot → Sought
skip_first img text allowance zero at = seek img text allowance (layout img) at
skip_first img text allowance (suc left) at =
    let f = seek img text allowance (layout img) at in
    elim f.spent [
      | true ↦ f
      | false ↦ elim (is_empty f.set) [ true ↦ f | false ↦ skip_first img text allowance left (past f.length f.at) ]
    ]

unfoldable pub token_then : List ℕ → List ℕ → ℕ → ℕ → Spot → Looked
token_then img text allowance s at =
    elim (leb (length text) at.place) [
      | true ↦ found 0 end_of_text at
      | false ↦
          let f = seek img text allowance (less (valid_set img s) (single 0)) at in
          elim f.spent [
            | true ↦ refused allowance_used_up 0 0 f.at
            | false ↦ elim (is_empty f.set) [
              | true ↦ rescan img text allowance f.at
              | false ↦ choose img f.set f.length f.at
            ]
          ]
    ]

unfoldable pub layout_first_look : List ℕ → List ℕ → ℕ → ℕ → Spot → Looked
layout_first_look img text allowance s at =
    let f = skip_first img text allowance (length text - at.place) at in
    elim f.spent [ true ↦ refused allowance_used_up 0 0 f.at | false ↦ token_then img text allowance s f.at ]

-- Terminals: 0 the end, 1 `x`, 2 `a`, 3 `ab`. S is A `a` or A `ab`, and A is `x`. In state 1, after `x`, only `a` is valid, and A is
-- reduced before it; in state 2, after A, `ab` is valid too.
unfoldable pub tiny : List ℕ
tiny =
    1 ∷
    4 ∷ 2 ∷ 3 ∷ 6 ∷ 4 ∷ 4 ∷ 3 ∷ 0 ∷
    0 ∷ 0 ∷ 0 ∷ 0 ∷
    0 ∷ 0 ∷ 0 ∷ 0 ∷
    0 ∷ 0 ∷ 0 ∷ 0 ∷
    0 ∷ 0 ∷ 0 ∷ 0 ∷
    0 ∷ 0 ∷ 0 ∷ 0 ∷
    0 ∷ 2 ∷ 65 ∷ 2 ∷ 0 ∷ 0 ∷ 0 ∷ 0 ∷ 0 ∷ 0 ∷ 0 ∷ 0 ∷ 0 ∷ 0 ∷ 0 ∷ 0 ∷
    0 ∷ 2 ∷ 65 ∷ 3 ∷ 0 ∷ 0 ∷ 0 ∷ 0 ∷ 0 ∷ 0 ∷ 0 ∷ 0 ∷ 0 ∷ 0 ∷ 0 ∷ 0 ∷
    1 ∷ 1 ∷ 1 ∷ 0 ∷ 0 ∷ 0 ∷ 0 ∷ 0 ∷ 0 ∷ 0 ∷ 0 ∷ 0 ∷ 0 ∷ 0 ∷ 0 ∷ 0 ∷
    0 ∷ 4 ∷ 0 ∷ 0 ∷
    0 ∷ 0 ∷ 7 ∷ 0 ∷
    0 ∷ 0 ∷ 8 ∷ 10 ∷
    3 ∷ 0 ∷ 0 ∷ 0 ∷
    5 ∷ 0 ∷ 0 ∷ 0 ∷
    1 ∷ 0 ∷ 0 ∷ 0 ∷
    6 ∷ 3 ∷
    0 ∷ 0 ∷
    0 ∷ 0 ∷
    0 ∷ 0 ∷
    0 ∷ 0 ∷
    0 ∷ 0 ∷
    97 ∷ 97 ∷ 2 ∷
    98 ∷ 98 ∷ 3 ∷
    120 ∷ 120 ∷ 1 ∷
    0 ∷ 2 ∷ 3 ∷ 0 ∷
    0 ∷ 0 ∷ 0 ∷ 0 ∷
    0 ∷ 0 ∷ 0 ∷ 4 ∷
    0 ∷ 0 ∷ 0 ∷ 0 ∷
    0 ∷ 0 ∷ 0 ∷ 0 ∷ 0 ∷ 0 ∷ 0 ∷ 0 ∷ 14 ∷ 0 ∷ 0 ∷ 0 ∷
    2 ∷ 0 ∷ 0 ∷ 0 ∷ 0 ∷ 0 ∷ 0 ∷ 0 ∷ 2 ∷ 0 ∷ 0 ∷ 0 ∷
    4 ∷ 0 ∷ 0 ∷ 0 ∷ 0 ∷ 0 ∷ 0 ∷ 0 ∷ 12 ∷ 0 ∷ 0 ∷ 0 ∷
    8 ∷ 0 ∷ 0 ∷ 0 ∷ 0 ∷ 0 ∷ 0 ∷ 0 ∷ 8 ∷ 0 ∷ 0 ∷ 0 ∷ []

-- The text that the pack reads as `x` and `ab`, and these looks do not; and an allowance that is ample for it.
abbrev pub tiny_text : List ℕ
tiny_text = bytes "xab"

abbrev pub enough : ℕ
enough = 100

-- In state 1 the token is `a`; it is kept in state 2.
abbrev pub kept : ℕ → Spot → Looked
kept = kept_look tiny tiny_text enough 1 2

abbrev pub filtered : ℕ → Spot → Looked
filtered = filtered_look tiny tiny_text enough

-- Terminals: 0 the end, 1 the operator `//=`, 2 a comment, which is layout: `//` and any number of `a`. S is `//=` or `//= //=`. On `//=`
-- the comment matches two bytes and the operator three.
unfoldable pub slashes : List ℕ
slashes =
    1 ∷
    3 ∷ 1 ∷ 2 ∷ 4 ∷ 5 ∷ 4 ∷ 3 ∷ 0 ∷
    4 ∷ 0 ∷ 0 ∷ 0 ∷
    0 ∷ 0 ∷ 0 ∷ 0 ∷
    0 ∷ 0 ∷ 0 ∷ 0 ∷
    0 ∷ 0 ∷ 0 ∷ 0 ∷
    0 ∷ 1 ∷ 1 ∷ 0 ∷ 0 ∷ 0 ∷ 0 ∷ 0 ∷ 0 ∷ 0 ∷ 0 ∷ 0 ∷ 0 ∷ 0 ∷ 0 ∷ 0 ∷
    0 ∷ 2 ∷ 1 ∷ 1 ∷ 0 ∷ 0 ∷ 0 ∷ 0 ∷ 0 ∷ 0 ∷ 0 ∷ 0 ∷ 0 ∷ 0 ∷ 0 ∷ 0 ∷
    0 ∷ 4 ∷ 0 ∷
    3 ∷ 6 ∷ 0 ∷
    5 ∷ 0 ∷ 0 ∷
    1 ∷ 0 ∷ 0 ∷
    4 ∷
    0 ∷
    0 ∷
    0 ∷
    47 ∷ 47 ∷ 1 ∷
    61 ∷ 61 ∷ 2 ∷
    97 ∷ 97 ∷ 3 ∷
    0 ∷ 2 ∷ 0 ∷ 0 ∷
    0 ∷ 3 ∷ 0 ∷ 0 ∷
    0 ∷ 0 ∷ 4 ∷ 5 ∷
    0 ∷ 0 ∷ 0 ∷ 0 ∷
    0 ∷ 0 ∷ 0 ∷ 5 ∷
    0 ∷ 0 ∷ 0 ∷ 0 ∷ 0 ∷ 0 ∷ 0 ∷ 0 ∷ 6 ∷ 0 ∷ 0 ∷ 0 ∷
    0 ∷ 0 ∷ 0 ∷ 0 ∷ 0 ∷ 0 ∷ 0 ∷ 0 ∷ 6 ∷ 0 ∷ 0 ∷ 0 ∷
    4 ∷ 0 ∷ 0 ∷ 0 ∷ 0 ∷ 0 ∷ 0 ∷ 0 ∷ 6 ∷ 0 ∷ 0 ∷ 0 ∷
    2 ∷ 0 ∷ 0 ∷ 0 ∷ 0 ∷ 0 ∷ 0 ∷ 0 ∷ 2 ∷ 0 ∷ 0 ∷ 0 ∷
    4 ∷ 0 ∷ 0 ∷ 0 ∷ 0 ∷ 0 ∷ 0 ∷ 0 ∷ 4 ∷ 0 ∷ 0 ∷ 0 ∷ []

-- The text that the pack reads as two operators with a comment between them, and the look that skips layout first does not; its records.
abbrev pub slashes_text : List ℕ
slashes_text = bytes "//=//aa//="

abbrev pub slashes_records : List ℕ
slashes_records = 1 ∷ 0 ∷ 3 ∷ 0 ∷ 1 ∷ 7 ∷ 3 ∷ 1 ∷ 64 ∷ 1 ∷ 2 ∷ 0 ∷ []

abbrev pub layout_first : ℕ → Spot → Looked
layout_first = layout_first_look slashes slashes_text enough
