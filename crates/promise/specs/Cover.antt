-- Manual, section 7: how the leaves cover the text, and what a right leaf is. What it is to match, and `Last`, the last length at which
-- a terminal of a set is accepted or rejected on reading on: Matching.antt of the scanner.
use Rattle.std.specs.Prelude.{◌≡◌, List, [], ◌++◌, ℕ, ◌+◌, ◌<◌, ◌≤◌, drop}
use Rattle.sets.specs.Sets.{has, meet}
use Rattle.pack.specs.Image.{states, groups, layout, dom, acc, group_set, chosen, valid_set, end_of_text}
use Rattle.conditions.specs.Conditions.{sought}
use Rattle.scan.specs.Matching.{Accepts, Matches, Last}
use Rattle.parse.specs.Leaf.{part}
use Rattle.parse.specs.Parse.{leaf_record, node_record}

-- "is alone or chosen by a group": the terminal among those of a set.
pub data Chosen (img : List ℕ) (set terminal : ℕ) : Type 0 where
  alone : ((t : ℕ) → has set t ≡ 1 → t ≡ terminal) → Chosen img set terminal
  grouped : (g : ℕ) → g < groups img → group_set img g ≡ set → chosen img g ≡ terminal → Chosen img set terminal

-- Nothing of a set is matched: the last length at which, reading on, a terminal of the set is accepted or rejected, if there is one,
-- only rejects.
pub record NoMatch (img bytes : List ℕ) (v : ℕ) : Type 0 where
  pub only_rejects : (n q : ℕ) → Last img bytes v n q → meet (acc img q) v ≡ 0

-- What a state of the pack sees at a start, a leaf or a piece of layout: its terminal and its bytes. The letter's words stand at the lines
-- that say them; q is the scan state where the bytes end.
pub record RightMatch (img text : List ℕ) (terminal start size state : ℕ) : Type 0 where
  pub is_state : state < states img
  -- It has bytes.
  pub some : 1 ≤ size
  pub q : ℕ
  -- "ends at the last byte where, reading on from its start, any terminal valid in its recorded state matches or is rejected", or any of
  -- layout
  pub last : Last img (drop start text) (sought img state) size q
  -- "its terminal matches there": it is one of these, and accepted
  pub is_sought : has (sought img state) terminal ≡ 1
  pub accepted : Accepts img (part text start size) terminal
  -- "is outranked by nothing that matches the same bytes", valid or not
  pub not_outranked : (t : ℕ) → has (dom img terminal) t ≡ 1 → Matches img (part text start size) t → ⊥
  -- "and is alone or chosen by a group", among those of them that are accepted there
  pub one : Chosen img (meet (acc img q) (sought img state)) terminal

-- A leaf: its terminal is a token that is valid in the state, neither the end of the text nor layout.
pub record RightLeaf (img text : List ℕ) (terminal start size state : ℕ) : Type 0 where
  pub right : RightMatch img text terminal start size state
  pub valid : has (valid_set img state) terminal ≡ 1
  pub not_end : terminal ≡ end_of_text → ⊥
  pub not_layout : has (layout img) terminal ≡ 0

-- A piece of layout that is skipped in a state.
pub record Blank (img text : List ℕ) (state start size : ℕ) : Type 0 where
  pub terminal : ℕ
  pub right : RightMatch img text terminal start size state
  pub is_layout : has (layout img) terminal ≡ 1

-- Pieces of layout that are skipped in one state, each where the one before it ends, from one place to another.
pub data Blanks (img text : List ℕ) (state from : ℕ) : ℕ → Type 0 where
  none : Blanks img text state from from
  more : {place : ℕ} (size : ℕ) → Blanks img text state from place → Blank img text state place size → Blanks img text state from (place + size)

-- "leaves and skipped layout cover the text once, in order": these records, with layout skipped between their leaves, cover the text
-- up to a place. A leaf and a piece of layout begin at the place that is reached, and move it on; a node does not.
pub data Covers (img text : List ℕ) : List ℕ → ℕ → Type 0 where
  start : Covers img text [] 0
  blank : {words : List ℕ} {place : ℕ} (size state : ℕ) → Covers img text words place → Blank img text state place size
      → Covers img text words (place + size)
  leaf : {words : List ℕ} {place : ℕ} (terminal size state : ℕ) → Covers img text words place
      → RightLeaf img text terminal place size state → Covers img text (words ++ leaf_record terminal place size state) (place + size)
  node : {words : List ℕ} {place : ℕ} (p state : ℕ) → Covers img text words place
      → Covers img text (words ++ node_record img p state) place
